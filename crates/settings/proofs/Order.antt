-- Every operation tests in the one order: its numbers stand as in `order`, whatever the call.
use mathlib.Core.Path.{◌≡◌, refl}
use mathlib.Core.Bool.{true}
use Rattle.settings.specs.Refusals.{Call, tests, order, follows, initialize, density, velocity, velocity_field, total_mass, kinetic_energy, plane, stream_with_faces, lossless, reverse, step, run, run_to_steady_state, set_no_slip_bc, write_checkpoint, checkpoint_sides, read_checkpoint, tally, write_entry, write_tally, read_tally}

pub in_order : (c : Call) → follows order (tests c) ≡ true
in_order (initialize s table f) = refl
in_order (density s f x y) = refl
in_order (velocity s f x y) = refl
in_order (velocity_field s f u) = refl
in_order (total_mass s f) = refl
in_order (kinetic_energy s f) = refl
in_order (plane s f i) = refl
in_order (stream_with_faces s post f) = refl
in_order (lossless s) = refl
in_order (reverse s f post) = refl
in_order (step s f post) = refl
in_order (run s n f post) = refl
in_order (run_to_steady_state s t n f post u) = refl
in_order (set_no_slip_bc s list f) = refl
in_order (write_checkpoint s f n) = refl
in_order (checkpoint_sides h) = refl
in_order (read_checkpoint h f) = refl
in_order (tally s f) = refl
in_order (write_entry s f x y i) = refl
in_order (write_tally t n) = refl
in_order (read_tally length count v ten t) = refl
