-- `Names::of` meets its contract: over the four faces, the i32 that are looked up are the components, which no lookup misses.
use mathlib.Core.Path.{◌≡◌, refl}
use native.Mathlib.Omega.{arith}
use lib.IntN.{ℤ, ◌+ℤ◌, ◌-ℤ◌}
use mir.Syntax.{w32}
use mir.Val.{to_z, of_z, SFits}
use Rattle.lattice.specs.declared.Axis.{Axis}
use Rattle.lattice.specs.declared.Axis.TheVariants.{X, Y}
use Rattle.lattice.specs.declared.Side.{Side}
use Rattle.lattice.specs.declared.Side.TheVariants.{Min, Max}
use Rattle.lattice.specs.declared.Frame.{Frame}
use Rattle.lattice.specs.Lattice.{directions, opposites, OPP}
use Rattle.lattice.specs.Lookup.{is_row, lookup, dir_index_of, Row}
use Rattle.lattice.specs.Sides.{frame_of}
use Rattle.lattice.proofs.Lookups.{no_miss}
use Rattle.streaming.specs.Faces.{Names, names}
use Rattle.streaming.specs.Three.{Apart}
use Rattle.streaming.specs.Lines.{incoming_of}
use Rattle.streaming.proofs.Directions.{sound}
use Rattle.streaming.proofs.names.Names.of.Goals as goal

-- a whole number as an i32
abbrev kept : ℤ → ℤ
kept z = to_z w32 (of_z w32 z)

-- the code may look a frame's vectors up
record Allowed (g : Frame) : Type 0 where
  n : Row (kept g.n0) (kept g.n1)
  t : Row (kept g.t0) (kept g.t1)
  np : Row (kept (kept g.n0 +ℤ kept g.t0)) (kept (kept g.n1 +ℤ kept g.t1))
  nm : Row (kept (kept g.n0 -ℤ kept g.t0)) (kept (kept g.n1 -ℤ kept g.t1))
  fits-x : SFits w32 (kept g.n0 -ℤ kept g.t0)
  fits-y : SFits w32 (kept g.n1 -ℤ kept g.t1)

four_allowed : (a : Axis) (s : Side) → Allowed (frame_of a s)
unfolding directions
four_allowed X Min = search (arith, no_miss X Min 0 (omega arith))
four_allowed X Max = search (arith, no_miss X Max 0 (omega arith))
four_allowed Y Min = search (arith, no_miss Y Min 0 (omega arith))
four_allowed Y Max = search (arith, no_miss Y Max 0 (omega arith))

allowed : {g : Frame} (a : Axis) (s : Side) → g ≡ frame_of a s → Allowed g
allowed a s e = rw e (four_allowed a s)

-- and finds the names
found : Frame → Names
found g = record {
  n = dir_index_of (kept g.n0) (kept g.n1);
  t = dir_index_of (kept g.t0) (kept g.t1);
  tm = OPP (dir_index_of (kept g.t0) (kept g.t1));
  np = dir_index_of (kept (kept g.n0 +ℤ kept g.t0)) (kept (kept g.n1 +ℤ kept g.t1));
  nm = dir_index_of (kept (kept g.n0 -ℤ kept g.t0)) (kept (kept g.n1 -ℤ kept g.t1));
}

four_found : (a : Axis) (s : Side) → found (frame_of a s) ≡ names a s
unfolding found directions opposites names lookup is_row
four_found X Min = refl
four_found X Max = refl
four_found Y Min = refl
four_found Y Max = refl

found_apart : (a : Axis) (s : Side) → Apart (incoming_of (found (frame_of a s)))
found_apart a s = rw (four_found a s) (sound a s).apart

pub along-t-requires : goal.along-t-requires
along-t-requires c = (allowed c.args.axis c.args.side c.frame_of-g.ensures).t

pub along-requires : goal.along-requires
along-requires c = (allowed c.args.axis c.args.side c.frame_of-g.ensures).n

pub along-requires-2 : goal.along-requires-2
along-requires-2 c = (allowed c.args.axis c.args.side c.frame_of-g.ensures).np

pub overflow_sub-g : goal.overflow_sub-g
overflow_sub-g c = (allowed c.args.axis c.args.side c.frame_of-g.ensures).fits-x

pub overflow_sub-g-2 : goal.overflow_sub-g-2
overflow_sub-g-2 c = (allowed c.args.axis c.args.side c.frame_of-g.ensures).fits-y

pub along-requires-3 : goal.along-requires-3
along-requires-3 c = (allowed c.args.axis c.args.side c.frame_of-g.ensures).nm

pub invariant_of-result : goal.invariant_of-result
unfolding found
invariant_of-result c =
    record { apart = rw (c.along.ensures, c.along-2.ensures, c.along-3.ensures, c.frame_of-g.ensures) (found_apart c.args.axis c.args.side) }

pub returns : goal.returns
unfolding found
returns c =
    rw (c.opposite.ensures, c.along-t.ensures, c.along.ensures, c.along-2.ensures, c.along-3.ensures, c.frame_of-g.ensures)
    (four_found c.args.axis c.args.side)
