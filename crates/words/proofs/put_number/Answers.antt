-- `words::put_number` meets its contract: the last bytes of eight are the number in as many.
use Rattle.std.proofs.Common.{◌≡◌, ◌∙◌, ◌-◌, length, rules}
use mir.Syntax.{w64}
use Rattle.std.specs.List.{slice_range}
use Rattle.std.specs.Int.{to_be_bytes}
use Rattle.words.proofs.Words.{last_bytes}
use Rattle.words.proofs.put_number.Goals as goal

pub returns : goal.returns
returns c =
    let e : c.copy_from_slice.new.self ≡ slice_range (to_be_bytes w64 c.args.number) (8 - length c.args.bytes.now) 8 = search rules in
    e ∙ last_bytes (length c.args.bytes.now) c.args.number c.requires
