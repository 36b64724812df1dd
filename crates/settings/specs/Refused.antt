-- The numbers that the refusals are given by, 0 where nothing is refused. Number 9 stands with the steady run.
use Rattle.std.specs.Prelude.{ℕ, Result, Ok, Err}
use Rattle.settings.specs.declared.refused.Refusal.{Refusal}
use Rattle.settings.specs.declared.refused.Refusal.TheVariants.{Sides, Length, Rate, Force, Face, Place, NotCopying, Lossy, Run, FileShort, FileVersion, FileSides, FileLength, Order, Tally}

unfoldable pub number : Refusal → ℕ
number Sides = 1
number Length = 2
number Rate = 3
number Force = 4
number Face = 5
number Place = 6
number NotCopying = 7
number Lossy = 8
number Run = 10
number FileShort = 12
number FileVersion = 13
number FileSides = 14
number FileLength = 15
number Order = 16
number Tally = 17

abbrev pub number_of : {A : Type 0} → Result A Refusal → ℕ
number_of (Ok x) = 0
number_of (Err why) = number why
