-- The marked cases: antt computes what the definitions give.
use mathlib.Core.Path.{◌≡◌, refl}
use mathlib.Core.Bool.{xor}
use lib.Ieee.{of_bits, of_int, add, sub, mul, div, lt}
use Rattle.number.specs.Number.{magnitude_of}
use Rattle.number.specs.Nine.{sum_to}
use Rattle.lattice.specs.Lattice.{directions, opposites}
use Rattle.lattice.specs.Lookup.{is_row, lookup, mirror}
use Rattle.cell.specs.Cell.{density_of, momentum_x, momentum_y, read_moments, inverse_of, no_source, bgk_rates, trt_rates, bgk_at, bgk, trt_relaxed_at, trt_relaxed, trt_sourced_at, trt_sourced, trt}
use Rattle.settings.specs.Tests.{sides_bad, face_bad, faces_bad, driven, unpaired, lossy}
use Rattle.settings.specs.Outcome.{answer}
use Rattle.streaming.specs.Travel.{turn, streamed}
use Rattle.streaming.specs.Faces.{takes, face}
use Rattle.streaming.specs.Streaming.{next}
use Rattle.lossless.specs.Lossless.{lowest, lossless_of}
use Rattle.marked.specs.Marked.{only, table, given, said}

pub marked : given ≡ said
unfolding table next streamed turn face takes mirror lookup is_row directions opposites lossless_of answer sides_bad face_bad faces_bad driven unpaired lossy xor lowest only density_of momentum_x momentum_y read_moments inverse_of no_source bgk_rates trt_rates bgk_at bgk trt_relaxed_at trt_relaxed trt_sourced_at trt_sourced trt magnitude_of sum_to of_bits of_int add sub mul div lt
marked = refl
