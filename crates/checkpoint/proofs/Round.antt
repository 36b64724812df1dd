-- A file and the state that it holds give each other: what was written is read back, and an accepted file is the file of what was read.
use mathlib.Core.Path.{◌≡◌, refl, sym, ap, ap₂, ◌∙◌}
use mathlib.Core.Bool.{Bool, true, false, cond}
use mathlib.Core.List.{List}
use Prim.Native.Nat.{ℕ, ◌+◌, ◌*◌, ◌^◌, ◌≤◌, ◌<◌}
use native.Mathlib.Omega.{arith}
use borrow.Author.Tests.{eq-eqb, le-ltb}
use lib.ListN.{length}
use Rattle.words.proofs.Words.{Bytes, numbers_length}
use Rattle.words.proofs.Laid.{part_stands, numbers_stand}
use Rattle.settings.specs.declared.Head.{Head}
use Rattle.settings.specs.declared.Settings.{Settings}
use Rattle.settings.specs.Tests.{sides_bad, length_bad, bytes_bad, short_bad, version_bad, cut_bad, count_bad}
use Rattle.settings.specs.Refusals as Call
use Rattle.settings.specs.Refusals.{refusal}
use Rattle.settings.specs.Outcome.{answer, Written}
use Rattle.settings.proofs.Laws.{known, none, sides_ok}
use Rattle.settings.proofs.Outcome.{answered}
use Rattle.checkpoint.specs.Checkpoint.{Told, count_of, checkpoint_of, head_of, entries_of, Read, read, checkpoint_written, checkpoint_sides, checkpoint_read}
use Rattle.checkpoint.proofs.Files.{Patterns, heading, head_laid, file_laid, head_of_file, entries_of_file}

abbrev stored : ℕ → ℕ → ℕ → Told
stored nx ny step = record { number = 0; nx = nx; ny = ny; step = step }

-- ---- WHAT WAS WRITTEN IS READ BACK, every bit of it

-- the head of a written file is refused nowhere
heading_passes : (nx ny step len : ℕ) → sides_bad nx ny ≡ false → len ≡ 9 * (nx * ny)
    → refusal (Call.read_checkpoint (heading nx ny step) len) ≡ 0
unfolding count_bad bytes_bad length_bad
heading_passes nx ny step len good fits =
    let size = 13 + 72 * (nx * ny) in
    rw (
      le-ltb size 5 (omega arith),
      le-ltb size 9 (omega arith),
      good,
      eq-eqb size size refl,
      eq-eqb (count_of nx ny) (count_of nx ny) refl,
      eq-eqb len (9 * (nx * ny)) fits,
    )

-- what is read where the number is 0
read_done : (file lent : List ℕ) → refusal (Call.read_checkpoint (head_of file) (length lent)) ≡ 0
    → let h = head_of file in checkpoint_read file lent ≡ read (stored h.nx h.ny h.step) (entries_of file)
read_done file lent zero = sym (ap₂ read (answered _ refl zero refl) (answered _ refl zero refl))

pub read_back : (s : Settings) (step : ℕ) (f file lent : List ℕ) → step < 2 ^ 32 → Patterns f
    → refusal (Call.write_checkpoint s (length f) (length file)) ≡ 0 → length lent ≡ length f
    → checkpoint_read (checkpoint_written s step f file).buffer lent ≡ read (stored s.nx s.ny step) f
read_back s step f file lent late bits zero fits =
    let good = (none (sides_bad s.nx s.ny) 1 _ tt zero).0 in
    let size = (known (Call.write_checkpoint s (length f) (length file)) zero).1.0.size in
    let grid = sides_ok s.nx s.ny good in
    let made = checkpoint_of s.nx s.ny step f in
    let wrote : (checkpoint_written s step f file).buffer ≡ made = sym (ap (λ (w : Written). w.buffer) (answered _ refl zero refl)) in
    let head = head_of_file s.nx s.ny step f grid size late in
    let passes = ap (λ (h : Head). refusal (Call.read_checkpoint h (length lent))) head
    ∙ heading_passes s.nx s.ny step (length lent) good (fits ∙ size) in
    ap (λ (b : List ℕ). checkpoint_read b lent) wrote
    ∙ read_done made lent passes
    ∙ ap₂ read (ap (λ (h : Head). stored h.nx h.ny h.step) head) (entries_of_file s.nx s.ny step f grid size late bits)

-- ---- AN ACCEPTED FILE IS THE FILE OF WHAT WAS READ

module _ (file lent : List ℕ) (bytes : Bytes file) (zero : refusal (Call.read_checkpoint (head_of file) (length lent)) ≡ 0) where
  its_file : let h = head_of file in file ≡ checkpoint_of h.nx h.ny h.step (entries_of file)
  its_file =
      let h = head_of file in
      let k = known (Call.read_checkpoint h (length lent)) zero in
      let counted = k.1.1.1.1.0 in
      let long : 13 ≤ length file = omega (arith, counted.size) in
      file_laid h.nx h.ny h.step file file file (entries_of file) counted.size (numbers_length 8 _ file 13)
      (head_laid h.nx h.ny h.step file file file file file file
      (part_stands file 4 0 _ bytes (omega arith) counted.count)
      (part_stands file 1 4 1 bytes (omega arith) k.1.0)
      (part_stands file 2 5 _ bytes (omega arith) refl)
      (part_stands file 2 7 _ bytes (omega arith) refl)
      (part_stands file 4 9 _ bytes (omega arith) refl))
      (numbers_stand file 13 8 _ bytes)

  pub accepted : let r = checkpoint_read file lent in file ≡ checkpoint_of r.stored.nx r.stored.ny r.stored.step r.f
  accepted =
      its_file
      ∙ ap (λ (r : Read). checkpoint_of r.stored.nx r.stored.ny r.stored.step r.f) (sym (read_done file lent zero))

-- so accepted files with equal content are equal bytes
pub same_bytes : (file lent file' lent' : List ℕ) → Bytes file → Bytes file'
    → refusal (Call.read_checkpoint (head_of file) (length lent)) ≡ 0
    → refusal (Call.read_checkpoint (head_of file') (length lent')) ≡ 0
    → checkpoint_read file lent ≡ checkpoint_read file' lent' → file ≡ file'
same_bytes file lent file' lent' bytes bytes' zero zero' same =
    accepted file lent bytes zero
    ∙ ap (λ (r : Read). checkpoint_of r.stored.nx r.stored.ny r.stored.step r.f) same
    ∙ sym (accepted file' lent' bytes' zero')

-- ---- THE READER REFUSES AS THE QUESTION DOES, and by 2 alone where that answers

-- five tests, and what comes after them
stops : (a b c d e : Bool) (later : ℕ) → let first : ℕ → ℕ = λ n. cond a 12 (cond b 13 (cond c 14 (cond d 1 (cond e 15 n)))) in
    first later ≡ answer (first 0) later (first 0)
unfolding answer
stops true b c d e later = refl
stops false true c d e later = refl
stops false false true d e later = refl
stops false false false true e later = refl
stops false false false false true later = refl
stops false false false false false later = refl

pub question_first : (h : Head) (len : ℕ) → let asked = refusal (Call.checkpoint_sides h) in
    refusal (Call.read_checkpoint h len) ≡ answer asked (cond (length_bad h.nx h.ny 9 len) 2 0) asked
question_first h len =
    stops (short_bad h.length) (version_bad h.version) (cut_bad h) (sides_bad h.nx h.ny) (count_bad h) (cond (length_bad h.nx h.ny 9 len) 2 0)

-- so what the question tells is enough to lend a buffer: the file is read, with the same sides and step
pub asked_then_read : (file lent : List ℕ) → refusal (Call.checkpoint_sides (head_of file)) ≡ 0
    → let told = checkpoint_sides file in length lent ≡ 9 * (told.nx * told.ny) → checkpoint_read file lent ≡ read told (entries_of file)
unfolding length_bad
asked_then_read file lent zero fits =
    let h = head_of file in
    let is : checkpoint_sides file ≡ stored h.nx h.ny h.step = sym (answered _ refl zero refl) in
    let size : length lent ≡ 9 * (h.nx * h.ny) = fits ∙ ap (λ (r : Told). 9 * (r.nx * r.ny)) is in
    let passes : refusal (Call.read_checkpoint h (length lent)) ≡ 0 =
    question_first h (length lent) ∙ sym (answered _ refl zero (rw (eq-eqb (length lent) (9 * (h.nx * h.ny)) size))) in
    read_done file lent passes ∙ ap (λ (r : Told). read r (entries_of file)) (sym is)
