-- Streaming with lossless faces puts the post-collision entries into another order, so the first number of the tally stays.
use mathlib.Core.Path.{◌≡◌, refl, sym, ap, ◌∙◌, subst}
use mathlib.Core.Bool.{false}
use mathlib.Core.List.{List}
use Prim.Native.Nat.{ℕ, ◌*◌, ◌/◌, ◌%◌, ◌<◌}
use lib.ListN.{length, get_or}
use Rattle.grid.proofs.Radix.{index_in, column_of, row_of, direction_of, place_of_lem}
use Rattle.sums.specs.Sums.{wrapped}
use Rattle.sums.proofs.Sums.{sum_cong, Inverse, permuted}
use Rattle.settings.specs.declared.Settings.{Settings}
use Rattle.settings.specs.Tests.{driven, lossy}
use Rattle.settings.specs.Refusals.{refusal, stream_with_faces, lossless}
use Rattle.settings.specs.Outcome.{Written}
use Rattle.settings.proofs.Laws.{known}
use Rattle.settings.proofs.Outcome.{answered}
use Rattle.streaming.specs.Streaming.{next_buffer, streamed_with_faces}
use Rattle.streaming.specs.Source.{Entry, entry, On, index_of, source, target}
use Rattle.streaming.proofs.Source.{source_on, target_on}
use Rattle.lossless.specs.Lossless.{Lossless, lossless_of, number_of, Says}
use Rattle.lossless.specs.Answer as The
use Rattle.lossless.proofs.Criterion.{there, again}
use Rattle.lossless.proofs.Backward.{next_at}
use Rattle.lossless.proofs.Whole.{lossless_exactly_when}
use Rattle.lossless.proofs.Outcomes.{says, number_said}
use Rattle.tally.specs.Tally.{total}

-- ---- places and entries

module _ (nx ny : ℕ) where
  -- the entry that stands at place k
  abbrev entry_at : ℕ → Entry
  entry_at k = entry (k % (nx * ny) % nx) (k % (nx * ny) / nx) (k / (nx * ny))

  entry_on : (k : ℕ) → k < 9 * (nx * ny) → On nx ny (entry_at k)
  entry_on k h = let q = place_of_lem nx ny k h in record { x_in = q.column; y_in = q.row; i_in = q.direction }

  entry_of : (e : Entry) → On nx ny e → entry_at (index_of nx ny e) ≡ e
  entry_of e on =
      λ t.
      entry
      (column_of nx ny e.x e.y e.i on.x_in on.y_in t)
      (row_of nx ny e.x e.y e.i on.x_in on.y_in t)
      (direction_of nx ny e.x e.y e.i on.x_in on.y_in t)

  -- a map of entries, on their places
  along : (Entry → Entry) → ℕ → ℕ
  along m k = index_of nx ny (m (entry_at k))

  module _ (m : Entry → Entry) (stays : (e : Entry) → On nx ny e → On nx ny (m e)) where
    along-in : (k : ℕ) → k < 9 * (nx * ny) → along m k < 9 * (nx * ny)
    unfolding along
    along-in k h =
        let e = m (entry_at k) in
        let on = stays (entry_at k) (entry_on k h) in
        index_in nx ny e.x e.y e.i on.x_in on.y_in on.i_in

    -- which another map of entries undoes
    undone : (w : Entry → Entry) → ((e : Entry) → On nx ny e → w (m e) ≡ e) → (k : ℕ) → k < 9 * (nx * ny) → along w (along m k) ≡ k
    unfolding along
    undone w back k h =
        let on = entry_on k h in
        ap (λ (e : Entry). index_of nx ny (w e)) (entry_of (m (entry_at k)) (stays (entry_at k) on))
        ∙ ap (index_of nx ny) (back (entry_at k) on)
        ∙ (place_of_lem nx ny k h).back

-- ---- THE FIRST NUMBER OF THE NEXT BUFFER IS THAT OF THE POST-COLLISION BUFFER

module _ (s : Settings) (l : lossy s ≡ false) where
  inverse : Inverse (9 * (s.nx * s.ny)) (along s.nx s.ny (source s)) (along s.nx s.ny (target s))
  inverse = record {
    p_in = along-in s.nx s.ny (source s) (source_on s);
    q_in = along-in s.nx s.ny (target s) (target_on s);
    q_p = undone s.nx s.ny (source s) (source_on s) (target s) (again s l);
    p_q = undone s.nx s.ny (target s) (target_on s) (source s) (there s l);
  }

  pub total_kept : driven s ≡ false → (post : List ℕ) → total (s.nx * s.ny) (next_buffer s post) ≡ total (s.nx * s.ny) post
  unfolding total along
  total_kept calm post =
      let nx = s.nx in
      let ny = s.ny in
      ap wrapped
      (sum_cong (9 * (nx * ny)) (λ k. get_or (next_buffer s post) k 0) (λ k. get_or post (along nx ny (source s) k) 0)
      (λ k h.
      ap (λ (j : ℕ). get_or (next_buffer s post) j 0) (sym (place_of_lem nx ny k h).back)
      ∙ next_at s calm post (entry_at nx ny k) (entry_on nx ny k h))
      ∙ permuted (9 * (nx * ny)) (λ k. get_or post k 0) (along nx ny (source s)) (along nx ny (target s)) inverse)

-- ON EVERY LOSSLESS GRID, in the words of the question and of the operation: where `lossless` answers Lossless and streaming with
-- faces is not refused, what it leaves has the first number of what it was given
pub lossless_total : (s : Settings) (post f : List ℕ) → lossless_of s ≡ The.Lossless
    → refusal (stream_with_faces s (length post) (length f)) ≡ 0
    → total (s.nx * s.ny) (streamed_with_faces s post f).buffer ≡ total (s.nx * s.ny) post
lossless_total s post f answer zero =
    let grid = (known (stream_with_faces s (length post) (length f)) zero).0 in
    let asked = sym (number_said s) ∙ ap number_of answer in
    let calm = (known (lossless s) asked).1.1.0 in
    let whole : Lossless s = subst (Says s) answer (says s asked) in
    ap (total (s.nx * s.ny)) (sym (ap (λ (w : Written). w.buffer) (answered _ refl zero refl)))
    ∙ total_kept s ((lossless_exactly_when s calm grid).0 whole) calm post
