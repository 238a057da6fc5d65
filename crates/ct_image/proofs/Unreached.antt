-- A page that is not reached gets other words: nothing is changed.
use Rattle.std.proofs.Common.{◌≡◌, ℕ, zero, suc, ◌+◌, ◌*◌, ◌/◌, ◌%◌, ◌^◌, ◌<◌, ◌≤◌, List, sym, ap, ◌∙◌, arith}
use Rattle.ct_base.specs.Walk.{word, page_count, next, page_at, byte_in, byte, IsFresh, AreTables, Keeps}
use Rattle.ct_image.proofs.Steps.{next-same, page_at-same_root, page_at-next, walk-cell, byte_in-same}
pub use Rattle.ct_image.specs.Changes.{Unreached}

module _ {old new : List ℕ} {p : ℕ} (u : Unreached old new p) where
  pub same_count : page_count new ≡ page_count old
  same_count = u.others 2 (λ is. omega (arith, is, u.low))

  -- the words of each page that is reached are the same
  words_same : (e y o : ℕ) → e ≤ 4 → o < 512 → word new (page_at old e y * 512 + o) ≡ word old (page_at old e y * 512 + o)
  words_same e y o le lt = u.others _ (λ is. u.fresh e y le (omega (arith, is)))

  pub unreached_at : (e y : ℕ) → e ≤ 4 → page_at new e y ≡ page_at old e y
  unreached_at zero y le = page_at-same_root old new y
  unreached_at (suc e) y le =
      page_at-next new e y ∙ ap (λ t. next new t (y % 512)) (unreached_at e (y / 512) (omega arith))
      ∙ next-same old new _ (y % 512) same_count (λ _. words_same e (y / 512) (y % 512) (omega arith) (omega arith)) ∙ sym (page_at-next old e y)

  pub tables_new : AreTables new
  tables_new =
      record {
        some = omega (arith, same_count, u.tables.some);
        there = omega (arith, same_count, u.size, u.tables.there);
        entries = λ e y j le lt ne none.
            let same = unreached_at e y (omega arith) in
            let word_same = words_same e y j (omega arith) lt in
            ap (λ t. word new (t * 512 + j)) same ∙ word_same
            ∙ u.tables.entries e y j le lt (λ z. ne (same ∙ z)) (sym (next-same old new _ j same_count (λ _. word_same)) ∙ ap (λ t. next new t j) (sym same) ∙ none);
        once = λ e y f z le lf ne is.
            u.tables.once e y f z le lf (λ none. ne (unreached_at e y le ∙ none)) (sym (unreached_at e y le) ∙ is ∙ unreached_at f z lf);
      }

  pub view_stays : (v : ℕ) → v < 2 ^ 48 → byte new v ≡ byte old v
  view_stays v lt =
      let n = v / 4096 in
      ap (λ t. byte_in new t (v % 4096)) (walk-cell new v lt ∙ unreached_at 4 n (omega arith))
      ∙ byte_in-same old new _ (v % 4096) (λ _. words_same 4 n (v % 4096 / 8) (omega arith) (omega arith))
      ∙ sym (ap (λ t. byte_in old t (v % 4096)) (walk-cell old v lt))

  pub fresh_stays : (q : ℕ) → IsFresh old q → IsFresh new q
  fresh_stays q fresh e y le is = fresh e y le (sym (unreached_at e y le) ∙ is)

  pub keeps_unreached : (n : ℕ) → Keeps old new n
  keeps_unreached n =
      record { tables = tables_new; walks = λ e y le ne. unreached_at e y le; others = λ y ne. unreached_at 4 y (omega arith); view = view_stays; count = same_count; size = u.size }
