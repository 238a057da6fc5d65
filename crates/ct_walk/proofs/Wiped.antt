-- Pages that no cell has get other words: nothing is changed.
use Rattle.std.proofs.Common.{◌≡◌, ℕ, zero, suc, ◌+◌, ◌*◌, ◌/◌, ◌%◌, ◌^◌, ◌<◌, ◌≤◌, List, sym, ap, ◌∙◌, inl, inr, arith}
use Rattle.ct_base.specs.Walk.{word, page_count, next, page_at, byte_in, byte, IsFresh, AreTables}
use Rattle.ct_base.specs.Wants.{Want, missing_at, missing}
use Rattle.ct_image.proofs.Steps.{next-same, page_at-same_root, page_at-next, walk-cell, byte_in-same}
use Rattle.ct_image.proofs.MissingLess.{missing_at-same}
use Rattle.ct_frames.specs.Free.{FreePages}
use Rattle.ct_frames.specs.Agrees.{Agrees}
use Rattle.ct_pm.specs.Device.{SameOff}
use Rattle.ct_walk.specs.Growth.{IsTaken, Grown}
use Rattle.ct_walk.specs.Depths.{IsOnTaken}

-- Words of pages that were taken differ, and no others.
pub record Wiped (old new : List ℕ) (before after : FreePages) : Type 0 where
  pub tables : AreTables old
  pub fresh : (q : ℕ) → IsTaken before after q → IsFresh old q
  pub low : (q : ℕ) → IsTaken before after q → 34 ≤ q
  pub same : SameOff (IsOnTaken before after) new old

module _ {old new : List ℕ} {before after : FreePages} (u : Wiped old new before after) where
  pub same_count : page_count new ≡ page_count old
  same_count = u.same.others 2 (λ t. omega (arith, u.low 0 t))

  words_same : (e y o : ℕ) → e ≤ 4 → o < 512 → word new (page_at old e y * 512 + o) ≡ word old (page_at old e y * 512 + o)
  words_same e y o le lt = u.same.others _ (λ t. u.fresh ((page_at old e y * 512 + o) / 512) t e y le (omega arith))

  pub cells_same : (e y : ℕ) → e ≤ 4 → page_at new e y ≡ page_at old e y
  cells_same zero y le = page_at-same_root old new y
  cells_same (suc e) y le =
      page_at-next new e y ∙ ap (λ t. next new t (y % 512)) (cells_same e (y / 512) (omega arith))
      ∙ next-same old new _ (y % 512) same_count (λ _. words_same e (y / 512) (y % 512) (omega arith) (omega arith)) ∙ sym (page_at-next old e y)

  pub tables_new : AreTables new
  tables_new =
      record {
        some = omega (arith, same_count, u.tables.some);
        there = omega (arith, same_count, u.same.size, u.tables.there);
        entries = λ e y j le lt ne none.
            let same = cells_same e y (omega arith) in
            let word_same = words_same e y j (omega arith) lt in
            ap (λ t. word new (t * 512 + j)) same ∙ word_same
            ∙ u.tables.entries e y j le lt (λ z. ne (same ∙ z)) (sym (next-same old new _ j same_count (λ _. word_same)) ∙ ap (λ t. next new t j) (sym same) ∙ none);
        once = λ e y f z le lf ne is.
            u.tables.once e y f z le lf (λ none. ne (cells_same e y le ∙ none)) (sym (cells_same e y le) ∙ is ∙ cells_same f z lf);
      }

  bytes_same : (v : ℕ) → v < 2 ^ 48 → byte new v ≡ byte old v
  bytes_same v lt =
      let n = v / 4096 in
      ap (λ t. byte_in new t (v % 4096)) (walk-cell new v lt ∙ cells_same 4 n (omega arith))
      ∙ byte_in-same old new _ (v % 4096) (λ _. words_same 4 n (v % 4096 / 8) (omega arith) (omega arith))
      ∙ sym (ap (λ t. byte_in old t (v % 4096)) (walk-cell old v lt))

  pub grown_wiped : (wants : List Want) → Grown old new wants before after
  grown_wiped wants =
      record {
        tables = tables_new;
        walks = λ e y le ne. cells_same e y le;
        cells = λ e y le not. cells_same e y le;
        fresh = λ e y le none ne. absurd (ne (cells_same e y le ∙ none));
        bytes = bytes_same;
        low = λ w lt. u.same.others w (λ t. omega (arith, u.low (w / 512) t));
        rest = λ w nt ng. u.same.others w nt;
        size = u.same.size;
      }

  pub agrees_wiped : Agrees old before → Agrees new before
  agrees_wiped agrees =
      record {
        pages = agrees.pages ∙ sym same_count;
        free = λ q free d x le is. agrees.free q free d x le (sym (cells_same d x le) ∙ is);
        all = λ q low high. elim (agrees.all q low (omega (arith, high, same_count))) [
          | inl free ↦ inl free
          | inr reached ↦ inr (record { depth = reached.depth; number = reached.number; few = reached.few; is = cells_same reached.depth reached.number reached.few ∙ reached.is })
        ];
      }

  pub missing_at_wiped : (wants : List Want) (d : ℕ) → d ≤ 4 → missing_at new wants d ≡ missing_at old wants d
  missing_at_wiped wants d le = missing_at-same old new wants d (λ x. cells_same d x le)

  pub missing_wiped : (wants : List Want) → missing new wants ≡ missing old wants
  unfolding missing
  missing_wiped wants =
      omega (arith, missing_at_wiped wants 1 (omega arith), missing_at_wiped wants 2 (omega arith), missing_at_wiped wants 3 (omega arith), missing_at_wiped wants 4 (omega arith))
