-- Words that no table or page of an address holds change: those of pages 1 to 32, where the record stands.
use Rattle.std.proofs.Common.{◌≡◌, ◌≢◌, ℕ, zero, suc, ◌+◌, ◌*◌, ◌/◌, ◌%◌, ◌<◌, ◌≤◌, List, length, sym, ap, ◌∙◌, arith}
use Rattle.ct_base.specs.Walk.{word, word_in, page_count, next, page_at, AreTables}
use Rattle.ct_base.specs.Words.{word_at}
use Rattle.ct_image.proofs.Steps.{next-same, page_at-same_root, page_at-next, page_at-low}
use Rattle.ct_image.proofs.Write.{word_in-same}

-- page 0 and the pages from 33 on are the same
pub record Beside (old new : List ℕ) : Type 0 where
  pub size : length new ≡ length old
  pub front : (w : ℕ) → w < 512 → word new w ≡ word old w
  pub back : (w : ℕ) → 16896 ≤ w → word new w ≡ word old w

module _ {old new : List ℕ} (b : Beside old new) where
  pub beside_count : page_count new ≡ page_count old
  beside_count = b.front 2 (omega arith)

  -- a word of a page that is reached stays
  word_stays : (d x i : ℕ) → page_at old d x ≢ 0 → word new (page_at old d x * 512 + i) ≡ word old (page_at old d x * 512 + i)
  word_stays d x i there = b.back _ (omega (arith, page_at-low old d x there))

  pub beside_cells : (d x : ℕ) → page_at new d x ≡ page_at old d x
  beside_cells zero x = page_at-same_root old new x
  beside_cells (suc d) x =
      page_at-next new d x ∙ ap (λ t. next new t (x % 512)) (beside_cells d (x / 512))
      ∙ next-same old new _ (x % 512) beside_count (λ there. word_stays d (x / 512) (x % 512) there) ∙ sym (page_at-next old d x)

  pub beside_tables : AreTables old → AreTables new
  beside_tables t =
      record {
        some = omega (arith, beside_count, t.some);
        there = omega (arith, beside_count, b.size, t.there);
        entries = λ d x i le lt ne none.
            let same = beside_cells d x in
            let there : page_at old d x ≢ 0 = λ z. ne (same ∙ z) in
            let stays = word_stays d x i there in
            ap (λ p. word new (p * 512 + i)) same ∙ stays
            ∙ t.entries d x i le lt there (sym (next-same old new _ i beside_count (λ _. stays)) ∙ ap (λ p. next new p i) (sym same) ∙ none);
        once = λ d x e y le lf ne is.
            t.once d x e y le lf (λ none. ne (beside_cells d x ∙ none)) (sym (beside_cells d x) ∙ is ∙ beside_cells e y);
      }

  -- each word by address stays
  pub beside_words : (a : ℕ) → word_at new a ≡ word_at old a
  unfolding word_at
  beside_words a =
      ap (λ p. word_in new p (a % 4096 / 8)) (beside_cells 4 (a / 4096))
      ∙ word_in-same old new (page_at old 4 (a / 4096)) (a % 4096 / 8) (λ there. word_stays 4 (a / 4096) (a % 4096 / 8) there)
