-- A word of a data page changes: the cells stay, and so does each other word by address.
use Rattle.std.proofs.Common.{◌≡◌, ◌≢◌, ℕ, zero, suc, ◌+◌, ◌*◌, ◌/◌, ◌%◌, ◌<◌, ◌≤◌, List, length, refl, sym, ap, ◌∙◌, inl, inr, arith}
use Rattle.std.proofs.lemmas.Bool.{cases_eq}
use Rattle.ct_base.specs.Walk.{word, word_in, page_count, named_page, next, page_at, walk, AreTables}
use Rattle.ct_image.proofs.Steps.{next-same, next-at, next-zero, named_page-zero, page_at-same_root, page_at-next, page_at-root, page_at-low, walk-cell}
use Rattle.ct_base.specs.Words.{word_at, Writes}

word_in-there : (img : List ℕ) (page o : ℕ) → page ≢ 0 → word_in img page o ≡ word img (page * 512 + o)
word_in-there img zero o ne = absurd (ne refl)
word_in-there img (suc page) o ne = refl

pub word_in-same : (f g : List ℕ) (page o : ℕ) → (page ≢ 0 → word g (page * 512 + o) ≡ word f (page * 512 + o)) → word_in g page o ≡ word_in f page o
word_in-same f g zero o same = refl
word_in-same f g (suc page) o same = same (omega arith)

-- the word at an address whose page is there
pub word_at-there : (img : List ℕ) (a : ℕ) → page_at img 4 (a / 4096) ≢ 0 → word_at img a ≡ word img (page_at img 4 (a / 4096) * 512 + a % 4096 / 8)
unfolding word_at
word_at-there img a ne = word_in-there img (page_at img 4 (a / 4096)) (a % 4096 / 8) ne

pub word_at-walk : (img : List ℕ) (a : ℕ) → a < 281474976710656 → word_in img (walk img a) (a % 4096 / 8) ≡ word_at img a
unfolding word_at
word_at-walk img a lt = ap (λ p. word_in img p (a % 4096 / 8)) (walk-cell img a lt)

module _ {old new : List ℕ} {n o v : ℕ} (w : Writes old new n o v) where
  -- the page is no table
  no_table : (e y : ℕ) → e ≤ 3 → page_at old e y ≢ page_at old 4 n
  no_table e y le is = let cell = w.tables.once e y 4 n (omega arith) (omega arith) (λ z. w.there (sym is ∙ z)) is in omega (arith, cell.0)

  pub page_low : 34 ≤ page_at old 4 n
  page_low =
      let low = page_at-low old 4 n w.there in
      let root = no_table 0 0 (omega arith) in
      omega (arith, page_at-root old, root, low)

  pub same_count : page_count new ≡ page_count old
  same_count = w.others 2 (λ is. omega (arith, is, page_low))

  -- a word of another page stays
  words_same : (page j : ℕ) → page ≢ page_at old 4 n → j < 512 → word new (page * 512 + j) ≡ word old (page * 512 + j)
  words_same page j ne lt = let lo = w.index in w.others _ (λ is. ne (omega (arith, is)))

  pub cells : (e y : ℕ) → e ≤ 4 → page_at new e y ≡ page_at old e y
  cells zero y le = page_at-same_root old new y
  cells (suc e) y le =
      page_at-next new e y ∙ ap (λ t. next new t (y % 512)) (cells e (y / 512) (omega arith))
      ∙ next-same old new _ (y % 512) same_count (λ _. words_same _ (y % 512) (no_table e (y / 512) (omega arith)) (omega arith)) ∙ sym (page_at-next old e y)

  pub tables_new : AreTables new
  tables_new =
      record {
        some = omega (arith, same_count, w.tables.some);
        there = omega (arith, same_count, w.size, w.tables.there);
        entries = λ e y j le lt ne none.
            let same = cells e y (omega arith) in
            let word_same = words_same (page_at old e y) j (no_table e y le) lt in
            ap (λ t. word new (t * 512 + j)) same ∙ word_same
            ∙ w.tables.entries e y j le lt (λ z. ne (same ∙ z)) (sym (next-same old new _ j same_count (λ _. word_same)) ∙ ap (λ t. next new t j) (sym same) ∙ none);
        once = λ e y f z le lf ne is.
            w.tables.once e y f z le lf (λ none. ne (cells e y le ∙ none)) (sym (cells e y le) ∙ is ∙ cells f z lf);
      }

  -- the word at the address is the new one
  pub at_here : (a : ℕ) → a / 4096 ≡ n → a % 4096 / 8 ≡ o → word_at new a ≡ v
  unfolding word_at
  at_here a page_is word_is =
      ap (λ t. word_in new t (a % 4096 / 8)) (cells 4 (a / 4096) (omega arith))
      ∙ ap (λ y. word_in new (page_at old 4 y) (a % 4096 / 8)) page_is ∙ ap (word_in new (page_at old 4 n)) word_is
      ∙ word_in-there new (page_at old 4 n) o w.there ∙ w.value

  -- and each other word by address stays
  pub at_others : (a : ℕ) → (a / 4096 ≡ n → a % 4096 / 8 ≡ o → ⊥) → word_at new a ≡ word_at old a
  unfolding word_at
  at_others a off =
      ap (λ t. word_in new t (a % 4096 / 8)) (cells 4 (a / 4096) (omega arith))
      ∙ word_in-same old new (page_at old 4 (a / 4096)) (a % 4096 / 8) (λ there. w.others _ (λ is.
      let lo = w.index in
      let same : page_at old 4 (a / 4096) ≡ page_at old 4 n = omega (arith, is) in
      let cell = w.tables.once 4 (a / 4096) 4 n (omega arith) (omega arith) there same in
      off cell.1 (omega (arith, is, same))))

-- ---- an image whose root table is empty

pub past-root : (img : List ℕ) (y : ℕ) → y ≢ 0 → page_at img 0 y ≡ 0
unfolding page_at
past-root img zero ne = absurd (ne refl)
past-root img (suc y) ne = refl

pub record IsBlank (img : List ℕ) : Type 0 where
  pub some : 34 ≤ page_count img
  pub there : 512 * page_count img ≤ length img
  pub root : (i : ℕ) → i < 512 → word img (33 * 512 + i) ≡ 0

module _ {img : List ℕ} (b : IsBlank img) where
  pub blank_below : (d x : ℕ) → page_at img (suc d) x ≡ 0
  blank_below zero x =
      page_at-next img 0 x ∙ elim (cases_eq (x / 512) 0) [
        | inl z ↦
            ap (λ k. next img (page_at img 0 k) (x % 512)) z ∙ ap (λ t. next img t (x % 512)) (page_at-root img)
            ∙ next-at img 33 (x % 512) (omega arith) ∙ ap (named_page (page_count img)) (b.root (x % 512) (omega arith)) ∙ named_page-zero (page_count img)
        | inr ne ↦ ap (λ t. next img t (x % 512)) (past-root img (x / 512) ne) ∙ next-zero img (x % 512)
      ]
  blank_below (suc d) x = page_at-next img (suc d) x ∙ ap (λ t. next img t (x % 512)) (blank_below d (x / 512)) ∙ next-zero img (x % 512)

  pub blank_tables : AreTables img
  blank_tables =
      record {
        some = b.some;
        there = b.there;
        entries = λ d x i le lt ne none. entries d x i le lt ne none;
        once = λ d x e y le lf ne is. once d x e y ne is;
      }
    where
      entries : (d x i : ℕ) → d ≤ 3 → i < 512 → page_at img d x ≢ 0 → next img (page_at img d x) i ≡ 0 → word img (page_at img d x * 512 + i) ≡ 0
      entries zero zero i le lt ne none = ap (λ t. word img (t * 512 + i)) (page_at-root img) ∙ b.root i lt
      entries zero (suc x) i le lt ne none = absurd (ne (past-root img (suc x) (omega arith)))
      entries (suc d) x i le lt ne none = absurd (ne (blank_below d x))

      once : (d x e y : ℕ) → page_at img d x ≢ 0 → page_at img d x ≡ page_at img e y → (d ≡ e) × (x ≡ y)
      once zero zero zero zero ne is = (refl, refl)
      once zero zero zero (suc y) ne is = absurd (ne (is ∙ past-root img (suc y) (omega arith)))
      once zero zero (suc e) y ne is = absurd (ne (is ∙ blank_below e y))
      once zero (suc x) e y ne is = absurd (ne (past-root img (suc x) (omega arith)))
      once (suc d) x e y ne is = absurd (ne (blank_below d x))

  pub blank_words : (a : ℕ) → word_at img a ≡ 0
  unfolding word_at
  blank_words a = ap (λ t. word_in img t (a % 4096 / 8)) (blank_below 3 (a / 4096))
