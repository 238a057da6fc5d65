-- The cells of the image of an empty tree.
use Rattle.std.proofs.Common.{◌≡◌, ◌≢◌, ℕ, zero, suc, ◌+◌, ◌*◌, ◌/◌, ◌%◌, ◌<◌, ◌≤◌, List, [], ◌∷◌, refl, sym, ap, ◌∙◌, ◌⊎◌, inl, inr, arith}
use Rattle.std.proofs.lemmas.Bool.{cases_eq, ne_eqb}
use Rattle.ct_base.specs.Walk.{word, page_count, next, named_page, page_at}
use Rattle.ct_image.proofs.Steps.{named_page-zero, named_page-made, next-zero, next-at}
use Rattle.ct_base.specs.Format.{value, format_words, IsFormatted}

-- the word is one of those that a table names
abbrev pub IsKey : List (ℕ × ℕ) → ℕ → Type 0
IsKey [] w = ⊥
IsKey (row ∷ rows) w = (w ≡ row.0) ⊎ IsKey rows w

pub value-zero : (rows : List (ℕ × ℕ)) (w : ℕ) → (IsKey rows w → ⊥) → value rows w ≡ 0
value-zero [] w none = refl
value-zero (row ∷ rows) w none = rw (ne_eqb w row.0 (λ is. none (inl is))) (value-zero rows w (λ key. none (inr key)))

-- the number of the cell on the way to the headers
abbrev pub side : ℕ → ℕ
side zero = 0
side (suc zero) = 1
side (suc (suc zero)) = 640
side (suc (suc (suc d))) = side (suc (suc d)) * 512

module _ {img : List ℕ} {pages n : ℕ} (f : IsFormatted img pages n) (many : 256 ≤ pages) where
  -- a word that is none of the keys
  pub none : (p i : ℕ) → 33 ≤ p → p < 42 → i < 512 → (IsKey format_words (p * 512 + i) → ⊥) → word img (p * 512 + i) ≡ 0
  none p i low high lt other = f.words (p * 512 + i) (omega arith) (omega arith) ∙ value-zero format_words (p * 512 + i) other

  pub made : (t i p : ℕ) → 33 ≤ t → 34 ≤ p → p < 256 → word img (t * 512 + i) ≡ p * 4096 + 1 → next img t i ≡ p
  made t i p low from to is =
      next-at img t i (omega arith) ∙ ap (λ k. named_page (page_count img) k) is ∙ named_page-made (page_count img) p from (omega (arith, f.count))

  empty : (t i : ℕ) → 33 ≤ t → word img (t * 512 + i) ≡ 0 → next img t i ≡ 0
  empty t i low is = next-at img t i (omega arith) ∙ ap (λ k. named_page (page_count img) k) is ∙ named_page-zero (page_count img)

  -- the root names two tables
  root : (i : ℕ) → i < 512 → ((i ≡ 0) × (next img 33 i ≡ 34)) ⊎ (((i ≡ 1) × (next img 33 i ≡ 38)) ⊎ (word img (33 * 512 + i) ≡ 0))
  root zero lt = inl (refl, made 33 0 34 (omega arith) (omega arith) (omega arith) (f.words 16896 (omega arith) (omega arith)))
  root (suc zero) lt = inr (inl (refl, made 33 1 38 (omega arith) (omega arith) (omega arith) (f.words 16897 (omega arith) (omega arith))))
  root (suc (suc i)) lt = inr (inr (none 33 (suc (suc i)) (omega arith) (omega arith) lt (λ key. grind arith)))

  -- and each table on the way to the inodes names the next
  inner : (d i : ℕ) → 1 ≤ d → d ≤ 3 → i < 512 → ((i ≡ 0) × (next img (33 + d) i ≡ 34 + d)) ⊎ (word img ((33 + d) * 512 + i) ≡ 0)
  inner (suc zero) zero from to lt = inl (refl, made 34 0 35 (omega arith) (omega arith) (omega arith) (f.words 17408 (omega arith) (omega arith)))
  inner (suc (suc zero)) zero from to lt = inl (refl, made 35 0 36 (omega arith) (omega arith) (omega arith) (f.words 17920 (omega arith) (omega arith)))
  inner (suc (suc (suc zero))) zero from to lt = inl (refl, made 36 0 37 (omega arith) (omega arith) (omega arith) (f.words 18432 (omega arith) (omega arith)))
  inner d (suc i) from to lt = inr (none (33 + d) (suc i) (omega arith) (omega arith) lt (λ key. grind arith))
  inner zero zero from to lt = absurd (omega arith)
  inner (suc (suc (suc (suc d)))) zero from to lt = absurd (omega arith)

  -- the first table on the way to the headers names the next by entry 128, the others by entry 0
  outer : (d i : ℕ) → 1 ≤ d → d ≤ 3 → i < 512 → ((side d * 512 + i ≡ side (suc d)) × (next img (37 + d) i ≡ 38 + d)) ⊎ (word img ((37 + d) * 512 + i) ≡ 0)
  outer (suc zero) i from to lt = elim (cases_eq i 128) [
    | inl is ↦ inl (omega arith, ap (next img 38) is ∙ made 38 128 39 (omega arith) (omega arith) (omega arith) (f.words 19584 (omega arith) (omega arith)))
    | inr other ↦ inr (none 38 i (omega arith) (omega arith) lt (λ key. grind arith))
  ]
  outer (suc (suc zero)) zero from to lt = inl (refl, made 39 0 40 (omega arith) (omega arith) (omega arith) (f.words 19968 (omega arith) (omega arith)))
  outer (suc (suc (suc zero))) zero from to lt = inl (refl, made 40 0 41 (omega arith) (omega arith) (omega arith) (f.words 20480 (omega arith) (omega arith)))
  outer (suc (suc zero)) (suc i) from to lt = inr (none 39 (suc i) (omega arith) (omega arith) lt (λ key. grind arith))
  outer (suc (suc (suc zero))) (suc i) from to lt = inr (none 40 (suc i) (omega arith) (omega arith) lt (λ key. grind arith))
  outer zero i from to lt = absurd (omega arith)
  outer (suc (suc (suc (suc d)))) i from to lt = absurd (omega arith)

  pub known : (d x : ℕ) → d ≤ 4 → page_at img d x ≢ 0 → ((page_at img d x ≡ 33 + d) × (x ≡ 0)) ⊎ ((page_at img d x ≡ 37 + d) × (1 ≤ d) × (x ≡ side d))
  unfolding page_at
  known zero zero le ne = inl (refl, refl)
  known zero (suc x) le ne = absurd (ne refl)
  known (suc zero) x le ne =
      elim (known zero (x / 512) (omega arith) (λ z. ne (ap (λ t. next img t (x % 512)) z ∙ next-zero img (x % 512)))) [
        | inl k ↦ elim (root (x % 512) (omega arith)) [
          | inl e ↦ inl (ap (λ t. next img t (x % 512)) k.0 ∙ e.1, omega (arith, k.1, e.0))
          | inr (inl e) ↦ inr (ap (λ t. next img t (x % 512)) k.0 ∙ e.1, omega arith, omega (arith, k.1, e.0))
          | inr (inr z) ↦ absurd (ne (ap (λ t. next img t (x % 512)) k.0 ∙ empty 33 (x % 512) (omega arith) z))
        ]
        | inr k ↦ absurd (omega (arith, k.1))
      ]
  known (suc (suc d)) x le ne =
      elim (known (suc d) (x / 512) (omega arith) (λ z. ne (ap (λ t. next img t (x % 512)) z ∙ next-zero img (x % 512)))) [
        | inl k ↦ elim (inner (suc d) (x % 512) (omega arith) (omega arith) (omega arith)) [
          | inl e ↦ inl (ap (λ t. next img t (x % 512)) k.0 ∙ e.1 ∙ omega arith, omega (arith, k.1, e.0))
          | inr z ↦ absurd (ne (ap (λ t. next img t (x % 512)) k.0 ∙ empty (33 + suc d) (x % 512) (omega arith) z))
        ]
        | inr k ↦ elim (outer (suc d) (x % 512) (omega arith) (omega arith) (omega arith)) [
          | inl e ↦ inr (ap (λ t. next img t (x % 512)) k.0 ∙ e.1 ∙ omega arith, omega arith, omega (arith, k.2, e.0))
          | inr z ↦ absurd (ne (ap (λ t. next img t (x % 512)) k.0 ∙ empty (37 + suc d) (x % 512) (omega arith) z))
        ]
      ]

  -- no page is reached twice
  pub once : (d x e y : ℕ) → d ≤ 4 → e ≤ 4 → page_at img d x ≢ 0 → page_at img d x ≡ page_at img e y → (d ≡ e) × (x ≡ y)
  once d x e y le lf ne is =
      elim (known d x le ne) [
        | inl k ↦ elim (known e y lf (λ z. ne (is ∙ z))) [
          | inl l ↦ (omega (arith, k.0, l.0), k.1 ∙ sym l.1)
          | inr l ↦ absurd (omega (arith, k.0, l.0, l.1))
        ]
        | inr k ↦ elim (known e y lf (λ z. ne (is ∙ z))) [
          | inl l ↦ absurd (omega (arith, k.0, l.0, k.1))
          | inr l ↦ let same : d ≡ e = omega (arith, k.0, l.0) in (same, k.2 ∙ ap side same ∙ sym l.2)
        ]
      ]

  -- an entry of a table names a page, or is 0
  pub entries : (d x i : ℕ) → d ≤ 3 → i < 512 → page_at img d x ≢ 0 → next img (page_at img d x) i ≡ 0 → word img (page_at img d x * 512 + i) ≡ 0
  entries d x i le lt ne gone =
      elim (known d x (omega arith) ne) [
        | inl k ↦ elim (cases_eq d 0) [
          | inl top ↦
              let at : page_at img d x ≡ 33 = omega (arith, k.0) in
              elim (root i lt) [
                | inl e ↦ absurd (omega (arith, e.1, ap (λ t. next img t i) at, gone))
                | inr (inl e) ↦ absurd (omega (arith, e.1, ap (λ t. next img t i) at, gone))
                | inr (inr z) ↦ ap (λ t. word img (t * 512 + i)) at ∙ z
              ]
          | inr low ↦ elim (inner d i (omega arith) le lt) [
            | inl e ↦ absurd (omega (arith, e.1, ap (λ t. next img t i) k.0, gone))
            | inr z ↦ ap (λ t. word img (t * 512 + i)) k.0 ∙ z
          ]
        ]
        | inr k ↦ elim (outer d i k.1 le lt) [
          | inl e ↦ absurd (omega (arith, e.1, ap (λ t. next img t i) k.0, gone))
          | inr z ↦ ap (λ t. word img (t * 512 + i)) k.0 ∙ z
        ]
      ]
