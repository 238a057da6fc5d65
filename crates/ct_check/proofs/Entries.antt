-- What the word of an entry says.
use Rattle.std.proofs.Common.{◌≡◌, ◌≢◌, ℕ, ◌+◌, ◌*◌, ◌/◌, ◌%◌, ◌<◌, ◌≤◌, List, sym, ap, ◌∙◌, inl, inr, arith}
use Rattle.std.proofs.lemmas.Bool.{cases_eq}
use Rattle.ct_base.specs.Walk.{word, page_count, named_page, next}
use Rattle.ct_image.proofs.Steps.{next-at, named_page-zero, named_page-made, named_page-bounds}

module _ (img : List ℕ) (table i entry : ℕ) (there : table ≢ 0) (is : entry ≡ word img (table * 512 + i)) where
  next_is : next img table i ≡ named_page (page_count img) entry
  next_is = next-at img table i there ∙ ap (named_page (page_count img)) (sym is)

  pub entry_zero : entry ≡ 0 → (0 ≡ next img table i) × (◌≡◌ {A = ℕ} 0 0 → word img (table * 512 + i) ≡ 0)
  entry_zero none = (sym (next_is ∙ ap (named_page (page_count img)) none ∙ named_page-zero (page_count img)), λ same. sym is ∙ none)

  pub entry_good : entry % 4096 ≡ 1 → 34 ≤ entry / 4096 → entry / 4096 < page_count img
      → (entry / 4096 ≡ next img table i) × (entry / 4096 ≡ 0 → word img (table * 512 + i) ≡ 0)
  entry_good form low high =
      let whole : entry ≡ entry / 4096 * 4096 + 1 = omega arith in
      (sym (next_is ∙ ap (named_page (page_count img)) whole ∙ named_page-made (page_count img) (entry / 4096) low high), λ none. absurd (omega arith))

  pub entry_bad : entry ≢ 0 → (entry % 4096 ≡ 1 → 34 ≤ entry / 4096 → entry / 4096 < page_count img → ⊥)
      → (next img table i ≡ 0) × (word img (table * 512 + i) ≡ 0 → ⊥)
  entry_bad some none = (
    elim (cases_eq (named_page (page_count img) entry) 0) [
      | inl zero_page ↦ next_is ∙ zero_page
      | inr ne ↦
          let b = named_page-bounds (page_count img) entry ne in
          absurd (none (omega (arith, b.2)) (omega (arith, b.0, b.2)) (omega (arith, b.1, b.2)))
    ],
    λ zero_word. some (is ∙ zero_word),
  )
