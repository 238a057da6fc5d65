-- Pairs are stored again elsewhere.
use Rattle.std.proofs.Common.{◌≡◌, ℕ, ◌+◌, ◌*◌, ◌<◌, List, ◌∷◌, ◌∙◌, sym, ap, ap₂, inl, inr, arith}
use Rattle.std.specs.Prelude.{slice_index}
use Rattle.std.proofs.lemmas.Bool.{cases_eq}
use Rattle.ct_pm.specs.Device.{SameOff, IsIn}
use Rattle.ct_record.proofs.Settles.{same_then, same_wider}

-- the first k pairs stand again
pub record Copied (k : ℕ) (was words : List ℕ) : Type 0 where
  pub word : (j : ℕ) → j < k → slice_index words (528 + 2 * j) ≡ slice_index was (520 + 2 * j)
  pub value : (j : ℕ) → j < k → slice_index words (528 + 2 * j + 1) ≡ slice_index was (520 + 2 * j + 1)
  pub same : SameOff (IsIn 528 6) words was

pub copied_one : (k named put : ℕ) (was words new : List ℕ) → k < 3 → Copied k was words → named ≡ slice_index words (520 + 2 * k) → put ≡ slice_index words (520 + 2 * k + 1)
    → slice_index new (528 + 2 * k) ≡ named → slice_index new (528 + 2 * k + 1) ≡ put → SameOff (IsIn (528 + 2 * k) 2) new words → Copied (k + 1) was new
copied_one k named put was words new few so_far first second third fourth same =
    let word = third ∙ first in
    let value = fourth ∙ second in record {
      word = λ j below. elim (cases_eq j k) [
        | inl is ↦ ap (λ (n : ℕ). slice_index new (528 + 2 * n)) is ∙ word ∙ so_far.same.others (520 + 2 * k) (λ inside. omega (arith, inside.0)) ∙ ap (λ (n : ℕ). slice_index was (520 + 2 * n)) (sym is)
        | inr ne ↦ same.others (528 + 2 * j) (λ inside. omega (arith, inside.0, inside.1)) ∙ so_far.word j (omega arith)
      ];
      value = λ j below. elim (cases_eq j k) [
        | inl is ↦ ap (λ (n : ℕ). slice_index new (528 + 2 * n + 1)) is ∙ value ∙ so_far.same.others (520 + 2 * k + 1) (λ inside. omega (arith, inside.0)) ∙ ap (λ (n : ℕ). slice_index was (520 + 2 * n + 1)) (sym is)
        | inr ne ↦ same.others (528 + 2 * j + 1) (λ inside. omega (arith, inside.0, inside.1)) ∙ so_far.value j (omega arith)
      ];
      same = same_then (same_wider (λ word inside. (omega (arith, inside.0), omega (arith, inside.1))) same) so_far.same;
    }
