-- Kept lines of a page that have the words with which they were kept.
use Rattle.std.proofs.Common.{◌≡◌, ◌∙◌, inl, inr, ℕ, ◌+◌, ◌*◌, ◌/◌, ◌%◌, ◌^◌, List, sym, ap, subst, arith, bit_or}
use Rattle.std.specs.Prelude.{Contains, IsBitSet}
use Rattle.std.proofs.lemmas.Bool.{cases_eq}
use Rattle.pm_file.specs.Lines.{line_words}
use Rattle.pm_file.specs.Kept.{IsAsKept}
use Rattle.pm_file.specs.declared.kept.KeptLine.{KeptLine}
use Rattle.pm_file.proofs.Members.{other_bit}

module _ (lines : List KeptLine) (words : List ℕ) (page : ℕ) (kept : KeptLine)
    (there : Contains lines kept) (of_page : kept.line / 64 ≡ page) (same : kept.words ≡ line_words words kept.line) where
  as_kept : IsAsKept lines words (64 * page + kept.line % 64)
  as_kept =
      let at : kept.line ≡ 64 * page + kept.line % 64 = omega (arith, of_page) in
      subst (Contains lines)
      (ap (λ w. record { line = kept.line; words = w }) same ∙ ap (λ n. record { line = n; words = line_words words n }) at)
      there

  pub more_as_kept : (mask : ℕ) → ((line : ℕ) → IsBitSet mask line → IsAsKept lines words (64 * page + line))
      → (line : ℕ) → IsBitSet (bit_or mask (2 ^ (kept.line % 64))) line → IsAsKept lines words (64 * page + line)
  more_as_kept mask had line is_set =
      elim (cases_eq line (kept.line % 64)) [
        | inl here ↦ subst (λ k. IsAsKept lines words (64 * page + k)) (sym here) as_kept
        | inr away ↦ had line (λ none. is_set (other_bit mask (kept.line % 64) line away ∙ none))
      ]
