-- Which lines are in a set, and which lines are kept.
use Rattle.std.proofs.Common.{◌≡◌, ◌≢◌, ◌∙◌, inl, inr, ℕ, ◌-◌, ◌/◌, ◌%◌, ◌^◌, ◌<◌, List, [], ◌∷◌, length, get_or, sym, ap, subst, arith, bit_and, bit_or, All, get_or-set_other, get_or-set_same}
use Rattle.std.specs.Prelude.{Bool, true, false, Contains}
use Rattle.std.specs.List.{items_where_true}
use Rattle.std.proofs.lemmas.Bool.{cases_eq}
use Rattle.std.proofs.lemmas.List.Elements.{All-push, All-nil, All-cons, All-head, All-tail, All-weaker, All-contains}
use Rattle.std.proofs.lemmas.Nat.{and_or_self, and_or_apart, and-not, and_assoc, pow_apart, pow_below, pow_pos}
use Rattle.pm_file.specs.Lines.{with_line, HasLine}
use Rattle.pm_file.specs.Kept.{Keeps}
use Rattle.pm_file.specs.declared.kept.KeptLine.{KeptLine}

-- a bit more in a mask changes no other one
pub other_bit : (mask k i : ℕ) → i ≢ k → bit_and (bit_or mask (2 ^ k)) (2 ^ i) ≡ bit_and mask (2 ^ i)
other_bit mask k i away = and_or_apart (2 ^ i) mask (2 ^ k) (pow_apart k i (λ e. away (sym e)))

pub own_bit : (mask k : ℕ) → bit_and (bit_or mask (2 ^ k)) (2 ^ k) ≢ 0
own_bit mask k none = omega (arith, sym (and_or_self (2 ^ k) mask) ∙ none, pow_pos k)

module _ (masks : List ℕ) (line : ℕ) (there : line / 64 < length masks) where
  here : get_or (with_line masks line) (line / 64) 0 ≡ bit_or (get_or masks (line / 64) 0) (2 ^ (line % 64))
  here = get_or-set_same masks (line / 64) _ 0 there

  pub itself : HasLine (with_line masks line) line
  itself none = own_bit (get_or masks (line / 64) 0) (line % 64) (ap (λ m. bit_and m (2 ^ (line % 64))) (sym here) ∙ none)

  pub others : (other : ℕ) → other ≢ line → bit_and (get_or (with_line masks line) (other / 64) 0) (2 ^ (other % 64)) ≡ bit_and (get_or masks (other / 64) 0) (2 ^ (other % 64))
  others other away =
      elim (cases_eq (other / 64) (line / 64)) [
        | inl page ↦
            ap (λ p. bit_and (get_or (with_line masks line) p 0) (2 ^ (other % 64))) page
            ∙ ap (λ m. bit_and m (2 ^ (other % 64))) here
            ∙ other_bit (get_or masks (line / 64) 0) (line % 64) (other % 64) (λ e. away (omega (arith, page, e)))
            ∙ ap (λ p. bit_and (get_or masks p 0) (2 ^ (other % 64))) (sym page)
        | inr apart ↦ ap (λ m. bit_and m (2 ^ (other % 64))) (get_or-set_other masks (line / 64) (other / 64) _ 0 apart)
      ]

  pub one_more : (other : ℕ) → HasLine masks other → HasLine (with_line masks line) other
  one_more other had =
      elim (cases_eq other line) [
        | inl same ↦ subst (HasLine (with_line masks line)) (sym same) itself
        | inr away ↦ λ none. had (sym (others other away) ∙ none)
      ]

-- the lines of a set that are not taken out of it stay
pub stays : (stored marked rest : List ℕ) → ((page : ℕ) → get_or marked page 0 < 2 ^ 64)
    → ((page : ℕ) → get_or rest page 0 ≡ bit_and (get_or stored page 0) (2 ^ 64 - 1 - get_or marked page 0))
    → (line : ℕ) → HasLine stored line → ¬ HasLine marked line → HasLine rest line
stays stored marked rest fit each line had unmarked none =
    elim (cases_eq (bit_and m (2 ^ k)) 0) [
      | inl zero ↦
          let whole : bit_and (2 ^ 64 - 1 - m) (2 ^ k) ≡ 2 ^ k = omega (arith, and-not 64 m (2 ^ k) (fit (line / 64)) small, zero) in
          had (sym (ap (λ n. bit_and s n) whole) ∙ sym (and_assoc (2 ^ k) s (2 ^ 64 - 1 - m)) ∙ ap (λ n. bit_and n (2 ^ k)) (sym (each (line / 64))) ∙ none)
      | inr some ↦ absurd (unmarked some)
    ]
  where
    k : ℕ
    k = line % 64

    s : ℕ
    s = get_or stored (line / 64) 0

    m : ℕ
    m = get_or marked (line / 64) 0

    small : 2 ^ k < 2 ^ 64
    small = pow_below k 64 (omega arith)

-- what holds of all elements holds of those that are picked
pub all_picked : {X : Type 0} (P : X → Type 0) (picks : List Bool) (xs : List X) → All P xs → All P (items_where_true picks xs)
all_picked P [] xs all = All-nil P
all_picked P (pick ∷ picks) [] all = All-nil P
all_picked P (true ∷ picks) (x ∷ xs) all = All-cons P x (items_where_true picks xs) (All-head P x xs all) (all_picked P picks xs (All-tail P x xs all))
all_picked P (false ∷ picks) (x ∷ xs) all = all_picked P picks xs (All-tail P x xs all)

pub all_within : {X : Type 0} (P : X → Type 0) (xs ys : List X) → All P xs → All (Contains xs) ys → All P ys
all_within P xs ys all within = All-weaker (Contains xs) P (λ y there. All-contains P xs y all there) ys within

-- the kept lines are stored to
abbrev AreStored : List ℕ → List KeptLine → Type 0
AreStored stored lines = All (λ kept. HasLine stored kept.line) lines

-- a line is stored to, and is kept where that is the first time
pub kept_more : (stored : List ℕ) (line : ℕ) → line / 64 < length stored → (old new : List KeptLine) (words : List ℕ) → AreStored stored old
    → (¬ HasLine stored line → Keeps old new line words) → (HasLine stored line → new ≡ old) → AreStored (with_line stored line) new
kept_more stored line there old new words all first again =
    let more : AreStored (with_line stored line) old = All-weaker (λ kept. HasLine stored kept.line) (λ kept. HasLine (with_line stored line) kept.line) (λ kept had. one_more stored line there kept.line had) old all in
    elim (cases_eq (bit_and (get_or stored (line / 64) 0) (2 ^ (line % 64))) 0) [
      | inl none ↦ elim (first (λ had. had none)) [
        | inl room ↦ subst (AreStored (with_line stored line)) (sym room.1) (All-push (λ kept. HasLine (with_line stored line) kept.line) old (record { line = line; words = words }) more (itself stored line there))
        | inr full ↦ subst (AreStored (with_line stored line)) (sym full.1) more
      ]
      | inr had ↦ subst (AreStored (with_line stored line)) (sym (again had)) more
    ]

-- the marked lines were written and forgotten
pub still_stored : (stored marked rest : List ℕ) → ((page : ℕ) → get_or marked page 0 < 2 ^ 64)
    → ((page : ℕ) → get_or rest page 0 ≡ bit_and (get_or stored page 0) (2 ^ 64 - 1 - get_or marked page 0))
    → (lines : List KeptLine) → AreStored stored lines → All (λ kept. ¬ HasLine marked kept.line) lines → AreStored rest lines
still_stored stored marked rest fit each lines had unmarked = λ k d h. stays stored marked rest fit each (get_or lines k d).line (had k d h) (unmarked k d h)
