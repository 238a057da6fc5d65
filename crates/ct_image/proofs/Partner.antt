-- The partners of pages.
use Rattle.std.proofs.Common.{◌≡◌, ℕ, ◌+◌, ◌-◌, ◌*◌, ◌/◌, ◌%◌, ◌<◌, ◌≤◌, true, false, sym, ap, ◌∙◌, inl, inr, arith}
use Rattle.std.specs.Prelude.{nat_lt, nat_le, ◌&&◌}
use Rattle.std.proofs.lemmas.Bool.{cases_eq, cases_lt, le-leb, lt-leb, lt-ltb, le-ltb, and_from, and_left, and_right, cond-true, cond-false}
use Rattle.std.proofs.Math.Nat.{div-add-mod, mod-lt, div-eq_of_lt-le}
use Rattle.ct_image.proofs.Swap.{swapped-first, swapped-second, swapped-other, swapped}
use Rattle.ct_base.specs.Exchange.{partner, Apart, Outside}

inside : (a n p : ℕ) → a ≤ p → p < a + n → (nat_le a p && nat_lt p (a + n)) ≡ true
inside a n p low high = and_from _ _ (le-leb a p low) (lt-ltb p (a + n) high)

outside : (a n p : ℕ) → (a ≤ p → a + n ≤ p) → (nat_le a p && nat_lt p (a + n)) ≡ false
outside a n p out =
    elim (cases_lt p a) [
      | inl lt ↦ and_left _ _ (lt-leb a p lt)
      | inr ge ↦ and_right _ _ (le-ltb p (a + n) (out ge))
    ]

pub partner-first : (a b n p : ℕ) → a ≤ p → p < a + n → partner a b n p ≡ p - a + b
unfolding partner
partner-first a b n p low high = cond-true _ _ _ (inside a n p low high)

pub partner-second : (a b n p : ℕ) → (a ≤ p → a + n ≤ p) → b ≤ p → p < b + n → partner a b n p ≡ p - b + a
unfolding partner
partner-second a b n p out low high = cond-false _ _ _ (outside a n p out) ∙ cond-true _ _ _ (inside b n p low high)

pub partner-other : (a b n p : ℕ) → Outside a b n p → partner a b n p ≡ p
unfolding partner
partner-other a b n p out = cond-false _ _ _ (outside a n p out.first) ∙ cond-false _ _ _ (outside b n p out.second)

pub partner-none : (a b p : ℕ) → partner a b 0 p ≡ p
partner-none a b p = partner-other a b 0 p (record { first = λ le. omega arith; second = λ le. omega arith })

-- a block of one side goes to the other, and the others are as they were
step_first : (a b i w n t : ℕ) → t < w → i + w ≤ n → Apart a b n → partner a b i (b + i + t) ≡ partner a b (i + w) (a + i + t)
step_first a b i w n t lt inside (inl before) =
    partner-other a b i (b + i + t) (record { first = λ le. omega arith; second = λ le. omega arith })
    ∙ sym (partner-first a b (i + w) (a + i + t) (omega arith) (omega arith) ∙ omega arith)
step_first a b i w n t lt inside (inr after) =
    partner-other a b i (b + i + t) (record { first = λ le. absurd (omega arith); second = λ le. omega arith })
    ∙ sym (partner-first a b (i + w) (a + i + t) (omega arith) (omega arith) ∙ omega arith)

step_second : (a b i w n t : ℕ) → t < w → i + w ≤ n → Apart a b n → partner a b i (a + i + t) ≡ partner a b (i + w) (b + i + t)
step_second a b i w n t lt inside (inl before) =
    partner-other a b i (a + i + t) (record { first = λ le. omega arith; second = λ le. absurd (omega arith) })
    ∙ sym (partner-second a b (i + w) (b + i + t) (λ le. omega arith) (omega arith) (omega arith) ∙ omega arith)
step_second a b i w n t lt inside (inr after) =
    partner-other a b i (a + i + t) (record { first = λ le. omega arith; second = λ le. omega arith })
    ∙ sym (partner-second a b (i + w) (b + i + t) (λ le. absurd (omega arith)) (omega arith) (omega arith) ∙ omega arith)

step_other : (a b i w n p : ℕ) → i + w ≤ n → Apart a b n → (a + i ≤ p → a + i + w ≤ p) → (b + i ≤ p → b + i + w ≤ p) → partner a b i p ≡ partner a b (i + w) p
step_other a b i w n p inside apart not_a not_b =
    elim (cases_lt p (a + i)) [
      | inl below_a ↦ elim (cases_lt p a) [
        | inr in_a ↦ partner-first a b i p in_a below_a ∙ sym (partner-first a b (i + w) p in_a (omega arith))
        | inl before_a ↦ second (λ le. absurd (omega arith)) (λ le. absurd (omega arith))
      ]
      | inr past_a ↦ second (λ le. past_a) (λ le. omega (arith, not_a past_a))
    ]
  where
    second : (a ≤ p → a + i ≤ p) → (a ≤ p → a + (i + w) ≤ p) → partner a b i p ≡ partner a b (i + w) p
    second out out_more =
        elim (cases_lt p (b + i)) [
          | inl below_b ↦ elim (cases_lt p b) [
            | inr in_b ↦ partner-second a b i p out in_b below_b ∙ sym (partner-second a b (i + w) p out_more in_b (omega arith))
            | inl before_b ↦
                partner-other a b i p (record { first = out; second = λ le. absurd (omega arith) })
                ∙ sym (partner-other a b (i + w) p (record { first = out_more; second = λ le. absurd (omega arith) }))
          ]
          | inr past_b ↦
              partner-other a b i p (record { first = out; second = λ le. past_b })
              ∙ sym (partner-other a b (i + w) p (record { first = out_more; second = λ le. omega (arith, not_b past_b) }))
        ]

-- a number in no block of a number has another quotient
pub not_block : (w q p s : ℕ) → 0 < w → q * w ≡ s → (p / w ≡ q → ⊥) → s ≤ p → s + w ≤ p
not_block w q p s pos is not low =
    elim (cases_lt p (s + w)) [
      | inl lt ↦ absurd (not (div-eq_of_lt-le w (omega (arith, is)) (omega (arith, is))))
      | inr ge ↦ ge
    ]

-- one more piece: block number q of width w on the one side, r on the other
pub partner-step : (a b i w n q r p : ℕ) → 0 < w → q * w ≡ a + i → r * w ≡ b + i → i + w ≤ n → Apart a b n
    → partner a b i (swapped q r (p / w) * w + p % w) ≡ partner a b (i + w) p
partner-step a b i w n q r p pos eq er inside apart =
    let whole = div-add-mod p w in
    let t = p % w in
    let small : t < w = mod-lt p pos in
    elim (cases_eq (p / w) q) [
      | inl first ↦
          let to : swapped q r (p / w) * w + t ≡ b + i + t = ap (λ k. swapped q r k * w + t) first ∙ ap (λ k. k * w + t) (swapped-first q r) ∙ ap (λ k. k + t) er in
          let at : a + i + t ≡ p = omega (arith, whole, ap (λ k. w * k) first, eq) in
          ap (partner a b i) to ∙ step_first a b i w n t small inside apart ∙ ap (partner a b (i + w)) at
      | inr not_first ↦ elim (cases_eq (p / w) r) [
        | inl second ↦
            let to : swapped q r (p / w) * w + t ≡ a + i + t = ap (λ k. swapped q r k * w + t) second ∙ ap (λ k. k * w + t) (swapped-second q r) ∙ ap (λ k. k + t) eq in
            let at : b + i + t ≡ p = omega (arith, whole, ap (λ k. w * k) second, er) in
            ap (partner a b i) to ∙ step_second a b i w n t small inside apart ∙ ap (partner a b (i + w)) at
        | inr not_second ↦
            let to : swapped q r (p / w) * w + t ≡ p = ap (λ k. k * w + t) (swapped-other q r (p / w) not_first not_second) ∙ omega (arith, whole) in
            ap (partner a b i) to ∙ step_other a b i w n p inside apart (not_block w q p (a + i) pos eq not_first) (not_block w r p (b + i) pos er not_second)
      ]
    ]

-- partners come in pairs
pub partner-twice : (a b n p : ℕ) → Apart a b n → partner a b n (partner a b n p) ≡ p
partner-twice a b n p apart =
    elim (cases_lt p (a + n)) [
      | inl below_a ↦ elim (cases_lt p a) [
        | inr in_a ↦
            ap (partner a b n) (partner-first a b n p in_a below_a)
            ∙ partner-second a b n (p - a + b) (no_a apart (p - a) (omega arith)) (omega arith) (omega arith) ∙ omega arith
        | inl before_a ↦ second (λ le. absurd (omega arith))
      ]
      | inr past_a ↦ second (λ le. past_a)
    ]
  where
    no_a : Apart a b n → (t : ℕ) → t < n → a ≤ t + b → a + n ≤ t + b
    no_a (inl before) t lt le = omega arith
    no_a (inr after) t lt le = absurd (omega arith)

    other : Outside a b n p → partner a b n (partner a b n p) ≡ p
    other out = ap (partner a b n) (partner-other a b n p out) ∙ partner-other a b n p out

    second : (a ≤ p → a + n ≤ p) → partner a b n (partner a b n p) ≡ p
    second out =
        elim (cases_lt p (b + n)) [
          | inl below_b ↦ elim (cases_lt p b) [
            | inr in_b ↦
                ap (partner a b n) (partner-second a b n p out in_b below_b)
                ∙ partner-first a b n (p - b + a) (omega arith) (omega arith) ∙ omega arith
            | inl before_b ↦ other (record { first = out; second = λ le. absurd (omega arith) })
          ]
          | inr past_b ↦ other (record { first = out; second = λ le. past_b })
        ]
