-- How many numbers pass a test: where those of another test go to them, where they change places, and in two parts.
use Rattle.std.proofs.Common.{◌≡◌, ℕ, zero, suc, ◌+◌, ◌<◌, ◌≤◌, Bool, true, false, refl, sym, ap, ◌∙◌, inl, inr, arith}
use Rattle.std.specs.Prelude.{◌==◌, ◌&&◌, ◌||◌, not}
use Rattle.std.proofs.lemmas.Bool.{cases_Bool, cases_lt, and_from, and_right, and_left, not_from_true, not_from_false, eq-eqb, ne_eqb}
use Rattle.ct_base.specs.Exchange.{partner, Apart}
use Rattle.ct_base.specs.Wants.{count_below}
use Rattle.ct_image.proofs.MissingLess.{count_below-less}
use Rattle.ct_image.proofs.Partner.{partner-first, partner-second, partner-other, partner-twice}

-- Each number below n that passes p goes to one below m that passes q, and no two go to the same.
pub record Injects (p : ℕ → Bool) (n : ℕ) (q : ℕ → Bool) (m : ℕ) : Type 0 where
  pub to : ℕ → ℕ
  pub low : (x : ℕ) → x < n → p x ≡ true → to x < m
  pub passes : (x : ℕ) → x < n → p x ≡ true → q (to x) ≡ true
  pub once : (x y : ℕ) → x < n → y < n → p x ≡ true → p y ≡ true → to x ≡ to y → x ≡ y

-- a test without one number
abbrev but : (ℕ → Bool) → ℕ → ℕ → Bool
but q a y = q y && not (y == a)

but_away : (q : ℕ → Bool) (a y : ℕ) → (y ≡ a → ⊥) → q y ≡ but q a y
but_away q a y away = elim (cases_Bool (q y)) [
  | inl t ↦ t ∙ sym (and_from _ _ t (not_from_false _ (ne_eqb y a away)))
  | inr f ↦ f ∙ sym (and_left _ _ f)
]

-- so at least as many pass q
pub injected : (p : ℕ → Bool) (n : ℕ) (q : ℕ → Bool) (m : ℕ) → Injects p n q m → count_below p n ≤ count_below q m
unfolding count_below
injected p zero q m i = omega arith
injected p (suc n) q m i = elim (cases_Bool (p n)) [
  | inr f ↦ rw f (omega (
    arith,
    injected p n q m (record {
      to = i.to;
      low = λ x lt is. i.low x (omega arith) is;
      passes = λ x lt is. i.passes x (omega arith) is;
      once = λ x y lt lt' is is'. i.once x y (omega arith) (omega arith) is is';
    }),
  ))
  | inl t ↦
      let last : n < suc n = omega arith in
      let a = i.to n in
      let taken : but q a a ≡ false = and_right (q a) _ (not_from_true _ (eq-eqb a a refl)) in
      let one = count_below-less q (but q a) m a (i.low n last t) (i.passes n last t) taken (λ y away. sym (but_away q a y away)) in
      let rest = injected p n (but q a) m (record {
        to = i.to;
        low = λ x lt is. i.low x (omega arith) is;
        passes = λ x lt is. and_from _ _ (i.passes x (omega arith) is) (not_from_false _ (ne_eqb (i.to x) a (λ e.
            let same = i.once x n (omega arith) last is t e in omega (arith, same, lt))));
        once = λ x y lt lt' is is'. i.once x y (omega arith) (omega arith) is is';
      }) in
      rw t (omega (arith, one, rest))
]

-- a test that all pass
pub count_below-every : (n : ℕ) → count_below (λ x. true) n ≡ n
unfolding count_below
count_below-every zero = refl
count_below-every (suc n) = omega (arith, count_below-every n)

-- A change of places among the numbers below n: it comes back when done twice.
pub record TurnsBack (to : ℕ → ℕ) (n : ℕ) : Type 0 where
  pub low : (x : ℕ) → x < n → to x < n
  pub twice : (x : ℕ) → to (to x) ≡ x

-- as many pass before it and after it
pub count_below-turned : (to : ℕ → ℕ) (q : ℕ → Bool) (n : ℕ) → TurnsBack to n → count_below (λ x. q (to x)) n ≡ count_below q n
count_below-turned to q n t =
    let once : (x y : ℕ) → to x ≡ to y → x ≡ y = λ x y same. sym (t.twice x) ∙ ap to same ∙ t.twice y in
    let more = injected (λ x. q (to x)) n q n (record { to = to; low = λ x lt is. t.low x lt; passes = λ x lt is. is; once = λ x y lt lt' is is' same. once x y same }) in
    let less = injected q n (λ x. q (to x)) n (record { to = to; low = λ x lt is. t.low x lt; passes = λ x lt is. ap q (t.twice x) ∙ is; once = λ x y lt lt' is is' same. once x y same }) in
    omega (arith, more, less)

pub turns_none : (n : ℕ) → TurnsBack (λ x. x) n
turns_none n = record { low = λ x lt. lt; twice = λ x. refl }

-- two equally long ranges that do not meet
pub partner_turns : (a b m n : ℕ) → Apart a b m → a + m ≤ n → b + m ≤ n → TurnsBack (partner a b m) n
partner_turns a b m n apart first second = record {
  low = λ x lt. elim (cases_lt x (a + m)) [
    | inl below ↦ elim (cases_lt x a) [
      | inr ge ↦ let e = partner-first a b m x ge below in omega (arith, e)
      | inl lt' ↦ other x lt (λ le. absurd (omega arith))
    ]
    | inr past ↦ other x lt (λ le. past)
  ];
  twice = λ x. partner-twice a b m x apart;
}
  where
    other : (x : ℕ) → x < n → (a ≤ x → a + m ≤ x) → partner a b m x < n
    other x lt out = elim (cases_lt x (b + m)) [
      | inl below ↦ elim (cases_lt x b) [
        | inr ge ↦ let e = partner-second a b m x out ge below in omega (arith, e)
        | inl lt' ↦ let e = partner-other a b m x (record { first = out; second = λ le. absurd (omega arith) }) in omega (arith, e)
      ]
      | inr past ↦ let e = partner-other a b m x (record { first = out; second = λ le. past }) in omega (arith, e)
    ]

-- The numbers that pass r are those that pass p or q, and none passes both.
pub count_below-parts : (p q r : ℕ → Bool) (n : ℕ) → ((x : ℕ) → r x ≡ (p x || q x)) → ((x : ℕ) → p x ≡ true → q x ≡ false) → count_below p n + count_below q n ≡ count_below r n
unfolding count_below
count_below-parts p q r zero is apart = refl
count_below-parts p q r (suc n) is apart =
    let rest = count_below-parts p q r n is apart in
    elim (cases_Bool (p n)) [
      | inl t ↦ rw (is n, t, apart n t) (omega (arith, rest))
      | inr f ↦ elim (cases_Bool (q n)) [
        | inl t ↦ rw (is n, f, t) (omega (arith, rest))
        | inr g ↦ rw (is n, f, g) (omega (arith, rest))
      ]
    ]
