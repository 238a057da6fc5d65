-- Two ranges of pages have changed places: what the image shows at its addresses, and the rules on space.
use Rattle.std.proofs.Common.{◌≡◌, ℕ, ◌+◌, ◌-◌, ◌*◌, ◌/◌, ◌%◌, ◌^◌, ◌<◌, ◌≤◌, true, false, List, sym, ap, ◌∙◌, inl, inr, arith}
use Rattle.std.proofs.lemmas.Bool.{cases_Bool, cases_eq, cases_lt, le-leb, lt-leb, lt-ltb, le-ltb, and_from, and_left, and_right, cond-true, cond-false}
use Rattle.ct_base.specs.Exchange.{Apart, Exchanged, partner}
use Rattle.ct_base.specs.View.{is_seen, view}
use Rattle.ct_base.specs.Walk.{word, byte_in, page_at}
use Rattle.ct_image.proofs.Partner.{partner-first, partner-second, partner-other}
use Rattle.ct_image.proofs.Steps.{walk-cell}
use Rattle.ct_state.proofs.Carry.{view-seen, view-other}
use Rattle.ct_state.proofs.Commit.{exchanged_byte}
use Rattle.ct_state.proofs.Neutral.{seen-bounds}

-- ---- addresses

-- the partner of an address lies in the partner of its page
pub partner-pages : (a b n v : ℕ) → Apart a b n → partner (a * 4096) (b * 4096) (n * 4096) v ≡ partner a b n (v / 4096) * 4096 + v % 4096
partner-pages a b n v away = elim (cases_lt v (a * 4096)) [
  | inl before ↦ second (λ le. absurd (omega arith)) (λ le. absurd (omega (arith, le, before)))
  | inr from ↦ elim (cases_lt v ((a + n) * 4096)) [
    | inl lt ↦
        let p : partner a b n (v / 4096) ≡ v / 4096 - a + b = partner-first a b n (v / 4096) (omega (arith, from)) (omega (arith, lt)) in
        partner-first (a * 4096) (b * 4096) (n * 4096) v from (omega (arith, lt)) ∙ omega (arith, from, p)
    | inr past ↦ second (λ le. omega (arith, past)) (λ le. omega (arith, past))
  ]
]
  where
    second : (a * 4096 ≤ v → a * 4096 + n * 4096 ≤ v) → (a ≤ v / 4096 → a + n ≤ v / 4096) → partner (a * 4096) (b * 4096) (n * 4096) v ≡ partner a b n (v / 4096) * 4096 + v % 4096
    second out out_page = elim (cases_lt v (b * 4096)) [
      | inl before ↦ other (λ le. absurd (omega (arith, le, before))) (λ le. absurd (omega (arith, le, before)))
      | inr from ↦ elim (cases_lt v ((b + n) * 4096)) [
        | inl lt ↦
            let p : partner a b n (v / 4096) ≡ v / 4096 - b + a = partner-second a b n (v / 4096) out_page (omega (arith, from)) (omega (arith, lt)) in
            partner-second (a * 4096) (b * 4096) (n * 4096) v out from (omega (arith, lt)) ∙ omega (arith, from, p)
        | inr past ↦ other (λ le. omega (arith, past)) (λ le. omega (arith, past))
      ]
    ]
      where
        other : (b * 4096 ≤ v → b * 4096 + n * 4096 ≤ v) → (b ≤ v / 4096 → b + n ≤ v / 4096) → partner (a * 4096) (b * 4096) (n * 4096) v ≡ partner a b n (v / 4096) * 4096 + v % 4096
        other out' out_page' =
            partner-other (a * 4096) (b * 4096) (n * 4096) v (record { first = out; second = out' })
            ∙ sym (ap (λ p. p * 4096 + v % 4096) (partner-other a b n (v / 4096) (record { first = out_page; second = out_page' })) ∙ omega arith)

-- partners of what lies between two limits lie there too
pub partner-between : (low high a b n p : ℕ) → low ≤ a → low ≤ b → a + n ≤ high → b + n ≤ high → low ≤ p → p < high → (low ≤ partner a b n p) × (partner a b n p < high)
partner-between low high a b n p la lb ha hb lp hp = elim (cases_lt p a) [
  | inl before ↦ second (λ le. absurd (omega (arith, le, before)))
  | inr from ↦ elim (cases_lt p (a + n)) [
    | inl lt ↦ let is = partner-first a b n p from lt in (omega (arith, is, lb), omega (arith, is, lt, from, hb))
    | inr past ↦ second (λ le. past)
  ]
]
  where
    second : (a ≤ p → a + n ≤ p) → (low ≤ partner a b n p) × (partner a b n p < high)
    second out = elim (cases_lt p b) [
      | inl before ↦ let is = partner-other a b n p (record { first = out; second = λ le. absurd (omega (arith, le, before)) }) in (omega (arith, is, lp), omega (arith, is, hp))
      | inr from ↦ elim (cases_lt p (b + n)) [
        | inl lt ↦ let is = partner-second a b n p out from lt in (omega (arith, is, la), omega (arith, is, lt, from, ha))
        | inr past ↦ let is = partner-other a b n p (record { first = out; second = λ le. past }) in (omega (arith, is, lp), omega (arith, is, hp))
      ]
    ]

-- ---- what is seen

-- Two ranges of pages from root slot 10 on have changed places, and page 0 is as it was.
pub record Swaps (old new : List ℕ) (a b n : ℕ) : Type 0 where
  pub exchanged : Exchanged old new a b n
  pub head : (w : ℕ) → w < 512 → word new w ≡ word old w
  pub first_from : 10 * 2 ^ 27 ≤ a
  pub first_to : a + n ≤ 2 ^ 36
  pub second_from : 10 * 2 ^ 27 ≤ b
  pub second_to : b + n ≤ 2 ^ 36
  pub apart : Apart a b n

module _ {old new : List ℕ} {a b n : ℕ} (s : Swaps old new a b n) where
  -- each byte is that of the partner
  pub swapped_view : (v : ℕ) → view new v ≡ view old (partner (a * 4096) (b * 4096) (n * 4096) v)
  swapped_view v = elim (cases_Bool (is_seen v)) [
    | inl seen ↦
        let bounds = seen-bounds v seen in
        elim bounds.1 [
          | inl low ↦
              let is : partner (a * 4096) (b * 4096) (n * 4096) v ≡ v = partner-other (a * 4096) (b * 4096) (n * 4096) v (record { first = λ le. absurd (omega (arith, le, low, s.first_from)); second = λ le. absurd (omega (arith, le, low, s.second_from)) }) in
              let page : partner a b n (v / 4096) ≡ v / 4096 = partner-other a b n (v / 4096) (record { first = λ le. absurd (omega (arith, le, low, s.first_from)); second = λ le. absurd (omega (arith, le, low, s.second_from)) }) in
              view-seen new v seen ∙ exchanged_byte s.exchanged v bounds.0 ∙ ap (λ p. byte_in old (page_at old 4 p) (v % 4096)) page
              ∙ sym (ap (λ t. byte_in old t (v % 4096)) (walk-cell old v bounds.0)) ∙ sym (view-seen old v seen) ∙ ap (view old) (sym is)
          | inr high ↦ above v seen bounds.0 high
        ]
    | inr other ↦
        let is : partner (a * 4096) (b * 4096) (n * 4096) v ≡ v = partner-other (a * 4096) (b * 4096) (n * 4096) v (record { first = λ le. out a s.first_from s.first_to other le; second = λ le. out b s.second_from s.second_to other le }) in
        view-other new v other ∙ sym (ap (view old) is ∙ view-other old v other)
  ]
    where
      seen_high : (v : ℕ) → 10 * 2 ^ 39 ≤ v → v < 2 ^ 48 → is_seen v ≡ true
      seen_high v from to = grind arith

      out : (c : ℕ) → 10 * 2 ^ 27 ≤ c → c + n ≤ 2 ^ 36 → is_seen v ≡ false → c * 4096 ≤ v → c * 4096 + n * 4096 ≤ v
      out c low high not_seen le = elim (cases_lt v (c * 4096 + n * 4096)) [
        | inr past ↦ past
        | inl lt ↦ absurd (Rattle.std.proofs.lemmas.Bool.false≢true (sym not_seen ∙ seen_high v (omega (arith, low, le)) (omega (arith, lt, high))))
      ]

      above : (v : ℕ) → is_seen v ≡ true → v < 2 ^ 48 → 10 * 2 ^ 39 ≤ v → view new v ≡ view old (partner (a * 4096) (b * 4096) (n * 4096) v)
      above v seen small high =
          let q = partner a b n (v / 4096) in
          let is = partner-pages a b n v s.apart in
          let between = partner-between (10 * 2 ^ 27) (2 ^ 36) a b n (v / 4096) s.first_from s.second_from s.first_to s.second_to (omega (arith, high)) (omega (arith, small)) in
          let u = q * 4096 + v % 4096 in
          let u_page : q ≡ (q * 4096 + v % 4096) / 4096 = omega arith in
          let u_index : v % 4096 ≡ (q * 4096 + v % 4096) % 4096 = omega arith in
          let u_small : q * 4096 + v % 4096 < 2 ^ 48 = omega (arith, between.1) in
          let u_seen : is_seen (q * 4096 + v % 4096) ≡ true = seen_high (q * 4096 + v % 4096) (omega (arith, between.0)) u_small in
          view-seen new v seen ∙ exchanged_byte s.exchanged v small
          ∙ ap (λ p. byte_in old (page_at old 4 p) (v % 4096)) u_page
          ∙ ap (λ k. byte_in old (page_at old 4 ((q * 4096 + v % 4096) / 4096)) k) u_index
          ∙ sym (ap (λ t. byte_in old t ((q * 4096 + v % 4096) % 4096)) (walk-cell old (q * 4096 + v % 4096) u_small))
          ∙ sym (view-seen old (q * 4096 + v % 4096) u_seen)
          ∙ ap (view old) (sym is)
