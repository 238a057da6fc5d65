-- The exchange goes on by one piece.
use Rattle.std.proofs.Common.{◌≡◌, ◌≢◌, ℕ, suc, ◌+◌, ◌-◌, ◌*◌, ◌/◌, ◌%◌, ◌^◌, ◌<◌, ◌≤◌, List, refl, sym, ap, ◌∙◌, inl, inr, arith}
use Rattle.std.proofs.lemmas.Bool.{cases_lt}
use Rattle.std.proofs.Math.Nat.{div-add-mod, mod-lt, one-le-pow, div-div-eq-div-mul, zero-div, mul-div_cancel, div-le_of_le-mul, mul-add-mod_self_left, mul-le-mul_left}
use Rattle.std.proofs.lemmas.Nat.{pow-add}
use Rattle.ct_base.specs.Walk.{page_at, AreTables}
use Rattle.ct_image.proofs.Swap.{Swaps, same_count, swap_at, moved-above, moved-below, moved-twice, swapped-other, fresh_stays, tables_new, moved, swapped}
use Rattle.ct_base.specs.Exchange.{partner, Apart, Outside, Exchanged}
use Rattle.ct_image.proofs.Partner.{partner-none, partner-step, partner-twice}

pub exchanged_none : (img : List ℕ) (a b : ℕ) → AreTables img → Exchanged img img a b 0
exchanged_none img a b tables =
    record {
      tables = tables;
      pages = λ p. sym (ap (page_at img 4) (partner-none a b p));
      cells = λ e p le out. refl;
      contents = λ p o lt ne. refl;
      within = λ k c le first second whole. sym (ap (page_at img (4 - k)) (ap (λ m. partner (a / 512 ^ k) (b / 512 ^ k) m c) (zero-div (512 ^ k)) ∙ partner-none (a / 512 ^ k) (b / 512 ^ k) c));
      above = λ k c le lt. refl;
      fresh = λ q f. f;
      reached = λ q f. f;
      count = refl;
      size = refl;
    }

-- a cell that is in neither of the two blocks stays
moved-outside : (d a b e k p : ℕ) → k + d ≡ 3 → e ≤ 4 → (p / 512 ^ k ≡ a → ⊥) → (p / 512 ^ k ≡ b → ⊥) → moved d a b e (p / 512 ^ (4 - e)) ≡ p / 512 ^ (4 - e)
moved-outside d a b e k p depth le not_a not_b =
    elim (cases_lt d e) [
      | inr above ↦ moved-above d a b e (p / 512 ^ (4 - e)) above
      | inl below ↦
          let m = e - suc d in
          let y = p / 512 ^ (4 - e) in
          let at : suc (m + d) ≡ e = omega arith in
          let up : y / 512 ^ m ≡ p / 512 ^ k =
          div-div-eq-div-mul p (512 ^ (4 - e)) (512 ^ m) ∙ ap (λ w. p / w) (sym (pow-add 512 (4 - e) m)) ∙ ap (λ j. p / 512 ^ j) (omega (arith, depth)) in
          ap (λ j. moved d a b j y) (sym at) ∙ moved-below d a b m y
          ∙ ap (λ j. j * 512 ^ m + y % 512 ^ m) (swapped-other a b (y / 512 ^ m) (λ is. not_a (sym up ∙ is)) (λ is. not_b (sym up ∙ is)))
          ∙ omega (arith, div-add-mod y (512 ^ m))
    ]

le-cancel : (m n p : ℕ) → 0 < p → m * p ≤ n * p → m ≤ n
le-cancel m n p pos le = omega (arith, mul-div_cancel m pos, div-le_of_le-mul p {m = m * p} {n = n} (omega (arith, le)))

eq-cancel : (m n p : ℕ) → 0 < p → m * p ≡ n * p → m ≡ n
eq-cancel m n p pos e = sym (mul-div_cancel m pos) ∙ ap (λ x. x / p) e ∙ mul-div_cancel n pos

whole_of : (a p : ℕ) → a % p ≡ 0 → a / p * p ≡ a
whole_of a p zero_left = omega (arith, div-add-mod a p, zero_left)

-- A piece of height k goes on at offset i. Cells of 512 ^ j pages, j at most k, are aligned in what was exchanged so far.
record Inner (a b i n k j : ℕ) : Type 0 where
  low : j ≤ k
  first : a % 512 ^ j ≡ 0
  second : b % 512 ^ j ≡ 0
  whole : (i + 512 ^ k) % 512 ^ j ≡ 0
  inside : i + 512 ^ k ≤ n
  apart : Apart a b n

module _ {a b i n k j : ℕ} (r : Inner a b i n k j) where
  abbrev P : ℕ
  P = 512 ^ j

  abbrev W : ℕ
  W = 512 ^ (k - j)

  pos : 0 < P
  pos = one-le-pow j 512 (omega arith)

  width : W * P ≡ 512 ^ k
  width = sym (pow-add 512 (k - j) j) ∙ ap (λ m. 512 ^ m) (omega (arith, r.low))

  inner_whole : i % P ≡ 0
  inner_whole = sym (mul-add-mod_self_left P W i) ∙ ap (λ m. m % P) (omega (arith, width)) ∙ r.whole

  inner_sum : (i + 512 ^ k) / P ≡ i / P + W
  inner_sum = ap (λ m. m / P) (omega (arith, width, whole_of i P inner_whole)) ∙ mul-div_cancel (i / P + W) pos

  inner_at : (s q : ℕ) → s % P ≡ 0 → q * 512 ^ k ≡ s + i → q * W ≡ s / P + i / P
  inner_at s q aligned at = eq-cancel (q * W) (s / P + i / P) P pos (omega (arith, at, ap (λ m. q * m) width, whole_of s P aligned, whole_of i P inner_whole))

  inner_apart : Apart (a / P) (b / P) (i / P + W)
  inner_apart =
      let wa = whole_of a P r.first in
      let wb = whole_of b P r.second in
      let wi = whole_of i P inner_whole in
      let before : a + n ≤ b → a / P + (i / P + W) ≤ b / P = λ le. le-cancel (a / P + (i / P + W)) (b / P) P pos (omega (arith, le, wa, wb, wi, width, r.inside)) in
      let after : b + n ≤ a → b / P + (i / P + W) ≤ a / P = λ le. le-cancel (b / P + (i / P + W)) (a / P) P pos (omega (arith, le, wa, wb, wi, width, r.inside)) in
      elim r.apart [ inl le ↦ inl (before le) | inr le ↦ inr (after le) ]

-- the exchange of a piece of height k, whose entries are those of tables of level k + 1
pub exchanged-step : {old mid new : List ℕ} {a b i n d x ix z iz : ℕ} (k : ℕ) → Exchanged old mid a b i → Swaps mid new d x ix z iz → k + d ≡ 3
    → (x * 512 + ix) * 512 ^ k ≡ a + i → (z * 512 + iz) * 512 ^ k ≡ b + i → i + 512 ^ k ≤ n → Apart a b n
    → ((j : ℕ) → j ≤ 3 → a % 512 ^ j ≡ 0 → b % 512 ^ j ≡ 0 → (i + 512 ^ k) % 512 ^ j ≡ 0 → j ≤ k) → Exchanged old new a b (i + 512 ^ k)
exchanged-step {old} {mid} {new} {a} {b} {i} {n} {d} {x} {ix} {z} {iz} k before swaps depth at_a at_b inside apart greedy =
    let qa = x * 512 + ix in
    let qb = z * 512 + iz in
    let w = 512 ^ k in
    let pos : 0 < w = one-le-pow k 512 (omega arith) in
    let below : suc (k + d) ≡ 4 = omega (arith, depth) in
    record {
      tables = tables_new swaps;
      pages = λ p.
          swap_at swaps 4 p (omega arith) ∙ before.pages _
          ∙ ap (page_at old 4) (ap (partner a b i) (ap (λ j. moved d qa qb j p) (sym below) ∙ moved-below d qa qb k p) ∙ partner-step a b i w n qa qb p pos at_a at_b inside apart);
      cells = λ e p le out.
          let out_before : Outside a b i p = record { first = λ low. omega (arith, out.first low); second = λ low. omega (arith, out.second low) } in
          let whole = div-add-mod p w in
          let small = mod-lt p pos in
          let not_a : p / w ≡ qa → ⊥ = λ is. absurd (omega (arith, out.first (omega (arith, whole, ap (λ j. w * j) is, at_a)), whole, small, ap (λ j. w * j) is, at_a)) in
          let not_b : p / w ≡ qb → ⊥ = λ is. absurd (omega (arith, out.second (omega (arith, whole, ap (λ j. w * j) is, at_b)), whole, small, ap (λ j. w * j) is, at_b)) in
          swap_at swaps e (p / 512 ^ (4 - e)) le ∙ ap (page_at mid e) (moved-outside d qa qb e k p depth le not_a not_b) ∙ before.cells e p le out_before;
      contents = λ p o lt ne.
          let q = page_at old 4 p in
          let apart_before : Apart a b i = elim apart [ inl l ↦ inl (omega arith) | inr l ↦ inr (omega arith) ] in
          let p' = partner a b i p in
          let at : page_at mid 4 p' ≡ q = before.pages p' ∙ ap (page_at old 4) (partner-twice a b i p apart_before) in
          let there : page_at mid 4 p' ≢ 0 = λ none. ne (sym at ∙ none) in
          swaps.others (q * 512 + o)
          (λ here. omega (arith, swaps.depth, (swaps.tables.once 4 p' d x (omega arith) (omega (arith, swaps.depth)) there (omega (arith, at, here, lt, swaps.index_i))).0))
          (λ here. omega (arith, swaps.depth, (swaps.tables.once 4 p' d z (omega arith) (omega (arith, swaps.depth)) there (omega (arith, at, here, lt, swaps.index_j))).0))
          ∙ before.contents p o lt ne;
      within = λ j c le first second whole.
          let r : Inner a b i n k j = record { low = greedy j le first second whole; first = first; second = second; whole = whole; inside = inside; apart = apart } in
          let u = 512 ^ (k - j) in
          let up : suc ((k - j) + d) ≡ 4 - j = omega (arith, depth, r.low) in
          let c' = swapped qa qb (c / u) * u + c % u in
          swap_at swaps (4 - j) c (omega arith)
          ∙ ap (page_at mid (4 - j)) (ap (λ e. moved d qa qb e c) (sym up) ∙ moved-below d qa qb (k - j) c)
          ∙ before.within j c' le first second (inner_whole r)
          ∙ ap (page_at old (4 - j)) (partner-step (a / 512 ^ j) (b / 512 ^ j) (i / 512 ^ j) u (i / 512 ^ j + u) qa qb c (one-le-pow (k - j) 512 (omega arith)) (inner_at r a qa first at_a) (inner_at r b qb second at_b) (omega arith) (inner_apart r)
          ∙ ap (λ m. partner (a / 512 ^ j) (b / 512 ^ j) m c) (sym (inner_sum r)));
      above = λ m c le lt.
          let less : k < m = elim (cases_lt k m) [ inl less ↦ less | inr ge ↦ absurd (omega (arith, lt, pow-add 512 m (k - m), (let at : m + (k - m) ≡ k = omega (arith, ge) in ap (λ e. 512 ^ e) at), mul-le-mul_left (512 ^ m) (one-le-pow (k - m) 512 (omega arith)))) ] in
          swap_at swaps (4 - m) c (omega arith) ∙ ap (page_at mid (4 - m)) (moved-above d qa qb (4 - m) c (omega (arith, depth, less))) ∙ before.above m c le (omega (arith, lt));
      fresh = λ q f. fresh_stays swaps q (before.fresh q f);
      reached = λ q f. before.reached q (λ e y le is. f e (moved d qa qb e y) le (swap_at swaps e (moved d qa qb e y) le ∙ ap (page_at mid e) (moved-twice d qa qb e y) ∙ is));
      count = same_count swaps ∙ before.count;
      size = swaps.size ∙ before.size;
    }
