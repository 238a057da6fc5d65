-- The cells after whole blocks of pages have changed places.
use Rattle.std.proofs.Common.{◌≡◌, ℕ, zero, suc, ◌+◌, ◌-◌, ◌*◌, ◌/◌, ◌%◌, ◌^◌, ◌<◌, ◌≤◌, List, sym, ap, subst, ◌∙◌, inl, inr, arith}
use Rattle.std.proofs.Math.Nat.{pow-le-pow_right}
use Rattle.std.proofs.lemmas.Bool.{cases_lt}
use Rattle.ct_base.specs.Exchange.{partner, Apart, Exchanged}
use Rattle.ct_base.specs.Walk.{page_at, page_count, IsReached}
use Rattle.ct_frames.specs.Agrees.{Agrees}
use Rattle.ct_frames.specs.Free.{FreePages}
use Rattle.ct_image.proofs.Partner.{partner-twice}
use Rattle.ct_grow.proofs.Spans.{Blocks}

-- ---- the blocks of a lower height

-- two ranges of n pages in blocks of height k
pub record Rows (a b n k : ℕ) : Type 0 where
  pub low : k ≤ 2
  pub first : a % 512 ^ k ≡ 0
  pub second : b % 512 ^ k ≡ 0
  pub whole : n % 512 ^ k ≡ 0

finer : (d k x : ℕ) → d + k ≤ 2 → x % 512 ^ (d + k) ≡ 0 → x % 512 ^ k ≡ 0
finer zero zero x le is = omega arith
finer zero (suc zero) x le is = is
finer zero (suc (suc zero)) x le is = is
finer (suc zero) zero x le is = omega arith
finer (suc zero) (suc zero) x le is = omega arith
finer (suc (suc zero)) zero x le is = omega arith
finer zero (suc (suc (suc k))) x le is = absurd (omega arith)
finer (suc zero) (suc (suc k)) x le is = absurd (omega arith)
finer (suc (suc zero)) (suc k) x le is = absurd (omega arith)
finer (suc (suc (suc d))) k x le is = absurd (omega arith)

pub rows : {a b n h : ℕ} (k : ℕ) → Blocks a b n h → k ≤ h → Rows a b n k
rows {a} {b} {n} {h} k s le =
    let d = h - k in
    let sum : h ≡ d + k = omega arith in
    let low = s.low in
    let at = λ (x : ℕ) (is : x % 512 ^ h ≡ 0). finer d k x (omega arith) (subst (λ (m : ℕ). x % 512 ^ m ≡ 0) sum is) in
    record { low = omega arith; first = at a s.first; second = at b s.second; whole = at n s.whole }

pub rows_apart : (k a b n : ℕ) → Rows a b n k → Apart a b n → Apart (a / 512 ^ k) (b / 512 ^ k) (n / 512 ^ k)
rows_apart zero a b n r (inl before) = inl (omega (arith, before))
rows_apart zero a b n r (inr after) = inr (omega (arith, after))
rows_apart (suc zero) a b n r (inl before) = inl (omega (arith, before, r.first, r.second, r.whole))
rows_apart (suc zero) a b n r (inr after) = inr (omega (arith, after, r.first, r.second, r.whole))
rows_apart (suc (suc zero)) a b n r (inl before) = inl (omega (arith, before, r.first, r.second, r.whole))
rows_apart (suc (suc zero)) a b n r (inr after) = inr (omega (arith, after, r.first, r.second, r.whole))
rows_apart (suc (suc (suc k))) a b n r apart = absurd (omega (arith, r.low))

-- a cell of this height, by its bytes and by its number: base is that of page x
pub cell_in : (k base x n c : ℕ) → k ≤ 2 → base ≡ x * 4096 → x % 512 ^ k ≡ 0 → n % 512 ^ k ≡ 0 → base ≤ c * (4096 * 512 ^ k) → c * (4096 * 512 ^ k) < base + 4096 * n → (x / 512 ^ k ≤ c) × (c < x / 512 ^ k + n / 512 ^ k)
cell_in zero base x n c le at first whole from to = (omega arith, omega arith)
cell_in (suc zero) base x n c le at first whole from to = (omega arith, omega arith)
cell_in (suc (suc zero)) base x n c le at first whole from to = (omega arith, omega arith)
cell_in (suc (suc (suc k))) base x n c le at first whole from to = absurd (omega arith)

pub in_cell : (k base x n c : ℕ) → k ≤ 2 → base ≡ x * 4096 → x % 512 ^ k ≡ 0 → n % 512 ^ k ≡ 0 → x / 512 ^ k ≤ c → c < x / 512 ^ k + n / 512 ^ k → (base ≤ c * (4096 * 512 ^ k)) × (c * (4096 * 512 ^ k) < base + 4096 * n)
in_cell zero base x n c le at first whole from to = (omega arith, omega arith)
in_cell (suc zero) base x n c le at first whole from to = (omega arith, omega arith)
in_cell (suc (suc zero)) base x n c le at first whole from to = (omega arith, omega arith)
in_cell (suc (suc (suc k))) base x n c le at first whole from to = absurd (omega arith)

pub cell_number : (k base x : ℕ) → k ≤ 2 → base ≡ x * 4096 → base / (4096 * 512 ^ k) ≡ x / 512 ^ k
cell_number zero base x le at = omega arith
cell_number (suc zero) base x le at = omega arith
cell_number (suc (suc zero)) base x le at = omega arith
cell_number (suc (suc (suc k))) base x le at = absurd (omega arith)

-- ---- exchanged cells

module _ {old new : List ℕ} {a b n h : ℕ} (e : Exchanged old new a b n) (s : Blocks a b n h) (apart : Apart a b n) where
  -- higher cells stay
  pub high_stays : (k c : ℕ) → k ≤ 4 → h < k → page_at new (4 - k) c ≡ page_at old (4 - k) c
  high_stays k c le higher =
      let wide = pow-le-pow_right {n = 512} (omega arith) {i = h + 1} {j = k} (omega arith) in
      e.above k c le (omega (arith, wide, s.short))

  pub low_swaps : (k c : ℕ) → k ≤ h → page_at new (4 - k) c ≡ page_at old (4 - k) (partner (a / 512 ^ k) (b / 512 ^ k) (n / 512 ^ k) c)
  low_swaps k c le =
      let r = rows k s le in
      let low = r.low in
      e.within k c (omega arith) r.first r.second r.whole

  -- what was reached is reached
  pub reached_on : (q : ℕ) → IsReached old q → IsReached new q
  reached_on q at = go (4 - at.depth) (omega (arith, at.few))
    where
      go : (k : ℕ) → 4 - k ≡ at.depth → IsReached new q
      go k depth = elim (cases_lt h k) [
        | inl higher ↦ record {
          depth = 4 - k;
          number = at.number;
          few = omega arith;
          is = elim (cases_lt k 5) [
            | inl small ↦ high_stays k at.number (omega arith) higher ∙ ap (λ d. page_at old d at.number) depth ∙ at.is
            | inr big ↦
                let zero_depth : 4 - k ≡ 4 - 4 = omega arith in
                let low = s.low in
                ap (λ d. page_at new d at.number) zero_depth ∙ high_stays 4 at.number (omega arith) (omega arith) ∙ ap (λ d. page_at old d at.number) (sym zero_depth ∙ depth) ∙ at.is
          ];
        }
        | inr lower ↦
            let r = rows k s lower in
            let A = a / 512 ^ k in
            let B = b / 512 ^ k in
            let N = n / 512 ^ k in
            record {
              depth = 4 - k;
              number = partner A B N at.number;
              few = omega arith;
              is = low_swaps k (partner A B N at.number) lower ∙ ap (page_at old (4 - k)) (partner-twice A B N at.number (rows_apart k a b n r apart)) ∙ ap (λ d. page_at old d at.number) depth ∙ at.is;
            }
      ]

  pub agrees_on : {frames : FreePages} → Agrees old frames → Agrees new frames
  agrees_on f = record {
    pages = f.pages ∙ sym e.count;
    free = λ q in_. e.fresh q (f.free q in_);
    all = λ q low high. elim (f.all q low (omega (arith, e.count))) [ inl free ↦ inl free | inr at ↦ inr (reached_on q at) ];
  }

-- with no pages nothing changes places
pub none_agrees : {old new : List ℕ} {a b : ℕ} {frames : FreePages} → Exchanged old new a b 0 → Agrees old frames → Agrees new frames
none_agrees {old} {new} e f = record {
  pages = f.pages ∙ sym e.count;
  free = λ q in_. e.fresh q (f.free q in_);
  all = λ q low high. elim (f.all q low (omega (arith, e.count))) [
    | inl free ↦ inl free
    | inr at ↦ inr (
        let k = 4 - at.depth in
        let depth : at.depth ≡ 4 - k = omega (arith, at.few) in
        record {
          depth = at.depth;
          number = at.number;
          few = at.few;
          is = ap (λ d. page_at new d at.number) depth ∙ e.above k at.number (omega arith) (omega (arith, Rattle.std.proofs.Math.Nat.one-le-pow k 512 (omega arith))) ∙ ap (λ d. page_at old d at.number) (sym depth) ∙ at.is;
        })
  ];
}

pub none_stays : {old new : List ℕ} {a b : ℕ} → Exchanged old new a b 0 → (k c : ℕ) → k ≤ 4 → page_at new (4 - k) c ≡ page_at old (4 - k) c
none_stays e k c le = e.above k c le (omega (arith, Rattle.std.proofs.Math.Nat.one-le-pow k 512 (omega arith)))

-- cells that stay cell by cell keep what is free
pub cells_agree : {old new : List ℕ} {frames : FreePages} → page_count new ≡ page_count old → ((d x : ℕ) → d ≤ 4 → page_at new d x ≡ page_at old d x) → Agrees old frames → Agrees new frames
cells_agree count cells f = record {
  pages = f.pages ∙ sym count;
  free = λ q in_ d x le is. f.free q in_ d x le (sym (cells d x le) ∙ is);
  all = λ q low high. elim (f.all q low (omega (arith, count))) [
    | inl free ↦ inl free
    | inr at ↦ inr (record { depth = at.depth; number = at.number; few = at.few; is = cells at.depth at.number at.few ∙ at.is })
  ];
}
