-- The lowest number of a free inode, found in parts.
use Rattle.std.proofs.Common.{◌≡◌, ◌≢◌, ℕ, zero, suc, ◌+◌, ◌-◌, ◌<◌, ◌≤◌, Some, None, refl, sym, ap, ◌∙◌, inl, inr, arith}
use Rattle.std.proofs.lemmas.Bool.{cases_eq, cases_lt, eq-eqb, ne_eqb}
use Rattle.ct_base.specs.Inode.{inode}
use Rattle.ct_base.specs.Plan.{first_free_number, free_number}

free_now : (b : ℕ → ℕ) (n steps : ℕ) → (inode b n).kind ≡ 0 → free_number b n (suc steps) ≡ Some n
unfolding free_number
free_now b n steps is = rw (eq-eqb (inode b n).kind 0 is) refl

free_next : (b : ℕ → ℕ) (n steps : ℕ) → (inode b n).kind ≢ 0 → free_number b n (suc steps) ≡ free_number b (n + 1) steps
unfolding free_number
free_next b n steps live = rw (ne_eqb (inode b n).kind 0 live) refl

-- the first of those up to an end
pub free_here : (b : ℕ → ℕ) (n past : ℕ) → n < past → (inode b n).kind ≡ 0 → free_number b n (past - n) ≡ Some n
free_here b n past lt is =
    let some : past - n ≡ suc (past - suc n) = omega arith in
    ap (free_number b n) some ∙ free_now b n (past - suc n) is

pub free_later : (b : ℕ → ℕ) (n past : ℕ) → n < past → (inode b n).kind ≢ 0 → free_number b n (past - n) ≡ free_number b (n + 1) (past - (n + 1))
free_later b n past lt live =
    let some : past - n ≡ suc (past - (n + 1)) = omega arith in
    ap (free_number b n) some ∙ free_next b n (past - (n + 1)) live

pub free_end : (b : ℕ → ℕ) (n past : ℕ) → past ≤ n → free_number b n (past - n) ≡ None
unfolding free_number
free_end b n past le = let none : past - n ≡ 0 = omega arith in ap (free_number b n) none

-- what is found among the first is found
pub free_first : (b : ℕ → ℕ) (n j k x : ℕ) → free_number b n j ≡ Some x → free_number b n (j + k) ≡ Some x
unfolding free_number
free_first b n zero k x is = absurd (cc)
free_first b n (suc j) k x is =
    let more : suc j + k ≡ suc (j + k) = omega arith in
    ap (free_number b n) more ∙ elim (cases_eq (inode b n).kind 0) [
      | inl here ↦ free_now b n (j + k) here ∙ sym (free_now b n j here) ∙ is
      | inr live ↦ free_next b n (j + k) live ∙ free_first b (n + 1) j k x (sym (free_next b n j live) ∙ is)
    ]

-- and where none is, the search goes on behind them
pub free_behind : (b : ℕ → ℕ) (n j k : ℕ) → free_number b n j ≡ None → free_number b n (j + k) ≡ free_number b (n + j) k
free_behind b n zero k is = ap (free_number b n) (omega arith) ∙ ap (λ m. free_number b m k) (omega arith)
free_behind b n (suc j) k is =
    let more : suc j + k ≡ suc (j + k) = omega arith in
    let last : n + 1 + j ≡ n + suc j = omega arith in
    ap (free_number b n) more ∙ elim (cases_eq (inode b n).kind 0) [
      | inl here ↦ absurd (let some = sym (free_now b n j here) ∙ is in cc)
      | inr live ↦ free_next b n (j + k) live ∙ free_behind b (n + 1) j k (sym (free_next b n j live) ∙ is) ∙ ap (λ m. free_number b m k) last
    ]

pub free_split : (b : ℕ → ℕ) (n mid past : ℕ) → n ≤ mid → mid ≤ past → free_number b n (past - n) ≡ free_number b n (mid - n + (past - mid))
free_split b n mid past low high = let sum : past - n ≡ mid - n + (past - mid) = omega arith in ap (free_number b n) sum

-- where all below a number are live, it begins there
live_step : (b : ℕ → ℕ) (n past : ℕ) → (inode b n).kind ≢ 0 → free_number b n (past - n) ≡ free_number b (n + 1) (past - (n + 1))
live_step b n past live = elim (cases_lt n past) [
  | inl less ↦ free_later b n past less live
  | inr more ↦ free_end b n past more ∙ sym (free_end b (n + 1) past (omega (arith, more)))
]

pub live_below : (b : ℕ → ℕ) (count n : ℕ) → 1 ≤ n → ((i : ℕ) → 1 ≤ i → i < n → (inode b i).kind ≢ 0) → first_free_number b count ≡ free_number b n (count + 1 - n)
live_below b count zero some live = absurd (omega arith)
live_below b count (suc zero) some live = ap (free_number b 1) (omega arith)
live_below b count (suc (suc n)) some live =
    let next : suc n + 1 ≡ suc (suc n) = omega arith in
    live_below b count (suc n) (omega arith) (λ i low high. live i low (omega (arith, high)))
    ∙ live_step b (suc n) (count + 1) (live (suc n) (omega arith) (omega arith))
    ∙ ap (λ m. free_number b m (count + 1 - m)) next
