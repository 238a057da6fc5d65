-- How many pages of an image are free.
use Rattle.std.proofs.Common.{◌≡◌, ℕ, zero, suc, ◌+◌, ◌≤◌, List, [], ◌∷◌, length, refl, sym, subst, ◌∙◌, ◌⊎◌, inl, inr, arith}
use Rattle.std.specs.Prelude.{Contains}
use Rattle.std.proofs.lemmas.Bool.{cases_lt}
use Rattle.ct_base.specs.Free.{HasFreePages, IsFreePage, IsRising}
use Rattle.ct_base.specs.Walk.{page_count}
use Rattle.ct_call.proofs.Vacant.{rising_same}

-- the list has the free pages from lo on
record AreFrom (img : List ℕ) (lo : ℕ) (pages : List ℕ) : Type 0 where
  pub rising : IsRising pages
  pub low : (page : ℕ) → Contains pages page → lo ≤ page
  pub free : (page : ℕ) → Contains pages page → IsFreePage img page
  pub all : (page : ℕ) → lo ≤ page → IsFreePage img page → Contains pages page

in_list : (x q : ℕ) (xs : List ℕ) → Contains (x ∷ xs) q → (x ≡ q) ⊎ Contains xs q
in_list x q xs (zero, lt, e) = inl e
in_list x q xs (suc k, lt, e) = inr (k, omega arith, e)

with_page : (img : List ℕ) (lo : ℕ) (pages : List ℕ) → AreFrom img (suc lo) pages → IsFreePage img lo → AreFrom img lo (lo ∷ pages)
with_page img lo pages are is = record {
  rising = (λ q c. omega (arith, are.low q c), are.rising);
  low = λ q c. elim (in_list lo q pages c) [ inl same ↦ omega (arith, same) | inr rest ↦ omega (arith, are.low q rest) ];
  free = λ q c. elim (in_list lo q pages c) [ inl same ↦ subst (IsFreePage img) same is | inr rest ↦ are.free q rest ];
  all = λ q low free. elim (cases_lt lo q) [
    | inl more ↦ let c = are.all q (omega (arith, more)) free in (suc c.0, omega (arith, c.1), c.2)
    | inr here ↦ (0, omega arith, omega (arith, low, here))
  ];
}

without_page : (img : List ℕ) (lo : ℕ) (pages : List ℕ) → AreFrom img (suc lo) pages → (IsFreePage img lo → ⊥) → AreFrom img lo pages
without_page img lo pages are taken = record {
  rising = are.rising;
  low = λ q c. omega (arith, are.low q c);
  free = are.free;
  all = λ q low free. elim (cases_lt lo q) [
    | inl more ↦ are.all q (omega (arith, more)) free
    | inr here ↦ let same : q ≡ lo = omega (arith, low, here) in absurd (taken (subst (IsFreePage img) same free))
  ];
}

-- the free pages cannot fail to have a list
listed : (img : List ℕ) (k lo : ℕ) → lo + k ≡ page_count img → ((pages : List ℕ) → AreFrom img lo pages → ⊥) → ⊥
listed img zero lo end never = never [] (record {
  rising = tt;
  low = λ q c. absurd (omega (arith, c.1));
  free = λ q c. absurd (omega (arith, c.1));
  all = λ q low free. absurd (omega (arith, end, low, free.to));
})
listed img (suc k) lo end never = listed img k (suc lo) (omega (arith, end)) (λ pages are.
    never pages (without_page img lo pages are (λ free. never (lo ∷ pages) (with_page img lo pages are free))))

-- nor a number
pub counted : (img : List ℕ) → ((count : ℕ) → HasFreePages img count → ⊥) → ⊥
counted img never = listed img (page_count img) 0 (omega arith) (λ pages are.
    never (length pages) (record { pages = pages; are = record { rising = are.rising; exact = λ q. (are.free q, are.all q (omega arith)) }; many = refl }))

-- and there is one number
pub counted_once : (img : List ℕ) (n m : ℕ) → HasFreePages img n → HasFreePages img m → n ≡ m
counted_once img n m one two =
    sym one.many
    ∙ rising_same one.pages two.pages one.are.rising two.are.rising (λ q c. (two.are.exact q).1 ((one.are.exact q).0 c)) (λ q c. (one.are.exact q).1 ((two.are.exact q).0 c))
    ∙ two.many
