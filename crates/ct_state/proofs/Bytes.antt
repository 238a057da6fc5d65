-- Numbers and objects read from bytes.
use Rattle.std.proofs.Common.{◌≡◌, ℕ, zero, suc, ◌+◌, ◌^◌, ◌<◌, ◌≤◌, true, [], ◌∷◌, refl, sym, ap, ◌∙◌, subst, ◌⊎◌, inl, inr, arith}
use Rattle.std.specs.Prelude.{nat_le, ◌&&◌}
use Rattle.std.proofs.lemmas.Bool.{cases_Bool, cases_eq, cases_lt, eq-eqb, ne_eqb, and_parts, and_from, leb-true, ltb-true, le-leb, lt-ltb, le-ltb}
use Rattle.std.specs.Int.{w64, from_le_bytes}
use Rattle.ct_base.specs.Inode.{little, inode, IsNumber}
use Rattle.ct_base.specs.Objects.{object, objects, no_object, content}
use Rattle.ct_base.specs.Slots.{bytes_from}

pub little-same : (b c : ℕ → ℕ) (v w n : ℕ) → ((k : ℕ) → k < n → c (w + k) ≡ b (v + k)) → little c w n ≡ little b v n
unfolding little
little-same b c v w zero same = refl
little-same b c v w (suc n) same =
    let first : c w ≡ b v = ap c (omega arith) ∙ same 0 (omega arith) ∙ ap b (omega arith) in
    let others : little c (w + 1) n ≡ little b (v + 1) n = little-same b c (v + 1) (w + 1) n (λ k lt. ap c (omega arith) ∙ same (suc k) (omega arith) ∙ ap b (omega arith)) in
    rw (first, others) refl

-- eight bytes as a number
pub little-eight : (b : ℕ → ℕ) (v b0 b1 b2 b3 b4 b5 b6 b7 : ℕ)
    → b0 ≡ b v → b1 ≡ b (v + 1) → b2 ≡ b (v + 2) → b3 ≡ b (v + 3) → b4 ≡ b (v + 4) → b5 ≡ b (v + 5) → b6 ≡ b (v + 6) → b7 ≡ b (v + 7)
    → (r : ℕ) → r ≡ from_le_bytes w64 (b0 ∷ b1 ∷ b2 ∷ b3 ∷ b4 ∷ b5 ∷ b6 ∷ b7 ∷ []) → r ≡ little b v 8
unfolding little
little-eight b v b0 b1 b2 b3 b4 b5 b6 b7 e0 e1 e2 e3 e4 e5 e6 e7 r is =
    let f2 : b (v + 1 + 1) ≡ b (v + 2) = ap b (omega arith) in
    let f3 : b (v + 1 + 1 + 1) ≡ b (v + 3) = ap b (omega arith) in
    let f4 : b (v + 1 + 1 + 1 + 1) ≡ b (v + 4) = ap b (omega arith) in
    let f5 : b (v + 1 + 1 + 1 + 1 + 1) ≡ b (v + 5) = ap b (omega arith) in
    let f6 : b (v + 1 + 1 + 1 + 1 + 1 + 1) ≡ b (v + 6) = ap b (omega arith) in
    let f7 : b (v + 1 + 1 + 1 + 1 + 1 + 1 + 1) ≡ b (v + 7) = ap b (omega arith) in
    omega arith

pub little-zero : (b : ℕ → ℕ) (v n : ℕ) → ((k : ℕ) → k < n → b (v + k) ≡ 0) → little b v n ≡ 0
unfolding little
little-zero b v zero none = refl
little-zero b v (suc n) none =
    let first : b v ≡ 0 = ap b (omega arith) ∙ none 0 (omega arith) in
    let others : little b (v + 1) n ≡ 0 = little-zero b (v + 1) n (λ k lt. ap b (omega arith) ∙ none (suc k) (omega arith)) in
    rw (first, others) refl

-- and where the number is 0, so is each byte
pub little-none : (b : ℕ → ℕ) (v n k : ℕ) → little b v n ≡ 0 → k < n → b (v + k) ≡ 0
unfolding little
little-none b v zero k is lt = absurd (omega arith)
little-none b v (suc n) zero is lt = let first : b v ≡ 0 = omega (arith, is) in ap b (omega arith) ∙ first
little-none b v (suc n) (suc k) is lt =
    let others : little b (v + 1) n ≡ 0 = omega (arith, is) in
    ap b (omega arith) ∙ little-none b (v + 1) n k others (omega arith)

pub little-below : (b : ℕ → ℕ) (v n : ℕ) → ((k : ℕ) → k < n → b (v + k) < 256) → little b v n < 256 ^ n
unfolding little
little-below b v zero small = omega arith
little-below b v (suc n) small =
    let first : b v < 256 = subst (λ x. b x < 256) (omega arith) (small 0 (omega arith)) in
    let others = little-below b (v + 1) n (λ k lt. subst (λ x. b x < 256) (omega arith) (small (suc k) (omega arith))) in
    omega (arith, first, others, Rattle.std.proofs.Math.Nat.pow-suc 256 n)

pub bytes_from-same : (b c : ℕ → ℕ) (v w n : ℕ) → ((k : ℕ) → k < n → c (w + k) ≡ b (v + k)) → bytes_from c w n ≡ bytes_from b v n
unfolding bytes_from
bytes_from-same b c v w zero same = refl
bytes_from-same b c v w (suc n) same =
    let first : c w ≡ b v = ap c (omega arith) ∙ same 0 (omega arith) ∙ ap b (omega arith) in
    let others : bytes_from c (w + 1) n ≡ bytes_from b (v + 1) n = bytes_from-same b c (v + 1) (w + 1) n (λ k lt. ap c (omega arith) ∙ same (suc k) (omega arith) ∙ ap b (omega arith)) in
    rw (first, others) refl

pub content-at : (b : ℕ → ℕ) (base n k : ℕ) → k < n → content b base n k ≡ b (base + k)
content-at b base n k lt = rw (lt-ltb k n lt) refl

pub content-past : (b : ℕ → ℕ) (base n k : ℕ) → n ≤ k → content b base n k ≡ 0
content-past b base n k le = rw (le-ltb k n le) refl

pub content-same : (b c : ℕ → ℕ) (x y m n : ℕ) → m ≡ n → ((k : ℕ) → k < n → c (y + k) ≡ b (x + k)) → content c y m ≡ content b x n
content-same b c x y m n size same = λ i k. at k i
  where
    at : (k : ℕ) → content c y m k ≡ content b x n k
    at k = elim (cases_lt k n) [
      | inl lt ↦ content-at c y m k (omega (arith, size)) ∙ same k lt ∙ sym (content-at b x n k lt)
      | inr ge ↦ content-past c y m k (omega (arith, size)) ∙ sym (content-past b x n k (omega arith))
    ]

pub objects-in : (b : ℕ → ℕ) (count i : ℕ) → IsNumber count i → objects b count i ≡ object b i
unfolding objects
objects-in b count i number = rw (le-leb 1 i number.from, le-leb i count number.to) refl

pub objects-cases : (b : ℕ → ℕ) (count i : ℕ) → (IsNumber count i × (objects b count i ≡ object b i)) ⊎ ((IsNumber count i → ⊥) × (objects b count i ≡ no_object))
unfolding objects
objects-cases b count i = elim (cases_Bool (nat_le 1 i && nat_le i count)) [
  | inl t ↦
      let both : (nat_le 1 i ≡ true) × (nat_le i count ≡ true) = and_parts _ _ t in
      inl (record { from = leb-true _ _ both.0; to = leb-true _ _ both.1 }, rw t refl)
  | inr f ↦ inr ((λ number. Rattle.std.proofs.lemmas.Bool.true≢false (sym (and_from _ _ (le-leb 1 i number.from) (le-leb i count number.to)) ∙ f)), rw f refl)
]

-- inode i of the one and of the other have the same kind, size and bytes below the size
pub record SameObject (b c : ℕ → ℕ) (i : ℕ) : Type 0 where
  pub kind : (inode c i).kind ≡ (inode b i).kind
  pub size : (inode c i).size ≡ (inode b i).size
  pub bytes : (k : ℕ) → k < (inode b i).size → c ((inode c i).base + k) ≡ b ((inode b i).base + k)

pub object-same : {b c : ℕ → ℕ} {i : ℕ} → SameObject b c i → object c i ≡ object b i
object-same {b} {c} {i} s =
    let at = content-same b c (inode b i).base (inode c i).base (inode c i).size (inode b i).size s.size s.bytes in
    λ j. record { kind = s.kind j; size = s.size j; at = at j }

pub objects-same : (b c : ℕ → ℕ) (count : ℕ) → ((i : ℕ) → IsNumber count i → SameObject b c i) → objects c count ≡ objects b count
objects-same b c count same = λ j i. at i j
  where
    at : (i : ℕ) → objects c count i ≡ objects b count i
    at i = elim (objects-cases b count i) [
      | inl k ↦ objects-in c count i k.0 ∙ object-same (same i k.0) ∙ sym k.1
      | inr k ↦ elim (objects-cases c count i) [ inl l ↦ absurd (k.0 l.0) | inr l ↦ l.1 ∙ sym k.1 ]
    ]
