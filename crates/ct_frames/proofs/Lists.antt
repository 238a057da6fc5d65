-- Lists of the numbers that pass a test.
use Rattle.std.proofs.Common.{◌≡◌, ◌≢◌, ℕ, zero, suc, ◌+◌, ◌<◌, ◌≤◌, Bool, true, false, cond, List, [], ◌∷◌, length, get_or, subst, refl, sym, ap, ◌∙◌, ◌⊎◌, inl, inr, arith}
use Rattle.std.proofs.lemmas.Bool.{cases_eq, cases_lt, cases_Bool, cond-true, cond-false, eq-eqb, ne_eqb, lt-ltb, le-ltb, le-leb, lt-leb, and_from, and_left, and_right}
use Rattle.std.specs.Prelude.{Contains, ◌&&◌, nat_le}
use Rattle.ct_base.specs.Free.{IsRising}
use Rattle.ct_frames.specs.Free.{listed, inserted, without, rising, from_on}

-- a test that is the same lists the same
pub listed-same : (f g : ℕ → Bool) (n lo : ℕ) → ((q : ℕ) → lo ≤ q → q < lo + n → g q ≡ f q) → listed g n lo ≡ listed f n lo
listed-same f g zero lo same = refl
listed-same f g (suc n) lo same =
    let rest = listed-same f g n (suc lo) (λ q p l. same q (omega arith) (omega arith)) in
    ap (λ t. cond t (lo ∷ listed g n (suc lo)) (listed g n (suc lo))) (same lo (omega arith) (omega arith))
    ∙ ap (λ k. cond (f lo) (lo ∷ k) k) rest

pub listed-none : (f : ℕ → Bool) (n lo : ℕ) → ((q : ℕ) → lo ≤ q → q < lo + n → f q ≡ false) → listed f n lo ≡ []
listed-none f zero lo none = refl
listed-none f (suc n) lo none =
    cond-false _ _ _ (none lo (omega arith) (omega arith)) ∙ listed-none f n (suc lo) (λ q p l. none q (omega arith) (omega arith))

-- the first one that passes is the head, and the others are listed by a test that it does not pass
pub listed-first : (f g : ℕ → Bool) (n lo page : ℕ) → lo ≤ page → page < lo + n → f page ≡ true → g page ≡ false
    → ((q : ℕ) → q < page → f q ≡ false) → ((q : ℕ) → q ≢ page → g q ≡ f q) → listed f n lo ≡ page ∷ listed g n lo
listed-first f g zero lo page low high is not before same = absurd (omega arith)
listed-first f g (suc n) lo page low high is not before same =
    elim (cases_eq lo page) [
      | inl here ↦
          let rest : listed f n (suc lo) ≡ listed g n (suc lo) = sym (listed-same f g n (suc lo) (λ q p l. same q (omega (arith, here)))) in
          cond-true _ _ _ (ap f here ∙ is) ∙ ap (λ k. lo ∷ k) rest ∙ ap (λ k. k ∷ listed g n (suc lo)) here
          ∙ ap (λ k. page ∷ k) (sym (cond-false _ _ _ (ap g here ∙ not)))
      | inr away ↦
          cond-false _ _ _ (before lo (omega (arith, away))) ∙ listed-first f g n (suc lo) page (omega (arith, away)) (omega arith) is not before same
          ∙ ap (λ k. page ∷ k) (sym (cond-false _ _ _ (same lo away ∙ before lo (omega (arith, away)))))
    ]

-- one more that passes is put in its place
pub listed-inserted : (f g : ℕ → Bool) (n lo page : ℕ) → lo ≤ page → page < lo + n → f page ≡ false → g page ≡ true
    → ((q : ℕ) → q ≢ page → g q ≡ f q) → listed g n lo ≡ inserted page (listed f n lo)
listed-inserted f g zero lo page low high not is same = absurd (omega arith)
listed-inserted f g (suc n) lo page low high not is same =
    elim (cases_eq lo page) [
      | inl here ↦
          cond-true _ _ _ (ap g here ∙ is) ∙ ap (λ k. lo ∷ k) (listed-same f g n (suc lo) (λ q p l. same q (omega (arith, here))))
          ∙ ap (λ k. k ∷ listed f n (suc lo)) here
          ∙ sym (ap (inserted page) (cond-false _ _ _ (ap f here ∙ not)) ∙ inserted-low f n (suc lo) page (omega (arith, here)))
      | inr away ↦
          let rest = listed-inserted f g n (suc lo) page (omega (arith, away)) (omega arith) not is same in
          elim (cases_Bool (f lo)) [
            | inl t ↦
                cond-true _ _ _ (same lo away ∙ t) ∙ ap (λ k. lo ∷ k) rest
                ∙ sym (ap (inserted page) (cond-true _ _ _ t) ∙ cond-false _ _ _ (le-ltb page lo (omega arith)))
            | inr t ↦ cond-false _ _ _ (same lo away ∙ t) ∙ rest ∙ sym (ap (inserted page) (cond-false _ _ _ t))
          ]
    ]
  where
    inserted-low : (f : ℕ → Bool) (n lo page : ℕ) → page < lo → inserted page (listed f n lo) ≡ page ∷ listed f n lo
    inserted-low f zero lo page low = refl
    inserted-low f (suc n) lo page low =
        elim (cases_Bool (f lo)) [
          | inl t ↦ ap (inserted page) (cond-true _ _ _ t) ∙ cond-true _ _ _ (lt-ltb page lo low) ∙ ap (λ k. page ∷ k) (sym (cond-true _ _ _ t))
          | inr t ↦ ap (inserted page) (cond-false _ _ _ t) ∙ inserted-low f n (suc lo) page (omega arith) ∙ ap (λ k. page ∷ k) (sym (cond-false _ _ _ t))
        ]

-- one that passes no more is taken out
pub listed-without : (f g : ℕ → Bool) (n lo page : ℕ) → lo ≤ page → page < lo + n → f page ≡ true → g page ≡ false
    → ((q : ℕ) → q ≢ page → g q ≡ f q) → listed g n lo ≡ without page (listed f n lo)
listed-without f g zero lo page low high is not same = absurd (omega arith)
listed-without f g (suc n) lo page low high is not same =
    elim (cases_eq lo page) [
      | inl here ↦
          cond-false _ _ _ (ap g here ∙ not) ∙ listed-same f g n (suc lo) (λ q p l. same q (omega (arith, here)))
          ∙ sym (ap (without page) (cond-true _ _ _ (ap f here ∙ is)) ∙ cond-true _ _ _ (eq-eqb lo page here))
      | inr away ↦
          let rest = listed-without f g n (suc lo) page (omega (arith, away)) (omega arith) is not same in
          elim (cases_Bool (f lo)) [
            | inl t ↦
                cond-true _ _ _ (same lo away ∙ t) ∙ ap (λ k. lo ∷ k) rest
                ∙ sym (ap (without page) (cond-true _ _ _ t) ∙ cond-false _ _ _ (ne_eqb lo page away))
            | inr t ↦ cond-false _ _ _ (same lo away ∙ t) ∙ rest ∙ sym (ap (without page) (cond-false _ _ _ t))
          ]
    ]

-- all of them pass
pub listed-all : (f : ℕ → Bool) (n lo : ℕ) → ((q : ℕ) → lo ≤ q → q < lo + n → f q ≡ true) → listed f n lo ≡ rising n lo
listed-all f zero lo all = refl
listed-all f (suc n) lo all =
    cond-true _ _ _ (all lo (omega arith) (omega arith)) ∙ ap (λ k. lo ∷ k) (listed-all f n (suc lo) (λ q p l. all q (omega arith) (omega arith)))

-- the first k pass not
pub listed-skip : (f : ℕ → Bool) (k n m lo from : ℕ) → n ≡ k + m → from ≡ lo + k → ((q : ℕ) → lo ≤ q → q < lo + k → f q ≡ false) → listed f n lo ≡ listed f m from
listed-skip f zero n m lo from e e' none = ap (λ j. listed f j lo) (omega (arith, e)) ∙ ap (λ j. listed f m j) (omega (arith, e'))
listed-skip f (suc k) zero m lo from e e' none = absurd (omega arith)
listed-skip f (suc k) (suc n) m lo from e e' none =
    cond-false _ _ _ (none lo (omega arith) (omega arith)) ∙ listed-skip f k n m (suc lo) from (omega arith) (omega arith) (λ q p l. none q (omega arith) (omega arith))

pub length-rising : (n lo : ℕ) → length (rising n lo) ≡ n
length-rising zero lo = refl
length-rising (suc n) lo = ap suc (length-rising n (suc lo))

pub length-listed : (f : ℕ → Bool) (n lo : ℕ) → length (listed f n lo) ≤ n
length-listed f zero lo = omega arith
length-listed f (suc n) lo =
    elim (cases_Bool (f lo)) [
      | inl t ↦ rw t (omega (arith, length-listed f n (suc lo)))
      | inr t ↦ rw t (omega (arith, length-listed f n (suc lo)))
    ]

pub length-inserted : (page : ℕ) (qs : List ℕ) → length (inserted page qs) ≡ length qs + 1
length-inserted page [] = omega arith
length-inserted page (q ∷ qs) =
    elim (cases_lt page q) [
      | inl lt ↦ rw (lt-ltb page q lt) (omega arith)
      | inr ge ↦ rw (le-ltb page q ge) (omega (arith, length-inserted page qs))
    ]

pub length-without : (f : ℕ → Bool) (n lo page : ℕ) → lo ≤ page → page < lo + n → f page ≡ true → length (without page (listed f n lo)) + 1 ≡ length (listed f n lo)
length-without f zero lo page low high is = absurd (omega arith)
length-without f (suc n) lo page low high is =
    elim (cases_eq lo page) [
      | inl here ↦ rw (ap f here ∙ is, eq-eqb lo page here) (omega arith)
      | inr away ↦
          let rest = length-without f n (suc lo) page (omega (arith, away)) (omega arith) is in
          elim (cases_Bool (f lo)) [
            | inl t ↦ rw (t, ne_eqb lo page away) (omega (arith, rest))
            | inr t ↦ rw t rest
          ]
    ]

-- what is listed passes, and what passes is listed
pub in_listed : (f : ℕ → Bool) (n lo q : ℕ) → lo ≤ q → q < lo + n → f q ≡ true → Contains (listed f n lo) q
in_listed f zero lo q low high is = absurd (omega arith)
in_listed f (suc n) lo q low high is =
    elim (cases_eq lo q) [
      | inl here ↦ rw (ap f here ∙ is) (0, omega arith, here)
      | inr away ↦
          let rest = in_listed f n (suc lo) q (omega (arith, away)) (omega arith) is in
          elim (cases_Bool (f lo)) [
            | inl t ↦ rw t (suc rest.0, omega (arith, rest.1), rest.2)
            | inr t ↦ rw t rest
          ]
    ]

listed_at : (f : ℕ → Bool) (n lo q k : ℕ) → k < length (listed f n lo) → get_or (listed f n lo) k q ≡ q → (lo ≤ q) × (q < lo + n) × (f q ≡ true)
listed_at f zero lo q k lt is = absurd (omega arith)
listed_at f (suc n) lo q k lt is =
    elim (cases_Bool (f lo)) [
      | inl t ↦ head k (λ j. listed_at f n (suc lo) q j) t (subst (λ (b : Bool). k < length (cond b (lo ∷ listed f n (suc lo)) (listed f n (suc lo)))) t lt)
          (subst (λ (b : Bool). get_or (cond b (lo ∷ listed f n (suc lo)) (listed f n (suc lo))) k q ≡ q) t is)
      | inr t ↦
          let rest = listed_at f n (suc lo) q k
          (subst (λ (b : Bool). k < length (cond b (lo ∷ listed f n (suc lo)) (listed f n (suc lo)))) t lt)
          (subst (λ (b : Bool). get_or (cond b (lo ∷ listed f n (suc lo)) (listed f n (suc lo))) k q ≡ q) t is) in
          (omega (arith, rest.0), omega (arith, rest.1), rest.2)
    ]
  where
    head : (k : ℕ) → ((j : ℕ) → j < length (listed f n (suc lo)) → get_or (listed f n (suc lo)) j q ≡ q → (suc lo ≤ q) × (q < suc lo + n) × (f q ≡ true))
        → f lo ≡ true → k < length (lo ∷ listed f n (suc lo)) → get_or (lo ∷ listed f n (suc lo)) k q ≡ q → (lo ≤ q) × (q < lo + suc n) × (f q ≡ true)
    head zero more t lt is = (omega (arith, is), omega (arith, is), ap f (sym is) ∙ t)
    head (suc k) more t lt is =
        let rest = more k (omega arith) is in
        (omega (arith, rest.0), omega (arith, rest.1), rest.2)

pub listed_passes : (f : ℕ → Bool) (n lo q : ℕ) → Contains (listed f n lo) q → (lo ≤ q) × (q < lo + n) × (f q ≡ true)
listed_passes f n lo q c = listed_at f n lo q c.0 c.1 c.2

-- what a list with a number put in its place has
pub inserted_has : (page q : ℕ) (qs : List ℕ) → Contains (inserted page qs) q → (q ≡ page) ⊎ Contains qs q
inserted_has page q [] (zero, lt, e) = inl (sym e)
inserted_has page q [] (suc k, lt, e) = absurd (omega arith)
inserted_has page q (x ∷ xs) c =
    elim (cases_lt page x) [
      | inl lt ↦ first (subst (λ (ys : List ℕ). Contains ys q) (cond-true _ _ _ (lt-ltb page x lt)) c)
      | inr ge ↦ later (inserted_has page q xs) (subst (λ (ys : List ℕ). Contains ys q) (cond-false _ _ _ (le-ltb page x ge)) c)
    ]
  where
    first : Contains (page ∷ x ∷ xs) q → (q ≡ page) ⊎ Contains (x ∷ xs) q
    first (zero, lt, e) = inl (sym e)
    first (suc k, lt, e) = inr (k, omega arith, e)

    later : (Contains (inserted page xs) q → (q ≡ page) ⊎ Contains xs q) → Contains (x ∷ inserted page xs) q → (q ≡ page) ⊎ Contains (x ∷ xs) q
    later rest (zero, lt, e) = inr (0, omega arith, e)
    later rest (suc k, lt, e) = elim (rest (k, omega arith, e)) [ inl is ↦ inl is | inr there ↦ inr (suc there.0, omega (arith, there.1), there.2) ]

pub has_inserted : (page : ℕ) (qs : List ℕ) → Contains (inserted page qs) page
has_inserted page [] = (0, omega arith, refl)
has_inserted page (x ∷ xs) =
    elim (cases_lt page x) [
      | inl lt ↦ rw (lt-ltb page x lt) (0, omega arith, refl)
      | inr ge ↦ let rest = has_inserted page xs in rw (le-ltb page x ge) (suc rest.0, omega (arith, rest.1), rest.2)
    ]

pub keeps_inserted : (page q : ℕ) (qs : List ℕ) → Contains qs q → Contains (inserted page qs) q
keeps_inserted page q [] c = absurd (omega (arith, c.1))
keeps_inserted page q (x ∷ xs) c =
    elim (cases_lt page x) [
      | inl lt ↦ rw (lt-ltb page x lt) (suc c.0, omega (arith, c.1), c.2)
      | inr ge ↦ rw (le-ltb page x ge) (go (keeps_inserted page q xs) c)
    ]
  where
    go : (Contains xs q → Contains (inserted page xs) q) → Contains (x ∷ xs) q → Contains (x ∷ inserted page xs) q
    go more (zero, lt, e) = (0, omega arith, e)
    go more (suc k, lt, e) = let rest = more (k, omega arith, e) in (suc rest.0, omega (arith, rest.1), rest.2)

-- what is listed rises
pub listed_rising : (f : ℕ → Bool) (n lo : ℕ) → IsRising (listed f n lo)
listed_rising f zero lo = tt
listed_rising f (suc n) lo =
    let rest = listed_rising f n (suc lo) in
    elim (cases_Bool (f lo)) [
      | inl t ↦ rw t (λ q c. omega (arith, (listed_passes f n (suc lo) q c).0), rest)
      | inr u ↦ rw u rest
    ]

-- those from a number on are listed by a test that asks for both
from_on-listed : (f : ℕ → Bool) (n lo from : ℕ) → from_on from (listed f n lo) ≡ listed (λ q. f q && nat_le from q) n lo
from_on-listed f zero lo from = refl
from_on-listed f (suc n) lo from =
    let rest = from_on-listed f n (suc lo) from in
    elim (cases_Bool (f lo)) [
      | inl t ↦ elim (cases_lt lo from) [
        | inl lt ↦ rw (t, lt-ltb lo from lt, lt-leb from lo lt) rest
        | inr ge ↦ rw (t, le-ltb lo from ge, le-leb from lo ge) (ap (λ k. lo ∷ k) rest)
      ]
      | inr t ↦ rw t rest
    ]

-- where the first of them is known
pub from_on-first : (f : ℕ → Bool) (n from page : ℕ) → from ≤ page → page < n → f page ≡ true → ((q : ℕ) → from ≤ q → q < page → f q ≡ false)
    → from_on from (listed f n 0) ≡ page ∷ from_on (page + 1) (listed f n 0)
from_on-first f n from page low high is lowest =
    from_on-listed f n 0 from
    ∙ listed-first (λ q. f q && nat_le from q) (λ q. f q && nat_le (page + 1) q) n 0 page (omega arith) (omega arith)
    (and_from _ _ is (le-leb from page low)) (and_right _ _ (lt-leb (page + 1) page (omega arith)))
    (λ q lt. elim (cases_lt q from) [
      | inl below ↦ and_right _ _ (lt-leb from q below)
      | inr above ↦ and_left _ _ (lowest q above lt)
    ])
    (λ q other. elim (cases_lt q page) [
      | inl lt ↦ and_right _ _ (lt-leb (page + 1) q (omega arith)) ∙ sym (elim (cases_lt q from) [
        | inl below ↦ and_right _ _ (lt-leb from q below)
        | inr above ↦ and_left _ _ (lowest q above lt)
      ])
      | inr ge ↦ ap (λ b. f q && b) (le-leb (page + 1) q (omega (arith, other)) ∙ sym (le-leb from q (omega arith)))
    ])
    ∙ ap (λ k. page ∷ k) (sym (from_on-listed f n 0 (page + 1)))

pub from_on-none : (f : ℕ → Bool) (n from : ℕ) → ((q : ℕ) → from ≤ q → f q ≡ false) → from_on from (listed f n 0) ≡ []
from_on-none f n from none =
    from_on-listed f n 0 from
    ∙ listed-none (λ q. f q && nat_le from q) n 0 (λ q low high. elim (cases_lt q from) [
      | inl below ↦ and_right _ _ (lt-leb from q below)
      | inr above ↦ and_left _ _ (none q above)
    ])

-- what is not below 0 is all
pub from_on-all : (qs : List ℕ) → from_on 0 qs ≡ qs
from_on-all [] = refl
from_on-all (q ∷ qs) = rw (le-ltb q 0 (omega arith)) (ap (λ k. q ∷ k) (from_on-all qs))

-- what is among those from a number on
pub from_on-parts : (lo q : ℕ) (qs : List ℕ) → Contains (from_on lo qs) q → Contains qs q × (lo ≤ q)
from_on-parts lo q [] c = absurd (omega (arith, c.1))
from_on-parts lo q (x ∷ xs) c =
    elim (cases_lt x lo) [
      | inl lt ↦ later (from_on-parts lo q xs (subst (λ (ys : List ℕ). Contains ys q) (cond-true _ _ _ (lt-ltb x lo lt)) c))
      | inr ge ↦ first ge (from_on-parts lo q xs) (subst (λ (ys : List ℕ). Contains ys q) (cond-false _ _ _ (le-ltb x lo ge)) c)
    ]
  where
    later : Contains xs q × (lo ≤ q) → Contains (x ∷ xs) q × (lo ≤ q)
    later p = ((suc p.0.0, omega (arith, p.0.1), p.0.2), p.1)

    first : lo ≤ x → (Contains (from_on lo xs) q → Contains xs q × (lo ≤ q)) → Contains (x ∷ from_on lo xs) q → Contains (x ∷ xs) q × (lo ≤ q)
    first ge rest (zero, lt, e) = ((0, omega arith, e), omega (arith, e, ge))
    first ge rest (suc k, lt, e) = later (rest (k, omega arith, e))
