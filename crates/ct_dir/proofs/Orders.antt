-- Names in byte order, compared eight bytes at a time.
use Rattle.std.proofs.Common.{◌≡◌, ◌≢◌, ℕ, zero, suc, ◌+◌, ◌-◌, ◌*◌, ◌^◌, ◌<◌, ◌≤◌, ◌⊎◌, List, [], ◌∷◌, length, get_or, refl, sym, ap, ◌∙◌, inl, inr, arith}
use Rattle.std.proofs.Math.Nat.{pow-suc, mul-le-mul_right, suc-mul}
use Rattle.std.proofs.lemmas.Bool.{cases_lt, cases_eq, lt-ltb, le-ltb, eq-eqb, ne_eqb}
use Rattle.std.specs.Int.{w64, swap_bytes}
use Rattle.std.specs.Ordering.{nat_cmp, ordering_then}
use Rattle.std.specs.declared.cmp.Ordering.{Ordering}
use Rattle.std.specs.declared.cmp.Ordering.TheVariants.{Less, Equal, Greater}
use Rattle.ct_base.specs.Inode.{little}
use Rattle.ct_base.specs.Path.{name_cmp}
use Rattle.ct_dir.proofs.Texts.{little-byte}
use Rattle.ct_dir.specs.Keys.{words_cmp}

pub cmp-less : (x y : ℕ) → x < y → nat_cmp x y ≡ Less
cmp-less x y lt = rw (lt-ltb x y lt) refl

pub cmp-same : (x y : ℕ) → x ≡ y → nat_cmp x y ≡ Equal
cmp-same x y is = rw (le-ltb x y (omega arith), eq-eqb x y is) refl

pub cmp-greater : (x y : ℕ) → y < x → nat_cmp x y ≡ Greater
cmp-greater x y lt = rw (le-ltb x y (omega arith), ne_eqb x y (λ e. omega (arith, e))) refl

-- one equation by the three ways in which two numbers lie
by_order : (P : Type 0) (x y : ℕ) → (x < y → P) → (x ≡ y → P) → (y < x → P) → P
by_order P x y less same greater = elim (cases_lt x y) [
  | inl lt ↦ less lt
  | inr ge ↦ elim (cases_eq x y) [ inl e ↦ same e | inr ne ↦ greater (omega arith) ]
]

cmp-alike : (a b x y : ℕ) → (a < b → x < y) → (a ≡ b → x ≡ y) → (b < a → y < x) → nat_cmp x y ≡ nat_cmp a b
cmp-alike a b x y less same greater =
    by_order (nat_cmp x y ≡ nat_cmp a b) a b (λ lt. cmp-less x y (less lt) ∙ sym (cmp-less a b lt)) (λ e. cmp-same x y (same e) ∙ sym (cmp-same a b e)) (λ gt. cmp-greater x y (greater gt) ∙ sym (cmp-greater a b gt))

pub then_assoc : (p q r : Ordering) → ordering_then (ordering_then p q) r ≡ ordering_then p (ordering_then q r)
then_assoc Less q r = refl
then_assoc Equal q r = refl
then_assoc Greater q r = refl

row : (p r m : ℕ) → p < r → p * m + m ≤ r * m
row p r m lt =
    let le : suc p * m ≤ r * m = mul-le-mul_right {m = suc p} {n = r} m (omega arith) in
    let more : suc p * m ≡ p * m + m = suc-mul p m in
    omega (arith, le, more)

-- two numbers with a high and a low part
cmp-parts : (m p q r s : ℕ) → q < m → s < m → nat_cmp (p * m + q) (r * m + s) ≡ ordering_then (nat_cmp p r) (nat_cmp q s)
cmp-parts m p q r s low high =
    by_order (nat_cmp (p * m + q) (r * m + s) ≡ ordering_then (nat_cmp p r) (nat_cmp q s)) p r
    (λ lt. cmp-less (p * m + q) (r * m + s) (omega (arith, row p r m lt, low, high)) ∙ ap (λ o. ordering_then o (nat_cmp q s)) (sym (cmp-less p r lt)))
    (λ e. let both : p * m ≡ r * m = ap (λ k. k * m) e in cmp-alike q s (p * m + q) (r * m + s) (λ lt. omega arith) (λ is. omega arith) (λ gt. omega arith) ∙ ap (λ o. ordering_then o (nat_cmp q s)) (sym (cmp-same p r e)))
    (λ gt. cmp-greater (p * m + q) (r * m + s) (omega (arith, row r p m gt, low, high)) ∙ ap (λ o. ordering_then o (nat_cmp q s)) (sym (cmp-greater p r gt)))

-- n bytes from a place on, compared one after the other
unfoldable pub bytes_cmp : (ℕ → ℕ) → (ℕ → ℕ) → ℕ → ℕ → Ordering
bytes_cmp b c v zero = Equal
bytes_cmp b c v (suc n) = ordering_then (nat_cmp (b v) (c v)) (bytes_cmp b c (v + 1) n)

bytes_cmp-none : (b c : ℕ → ℕ) (v : ℕ) → bytes_cmp b c v 0 ≡ Equal
unfolding bytes_cmp
bytes_cmp-none b c v = refl

bytes_cmp-first : (b c : ℕ → ℕ) (v n : ℕ) → bytes_cmp b c v (suc n) ≡ ordering_then (nat_cmp (b v) (c v)) (bytes_cmp b c (v + 1) n)
unfolding bytes_cmp
bytes_cmp-first b c v n = refl

-- the number whose n bytes stand from a place on, the highest first
unfoldable big : (ℕ → ℕ) → ℕ → ℕ → ℕ
big b v zero = 0
big b v (suc n) = b v * 256 ^ n + big b (v + 1) n

big-small : (b : ℕ → ℕ) (v n : ℕ) → ((k : ℕ) → b k < 256) → big b v n < 256 ^ n
unfolding big
big-small b v zero small = omega arith
big-small b v (suc n) small = omega (arith, row (b v) 256 (256 ^ n) (small v), big-small b (v + 1) n small, pow-suc 256 n)

bytes_cmp-big : (b c : ℕ → ℕ) (v n : ℕ) → ((k : ℕ) → b k < 256) → ((k : ℕ) → c k < 256) → bytes_cmp b c v n ≡ nat_cmp (big b v n) (big c v n)
unfolding bytes_cmp big
bytes_cmp-big b c v zero small_b small_c = refl
bytes_cmp-big b c v (suc n) small_b small_c =
    ap (ordering_then (nat_cmp (b v) (c v))) (bytes_cmp-big b c (v + 1) n small_b small_c)
    ∙ sym (cmp-parts (256 ^ n) (b v) (big b (v + 1) n) (c v) (big c (v + 1) n) (big-small b (v + 1) n small_b) (big-small c (v + 1) n small_c))

-- a word with its bytes in the other order
swap-big : (b : ℕ → ℕ) (v : ℕ) → ((k : ℕ) → b k < 256) → swap_bytes w64 (little b v 8) ≡ big b v 8
unfolding big
swap-big b v small =
    let w = little b v 8 in
    let all : (k : ℕ) → k < 8 → b (v + k) < 256 = λ k _. small (v + k) in
    let d0 = little-byte b v 8 0 all (omega arith) in
    let d1 = little-byte b v 8 1 all (omega arith) in
    let d2 = little-byte b v 8 2 all (omega arith) in
    let d3 = little-byte b v 8 3 all (omega arith) in
    let d4 = little-byte b v 8 4 all (omega arith) in
    let d5 = little-byte b v 8 5 all (omega arith) in
    let d6 = little-byte b v 8 6 all (omega arith) in
    let d7 = little-byte b v 8 7 all (omega arith) in
    let e0 : b (v + 0) ≡ b v = ap b (omega arith) in
    let e2 : b (v + 1 + 1) ≡ b (v + 2) = ap b (omega arith) in
    let e3 : b (v + 1 + 1 + 1) ≡ b (v + 3) = ap b (omega arith) in
    let e4 : b (v + 1 + 1 + 1 + 1) ≡ b (v + 4) = ap b (omega arith) in
    let e5 : b (v + 1 + 1 + 1 + 1 + 1) ≡ b (v + 5) = ap b (omega arith) in
    let e6 : b (v + 1 + 1 + 1 + 1 + 1 + 1) ≡ b (v + 6) = ap b (omega arith) in
    let e7 : b (v + 1 + 1 + 1 + 1 + 1 + 1 + 1) ≡ b (v + 7) = ap b (omega arith) in
    omega (arith, d0, d1, d2, d3, d4, d5, d6, d7, e0, e2, e3, e4, e5, e6, e7)

bytes_cmp-more : (b c : ℕ → ℕ) (v m n : ℕ) → bytes_cmp b c v (m + n) ≡ ordering_then (bytes_cmp b c v m) (bytes_cmp b c (v + m) n)
unfolding bytes_cmp
bytes_cmp-more b c v zero n =
    let size : 0 + n ≡ n = omega arith in
    let place : v ≡ v + 0 = omega arith in
    ap (bytes_cmp b c v) size ∙ ap (λ k. bytes_cmp b c k n) place
bytes_cmp-more b c v (suc m) n =
    let size : suc m + n ≡ suc (m + n) = omega arith in
    let place : v + 1 + m ≡ v + suc m = omega arith in
    ap (bytes_cmp b c v) size ∙ step (m + n)
    ∙ ap (ordering_then (nat_cmp (b v) (c v))) (bytes_cmp-more b c (v + 1) m n ∙ ap (λ k. ordering_then (bytes_cmp b c (v + 1) m) (bytes_cmp b c k n)) place)
    ∙ sym (then_assoc (nat_cmp (b v) (c v)) (bytes_cmp b c (v + 1) m) (bytes_cmp b c (v + suc m) n))
  where
    step : (k : ℕ) → bytes_cmp b c v (suc k) ≡ ordering_then (nat_cmp (b v) (c v)) (bytes_cmp b c (v + 1) k)
    step k = refl

-- words compared are bytes compared
pub words_cmp-bytes : (v w b c : ℕ → ℕ) (k n : ℕ) → ((j : ℕ) → b j < 256) → ((j : ℕ) → c j < 256) → ((j : ℕ) → j < k + n → v j ≡ little b (8 * j) 8) → ((j : ℕ) → j < k + n → w j ≡ little c (8 * j) 8)
    → words_cmp v w k n ≡ bytes_cmp b c (8 * k) (8 * n)
unfolding words_cmp
words_cmp-bytes v w b c k zero small_b small_c left right = sym (none (8 * k) (8 * 0) (omega arith))
  where
    none : (o n : ℕ) → n ≡ 0 → bytes_cmp b c o n ≡ Equal
    none o n is = ap (bytes_cmp b c o) is ∙ bytes_cmp-none b c o
words_cmp-bytes v w b c k (suc n) small_b small_c left right =
    let here : nat_cmp (swap_bytes w64 (v k)) (swap_bytes w64 (w k)) ≡ bytes_cmp b c (8 * k) 8 =
    ap (λ x. nat_cmp (swap_bytes w64 x) (swap_bytes w64 (w k))) (left k (omega arith)) ∙ ap (λ x. nat_cmp (swap_bytes w64 (little b (8 * k) 8)) (swap_bytes w64 x)) (right k (omega arith))
    ∙ ap (λ x. nat_cmp x (swap_bytes w64 (little c (8 * k) 8))) (swap-big b (8 * k) small_b) ∙ ap (nat_cmp (big b (8 * k) 8)) (swap-big c (8 * k) small_c) ∙ sym (bytes_cmp-big b c (8 * k) 8 small_b small_c) in
    let place : 8 * (k + 1) ≡ 8 * k + 8 = omega arith in
    let size : 8 + 8 * n ≡ 8 * suc n = omega arith in
    let rest = words_cmp-bytes v w b c (k + 1) n small_b small_c (λ j lt. left j (omega arith)) (λ j lt. right j (omega arith)) in
    ap (λ o. ordering_then o (words_cmp v w (k + 1) n)) here ∙ ap (ordering_then (bytes_cmp b c (8 * k) 8)) (rest ∙ ap (λ o. bytes_cmp b c o (8 * n)) place)
    ∙ sym (bytes_cmp-more b c (8 * k) 8 (8 * n)) ∙ ap (bytes_cmp b c (8 * k)) size

bytes_cmp-same : (b c d e : ℕ → ℕ) (v w n : ℕ) → ((k : ℕ) → b (v + k) ≡ d (w + k)) → ((k : ℕ) → c (v + k) ≡ e (w + k)) → bytes_cmp b c v n ≡ bytes_cmp d e w n
unfolding bytes_cmp
bytes_cmp-same b c d e v w zero left right = refl
bytes_cmp-same b c d e v w (suc n) left right =
    let p : b v ≡ d w = ap b (omega arith) ∙ left 0 ∙ ap d (omega arith) in
    let q : c v ≡ e w = ap c (omega arith) ∙ right 0 ∙ ap e (omega arith) in
    let rest = bytes_cmp-same b c d e (v + 1) (w + 1) n (λ k. ap b (omega arith) ∙ left (1 + k) ∙ ap d (omega arith)) (λ k. ap c (omega arith) ∙ right (1 + k) ∙ ap e (omega arith)) in
    rw (p, q, rest) refl

-- where the one side has zeros, it is not greater
bytes_cmp-zeros : (b c : ℕ → ℕ) (v n : ℕ) → ((k : ℕ) → b k ≡ 0) → (bytes_cmp b c v n ≡ Less) ⊎ (bytes_cmp b c v n ≡ Equal)
unfolding bytes_cmp
bytes_cmp-zeros b c v zero none = inr refl
bytes_cmp-zeros b c v (suc n) none =
    by_order ((bytes_cmp b c v (suc n) ≡ Less) ⊎ (bytes_cmp b c v (suc n) ≡ Equal)) (b v) (c v)
    (λ lt. inl (ap (λ o. ordering_then o (bytes_cmp b c (v + 1) n)) (cmp-less (b v) (c v) lt)))
    (λ e. let same : bytes_cmp b c v (suc n) ≡ bytes_cmp b c (v + 1) n = ap (λ o. ordering_then o (bytes_cmp b c (v + 1) n)) (cmp-same (b v) (c v) e) in
    elim (bytes_cmp-zeros b c (v + 1) n none) [ inl less ↦ inl (same ∙ less) | inr equal ↦ inr (same ∙ equal) ])
    (λ gt. absurd (omega (arith, none v, gt)))

tails : (a b : ℕ) (y x : List ℕ) (n : ℕ) → bytes_cmp (λ k. get_or (a ∷ y) k 0) (λ k. get_or (b ∷ x) k 0) (0 + 1) n ≡ bytes_cmp (λ k. get_or y k 0) (λ k. get_or x k 0) 0 n
tails a b y x n =
    bytes_cmp-same (λ k. get_or (a ∷ y) k 0) (λ k. get_or (b ∷ x) k 0) (λ k. get_or y k 0) (λ k. get_or x k 0) (0 + 1) 0 n (λ k. next a y k) (λ k. next b x k)
  where
    next : (a : ℕ) (y : List ℕ) (k : ℕ) → get_or (a ∷ y) (0 + 1 + k) 0 ≡ get_or y (0 + k) 0
    next a y k =
        let more : 0 + 1 + k ≡ suc k = omega arith in
        let same : k ≡ 0 + k = omega arith in
        ap (λ j. get_or (a ∷ y) j 0) more ∙ ap (λ j. get_or y j 0) same

-- Names in byte order: their bytes decide, with zeros past the end, and then their lengths.
pub name_cmp-bytes : (y x : List ℕ) (n : ℕ) → ((k : ℕ) → k < length y → get_or y k 0 ≢ 0) → length y ≤ n
    → name_cmp y x ≡ ordering_then (bytes_cmp (λ k. get_or y k 0) (λ k. get_or x k 0) 0 n) (nat_cmp (length y) (length x))
name_cmp-bytes [] [] n some le = sym (ap (λ o. ordering_then o (nat_cmp 0 0)) (equal n 0))
  where
    equal : (n v : ℕ) → bytes_cmp (λ k. get_or [] k 0) (λ k. get_or [] k 0) v n ≡ Equal
    equal zero v = bytes_cmp-none _ _ v
    equal (suc n) v = bytes_cmp-first (λ k. get_or [] k 0) (λ k. get_or [] k 0) v n ∙ equal n (v + 1)
name_cmp-bytes [] (b ∷ x) n some le =
    let less : nat_cmp 0 (length (b ∷ x)) ≡ Less = cmp-less 0 (length (b ∷ x)) (omega arith) in
    elim (bytes_cmp-zeros (λ k. get_or [] k 0) (λ k. get_or (b ∷ x) k 0) 0 n (λ k. refl)) [
      | inl l ↦ sym (ap (λ o. ordering_then o (nat_cmp 0 (length (b ∷ x)))) l)
      | inr e ↦ sym (ap (λ o. ordering_then o (nat_cmp 0 (length (b ∷ x)))) e ∙ less)
    ]
name_cmp-bytes (a ∷ y) x zero some le = absurd (omega arith)
name_cmp-bytes (a ∷ y) [] (suc n) some le =
    let first : nat_cmp a 0 ≡ Greater = cmp-greater a 0 (omega (arith, some 0 (omega arith))) in
    sym (ap (λ o. ordering_then o (nat_cmp (length (a ∷ y)) 0)) (bytes_cmp-first (λ k. get_or (a ∷ y) k 0) (λ k. get_or [] k 0) 0 n ∙ ap (λ o. ordering_then o (bytes_cmp (λ k. get_or (a ∷ y) k 0) (λ k. get_or [] k 0) (0 + 1) n)) first))
name_cmp-bytes (a ∷ y) (b ∷ x) (suc n) some le =
    let rest = name_cmp-bytes y x n (λ k lt. some (suc k) (omega arith)) (omega arith) in
    let sizes : nat_cmp (length y) (length x) ≡ nat_cmp (length (a ∷ y)) (length (b ∷ x)) = sym (cmp-alike (length y) (length x) (length (a ∷ y)) (length (b ∷ x)) (λ lt. omega arith) (λ e. omega arith) (λ gt. omega arith)) in
    let bytes = bytes_cmp-first (λ k. get_or (a ∷ y) k 0) (λ k. get_or (b ∷ x) k 0) 0 n ∙ ap (ordering_then (nat_cmp a b)) (tails a b y x n) in
    ap (ordering_then (nat_cmp a b)) (rest ∙ ap (ordering_then (bytes_cmp (λ k. get_or y k 0) (λ k. get_or x k 0) 0 n)) sizes)
    ∙ sym (then_assoc (nat_cmp a b) (bytes_cmp (λ k. get_or y k 0) (λ k. get_or x k 0) 0 n) (nat_cmp (length (a ∷ y)) (length (b ∷ x))))
    ∙ ap (λ o. ordering_then o (nat_cmp (length (a ∷ y)) (length (b ∷ x)))) (sym bytes)

-- the words from word k on, where there are more
words_cmp-first : (v w : ℕ → ℕ) (k n : ℕ) → words_cmp v w k (suc n) ≡ ordering_then (nat_cmp (swap_bytes w64 (v k)) (swap_bytes w64 (w k))) (words_cmp v w (k + 1) n)
unfolding words_cmp
words_cmp-first v w k n = refl

words_cmp-none : (v w : ℕ → ℕ) (k : ℕ) → words_cmp v w k 0 ≡ Equal
unfolding words_cmp
words_cmp-none v w k = refl

then_itself : (o p : Ordering) → o ≢ Equal → ordering_then o p ≡ o
then_itself Less p ne = refl
then_itself Equal p ne = absurd (ne refl)
then_itself Greater p ne = refl

-- a word that differs decides
pub words_decided : (v w : ℕ → ℕ) (k : ℕ) (o rest : Ordering) → k < 31 → words_cmp v w 0 31 ≡ words_cmp v w k (31 - k) → o ≡ nat_cmp (swap_bytes w64 (v k)) (swap_bytes w64 (w k)) → o ≢ Equal → o ≡ ordering_then (words_cmp v w 0 31) rest
words_decided v w k o rest lt so_far is ne =
    let size : 31 - k ≡ suc (30 - k) = omega arith in
    let all : words_cmp v w 0 31 ≡ ordering_then o (words_cmp v w (k + 1) (30 - k)) =
    so_far ∙ ap (words_cmp v w k) size ∙ words_cmp-first v w k (30 - k) ∙ ap (λ p. ordering_then p (words_cmp v w (k + 1) (30 - k))) (sym is) in
    let decided : ordering_then o (words_cmp v w (k + 1) (30 - k)) ≡ o = then_itself o (words_cmp v w (k + 1) (30 - k)) ne in
    sym (ap (λ p. ordering_then p rest) (all ∙ decided) ∙ then_itself o rest ne)

-- and one that does not leaves it to the others
pub words_alike : (v w : ℕ → ℕ) (k : ℕ) → k < 31 → words_cmp v w 0 31 ≡ words_cmp v w k (31 - k) → nat_cmp (swap_bytes w64 (v k)) (swap_bytes w64 (w k)) ≡ Equal → words_cmp v w 0 31 ≡ words_cmp v w (k + 1) (31 - (k + 1))
words_alike v w k lt so_far is =
    let size : 31 - k ≡ suc (31 - (k + 1)) = omega arith in
    so_far ∙ ap (words_cmp v w k) size ∙ words_cmp-first v w k (31 - (k + 1)) ∙ ap (λ p. ordering_then p (words_cmp v w (k + 1) (31 - (k + 1)))) is

pub words_end : (v w : ℕ → ℕ) (k : ℕ) → 31 ≤ k → words_cmp v w 0 31 ≡ words_cmp v w k (31 - k) → words_cmp v w 0 31 ≡ Equal
words_end v w k le so_far = let size : 31 - k ≡ 0 = omega arith in so_far ∙ ap (words_cmp v w k) size ∙ words_cmp-none v w k
