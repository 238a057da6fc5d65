-- Sums over the inodes of an image, and over the nodes of the tree for which it stands.
use Rattle.std.proofs.Common.{◌≡◌, ◌≢◌, ◌∙◌, ℕ, zero, suc, ◌+◌, ◌*◌, ◌≤◌, Bool, true, false, List, [], ◌∷◌, ◌++◌, refl, sym, ap, inl, inr, arith}
use Rattle.std.specs.Prelude.{◌==◌, ◌||◌, if◌then◌else◌}
use Rattle.std.proofs.lemmas.Bool.{cases_Bool, cases_eq, eq-eqb, eqb-true, ne_eqb, or_cases, or_left, or_right, both_ways, false_from_ne_true}
use Rattle.ct_base.specs.Objects.{Object}
use Rattle.ct_base.specs.Slots.{slot_inode}
use Rattle.ct_state.proofs.Counted.{AreOnce, IsAmong, has}
use Rattle.ct_state.proofs.Nodes.{numbers, numbers_in}
use Rattle.ct_tree.specs.Stands.{IsDir, IsFile, Stands, StandIn}
use Rattle.ct_tree.specs.Tree.{Tree, File, Dir, Entries, none, entry}
use Rattle.ct_tell.specs.Held.{total, total_below}

-- the sum over the numbers from 1 to n
unfoldable pub sum_to : (ℕ → ℕ) → ℕ → ℕ
sum_to w zero = 0
sum_to w (suc n) = sum_to w n + w (suc n)

-- and over those of a list
unfoldable pub sum_of : (ℕ → ℕ) → List ℕ → ℕ
sum_of w [] = 0
sum_of w (x ∷ xs) = w x + sum_of w xs

pub sum_none : (w : ℕ → ℕ) → sum_to w 0 ≡ 0
unfolding sum_to
sum_none w = refl

pub sum_more : (w : ℕ → ℕ) (n : ℕ) → sum_to w (n + 1) ≡ sum_to w n + w (n + 1)
unfolding sum_to
sum_more w n = let e : n + 1 ≡ suc n = omega arith in ap (sum_to w) e ∙ ap (λ k. sum_to w n + w k) (sym e)

pub sum_least : (w : ℕ → ℕ) (most n : ℕ) → ((i : ℕ) → 1 ≤ i → i ≤ n → w i ≤ most) → sum_to w n ≤ n * most
unfolding sum_to
sum_least w most zero each = omega arith
sum_least w most (suc n) each =
    let had = sum_least w most n (λ i from to. each i from (omega arith)) in
    let one = each (suc n) (omega arith) (omega arith) in
    omega (arith, had, one)

sum_same : (v w : ℕ → ℕ) (n : ℕ) → ((i : ℕ) → 1 ≤ i → i ≤ n → v i ≡ w i) → sum_to v n ≡ sum_to w n
unfolding sum_to
sum_same v w zero same = refl
sum_same v w (suc n) same =
    let had = sum_same v w n (λ i from to. same i from (omega arith)) in
    let one = same (suc n) (omega arith) (omega arith) in
    omega (arith, had, one)

sum_zero : (w : ℕ → ℕ) (n : ℕ) → ((i : ℕ) → w i ≡ 0) → sum_to w n ≡ 0
unfolding sum_to
sum_zero w zero nil = refl
sum_zero w (suc n) nil = let had = sum_zero w n nil in let one = nil (suc n) in omega (arith, had, one)

-- one number more
sum_one : (v w : ℕ → ℕ) (n x : ℕ) → 1 ≤ x → x ≤ n → w x ≡ 0 → ((i : ℕ) → i ≢ x → v i ≡ w i) → sum_to v n ≡ v x + sum_to w n
unfolding sum_to
sum_one v w zero x from to nil same = absurd (omega arith)
sum_one v w (suc n) x from to nil same = elim (cases_eq x (suc n)) [
  | inl last ↦
      let rest = sum_same v w n (λ i low high. same i (omega arith)) in
      let here : v (suc n) ≡ v x = ap v (sym last) in
      let off : w (suc n) ≡ 0 = ap w (sym last) ∙ nil in
      omega (arith, rest, here, off)
  | inr other ↦
      let rest = sum_one v w n x from (omega arith) nil same in
      let one = same (suc n) (λ e. other (sym e)) in
      omega (arith, rest, one)
]

-- what counts of the numbers of a list
abbrev masked : (ℕ → ℕ) → List ℕ → ℕ → ℕ
masked w xs i = if has xs i then w i else 0

among_has : (n : ℕ) (xs : List ℕ) → IsAmong n xs → has xs n ≡ true
among_has n [] h = absurd h
among_has n (x ∷ xs) (inl is) = or_left (n == x) (has xs n) (eq-eqb n x is)
among_has n (x ∷ xs) (inr h) = or_right (n == x) (has xs n) (among_has n xs h)

has_among : (n : ℕ) (xs : List ℕ) → has xs n ≡ true → IsAmong n xs
has_among n [] is = absurd (both_ways false refl is)
has_among n (x ∷ xs) is = elim (or_cases (n == x) (has xs n) is) [ inl here ↦ inl (eqb-true n x here) | inr more ↦ inr (has_among n xs more) ]

masked_on : (w : ℕ → ℕ) (xs : List ℕ) (i : ℕ) → has xs i ≡ true → masked w xs i ≡ w i
masked_on w xs i on = rw on refl

masked_off : (w : ℕ → ℕ) (xs : List ℕ) (i : ℕ) → has xs i ≡ false → masked w xs i ≡ 0
masked_off w xs i off = rw off refl

sum_masked : (w : ℕ → ℕ) (n : ℕ) (xs : List ℕ) → AreOnce xs → ((x : ℕ) → IsAmong x xs → (1 ≤ x) × (x ≤ n)) → sum_to (masked w xs) n ≡ sum_of w xs
unfolding sum_of
sum_masked w n [] once within = sum_zero (masked w []) n (λ i. refl)
sum_masked w n (x ∷ xs) once within =
    let rest = sum_masked w n xs once.1 (λ y h. within y (inr h)) in
    let off : has xs x ≡ false = false_from_ne_true (has xs x) (λ t. once.0 (has_among x xs t)) in
    let on : has (x ∷ xs) x ≡ true = among_has x (x ∷ xs) (inl refl) in
    let here = within x (inl refl) in
    let one = sum_one (masked w (x ∷ xs)) (masked w xs) n x here.0 here.1 (masked_off w xs x off) (λ i other. ap (λ (b : Bool). if b || has xs i then w i else 0) (ne_eqb i x other)) in
    let first = masked_on w (x ∷ xs) x on in
    omega (arith, rest, one, first)

-- numbers in which nil comes twice, and outside which nothing counts
pub sum_once : (w : ℕ → ℕ) (n : ℕ) (xs : List ℕ) → AreOnce xs → ((x : ℕ) → IsAmong x xs → (1 ≤ x) × (x ≤ n)) → ((i : ℕ) → 1 ≤ i → i ≤ n → w i ≢ 0 → IsAmong i xs) → sum_to w n ≡ sum_of w xs
sum_once w n xs once within all =
    sum_same w (masked w xs) n
    (λ i from to. elim (cases_Bool (has xs i)) [
      | inl on ↦ sym (masked_on w xs i on)
      | inr off ↦ elim (cases_eq (w i) 0) [
        | inl nil ↦ nil ∙ sym (masked_off w xs i off)
        | inr some ↦ absurd (both_ways (has xs i) off (among_has i xs (all i from to some)))
      ]
    ])
    ∙ sum_masked w n xs once within

-- ---- over a tree

sum_append : (w : ℕ → ℕ) (xs ys : List ℕ) → sum_of w (xs ++ ys) ≡ sum_of w xs + sum_of w ys
unfolding sum_of
sum_append w [] ys = omega arith
sum_append w (x ∷ xs) ys = let had = sum_append w xs ys in omega (arith, had)

-- what each object counts for, by what stands there
pub record Weighs (fs : ℕ → Object) (w : ℕ → ℕ) (of_file : List ℕ → ℕ) (of_dir : ℕ) : Type 0 where
  pub file : (i : ℕ) (bytes : List ℕ) → IsFile (fs i) bytes → w i ≡ of_file bytes
  pub dir : (i : ℕ) (es : Entries) → IsDir (fs i) es → w i ≡ of_dir

module _ {fs : ℕ → Object} {w : ℕ → ℕ} {of_file : List ℕ → ℕ} {of_dir : ℕ} (h : Weighs fs w of_file of_dir) where
  mutual
    unfolding sum_of

    pub sum_tree : (i : ℕ) (t : Tree) (st : Stands fs i t) → sum_of w (numbers fs i t st) ≡ total of_file of_dir t
    sum_tree i (File bytes) st = let one = h.file i bytes st in omega (arith, one)
    sum_tree i (Dir es) st = let one = h.dir i es st.0 in let rest = sum_below (fs i) es st.1 in omega (arith, one, rest)

    sum_below : (f : Object) (es : Entries) (st : StandIn fs f es) → sum_of w (numbers_in fs f es st) ≡ total_below of_file of_dir es
    sum_below f none st = refl
    sum_below f (entry x n rest) st =
        let c = slot_inode f st.0.0.offset in
        let both = sum_append w (numbers fs c n st.0.1) (numbers_in fs f rest st.1) in
        let one = sum_tree c n st.0.1 in
        let more = sum_below f rest st.1 in
        omega (arith, both, one, more)
