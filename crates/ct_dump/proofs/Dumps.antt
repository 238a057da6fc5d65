-- Dumps of nodes, one after another.
use Rattle.std.proofs.Common.{◌≡◌, ◌∙◌, ℕ, suc, ◌≤◌, Bool, true, false, List, [], ◌∷◌, ◌++◌, length, take, refl, sym, ap, subst, arith, append-nil, Option, Ok, Err, Result, if◌then◌else◌}
use Rattle.std.specs.Prelude.{◌&&◌, nat_le}
use Rattle.std.specs.Io.KnownBytes.{Appends}
use Rattle.std.proofs.lemmas.Bool.Decides.{nat_tests}
use Rattle.std.proofs.lemmas.Grind.{flat_map-append}
use Rattle.std.proofs.lemmas.List.Folds.{list_all-append}
use Rattle.ct_script.proofs.Puts.{appends_then, fault_first, put_second}
use Rattle.ct_tree.specs.Tree.{Tree}
use Rattle.ct_dump.specs.Dumped.{Placed, lines_of, node_lines, text_of, is_short, are_short, before_long, alone}
use Rattle.ct_dump.specs.Dumps.{DumpAppends}
use Rattle.ct_dump.specs.declared.fault.DumpFault.{DumpFault}
use Rattle.ct_dump.specs.declared.fault.DumpFault.TheVariants.{Write, TooLong}

short : (path : List ℕ) → length path ≤ 4096 → nat_le (length path) 4096 ≡ true
short path h = fits (nat_le (length path) 4096) refl
  where
    fits : (b : Bool) → nat_le (length path) 4096 ≡ b → nat_le (length path) 4096 ≡ true
    fits true e = e
    fits false e = absurd (let over : suc 4096 ≤ length path = grind (arith, nat_tests) in omega (arith, over, h))

pub short_alone : (path : List ℕ) (node : Tree) → length path ≤ 4096 → are_short (alone path node) ≡ true
short_alone path node h = ap (λ b. b && true) (short path h)

pub short_fits : (path : List ℕ) (node : Tree) → are_short (alone path node) ≡ true → length path ≤ 4096
short_fits path node h = fits (nat_le (length path) 4096) refl
  where
    fits : (b : Bool) → nat_le (length path) 4096 ≡ b → length path ≤ 4096
    fits true e = grind (arith, nat_tests)
    fits false e = absurd (let no : false ≡ true = ap (λ b. b && true) (sym e) ∙ h in cc)

pub put_alone : (a b : Option (List ℕ)) (path : List ℕ) (node : Tree) → Appends a b (node_lines path node) → Appends a b (text_of (alone path node))
put_alone a b path node u = subst (Appends a b) (sym (append-nil (node_lines path node))) u

pub fault_alone : (a b : Option (List ℕ)) (path : List ℕ) (node : Tree) → length path ≤ 4096 → (k : ℕ) × Appends a b (take k (node_lines path node)) →
    (k : ℕ) × Appends a b (take k (text_of (before_long (alone path node))))
fault_alone a b path node h u =
    subst (λ t. (k : ℕ) × Appends a b (take k t))
    (sym (append-nil (node_lines path node)) ∙ ap (λ s. text_of (if s then alone path node else [])) (sym (short path h))) u

-- the nodes before one that is too long, where the first ones are short
before_append : (xs ys : List Placed) → are_short xs ≡ true → before_long (xs ++ ys) ≡ xs ++ before_long ys
before_append [] ys h = refl
before_append (x ∷ xs) ys h = at (is_short x) (before_append xs ys) refl
  where
    at : (b : Bool) → (are_short xs ≡ true → before_long (xs ++ ys) ≡ xs ++ before_long ys) → is_short x ≡ b → before_long (x ∷ (xs ++ ys)) ≡ x ∷ (xs ++ before_long ys)
    at true ih e =
        let rest : are_short xs ≡ true = ap (λ b. b && are_short xs) (sym e) ∙ h in
        ap (λ b. if b then x ∷ before_long (xs ++ ys) else []) e ∙ ap (λ t. x ∷ t) (ih rest)
    at false ih e = absurd (let no : false ≡ true = ap (λ b. b && are_short xs) (sym e) ∙ h in cc)

all_before : (xs : List Placed) → are_short xs ≡ true → before_long xs ≡ xs
all_before [] h = refl
all_before (x ∷ xs) h = at (is_short x) (all_before xs) refl
  where
    at : (b : Bool) → (are_short xs ≡ true → before_long xs ≡ xs) → is_short x ≡ b → before_long (x ∷ xs) ≡ x ∷ xs
    at true ih e =
        let rest : are_short xs ≡ true = ap (λ b. b && are_short xs) (sym e) ∙ h in
        ap (λ b. if b then x ∷ before_long xs else []) e ∙ ap (λ t. x ∷ t) (ih rest)
    at false ih e = absurd (let no : false ≡ true = ap (λ b. b && are_short xs) (sym e) ∙ h in cc)

-- where one of the first ones is too long, the others do not count
before_stops : (xs ys : List Placed) → are_short xs ≡ false → before_long (xs ++ ys) ≡ before_long xs
before_stops [] ys h = absurd (cc)
before_stops (x ∷ xs) ys h = at (is_short x) (before_stops xs ys) refl
  where
    at : (b : Bool) → (are_short xs ≡ false → before_long (xs ++ ys) ≡ before_long xs) → is_short x ≡ b → before_long (x ∷ (xs ++ ys)) ≡ before_long (x ∷ xs)
    at true ih e =
        let rest : are_short xs ≡ false = ap (λ b. b && are_short xs) (sym e) ∙ h in
        ap (λ b. if b then x ∷ before_long (xs ++ ys) else []) e ∙ ap (λ t. x ∷ t) (ih rest) ∙ ap (λ b. if b then x ∷ before_long xs else []) (sym e)
    at false ih e = ap (λ b. if b then x ∷ before_long (xs ++ ys) else []) e ∙ ap (λ b. if b then x ∷ before_long xs else []) (sym e)

text_append : (xs ys : List Placed) → text_of (xs ++ ys) ≡ text_of xs ++ text_of ys
text_append xs ys = flat_map-append lines_of xs ys

short_append : (xs ys : List Placed) (b : Bool) → are_short xs ≡ true → are_short ys ≡ b → are_short (xs ++ ys) ≡ b
short_append xs ys b h k = list_all-append is_short xs ys ∙ ap (λ s. s && are_short ys) h ∙ k

-- a dump that follows one that was whole
pub dump_second : {A : Type 0} (r : Result A DumpFault) (a b d : Option (List ℕ)) (xs ys : List Placed) → are_short xs ≡ true → Appends a b (text_of xs) → DumpAppends b d r ys → DumpAppends a d r (xs ++ ys)
dump_second (Ok x) a b d xs ys s u v =
    (short_append xs ys true s v.0, subst (Appends a d) (sym (text_append xs ys)) (appends_then a b d (text_of xs) (text_of ys) u v.1))
dump_second (Err TooLong) a b d xs ys s u v =
    (short_append xs ys false s v.0, subst (Appends a d) (sym (ap text_of (before_append xs ys s) ∙ text_append xs (before_long ys))) (appends_then a b d (text_of xs) (text_of (before_long ys)) u v.1))
dump_second (Err Write) a b d xs ys s u v =
    subst (λ t. (k : ℕ) × Appends a d (take k t)) (sym (ap text_of (before_append xs ys s) ∙ text_append xs (before_long ys)))
    (put_second {T = ℕ} {E = DumpFault} (Err Write) a b d (text_of xs) (text_of (before_long ys)) u v)

-- a fault in the first of two dumps
pub dump_first : (A B : Type 0) (e : DumpFault) (a d : Option (List ℕ)) (xs ys : List Placed) → DumpAppends {A = A} a d (Err e) xs → DumpAppends {A = B} a d (Err e) (xs ++ ys)
dump_first A B TooLong a d xs ys v =
    (list_all-append is_short xs ys ∙ ap (λ s. s && are_short ys) v.0, subst (Appends a d) (ap text_of (sym (before_stops xs ys v.0))) v.1)
dump_first A B Write a d xs ys v = at (are_short xs) refl
  where
    at : (b : Bool) → are_short xs ≡ b → (k : ℕ) × Appends a d (take k (text_of (before_long (xs ++ ys))))
    at true e =
        subst (λ t. (k : ℕ) × Appends a d (take k t)) (sym (ap text_of (before_append xs ys e) ∙ text_append xs (before_long ys)))
        (fault_first a d (text_of xs) (text_of (before_long ys)) (subst (λ t. (k : ℕ) × Appends a d (take k t)) (ap text_of (all_before xs e)) v))
    at false e = subst (λ t. (k : ℕ) × Appends a d (take k t)) (ap text_of (sym (before_stops xs ys e))) v
