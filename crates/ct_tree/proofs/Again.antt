-- What stands where something was put, and elsewhere.
use Rattle.std.proofs.Common.{◌≡◌, ◌∙◌, ℕ, List, [], ◌∷◌, refl, sym, ap, subst, Some, None, Option, Ok, Err, Bool, true, false, if◌then◌else◌, length}
use Rattle.std.specs.Prelude.{unwrap_or, is_none, nat_le, ◌==◌}
use Rattle.std.specs.List.{list_all, join_with_byte}
use Rattle.std.specs.Option.{ok_or}
use Rattle.std.specs.declared.cmp.Ordering.{Ordering}
use Rattle.std.specs.declared.cmp.Ordering.TheVariants.{Less, Equal, Greater}
use Rattle.std.specs.Cmp.Lexicographic.{nat_list_cmp_total}
use Rattle.std.proofs.lemmas.Bool.Decides.{Decides-eqb}
use Rattle.std.proofs.lemmas.Cmp.{tied_itself}
use Rattle.std.proofs.lemmas.List.Splits.{join_with_byte-slice_split}
use Rattle.std.proofs.lemmas.Map.Lookups.{exact_bytes}
use Rattle.ct_base.specs.Path.{is_name, parts, names_after, names_from, names_of}
use Rattle.ct_tree.specs.Tree.{Tree, File, Dir, Entries, none, entry}
use Rattle.ct_tree.specs.Checks.{refuse_if, bad_path, names}
use Rattle.ct_tree.specs.Entries.{by_order, name_cmp, lookup, put_entry}
use Rattle.ct_tree.specs.Ordered.{IsTree}
use Rattle.ct_tree.specs.Resolve.{and_then, resolve, entries_in, under, put}
use Rattle.ct_tree.specs.declared.call.Refusal.{Refusal}
use Rattle.ct_tree.specs.declared.call.Refusal.TheVariants.{NotFound, NotDir, BadPath}
use Rattle.ct_tree.proofs.Moved.{lookup_put_same, lookup_put_other}
use Rattle.ct_tree.proofs.Ordered.{found_tree}

-- the same name put twice
put_twice_at : (o : Ordering) (x y : List ℕ) (m k n : Tree) (rest : Entries) → name_cmp x y ≡ o → put_entry x k (put_entry x m rest) ≡ put_entry x k rest →
    put_entry x k (by_order o (entry x m (entry y n rest)) (entry y m rest) (entry y n (put_entry x m rest))) ≡ by_order o (entry x k (entry y n rest)) (entry y k rest) (entry y n (put_entry x k rest))
put_twice_at Less x y m k n rest h ih =
    ap (λ o. by_order o (entry x k (entry x m (entry y n rest))) (entry x k (entry y n rest)) (entry x m (put_entry x k (entry y n rest)))) (tied_itself nat_list_cmp_total x)
put_twice_at Equal x y m k n rest h ih = ap (λ o. by_order o (entry x k (entry y m rest)) (entry y k rest) (entry y m (put_entry x k rest))) h
put_twice_at Greater x y m k n rest h ih =
    ap (λ o. by_order o (entry x k (entry y n (put_entry x m rest))) (entry y k (put_entry x m rest)) (entry y n (put_entry x k (put_entry x m rest)))) h ∙ ap (entry y n) ih

put_entry_twice : (x : List ℕ) (m k : Tree) (es : Entries) → put_entry x k (put_entry x m es) ≡ put_entry x k es
put_entry_twice x m k none = ap (λ o. by_order o (entry x k (entry x m none)) (entry x k none) (entry x m (entry x k none))) (tied_itself nat_list_cmp_total x)
put_entry_twice x m k (entry y n rest) = put_twice_at (name_cmp x y) x y m k n rest refl (put_entry_twice x m k rest)

-- what was put is there
pub resolve_put : (t : Tree) (names : List (List ℕ)) (n : Tree) → resolve (put t names n) names ≡ Ok n
resolve_put t [] n = refl
resolve_put t (x ∷ xs) n =
    ap (λ o. and_then (ok_or o NotFound) (λ k. resolve k xs)) (lookup_put_same x (put (under t x) xs n) (entries_in t)) ∙ resolve_put (under t x) xs n

-- and it is there in the place of what was put before
pub put_put : (t : Tree) (names : List (List ℕ)) (m n : Tree) → put (put t names m) names n ≡ put t names n
put_put t [] m n = refl
put_put t (x ∷ xs) m n =
    let had = put (under t x) xs m in
    ap (λ o. Dir (put_entry x (put (unwrap_or o (Dir none)) xs n) (put_entry x had (entries_in t)))) (lookup_put_same x had (entries_in t))
    ∙ ap (λ k. Dir (put_entry x k (put_entry x had (entries_in t)))) (put_put (under t x) xs m n)
    ∙ ap Dir (put_entry_twice x had (put (under t x) xs n) (entries_in t))

file_only : (t : Tree) (names : List (List ℕ)) (b c : List ℕ) → t ≡ File b → resolve t names ≡ Ok (File c) → [] ≡ names
file_only t [] b c is h = refl
file_only t (x ∷ xs) b c is h = absurd (let e : Err NotDir ≡ Ok (File c) = sym (ap (λ u. resolve u (x ∷ xs)) is) ∙ h in cc)

there_in : (r : Option Tree) (names : List (List ℕ)) (n : Tree) → and_then (ok_or r NotFound) (λ k. resolve k names) ≡ Ok n → resolve (unwrap_or r (Dir none)) names ≡ Ok n
there_in None names n h = absurd (cc)
there_in (Some k) names n h = h

-- another file stays
pub other_stays : (p q : List (List ℕ)) (t : Tree) (a b c : List ℕ) → IsTree t → (p ≡ q → ⊥) → resolve t p ≡ Ok (File b) → resolve t q ≡ Ok (File c) → resolve (put t p (File a)) q ≡ Ok (File c)
other_stays [] q t a b c tree other hp hq = absurd (other (file_only t q b c (let e : t ≡ File b = cc in e) hq))
other_stays (x ∷ xs) [] t a b c tree other hp hq = absurd (other (sym (file_only t (x ∷ xs) c b (let e : t ≡ File c = cc in e) hp)))
other_stays (x ∷ xs) (y ∷ ys) (File bytes) a b c tree other hp hq = absurd (cc)
other_stays (x ∷ xs) (y ∷ ys) (Dir es) a b c tree other hp hq =
    at (name_cmp y x) refl (other_stays xs ys (unwrap_or (lookup x es) (Dir none)) a b c (found_tree x es tree))
  where
    apart : (name_cmp y x ≡ Equal → ⊥) → and_then (ok_or (lookup y (put_entry x (put (unwrap_or (lookup x es) (Dir none)) xs (File a)) es)) NotFound) (λ k. resolve k ys) ≡ Ok (File c)
    apart ne = ap (λ o. and_then (ok_or o NotFound) (λ k. resolve k ys)) (lookup_put_other y x (put (unwrap_or (lookup x es) (Dir none)) xs (File a)) es ne tree) ∙ hq

    at : (o : Ordering) → name_cmp y x ≡ o →
        ((xs ≡ ys → ⊥) → resolve (unwrap_or (lookup x es) (Dir none)) xs ≡ Ok (File b) → resolve (unwrap_or (lookup x es) (Dir none)) ys ≡ Ok (File c) →
        resolve (put (unwrap_or (lookup x es) (Dir none)) xs (File a)) ys ≡ Ok (File c)) →
        and_then (ok_or (lookup y (put_entry x (put (unwrap_or (lookup x es) (Dir none)) xs (File a)) es)) NotFound) (λ k. resolve k ys) ≡ Ok (File c)
    at Less h ih = apart (λ e. less_equal (sym h ∙ e))
      where
        less_equal : Less ≡ Equal → ⊥
        less_equal e = (cc)
    at Greater h ih = apart (λ e. greater_equal (sym h ∙ e))
      where
        greater_equal : Greater ≡ Equal → ⊥
        greater_equal e = (cc)
    at Equal h ih =
        let same : y ≡ x = exact_bytes y x h in
        let hq' = there_in (lookup x es) ys (File c) (subst (λ z. and_then (ok_or (lookup z es) NotFound) (λ k. resolve k ys) ≡ Ok (File c)) same hq) in
        let below = ih (λ e. other (ap (λ zs. x ∷ zs) e ∙ ap (λ z. z ∷ ys) (sym same))) (there_in (lookup x es) xs (File b) hp) hq' in
        ap (λ z. and_then (ok_or (lookup z (put_entry x (put (unwrap_or (lookup x es) (Dir none)) xs (File a)) es)) NotFound) (λ k. resolve k ys)) same
        ∙ ap (λ o. and_then (ok_or o NotFound) (λ k. resolve k ys)) (lookup_put_same x (put (unwrap_or (lookup x es) (Dir none)) xs (File a)) es) ∙ below

-- a path is told by its names
abbrev IsTold : List ℕ → Option (List (List ℕ)) → Type 0
IsTold path None = Unit {0}
IsTold path (Some ns) = path ≡ 47 ∷ join_with_byte 47 ns

told_after : (xs : List ℕ) → IsTold (47 ∷ xs) (names_after xs)
told_after [] = refl
told_after (x ∷ xs) = at (list_all is_name (parts (x ∷ xs)))
  where
    at : (b : Bool) → IsTold (47 ∷ (x ∷ xs)) (if b then Some (parts (x ∷ xs)) else None)
    at true = ap (λ ys. 47 ∷ ys) (sym (join_with_byte-slice_split 47 (x ∷ xs)))
    at false = tt

told_from : (xs : List ℕ) → IsTold xs (names_from xs)
told_from [] = tt
told_from (x ∷ xs) = at (x == 47) refl
  where
    at : (b : Bool) → (x == 47) ≡ b → IsTold (x ∷ xs) (if b then names_after xs else None)
    at true e = subst (λ z. IsTold (z ∷ xs) (names_after xs)) (sym ((Decides-eqb x 47).0 e)) (told_after xs)
    at false e = tt

told_of : (path : List ℕ) → IsTold path (names_of path)
told_of path = at (nat_le (length path) 4096)
  where
    at : (b : Bool) → IsTold path (if b then names_from path else None)
    at true = told_from path
    at false = tt

some_of : (o : Option (List (List ℕ))) (r : Refusal) → refuse_if (is_none o) r ≡ None → o ≡ Some (unwrap_or o [])
some_of None r h = absurd (cc)
some_of (Some ns) r h = refl

pub path_is_told : (path : List ℕ) → bad_path path ≡ None → path ≡ 47 ∷ join_with_byte 47 (names path)
path_is_told path h = subst (IsTold path) (some_of (names_of path) BadPath h) (told_of path)

-- two paths that differ have names that differ
pub names_differ : (path other : List ℕ) → bad_path path ≡ None → bad_path other ≡ None → (path ≡ other → ⊥) → names path ≡ names other → ⊥
names_differ path other a b ne e = ne (path_is_told path a ∙ ap (λ ns. 47 ∷ join_with_byte 47 ns) e ∙ sym (path_is_told other b))
