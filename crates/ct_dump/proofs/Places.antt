-- Paths that are led on to an entry.
use Rattle.std.proofs.Common.{◌≡◌, ◌∙◌, ℕ, suc, ◌≤◌, Bool, true, false, List, [], ◌∷◌, ◌++◌, length, refl, sym, ap, arith, Some, None, Ok, Err, Result, if◌then◌else◌}
use Rattle.std.specs.Prelude.{◌==◌, ◌&&◌, not, nat_le, nat_lt, cond, is_some, unwrap_or}
use Rattle.std.specs.List.{list_all, onto_first}
use Rattle.std.specs.Str.{bytes_eq}
use Rattle.std.proofs.lemmas.Bool.Decides.{nat_tests}
use Rattle.std.proofs.lemmas.List.Folds.{list_all-append}
use Rattle.ct_base.specs.Path.{is_name, parts, if_names, names_after, names_from, names_of}
use Rattle.ct_script.proofs.Cuts.{split_joined}
use Rattle.ct_tree.specs.Tree.{Tree}
use Rattle.ct_tree.specs.Resolve.{child, and_then, resolve}
use Rattle.ct_tree.specs.Checks.{at, names}
use Rattle.ct_tree.specs.declared.call.Refusal.{Refusal}
use Rattle.ct_dump.specs.Dumped.{path_below}
use Rattle.ct_dump.specs.Places.{IsPlace, entry_at}

both : (b c : Bool) → (b && c) ≡ true → (b ≡ true) × (c ≡ true)
both true c h = (refl, h)
both false c h = absurd (cc)

is_false : (b : Bool) → not b ≡ true → b ≡ false
is_false true h = absurd (cc)
is_false false h = refl

-- bytes of a name are one part
one_part : (xs : List ℕ) → list_all (λ b. not (b == 0) && not (b == 47)) xs ≡ true → parts xs ≡ xs ∷ []
one_part [] h = refl
one_part (x ∷ xs) h =
    let b = both (not (x == 0) && not (x == 47)) (list_all (λ b. not (b == 0) && not (b == 47)) xs) h in
    let other : (x == 47) ≡ false = is_false (x == 47) (both (not (x == 0)) (not (x == 47)) b.0).1 in
    ap (λ t. cond t ([] ∷ parts xs) (onto_first x (parts xs))) other ∙ ap (onto_first x) (one_part xs b.1)

record Named (x : List ℕ) : Type 0 where
  pub some : nat_lt 0 (length x) ≡ true
  pub bytes : list_all (λ b. not (b == 0) && not (b == 47)) x ≡ true

named : (x : List ℕ) → is_name x ≡ true → Named x
named x h =
    let a = both _ (list_all (λ b. not (b == 0) && not (b == 47)) x) h in
    let b = both _ (not (bytes_eq x (46 ∷ 46 ∷ []))) a.0 in
    let d = both _ (not (bytes_eq x (46 ∷ []))) b.0 in
    let e = both (nat_lt 0 (length x)) (nat_le (length x) 248) d.0 in
    record { some = e.0; bytes = a.1 }

short_names : (path : List ℕ) → length path ≤ 4096 → names_of path ≡ names_from path
short_names path h = ap (λ b. if b then names_from path else None) (fits (nat_le (length path) 4096) refl)
  where
    fits : (b : Bool) → nat_le (length path) 4096 ≡ b → nat_le (length path) 4096 ≡ true
    fits true e = e
    fits false e = absurd (let over : suc 4096 ≤ length path = grind (arith, nat_tests) in omega (arith, over, h))

from_root : (name : List ℕ) → is_name name ≡ true → names_after name ≡ Some (name ∷ [])
from_root [] h = absurd (cc)
from_root (x ∷ xs) h =
    ap if_names (one_part (x ∷ xs) (named (x ∷ xs) h).bytes)
    ∙ ap (λ b. if b && true then Some ((x ∷ xs) ∷ []) else None) h

-- the names of a path that is not the root's
record Split (path rest : List ℕ) : Type 0 where
  pub whole : names path ≡ parts rest
  pub are_names : list_all is_name (parts rest) ≡ true

-- a text of two bytes or more that is a path
split_of : (x y : ℕ) (ys : List ℕ) → is_some (names_of (x ∷ y ∷ ys)) ≡ true → ((x == 47) ≡ true) × Split (x ∷ y ∷ ys) (y ∷ ys)
split_of x y ys h = fits (nat_le (length (x ∷ y ∷ ys)) 4096) refl
  where
    named_by : (b : Bool) → list_all is_name (parts (y ∷ ys)) ≡ b → names_of (x ∷ y ∷ ys) ≡ (if b then Some (parts (y ∷ ys)) else None) → (x == 47) ≡ true → ((x == 47) ≡ true) × Split (x ∷ y ∷ ys) (y ∷ ys)
    named_by true e is s = (s, record { whole = ap (λ o. unwrap_or o []) is; are_names = e })
    named_by false e is s = absurd (cc)

    slash : (b : Bool) → (x == 47) ≡ b → names_of (x ∷ y ∷ ys) ≡ (if b then names_after (y ∷ ys) else None) → ((x == 47) ≡ true) × Split (x ∷ y ∷ ys) (y ∷ ys)
    slash true e is = named_by (list_all is_name (parts (y ∷ ys))) refl is e
    slash false e is = absurd (cc)

    fits : (b : Bool) → nat_le (length (x ∷ y ∷ ys)) 4096 ≡ b → ((x == 47) ≡ true) × Split (x ∷ y ∷ ys) (y ∷ ys)
    fits true e = slash (x == 47) refl (ap (λ b. if b then names_from (x ∷ y ∷ ys) else None) e)
    fits false e = absurd (let is : names_of (x ∷ y ∷ ys) ≡ None = ap (λ b. if b then names_from (x ∷ y ∷ ys) else None) e in cc)

pub names_below : (path name : List ℕ) → IsPlace path → is_name name ≡ true → length (path_below path name) ≤ 4096 → names_of (path_below path name) ≡ Some (names path ++ name ∷ [])
names_below [] name p n h = short_names (47 ∷ name) h ∙ from_root name n
names_below (x ∷ []) name p n h = absurd p
names_below (x ∷ y ∷ ys) name p n h =
    let s = split_of x y ys p in
    let joined : parts (y ∷ ys ++ 47 ∷ name) ≡ parts (y ∷ ys) ++ name ∷ [] =
    split_joined (λ b. b == 47) (y ∷ ys) 47 name refl ∙ ap (λ t. parts (y ∷ ys) ++ t) (one_part name (named name n).bytes) in
    let all : list_all is_name (parts (y ∷ ys) ++ name ∷ []) ≡ true =
    list_all-append is_name (parts (y ∷ ys)) (name ∷ []) ∙ ap (λ b. b && (is_name name && true)) s.1.are_names ∙ ap (λ b. b && true) n in
    short_names (path_below (x ∷ y ∷ ys) name) h
    ∙ ap (λ b. if b then names_after (y ∷ ys ++ 47 ∷ name) else None) s.0
    ∙ ap if_names joined
    ∙ ap (λ b. if b then Some (parts (y ∷ ys) ++ name ∷ []) else None) all
    ∙ ap (λ ns. Some (ns ++ name ∷ [])) (sym s.1.whole)

-- one name more
resolve_push : (t : Tree) (ns : List (List ℕ)) (x : List ℕ) → resolve t (ns ++ x ∷ []) ≡ and_then (resolve t ns) (λ n. child n x)
resolve_push t [] x = last (child t x)
  where
    last : (r : Result Tree Refusal) → and_then r (λ n. Ok n) ≡ r
    last (Ok n) = refl
    last (Err e) = refl
resolve_push t (n ∷ ns) x = more (child t n) (λ m. resolve_push m ns x)
  where
    more : (r : Result Tree Refusal) → ((m : Tree) → resolve m (ns ++ x ∷ []) ≡ and_then (resolve m ns) (λ k. child k x)) → and_then r (λ m. resolve m (ns ++ x ∷ [])) ≡ and_then (and_then r (λ m. resolve m ns)) (λ m. child m x)
    more (Ok m) h = h m
    more (Err e) h = refl

pub at_below : (t : Tree) (path name : List ℕ) → IsPlace path → is_name name ≡ true → length (path_below path name) ≤ 4096 → at t (path_below path name) ≡ entry_at t path name
at_below t path name p n h = ap (λ o. resolve t (unwrap_or o [])) (names_below path name p n h) ∙ resolve_push t (names path) name

pub path_is_below : (path name : List ℕ) → IsPlace path → is_name name ≡ true → length (path_below path name) ≤ 4096 → is_some (names_of (path_below path name)) ≡ true
path_is_below path name p n h = ap is_some (names_below path name p n h)

pub place_below : (path name : List ℕ) → IsPlace path → is_name name ≡ true → length (path_below path name) ≤ 4096 → IsPlace (path_below path name)
place_below path name p n h = at_least path name n (path_is_below path name p n h)
  where
    at_least : (path name : List ℕ) → is_name name ≡ true → is_some (names_of (path_below path name)) ≡ true → IsPlace (path_below path name)
    at_least [] [] n s = absurd (cc)
    at_least [] (x ∷ xs) n s = s
    at_least (x ∷ []) name n s = s
    at_least (x ∷ y ∷ ys) name n s = s
