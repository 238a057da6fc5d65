-- What is put into a tree leaves a tree.
use Rattle.std.proofs.Common.{◌≡◌, ◌∙◌, ℕ, ◌+◌, ◌≤◌, List, [], ◌∷◌, length, refl, sym, ap, subst, arith, Some, None, Option, Bool, true, false, if◌then◌else◌}
use Rattle.std.specs.Prelude.{◌-◌, ◌++◌, take, drop, replicate, Ok, Err, Result, unwrap_or, ◌&&◌, ◌==◌, nat_le, not}
use Rattle.std.specs.List.{list_all}
use Rattle.std.specs.declared.cmp.Ordering.{Ordering}
use Rattle.std.specs.declared.cmp.Ordering.TheVariants.{Less, Equal, Greater}
use Rattle.std.specs.Ordering.{ordering_reverse}
use Rattle.std.specs.Cmp.Lexicographic.{nat_list_cmp_total}
use Rattle.ct_tree.specs.Tree.{Tree, File, Dir, Entries, none, entry}
use Rattle.ct_tree.specs.Entries.{by_order, name_cmp, lookup, put_entry, cut_entry}
use Rattle.ct_tree.specs.Ordered.{IsBelow, IsTree, AreEntries}
use Rattle.ct_base.specs.Path.{is_name, parts, names_after, names_from, names_of}
use Rattle.ct_tree.specs.Resolve.{entries_in, put, cut, resolve, and_then, node_in, IsDir}
use Rattle.ct_tree.specs.Checks.{above, refuse_if, has_none}
use Rattle.std.proofs.lemmas.Bool.Decides.{nat_tests}
use Rattle.ct_tree.specs.Content.{written, resized}
use Rattle.ct_tree.specs.declared.call.Refusal.{Refusal}
use Rattle.ct_tree.specs.declared.call.Refusal.TheVariants.{NotFound}
use Rattle.std.specs.Option.{ok_or}
use Rattle.std.proofs.lemmas.List.{length-take, length-drop, length-append, length-replicate}

turned : (x y : List ℕ) → name_cmp x y ≡ Greater → name_cmp y x ≡ Less
turned x y h = nat_list_cmp_total.antisymm y x ∙ ap ordering_reverse h

pub below_trans : (x y : List ℕ) (es : Entries) → name_cmp x y ≡ Less → IsBelow y es → IsBelow x es
below_trans x y none h b = tt
below_trans x y (entry z n rest) h b = (nat_list_cmp_total.trans x y z h b.0, below_trans x y rest h b.1)

below_at : (o : Ordering) (y x z : List ℕ) (n m : Tree) (rest putted : Entries) → name_cmp y x ≡ Less → name_cmp y z ≡ Less → IsBelow y rest → IsBelow y putted →
    IsBelow y (by_order o (entry x n (entry z m rest)) (entry z n rest) (entry z m putted))
below_at Less y x z n m rest putted a b c d = (a, (b, c))
below_at Equal y x z n m rest putted a b c d = (b, c)
below_at Greater y x z n m rest putted a b c d = (b, d)

put_below : (y x : List ℕ) (n : Tree) (es : Entries) → name_cmp y x ≡ Less → IsBelow y es → IsBelow y (put_entry x n es)
put_below y x n none h b = (h, tt)
put_below y x n (entry z m rest) h b = below_at (name_cmp x z) y x z n m rest (put_entry x n rest) h b.0 b.1 (put_below y x n rest h b.1)

put_at : (o : Ordering) (x z : List ℕ) (n m : Tree) (rest : Entries) → name_cmp x z ≡ o → is_name x ≡ true → IsTree n → AreEntries (entry z m rest) → AreEntries (put_entry x n rest) →
    AreEntries (by_order o (entry x n (entry z m rest)) (entry z n rest) (entry z m (put_entry x n rest)))
put_at Less x z n m rest o name node es ih = (name, node, (o, below_trans x z rest o es.2), es)
put_at Equal x z n m rest o name node es ih = (es.0, node, es.2, es.3)
put_at Greater x z n m rest o name node es ih = (es.0, es.1, put_below z x n rest (turned x z o) es.2, ih)

pub put_entries : (x : List ℕ) (n : Tree) (es : Entries) → is_name x ≡ true → IsTree n → AreEntries es → AreEntries (put_entry x n es)
put_entries x n none name node es = (name, node, tt, tt)
put_entries x n (entry z m rest) name node es = put_at (name_cmp x z) x z n m rest refl name node es (put_entries x n rest name node es.3)

found_at : (o : Ordering) (m : Tree) (r : Option Tree) → IsTree m → IsTree (unwrap_or r (Dir none)) → IsTree (unwrap_or (by_order o None (Some m) r) (Dir none))
found_at Less m r a b = tt
found_at Equal m r a b = a
found_at Greater m r a b = b

pub found_tree : (x : List ℕ) (es : Entries) → AreEntries es → IsTree (unwrap_or (lookup x es) (Dir none))
found_tree x none es = tt
found_tree x (entry z m rest) es = found_at (name_cmp x z) m (lookup x rest) es.1 (found_tree x rest es.3)

entries_tree : (t : Tree) → IsTree t → AreEntries (entries_in t)
entries_tree (File bytes) h = tt
entries_tree (Dir es) h = h

first_true : (b c : Bool) → (b && c) ≡ true → (b ≡ true) × (c ≡ true)
first_true true c h = (refl, h)
first_true false c h = absurd (cc)

-- putting a tree under names leaves a tree
pub put_tree : (t : Tree) (names : List (List ℕ)) (n : Tree) → list_all is_name names ≡ true → IsTree t → IsTree n → IsTree (put t names n)
put_tree t [] n all tree node = node
put_tree t (x ∷ xs) n all tree node =
    let both = first_true (is_name x) (list_all is_name xs) all in
    put_entries x _ (entries_in t) both.0 (put_tree (unwrap_or (lookup x (entries_in t)) (Dir none)) xs n both.1 (found_tree x (entries_in t) (entries_tree t tree)) node) (entries_tree t tree)

cut_below_at : (o : Ordering) (y z : List ℕ) (m : Tree) (rest cutted : Entries) → name_cmp y z ≡ Less → IsBelow y rest → IsBelow y cutted → IsBelow y (by_order o (entry z m rest) rest (entry z m cutted))
cut_below_at Less y z m rest cutted a b c = (a, b)
cut_below_at Equal y z m rest cutted a b c = b
cut_below_at Greater y z m rest cutted a b c = (a, c)

cut_below : (y x : List ℕ) (es : Entries) → IsBelow y es → IsBelow y (cut_entry x es)
cut_below y x none b = tt
cut_below y x (entry z m rest) b = cut_below_at (name_cmp x z) y z m rest (cut_entry x rest) b.0 b.1 (cut_below y x rest b.1)

cut_at : (o : Ordering) (x z : List ℕ) (m : Tree) (rest : Entries) → AreEntries (entry z m rest) → AreEntries (cut_entry x rest) → AreEntries (by_order o (entry z m rest) rest (entry z m (cut_entry x rest)))
cut_at Less x z m rest es ih = es
cut_at Equal x z m rest es ih = es.3
cut_at Greater x z m rest es ih = (es.0, es.1, cut_below z x rest es.2, ih)

cut_entries : (x : List ℕ) (es : Entries) → AreEntries es → AreEntries (cut_entry x es)
cut_entries x none es = tt
cut_entries x (entry z m rest) es = cut_at (name_cmp x z) x z m rest es (cut_entries x rest es.3)

-- cutting out of a tree leaves a tree
pub cut_tree : (t : Tree) (names : List (List ℕ)) → list_all is_name names ≡ true → IsTree t → IsTree (cut t names)
cut_tree t [] all tree = tree
cut_tree t (x ∷ []) all tree = cut_entries x (entries_in t) (entries_tree t tree)
cut_tree t (x ∷ y ∷ ys) all tree =
    let both = first_true (is_name x) (list_all is_name (y ∷ ys)) all in
    put_entries x (cut (unwrap_or (lookup x (entries_in t)) (Dir none)) (y ∷ ys)) (entries_in t) both.0
    (cut_tree (unwrap_or (lookup x (entries_in t)) (Dir none)) (y ∷ ys) both.1 (found_tree x (entries_in t) (entries_tree t tree))) (entries_tree t tree)

-- the names of a path are names
abbrev pub AllNames : Option (List (List ℕ)) → Type 0
AllNames None = Unit {0}
AllNames (Some names) = list_all is_name names ≡ true

if_all : (b : Bool) (names : List (List ℕ)) → list_all is_name names ≡ b → AllNames (if b then Some names else None)
if_all true names h = h
if_all false names h = tt

after_all : (xs : List ℕ) → AllNames (names_after xs)
after_all [] = refl
after_all (x ∷ xs) = if_all (list_all is_name (parts (x ∷ xs))) (parts (x ∷ xs)) refl

either_all : (b : Bool) (o : Option (List (List ℕ))) → AllNames o → AllNames (if b then o else None)
either_all true o h = h
either_all false o h = tt

from_all : (xs : List ℕ) → AllNames (names_from xs)
from_all [] = tt
from_all (x ∷ xs) = either_all (x == 47) (names_after xs) (after_all xs)

pub path_names : (path : List ℕ) (names : List (List ℕ)) → Some names ≡ names_of path → list_all is_name names ≡ true
path_names path names h = subst AllNames (sym h) (either_all (nat_le (length path) 4096) (names_from path) (from_all path))

resolved_at : (es : Entries) (x : List ℕ) (r : Option Tree) → IsTree (unwrap_or r (Dir none)) → (xs : List (List ℕ)) (n : Tree) → ((k : Tree) → IsTree k → resolve k xs ≡ Ok n → IsTree n) →
    and_then (ok_or r NotFound) (λ k. resolve k xs) ≡ Ok n → IsTree n
resolved_at es x None tree xs n below h = absurd (cc)
resolved_at es x (Some k) tree xs n below h = below k tree h

-- what names lead to in a tree is a tree
pub resolve_tree : (names : List (List ℕ)) (t n : Tree) → IsTree t → resolve t names ≡ Ok n → IsTree n
resolve_tree [] t n tree h = subst IsTree (let e : t ≡ n = cc in e) tree
resolve_tree (x ∷ xs) (File bytes) n tree h = absurd (cc)
resolve_tree (x ∷ xs) (Dir es) n tree h = resolved_at es x (lookup x es) (found_tree x es tree) xs n (λ k. resolve_tree xs k n) h

pub written_length : (old : List ℕ) (off : ℕ) (bytes : List ℕ) → length old ≤ 549755813888 → off + length bytes ≤ 549755813888 → length (written old off bytes) ≤ 549755813888
written_length old off [] a b = a
written_length old off (x ∷ bytes) a b =
    omega (
      arith,
      a,
      b,
      length-append (resized off old ++ (x ∷ bytes)) (drop (off + length {A = ℕ} (x ∷ bytes)) old),
      length-append (resized off old) (x ∷ bytes),
      length-append (take off old) (replicate (off - length old) 0),
      length-take off old,
      length-replicate {A = ℕ} (off - length old) 0,
      length-drop (off + length {A = ℕ} (x ∷ bytes)) old,
    )

-- a number that passes the check is at most the limit
pub not_above : (n limit : ℕ) (r : Refusal) → above n limit r ≡ None → n ≤ limit
not_above n limit r h = at (nat_le n limit) refl h
  where
    at : (b : Bool) → nat_le n limit ≡ b → (if (not b) then Some r else None) ≡ None → n ≤ limit
    at true e h = grind (arith, nat_tests)
    at false e h = absurd (cc)

-- a file in a tree is not too long
pub file_short : (t : Tree) (names : List (List ℕ)) (bytes : List ℕ) → IsTree t → resolve t names ≡ Ok (File bytes) → length bytes ≤ 549755813888
file_short t names bytes tree h = resolve_tree names t (File bytes) tree h

pub written_short : (t : Tree) (names : List (List ℕ)) (old : List ℕ) (off : ℕ) (bytes made : List ℕ) (r : Refusal) → IsTree t → resolve t names ≡ Ok (File old) →
    above (off + length bytes) 549755813888 r ≡ None → made ≡ written old off bytes → length made ≤ 549755813888
written_short t names old off bytes made r tree h check is =
    subst (λ d. length d ≤ 549755813888) (sym is) (written_length old off bytes (file_short t names old tree h) (not_above _ _ r check))

pub resized_length : (len : ℕ) (bytes : List ℕ) → length (resized len bytes) ≡ len
resized_length len bytes =
    let a = length-append (take len bytes) (replicate (len - length bytes) 0) in
    let b = length-take len bytes in
    let c = length-replicate {A = ℕ} (len - length bytes) 0 in
    omega (arith, a, b, c)

-- names that do not lead to the root lead to a directory once something is put there
pub put_dir : (t : Tree) (names : List (List ℕ)) (n : Tree) (r : Refusal) → refuse_if (has_none names) r ≡ None → IsDir (put t names n)
put_dir t [] n r h = absurd (cc)
put_dir t (x ∷ xs) n r h = tt

-- what is found, or an empty directory where nothing is, is a tree
pub node_tree : (t : Tree) (names : List (List ℕ)) → IsTree t → IsTree (node_in (resolve t names))
node_tree t names tree = at (resolve t names) refl
  where
    at : (r : Result Tree Refusal) → resolve t names ≡ r → IsTree (node_in r)
    at (Ok n) h = resolve_tree names t n tree h
    at (Err e) h = tt
