-- An entry that comes after all others, and what is put where names lead.
use Rattle.std.proofs.Common.{◌≡◌, ◌∙◌, ℕ, ◌+◌, List, [], ◌∷◌, ◌++◌, refl, sym, ap, arith, Some, None, Option, Ok}
use Rattle.std.specs.Prelude.{unwrap_or}
use Rattle.std.specs.Option.{ok_or}
use Rattle.std.specs.Ordering.{ordering_reverse}
use Rattle.std.specs.declared.cmp.Ordering.{Ordering}
use Rattle.std.specs.declared.cmp.Ordering.TheVariants.{Less, Equal, Greater}
use Rattle.std.specs.Cmp.Lexicographic.{nat_list_cmp_total}
use Rattle.ct_tree.specs.Entries.{by_order, name_cmp, lookup, put_entry}
use Rattle.ct_tree.specs.Ordered.{IsBelow}
use Rattle.ct_tree.specs.Resolve.{and_then, put, resolve, under}
use Rattle.ct_tree.specs.Tree.{Tree, File, Dir, Entries, none, entry, nodes, nodes_below}
use Rattle.ct_tree.specs.declared.call.Refusal.TheVariants.{NotFound}

-- the entries with one more at their end, and with others
abbrev pub push : Entries → List ℕ → Tree → Entries
push none x n = entry x n none
push (entry y m rest) x n = entry y m (push rest x n)

abbrev pub joined : Entries → Entries → Entries
joined none fs = fs
joined (entry y m rest) fs = entry y m (joined rest fs)

pub joined_none : (es : Entries) → joined es none ≡ es
joined_none none = refl
joined_none (entry y m rest) = ap (entry y m) (joined_none rest)

pub joined_push : (es fs : Entries) (x : List ℕ) (n : Tree) → joined (push es x n) fs ≡ joined es (entry x n fs)
joined_push none fs x n = refl
joined_push (entry y m rest) fs x n = ap (entry y m) (joined_push rest fs x n)

pub nodes_push : (es : Entries) (x : List ℕ) (n : Tree) → nodes_below (push es x n) ≡ nodes_below es + nodes n
nodes_push none x n = omega arith
nodes_push (entry y m rest) x n = omega (arith, nodes_push rest x n)

-- the name is after each name of the entries
abbrev pub ComesAfter : List ℕ → Entries → Type 0
ComesAfter x none = Unit {0}
ComesAfter x (entry y m rest) = (name_cmp x y ≡ Greater) × ComesAfter x rest

-- each name of the second entries is after each name of the first
abbrev pub Follow : Entries → Entries → Type 0
Follow front none = Unit {0}
Follow front (entry x n rest) = ComesAfter x front × Follow front rest

pub follow_none : (es : Entries) → Follow none es
follow_none none = tt
follow_none (entry x n rest) = (tt, follow_none rest)

after_push : (z x : List ℕ) (n : Tree) (es : Entries) → ComesAfter z es → name_cmp z x ≡ Greater → ComesAfter z (push es x n)
after_push z x n none a h = (h, tt)
after_push z x n (entry y m rest) a h = (a.0, after_push z x n rest a.1 h)

pub follow_push : (front rest : Entries) (x : List ℕ) (n : Tree) → Follow front rest → IsBelow x rest → Follow (push front x n) rest
follow_push front none x n f b = tt
follow_push front (entry z m rest) x n f b =
    (after_push z x n front f.0 (nat_list_cmp_total.antisymm z x ∙ ap ordering_reverse b.0), follow_push front rest x n f.1 b.1)

pub put_last : (x : List ℕ) (n : Tree) (es : Entries) → ComesAfter x es → put_entry x n es ≡ push es x n
put_last x n none a = refl
put_last x n (entry y m rest) a =
    ap (λ o. by_order o (entry x n (entry y m rest)) (entry y n rest) (entry y m (put_entry x n rest))) a.0 ∙ ap (entry y m) (put_last x n rest a.1)

pub lookup_last : (x : List ℕ) (es : Entries) → ComesAfter x es → lookup x es ≡ None
lookup_last x none a = refl
lookup_last x (entry y m rest) a = ap (λ o. by_order o None (Some m) (lookup x rest)) a.0 ∙ lookup_last x rest a.1

-- where the names lead on, the first leads to a node
found_in : (r : Option Tree) (names : List (List ℕ)) (n : Tree) → and_then (ok_or r NotFound) (λ k. resolve k names) ≡ Ok n → (k : Tree) × (r ≡ Some k) × (resolve k names ≡ Ok n)
found_in None names n h = absurd (cc)
found_in (Some k) names n h = (k, refl, h)

-- one name more
pub put_child : (t : Tree) (names : List (List ℕ)) (x : List ℕ) (n : Tree) (es : Entries) → resolve t names ≡ Ok (Dir es) → put t (names ++ x ∷ []) n ≡ put t names (Dir (put_entry x n es))
put_child t [] x n es h = let is : t ≡ Dir es = cc in ap (λ u. put u (x ∷ []) n) is
put_child (File bytes) (y ∷ ys) x n es h = absurd (cc)
put_child (Dir fs) (y ∷ ys) x n es h =
    let f = found_in (lookup y fs) ys (Dir es) h in
    let here : under (Dir fs) y ≡ f.0 = ap (λ o. unwrap_or o (Dir none)) f.1 in
    ap (λ k. Dir (put_entry y (put k (ys ++ x ∷ []) n) fs)) here ∙ ap (λ k. Dir (put_entry y k fs)) (put_child f.0 ys x n es f.2)
    ∙ ap (λ k. Dir (put_entry y (put k ys (Dir (put_entry x n es))) fs)) (sym here)

-- how many nodes there are with another in the place of one
nodes_entry : (y : List ℕ) (k m : Tree) (es : Entries) → lookup y es ≡ Some m → nodes_below (put_entry y k es) + nodes m ≡ nodes_below es + nodes k
nodes_entry y k m none h = absurd (cc)
nodes_entry y k m (entry z l rest) h = at (name_cmp y z) h (nodes_entry y k m rest)
  where
    at : (o : Ordering) → by_order o None (Some l) (lookup y rest) ≡ Some m → (lookup y rest ≡ Some m → nodes_below (put_entry y k rest) + nodes m ≡ nodes_below rest + nodes k) →
        nodes_below (by_order o (entry y k (entry z l rest)) (entry z k rest) (entry z l (put_entry y k rest))) + nodes m ≡ nodes l + nodes_below rest + nodes k
    at Less found ih = absurd (cc)
    at Equal found ih = let same : l ≡ m = cc in omega (arith, ap nodes same)
    at Greater found ih = omega (arith, ih found)

pub nodes_put : (t : Tree) (names : List (List ℕ)) (n old : Tree) → resolve t names ≡ Ok old → nodes (put t names n) + nodes old ≡ nodes t + nodes n
nodes_put t [] n old h = let is : t ≡ old = cc in omega (arith, ap nodes is)
nodes_put (File bytes) (y ∷ ys) n old h = absurd (cc)
nodes_put (Dir fs) (y ∷ ys) n old h =
    let f = found_in (lookup y fs) ys old h in
    let here : under (Dir fs) y ≡ f.0 = ap (λ o. unwrap_or o (Dir none)) f.1 in
    let below = nodes_put f.0 ys n old f.2 in
    let one = nodes_entry y (put f.0 ys n) f.0 fs f.1 in
    let same = ap (λ k. nodes_below (put_entry y (put k ys n) fs)) here in
    omega (arith, below, one, same)
