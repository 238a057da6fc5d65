-- The entries of the root by their numbers, and the bytes of the files among them.
use Rattle.std.proofs.Common.{◌≡◌, ◌∙◌, ℕ, zero, suc, ◌+◌, ◌*◌, ◌^◌, ◌<◌, ◌≤◌, List, Some, None, refl, sym, ap, subst, inl, inr, arith, true}
use Rattle.std.specs.Prelude.{slice_get}
use Rattle.std.proofs.lemmas.Cmp.{nat_list_cmp_total, tied_itself}
use Rattle.std.specs.Ordering.{ordering_reverse}
use Rattle.std.specs.declared.cmp.Ordering.TheVariants.{Greater}
use Rattle.ct_base.specs.Path.{is_name, name_cmp}
use Rattle.ct_tree.specs.Entries.{by_order, lookup}
use Rattle.ct_tree.specs.Ordered.{AreEntries, IsTree}
use Rattle.ct_tree.specs.Resolve.{entries_in}
use Rattle.ct_tree.specs.Stands.{HasName}
use Rattle.ct_tree.specs.Step.{count, names_in}
use Rattle.ct_tree.specs.Tree.{Tree, File, Dir, Entries, none, entry, nodes, nodes_below}
use Rattle.ct_state.proofs.Unique.{below_has}
use Rattle.ct_tally.specs.Tallies.{bytes_below, size_of}

-- the bytes of the files among the first of the entries
abbrev pub bytes_to : Entries → ℕ → ℕ
bytes_to none i = 0
bytes_to (entry name node rest) zero = 0
bytes_to (entry name node rest) (suc i) = size_of node + bytes_to rest i

pub bytes_zero : (es : Entries) → bytes_to es 0 ≡ 0
bytes_zero none = refl
bytes_zero (entry name node rest) = refl

-- a name with a number is one of the entries'
has_name : (es : Entries) (i : ℕ) (x : List ℕ) → slice_get (names_in es) i ≡ Some x → HasName x es
has_name none i x is = absurd (cc)
has_name (entry y m rest) zero x is = let same : x ≡ y = cc in inl same
has_name (entry y m rest) (suc i) x is = inr (has_name rest i x is)

-- the entry with a number, where its name is this
pub record Numbered (es : Entries) (i : ℕ) (x : List ℕ) : Type 0 where
  pub node : Tree
  pub found : lookup x es ≡ Some node
  pub named : is_name x ≡ true
  pub more : bytes_to es (i + 1) ≡ bytes_to es i + size_of node

pub numbered : (es : Entries) (i : ℕ) (x : List ℕ) → AreEntries es → slice_get (names_in es) i ≡ Some x → Numbered es i x
numbered none i x are is = absurd (cc)
numbered (entry y m rest) zero x are is =
    let same : y ≡ x = cc in
    subst (Numbered (entry y m rest) 0) same
    (record {
      node = m;
      found = ap (λ o. by_order o None (Some m) (lookup y rest)) (tied_itself nat_list_cmp_total y);
      named = are.0;
      more = let e = bytes_zero rest in omega (arith, e);
    })
numbered (entry y m rest) (suc i) x are is =
    let it = numbered rest i x are.3 is in
    let past : name_cmp x y ≡ Greater = nat_list_cmp_total.antisymm x y ∙ ap ordering_reverse (below_has y x rest are.2 (has_name rest i x is)) in
    let on : suc (i + 1) ≡ suc i + 1 = omega arith in
    let step : bytes_to (entry y m rest) (suc i + 1) ≡ size_of m + bytes_to rest (i + 1) = ap (bytes_to (entry y m rest)) (sym on) in
    let more = it.more in
    record {
      node = it.node;
      found = ap (λ o. by_order o None (Some m) (lookup x rest)) past ∙ it.found;
      named = it.named;
      more = omega (arith, step, more);
    }

-- all of them, and some
pub bytes_all : (es : Entries) → bytes_to es (count es) ≡ bytes_below es
bytes_all none = refl
bytes_all (entry name node rest) =
    let next : 1 + count rest ≡ suc (count rest) = omega arith in
    ap (bytes_to (entry name node rest)) next ∙ ap (λ b. size_of node + b) (bytes_all rest)

pub bytes_most : (es : Entries) (i : ℕ) → bytes_to es i ≤ bytes_below es
bytes_most none i = omega arith
bytes_most (entry name node rest) zero = omega arith
bytes_most (entry name node rest) (suc i) = let e = bytes_most rest i in omega (arith, e)

size_most : (t : Tree) → IsTree t → size_of t ≤ 2 ^ 39
size_most (File bytes) is = is
size_most (Dir es) is = omega arith

some_nodes : (t : Tree) → 1 ≤ nodes t
some_nodes (File bytes) = omega arith
some_nodes (Dir es) = omega arith

bytes_few : (es : Entries) → AreEntries es → bytes_below es ≤ nodes_below es * 2 ^ 39
bytes_few none are = omega arith
bytes_few (entry name node rest) are =
    let one = size_most node are.1 in
    let more = bytes_few rest are.3 in
    let some = some_nodes node in
    omega (arith, one, more, some)

-- so many nodes have few bytes together
pub bytes_fit : (t : Tree) → IsTree t → nodes t ≤ 1048576 → bytes_below (entries_in t) < 2 ^ 60
bytes_fit (File bytes) is few = omega arith
bytes_fit (Dir es) is few = let e = bytes_few es is in omega (arith, e, few)
