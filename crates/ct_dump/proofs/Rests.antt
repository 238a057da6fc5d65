-- The entries of a directory that are still to come.
use Rattle.std.proofs.Common.{◌≡◌, ◌∙◌, ℕ, ◌≤◌, List, [], refl, sym, ap, subst, arith, Some, None, Option, true, inl, inr}
use Rattle.std.specs.Prelude.{◌⊎◌, unwrap_or}
use Rattle.std.specs.declared.cmp.Ordering.TheVariants.{Less, Equal, Greater}
use Rattle.std.specs.Ordering.{ordering_reverse}
use Rattle.std.specs.Cmp.Lexicographic.{nat_list_cmp_total}
use Rattle.std.proofs.lemmas.Cmp.{tied_itself}
use Rattle.ct_base.specs.Path.{is_name}
use Rattle.ct_tree.specs.Tree.{Tree, Dir, Entries, none, entry, nodes, nodes_below}
use Rattle.ct_tree.specs.Entries.{by_order, name_cmp, lookup}
use Rattle.ct_tree.specs.Ordered.{IsBelow, AreEntries}
use Rattle.ct_dump.specs.Looks.{entries_above, first_name}

-- the last of the entries, from one on
abbrev pub IsRest : Entries → Entries → Type 0
IsRest rest none = rest ≡ none
IsRest rest (entry y n more) = (rest ≡ entry y n more) ⊎ IsRest rest more

pub all_rest : (es : Entries) → IsRest es es
all_rest none = refl
all_rest (entry y n more) = inl refl

abbrev name_of : Entries → List ℕ
name_of none = []
name_of (entry y n rest) = y

abbrev node_of : Entries → Tree
node_of none = Dir none
node_of (entry y n rest) = n

abbrev after : Entries → Entries
after none = none
after (entry y n rest) = rest

pub next_rest : (x : List ℕ) (n : Tree) (rest es : Entries) → IsRest (entry x n rest) es → IsRest rest es
next_rest x n rest none h = absurd (cc)
next_rest x n rest (entry y m more) (inl h) = inr (subst (λ es. IsRest es more) (sym (ap after h)) (all_rest more))
next_rest x n rest (entry y m more) (inr h) = inr (next_rest x n rest more h)

-- the entries from a name on, where it is there
abbrev pub entries_from : Option (List ℕ) → Entries → Entries
entries_from None es = none
entries_from (Some x) none = none
entries_from (Some x) (entry y n rest) = by_order (name_cmp x y) none (entry y n rest) (entries_from (Some x) rest)

pub record Found (x : List ℕ) (n : Tree) (rest es : Entries) : Type 0 where
  pub is : lookup x es ≡ Some n
  pub above : entries_above x es ≡ rest
  pub from : entries_from (Some x) es ≡ entry x n rest
  pub named : is_name x ≡ true

itself : (x : List ℕ) → name_cmp x x ≡ Equal
itself x = tied_itself nat_list_cmp_total x

rest_below : (z x : List ℕ) (n : Tree) (rest es : Entries) → IsRest (entry x n rest) es → IsBelow z es → name_cmp z x ≡ Less
rest_below z x n rest none h b = absurd (cc)
rest_below z x n rest (entry y m more) (inl h) b = ap (name_cmp z) (ap name_of h) ∙ b.0
rest_below z x n rest (entry y m more) (inr h) b = rest_below z x n rest more h b.1

found_here : (x : List ℕ) (n : Tree) (rest : Entries) → is_name x ≡ true → Found x n rest (entry x n rest)
found_here x n rest h = record {
  is = ap (λ o. by_order o None (Some n) (lookup x rest)) (itself x);
  above = ap (λ o. by_order o (entry x n rest) rest (entries_above x rest)) (itself x);
  from = ap (λ o. by_order o none (entry x n rest) (entries_from (Some x) rest)) (itself x);
  named = h;
}

found_later : (x y : List ℕ) (n m : Tree) (rest more : Entries) → name_cmp y x ≡ Less → Found x n rest more → Found x n rest (entry y m more)
found_later x y n m rest more h f =
    let past : name_cmp x y ≡ Greater = nat_list_cmp_total.antisymm x y ∙ ap ordering_reverse h in
    record {
      is = ap (λ o. by_order o None (Some m) (lookup x more)) past ∙ f.is;
      above = ap (λ o. by_order o (entry y m more) more (entries_above x more)) past ∙ f.above;
      from = ap (λ o. by_order o none (entry y m more) (entries_from (Some x) more)) past ∙ f.from;
      named = f.named;
    }

pub found : (x : List ℕ) (n : Tree) (rest es : Entries) → IsRest (entry x n rest) es → AreEntries es → Found x n rest es
found x n rest none h a = absurd (cc)
found x n rest (entry y m more) (inl h) a =
    subst (Found x n rest) h (found_here x n rest (ap is_name (ap name_of h) ∙ a.0))
found x n rest (entry y m more) (inr h) a = found_later x y n m rest more (rest_below y x n rest more h a.2) (found x n rest more h a.3)

-- what comes first is there
pub first_found : (rest es : Entries) → IsRest rest es → AreEntries es → entries_from (first_name rest) es ≡ rest
first_found none es h a = refl
first_found (entry x n rest) es h a = (found x n rest es h a).from

some_is : {x y : List ℕ} → Some x ≡ Some y → x ≡ y
some_is {x} {y} h = ap (λ o. unwrap_or o []) h

-- a name that comes first, and what it stands for
pub first_is : (x : List ℕ) (rest : Entries) → Some x ≡ first_name rest → (n : Tree) × (more : Entries) × (rest ≡ entry x n more)
first_is x none h = absurd (cc)
first_is x (entry y n more) h = let same_name : x ≡ y = some_is h in (n, more, ap (λ z. entry z n more) (sym same_name))

pub no_first : (rest : Entries) → None ≡ first_name rest → rest ≡ none
no_first none h = refl
no_first (entry y n more) h = absurd (cc)

pub fewer_nodes : (x : List ℕ) (n : Tree) (rest es : Entries) → IsRest (entry x n rest) es → nodes n ≤ nodes_below es
fewer_nodes x n rest none h = absurd (cc)
fewer_nodes x n rest (entry y m more) (inl h) = let e = ap nodes (ap node_of h) in omega (arith, e)
fewer_nodes x n rest (entry y m more) (inr h) = let e = fewer_nodes x n rest more h in omega (arith, e)
