-- Entries in byte order stay so.
use Rattle.std.proofs.Common.{◌≡◌, ◌∙◌, ℕ, List, refl, ap, true}
use Rattle.std.specs.declared.cmp.Ordering.{Ordering}
use Rattle.std.specs.declared.cmp.Ordering.TheVariants.{Less, Equal, Greater}
use Rattle.std.specs.Ordering.{ordering_reverse}
use Rattle.std.proofs.lemmas.Cmp.{nat_list_cmp_total}
use Rattle.ct_tree.specs.Tree.{Tree, Entries, none, entry}
use Rattle.ct_tree.specs.Entries.{by_order, name_cmp, put_entry}
use Rattle.ct_tree.specs.Ordered.{IsBelow, IsTree, AreEntries}
use Rattle.ct_base.specs.Path.{is_name}

pub turned : (x y : List ℕ) → name_cmp x y ≡ Greater → name_cmp y x ≡ Less
turned x y h = nat_list_cmp_total.antisymm y x ∙ ap ordering_reverse h

pub below_trans : (x y : List ℕ) (es : Entries) → name_cmp x y ≡ Less → IsBelow y es → IsBelow x es
below_trans x y none h b = tt
below_trans x y (entry z n rest) h b = (nat_list_cmp_total.trans x y z h b.0, below_trans x y rest h b.1)

below_at : (o : Ordering) (y x z : List ℕ) (n m : Tree) (rest putted : Entries) → name_cmp y x ≡ Less → name_cmp y z ≡ Less → IsBelow y rest → IsBelow y putted →
    IsBelow y (by_order o (entry x n (entry z m rest)) (entry z n rest) (entry z m putted))
below_at Less y x z n m rest putted a b c d = (a, (b, c))
below_at Equal y x z n m rest putted a b c d = (b, c)
below_at Greater y x z n m rest putted a b c d = (b, d)

put_below : (y x : List ℕ) (n : Tree) (es : Entries) → name_cmp y x ≡ Less → IsBelow y es → IsBelow y (put_entry x n es)
put_below y x n none h b = (h, tt)
put_below y x n (entry z m rest) h b = below_at (name_cmp x z) y x z n m rest (put_entry x n rest) h b.0 b.1 (put_below y x n rest h b.1)

put_at : (o : Ordering) (x z : List ℕ) (n m : Tree) (rest : Entries) → name_cmp x z ≡ o → is_name x ≡ true → IsTree n → AreEntries (entry z m rest) → AreEntries (put_entry x n rest) →
    AreEntries (by_order o (entry x n (entry z m rest)) (entry z n rest) (entry z m (put_entry x n rest)))
put_at Less x z n m rest o name node es ih = (name, node, (o, below_trans x z rest o es.2), es)
put_at Equal x z n m rest o name node es ih = (es.0, node, es.2, es.3)
put_at Greater x z n m rest o name node es ih = (es.0, es.1, put_below z x n rest (turned x z o) es.2, ih)

pub put_entries : (x : List ℕ) (n : Tree) (es : Entries) → is_name x ≡ true → IsTree n → AreEntries es → AreEntries (put_entry x n es)
put_entries x n none name node es = (name, node, tt, tt)
put_entries x n (entry z m rest) name node es = put_at (name_cmp x z) x z n m rest refl name node es (put_entries x n rest name node es.3)
