-- Runs of two lists of items, one after the other.
use Rattle.std.proofs.Common.{◌≡◌, ℕ, List, [], ◌∷◌, ◌++◌, refl, ap, subst}
use Rattle.ct_tree.specs.Tree.{Tree}
use Rattle.ct_tree.specs.Runs.{Item, Runs}
use Rattle.ct_tree.specs.declared.call.Reply.{Reply}

pub runs_joined : (c : ℕ) (items more : List Item) (replies others : List Reply) (t u v : Tree) → Runs c t items replies u → Runs c u more others v → Runs c t (items ++ more) (replies ++ others) v
runs_joined c [] more [] others t u v a b = subst (λ s. Runs c s more others v) a b
runs_joined c [] more (r ∷ replies) others t u v a b = absurd a
runs_joined c (i ∷ items) more [] others t u v a b = absurd a
runs_joined c (i ∷ items) more (r ∷ replies) others t u v a b = (a.0, a.1, runs_joined c items more replies others a.0 u v a.2 b)

-- and a run of both is two runs
pub runs_split : (c : ℕ) (items more : List Item) (rs : List Reply) (t v : Tree) → Runs c t (items ++ more) rs v
    → (replies : List Reply) × (others : List Reply) × (u : Tree) × (rs ≡ replies ++ others) × Runs c t items replies u × Runs c u more others v
runs_split c [] more rs t v a = ([], rs, t, refl, refl, a)
runs_split c (i ∷ items) more [] t v a = absurd a
runs_split c (i ∷ items) more (r ∷ rs) t v a =
    let rest = runs_split c items more rs a.0 v a.2 in
    (r ∷ rest.0, rest.1, rest.2, ap (λ xs. r ∷ xs) rest.3, (a.0, a.1, rest.4), rest.5)
