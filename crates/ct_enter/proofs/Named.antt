-- The tree with a new object, by its path and by its directory and name.
use Rattle.std.proofs.Common.{◌≡◌, ◌≢◌, ℕ, true, List, [], ◌∷◌, ◌++◌, None, refl, sym, ap, ◌∙◌, subst}
use Rattle.std.proofs.lemmas.Bool.{false≢true}
use Rattle.ct_base.specs.Path.{is_name}
use Rattle.ct_tree.specs.Checks.{names}
use Rattle.ct_tree.specs.Resolve.{last_name, parent, put}
use Rattle.ct_tree.specs.Step.{answered, effect, make_refusal, refusal}
use Rattle.ct_tree.specs.Tree.{Tree}
use Rattle.ct_call.specs.Calls.{after}
use Rattle.ct_enter.specs.Entry.{empty_node, with_node}
use Rattle.ct_enter.specs.Makes.{make_op}
use Rattle.ct_find.specs.Kinds.{kind_of}
use Rattle.ct_find.specs.declared.kind.Kind.{Kind}
use Rattle.ct_find.specs.declared.kind.Kind.TheVariants.{File as file, Directory as directory}

split_last : (xs : List (List ℕ)) → xs ≢ [] → parent xs ++ (last_name xs ∷ []) ≡ xs
split_last [] some = absurd (some refl)
split_last (x ∷ []) some = refl
split_last (x ∷ y ∷ ys) some = ap (λ zs. x ∷ zs) (split_last (y ∷ ys) (λ none. absurd (cc)))

no_names : (xs : List (List ℕ)) → is_name (last_name xs) ≡ true → xs ≢ []
no_names xs is none = false≢true (sym (ap (λ ys. is_name (last_name ys)) none) ∙ is)

-- both calls are refused alike
pub make_refuses : (kind : Kind) (t : Tree) (path : List ℕ) → refusal t (make_op kind path) ≡ make_refusal t path
make_refuses file t path = refl
make_refuses directory t path = refl

effect_is : (kind : Kind) (t : Tree) (path : List ℕ) → (effect t (make_op kind path)).1 ≡ put t (names path) (empty_node (kind_of kind))
effect_is file t path = refl
effect_is directory t path = refl

-- the call that is not refused leaves the tree with the object
pub after_make : (kind : Kind) (t : Tree) (path : List ℕ) {name : List ℕ} {number : ℕ} → refusal t (make_op kind path) ≡ None → name ≡ last_name (names path) → is_name name ≡ true → number ≡ kind_of kind
    → with_node t (parent (names path)) name number ≡ after t (make_op kind path)
after_make kind t path {name} {number} allowed last lawful is =
    ap (λ x. with_node t (parent (names path)) x number) last
    ∙ ap (λ k. with_node t (parent (names path)) (last_name (names path)) k) is
    ∙ ap (λ xs. put t xs (empty_node (kind_of kind))) (split_last (names path) (no_names (names path) (subst (λ x. is_name x ≡ true) last lawful)))
    ∙ sym (effect_is kind t path)
    ∙ sym (ap (λ r. (answered r t (effect t (make_op kind path))).1) allowed)
