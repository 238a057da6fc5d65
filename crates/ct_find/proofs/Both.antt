-- The refusals of two paths that are to lead to files.
use Rattle.std.proofs.Common.{◌≡◌, ◌≢◌, ℕ, List, ◌∷◌, Option, Some, None, Result, Ok, inl, inr, sym, ap, ◌∙◌}
use Rattle.std.specs.Prelude.{is_none}
use Rattle.ct_base.specs.declared.inode.Inode.{Inode}
use Rattle.ct_base.specs.Path.{names_of}
use Rattle.ct_tree.specs.Checks.{at, bad_path, first_of, is_dir, no_node, refuse_if}
use Rattle.ct_tree.specs.Tree.{Tree}
use Rattle.ct_tree.specs.declared.call.Refusal.{Refusal}
use Rattle.ct_tree.specs.declared.call.Refusal.TheVariants.{BadPath as bad, IsDir as a_dir}
use Rattle.ct_commit.specs.Rest.{IsAtRest, StandsFor}
use Rattle.ct_find.proofs.Leading.{dir_node, file_node}
use Rattle.ct_find.specs.Files.{path_checks}
use Rattle.ct_find.specs.Nodes.{IsNodeAt, LeadsNowhere}

-- the checks by what they find
abbrev checks : Option Refusal → Option Refusal → Result Tree Refusal → Result Tree Refusal → List (Option Refusal) → Option Refusal
checks p q x y more = first_of (p ∷ q ∷ no_node x ∷ no_node y ∷ is_dir x ∷ is_dir y ∷ more)

no_path : (o : Option (List (List ℕ))) (r : Refusal) → refuse_if (is_none o) bad ≡ Some r → Some r ≡ Some bad
no_path None r is = sym is
no_path (Some xs) r is = absurd (cc)

module _ (path other : List ℕ) (t : Tree) (more : List (Option Refusal)) where
  abbrev all : Option Refusal
  all = path_checks t path other more

  -- the first leads nowhere, and the second is no path
  pub none_too : (r : Refusal) → LeadsNowhere t path r → names_of other ≡ None → all ≡ Some bad
  none_too r (inl none) is = ap (λ p. checks p (bad_path other) (at t path) (at t other) more) none ∙ no_path (names_of path) r none
  none_too r (inr gone) is = ap (λ p. checks p (bad_path other) (at t path) (at t other) more) gone.0 ∙ ap (λ o. checks None (refuse_if (is_none o) bad) (at t path) (at t other) more) is

  -- both lead somewhere
  pub both_there : {n m : Tree} → bad_path path ≡ None → bad_path other ≡ None → at t path ≡ Ok n → at t other ≡ Ok m → all ≡ checks None None (Ok n) (Ok m) more
  both_there {n} valid valid' one two =
      ap (λ p. checks p (bad_path other) (at t path) (at t other) more) valid ∙ ap (λ q. checks None q (at t path) (at t other) more) valid'
      ∙ ap (λ x. checks None None x (at t other) more) one ∙ ap (λ y. checks None None (Ok n) y more) two

module _ {w path other : List ℕ} {i j : ℕ} {f g : Inode} (rest : IsAtRest w) (first : IsNodeAt w path i f) (second : IsNodeAt w other j g) (t : Tree) (st : StandsFor w t) (more : List (Option Refusal)) where
  -- one of them to a directory
  pub first_is_dir : f.kind ≡ 2 → path_checks t path other more ≡ Some a_dir
  first_is_dir dir =
      let one = dir_node rest first t st dir in
      let two = second.node t st in
      both_there path other t more first.valid second.valid one.1 two.is

  pub second_is_dir : f.kind ≢ 2 → g.kind ≡ 2 → path_checks t path other more ≡ Some a_dir
  second_is_dir file dir =
      let one = file_node rest first t st file in
      let two = dir_node rest second t st dir in
      both_there path other t more first.valid second.valid one.1 two.1
