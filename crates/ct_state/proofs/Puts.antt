-- Names in order, ways, and what is put among entries.
use Rattle.std.proofs.Common.{◌≡◌, ◌≢◌, ℕ, List, [], ◌∷◌, ◌++◌, length, refl, sym, ap, ◌∙◌, subst, inl, inr, arith, Some, None, Option, append_assoc}
use Rattle.std.proofs.lemmas.List.{length-append}
use Rattle.std.specs.declared.cmp.Ordering.{Ordering}
use Rattle.std.specs.declared.cmp.Ordering.TheVariants.{Less, Equal, Greater}
use Rattle.std.proofs.lemmas.Cmp.{nat_list_cmp_total, tied_itself}
use Rattle.std.proofs.lemmas.Map.Text.{is_eq-slice_cmp}
use Rattle.std.specs.Ordering.{is_eq}
use Rattle.std.proofs.lemmas.Slice.Eq.{bytes_eq-Decides}
use Rattle.ct_tree.specs.Tree.{Tree, Entries, none, entry}
use Rattle.ct_tree.specs.Entries.{by_order, name_cmp, lookup, put_entry}
use Rattle.ct_tree.specs.Ordered.{IsBelow, IsTree}
use Rattle.ct_tree.specs.Stands.{HasName}

pub cmp_equal : (x y : List ℕ) → name_cmp x y ≡ Equal → x ≡ y
cmp_equal x y is = (bytes_eq-Decides x y).0 (sym (is_eq-slice_cmp x y) ∙ ap is_eq is)

pub not_less : (x y : List ℕ) → name_cmp x y ≡ Less → x ≢ y
not_less x y less is = let same : name_cmp x y ≡ Equal = subst (λ k. name_cmp x k ≡ Equal) is (tied_itself nat_list_cmp_total x) in absurd (cc)

pub not_greater : (x y : List ℕ) → name_cmp x y ≡ Greater → x ≢ y
not_greater x y more is = let same : name_cmp x y ≡ Equal = subst (λ k. name_cmp x k ≡ Equal) is (tied_itself nat_list_cmp_total x) in absurd (cc)

-- lists with the same end have the same head before it
pub ends_same : (zs ws : List (List ℕ)) (y x : List ℕ) (ys : List (List ℕ)) → zs ++ (y ∷ ys) ≡ ws ++ (x ∷ ys) → y ≡ x
ends_same [] [] y x ys is = cc
ends_same [] (w ∷ ws) y x ys is = absurd (omega (arith, ap length is, length-append ws (x ∷ ys)))
ends_same (z ∷ zs) [] y x ys is = absurd (omega (arith, ap length is, length-append zs (y ∷ ys)))
ends_same (z ∷ zs) (w ∷ ws) y x ys is = ends_same zs ws y x ys (cc)

-- names in turn before others
abbrev pub onto : List (List ℕ) → List (List ℕ) → List (List ℕ)
onto [] ys = ys
onto (x ∷ xs) ys = onto xs (x ∷ ys)

pub onto-append : (xs ys : List (List ℕ)) → onto xs ys ≡ onto xs [] ++ ys
onto-append [] ys = refl
onto-append (x ∷ xs) ys = onto-append xs (x ∷ ys) ∙ sym (append_assoc (onto xs []) (x ∷ []) ys) ∙ ap (λ zs. zs ++ ys) (sym (onto-append xs (x ∷ [])))

has_put_at : (o : Ordering) (z x y : List ℕ) (n node : Tree) (rest putted : Entries) → (HasName z rest → HasName z putted) → HasName z (entry y node rest) →
    HasName z (by_order o (entry x n (entry y node rest)) (entry y n rest) (entry y node putted))
has_put_at Less z x y n node rest putted go h = inr h
has_put_at Equal z x y n node rest putted go h = h
has_put_at Greater z x y n node rest putted go (inl is) = inl is
has_put_at Greater z x y n node rest putted go (inr h) = inr (go h)

pub has_put : (z x : List ℕ) (n : Tree) (es : Entries) → HasName z es → HasName z (put_entry x n es)
has_put z x n none h = absurd h
has_put z x n (entry y node rest) h = has_put_at (name_cmp x y) z x y n node rest (put_entry x n rest) (has_put z x n rest) h

-- the child under a name is a tree again
child_at : (o : Ordering) (node child : Tree) (found : Option Tree) → IsTree node → (found ≡ Some child → IsTree child) → by_order o None (Some node) found ≡ Some child → IsTree child
child_at Less node child found tree go e = absurd (cc)
child_at Equal node child found tree go e = subst IsTree (let k : node ≡ child = cc in k) tree
child_at Greater node child found tree go e = go e

pub child_tree : (x : List ℕ) (es : Entries) (child : Tree) → Rattle.ct_tree.specs.Ordered.AreEntries es → lookup x es ≡ Some child → IsTree child
child_tree x none child are is = absurd (cc)
child_tree x (entry y node rest) child are is = child_at (name_cmp x y) node child (lookup x rest) are.1 (child_tree x rest child are.3) is
