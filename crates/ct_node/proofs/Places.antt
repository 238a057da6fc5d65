-- The place of a name among the rows of a directory, and what a write there leaves.
use Rattle.std.proofs.Common.{◌≡◌, ◌∙◌, ℕ, suc, ◌+◌, List, [], ◌∷◌, ◌++◌, refl, sym, ap, subst, arith, Ok, Err, Some, None, Result, is_some}
use Rattle.std.specs.declared.cmp.Ordering.{Ordering}
use Rattle.std.specs.declared.cmp.Ordering.TheVariants.{Less, Equal, Greater}
use Rattle.ct_node.specs.declared.node.Entry.{Entry}
use Rattle.ct_tree.specs.Tree.{Tree, Entries, none, entry}
use Rattle.ct_tree.specs.Entries.{by_order, name_cmp, lookup, put_entry, cut_entry, place_of, later}
use Rattle.ct_node.specs.Listed.{listed}
use Rattle.ct_node.specs.Places.{Found, Absent, AtPlace}

module _ (x : List ℕ) (e : Entry) (es : List Entry) where
  look_at : (o : Ordering) → name_cmp x e.name.items ≡ o → lookup x (listed (e ∷ es)) ≡ by_order o None (Some e.node) (lookup x (listed es))
  look_at o is = ap (λ r. by_order r None (Some e.node) (lookup x (listed es))) is

  put_at : (o : Ordering) → name_cmp x e.name.items ≡ o → (n : Tree) →
      put_entry x n (listed (e ∷ es)) ≡ by_order o (entry x n (listed (e ∷ es))) (entry e.name.items n (listed es)) (entry e.name.items e.node (put_entry x n (listed es)))
  put_at o is n = ap (λ r. by_order r (entry x n (listed (e ∷ es))) (entry e.name.items n (listed es)) (entry e.name.items e.node (put_entry x n (listed es)))) is

  cut_at : (o : Ordering) → name_cmp x e.name.items ≡ o →
      cut_entry x (listed (e ∷ es)) ≡ by_order o (listed (e ∷ es)) (listed es) (entry e.name.items e.node (cut_entry x (listed es)))
  cut_at o is = ap (λ r. by_order r (listed (e ∷ es)) (listed es) (entry e.name.items e.node (cut_entry x (listed es)))) is

  -- one row further on
  later_at : (r : Result ℕ ℕ) → name_cmp x e.name.items ≡ Greater → AtPlace x es r → AtPlace x (e ∷ es) (later 1 r)
  later_at (Ok i) g f =
      let one : suc i ≡ 1 + i = omega arith in
      subst (Found x (e ∷ es)) one record {
        within = let h = f.within in omega (arith, h);
        there = ap is_some (look_at Greater g) ∙ f.there;
        look = λ d. look_at Greater g ∙ f.look d;
        put = λ d n. put_at Greater g n ∙ ap (entry e.name.items e.node) (f.put d n);
        cut = cut_at Greater g ∙ ap (entry e.name.items e.node) f.cut;
      }
  later_at (Err i) g f =
      let one : suc i ≡ 1 + i = omega arith in
      subst (Absent x (e ∷ es)) one record {
        within = let h = f.within in omega (arith, h);
        look = look_at Greater g ∙ f.look;
        put = λ a p. put_at Greater g a.node ∙ ap (entry e.name.items e.node) (f.put a p);
      }

  at_row : (o : Ordering) → name_cmp x e.name.items ≡ o → AtPlace x es (place_of x (listed es)) →
      AtPlace x (e ∷ es) (by_order o (Err 0) (Ok 0) (later 1 (place_of x (listed es))))
  at_row Less o rest = record {
    within = omega arith;
    look = look_at Less o;
    put = λ a p. put_at Less o a.node ∙ ap (λ z. entry z a.node (listed (e ∷ es))) (sym p);
  }
  at_row Equal o rest = record {
    within = omega arith;
    there = ap is_some (look_at Equal o);
    look = λ d. look_at Equal o;
    put = λ d n. put_at Equal o n;
    cut = cut_at Equal o;
  }
  at_row Greater o rest = later_at (place_of x (listed es)) o rest

pub at_place : (x : List ℕ) (es : List Entry) → AtPlace x es (place_of x (listed es))
at_place x [] = record {
  within = omega arith;
  look = refl;
  put = λ a p. ap (λ z. entry z a.node none) (sym p);
}
at_place x (e ∷ es) = at_row x e es (name_cmp x e.name.items) refl (at_place x es)

append_row : Entries → List ℕ → Tree → Entries
append_row none x n = entry x n none
append_row (entry y m rest) x n = entry y m (append_row rest x n)

listed_push : (xs : List Entry) (e : Entry) → listed (xs ++ e ∷ []) ≡ append_row (listed xs) e.name.items e.node
unfolding append_row
listed_push [] e = refl
listed_push (f ∷ xs) e = ap (entry f.name.items f.node) (listed_push xs e)

-- rows that are listed alike, with one more each
pub same_push : (xs ys : List Entry) (e f : Entry) → listed xs ≡ listed ys → e.name.items ≡ f.name.items → e.node ≡ f.node → listed (xs ++ e ∷ []) ≡ listed (ys ++ f ∷ [])
same_push xs ys e f a b d =
    listed_push xs e ∙ ap (λ u. append_row u e.name.items e.node) a ∙ ap (λ u. append_row (listed ys) u e.node) b ∙ ap (λ u. append_row (listed ys) f.name.items u) d ∙ sym (listed_push ys f)
