-- Objects stand for at most one tree.
use Rattle.std.proofs.Common.{◌≡◌, ℕ, suc, ◌<◌, List, [], ◌∷◌, length, refl, sym, ap, ◌∙◌, subst, inl, inr, arith}
use Rattle.std.specs.Prelude.{slice_index}
use Rattle.std.specs.declared.cmp.Ordering.{Ordering}
use Rattle.std.specs.declared.cmp.Ordering.TheVariants.{Less, Equal, Greater}
use Rattle.std.specs.Ordering.{ordering_reverse}
use Rattle.std.proofs.lemmas.Cmp.{nat_list_cmp_total}
use Rattle.ct_tree.specs.Tree.{Tree, File, Dir, Entries, none, entry}
use Rattle.ct_tree.specs.Entries.{name_cmp}
use Rattle.ct_tree.specs.Ordered.{IsBelow, IsTree}
use Rattle.ct_base.specs.Objects.{Object}
use Rattle.ct_base.specs.Slots.{slot_inode}
use Rattle.ct_tree.specs.Stands.{HasName, IsDir, Stands, StandIn}
use Rattle.ct_base.specs.Named.{Named}
use Rattle.ct_base.specs.Rules.{AreNamesApart}
use Rattle.ct_state.proofs.Puts.{cmp_equal, not_less, not_greater}

lists_same : (a b : List ℕ) → length a ≡ length b → ((k : ℕ) → k < length a → slice_index a k ≡ slice_index b k) → a ≡ b
lists_same [] [] size same = refl
lists_same [] (y ∷ b) size same = absurd (omega arith)
lists_same (x ∷ a) [] size same = absurd (omega arith)
lists_same (x ∷ a) (y ∷ b) size same =
    let first : x ≡ y = same 0 (omega arith) in
    let others : a ≡ b = lists_same a b (omega arith) (λ k lt. same (suc k) (omega arith)) in
    λ i. first i ∷ others i

pub below_has : (y z : List ℕ) (es : Entries) → IsBelow y es → HasName z es → name_cmp y z ≡ Less
below_has y z none below h = absurd h
below_has y z (entry x n rest) below (inl is) = subst (λ k. name_cmp y k ≡ Less) (sym is) below.0
below_has y z (entry x n rest) below (inr h) = below_has y z rest below.1 h

not_both : (x y : List ℕ) → name_cmp x y ≡ Less → name_cmp y x ≡ Less → ⊥
not_both x y p q = let turned : name_cmp y x ≡ Greater = nat_list_cmp_total.antisymm y x ∙ ap ordering_reverse p in absurd (cc)

-- the name of an entry is that of a slot
has_slot : (fs : ℕ → Object) (f : Object) (z : List ℕ) (es : Entries) → StandIn fs f es → HasName z es → Named f z
has_slot fs f z none st h = absurd h
has_slot fs f z (entry x n rest) st (inl is) = let s = st.0.0 in record { offset = s.offset; slot = s.slot; name = s.name ∙ sym is }
has_slot fs f z (entry x n rest) st (inr h) = has_slot fs f z rest st.1 h

pub names_in : (fs : ℕ → Object) (f : Object) (es es' : Entries) → StandIn fs f es → IsDir f es' → (z : List ℕ) → HasName z es → HasName z es'
names_in fs f es es' st dir z h = let s = has_slot fs f z es st h in subst (λ k. HasName k es') s.name (dir.names s.offset s.slot)

-- without the first name
without : (x y z : List ℕ) (m : Tree) (r s : Entries) → x ≡ y → IsBelow x r → HasName z r → HasName z (entry y m s) → HasName z s
without x y z m r s same below h (inl is) = absurd (not_less x z (below_has x z r below h) (same ∙ sym is))
without x y z m r s same below h (inr there) = there

module _ (fs : ℕ → Object) (apart : AreNamesApart fs) where
  at_once : (o : Ordering) (x y : List ℕ) (n m : Tree) (r s : Entries) (i : ℕ) → IsBelow x r → IsBelow y s → name_cmp x y ≡ o
      → StandIn fs (fs i) (entry x n r) → StandIn fs (fs i) (entry y m s)
      → ((z : List ℕ) → HasName z (entry x n r) → HasName z (entry y m s)) → ((z : List ℕ) → HasName z (entry y m s) → HasName z (entry x n r))
      → ((j : ℕ) → Stands fs j n → Stands fs j m → n ≡ m)
      → (((z : List ℕ) → HasName z r → HasName z s) → ((z : List ℕ) → HasName z s → HasName z r) → r ≡ s)
      → ◌≡◌ {A = Entries} (entry x n r) (entry y m s)
  at_once Less x y n m r s i below below' o st su on back node rest =
      elim (on x (inl refl)) [ inl is ↦ absurd (not_less x y o is) | inr h ↦ absurd (not_both x y o (below_has y x s below' h)) ]
  at_once Greater x y n m r s i below below' o st su on back node rest =
      elim (back y (inl refl)) [
        | inl is ↦ absurd (not_greater x y o (sym is))
        | inr h ↦ let less : name_cmp x y ≡ Less = below_has x y r below h in absurd (cc)
      ]
  at_once Equal x y n m r s i below below' o st su on back node rest =
      let same : x ≡ y = cmp_equal x y o in
      let p = st.0.0 in
      let q = su.0.0 in
      let at : p.offset ≡ q.offset = apart i p.offset q.offset p.slot q.slot (p.name ∙ same ∙ sym q.name) in
      let trees : n ≡ m = node (slot_inode (fs i) q.offset) (subst (λ k. Stands fs (slot_inode (fs i) k) n) at st.0.1) su.0.1 in
      let rests : r ≡ s = rest (λ z h. without x y z m r s same below h (on z (inr h))) (λ z h. without y x z n s r (sym same) below' h (back z (inr h))) in
      λ e. entry (same e) (trees e) (rests e)

  mutual
    pub stands_once : (t u : Tree) (i : ℕ) → IsTree t → IsTree u → Stands fs i t → Stands fs i u → t ≡ u
    stands_once (File a) (File b) i ti ui st su =
        let same : a ≡ b = lists_same a b (sym st.size ∙ su.size) (λ k lt. sym (st.all k lt) ∙ su.all k (omega (arith, st.size, su.size))) in
        λ e. File (same e)
    stands_once (File a) (Dir es) i ti ui st su = absurd (omega (arith, st.kind, su.0.kind))
    stands_once (Dir es) (File b) i ti ui st su = absurd (omega (arith, st.0.kind, su.kind))
    stands_once (Dir es) (Dir es') i ti ui st su =
        let same = in_once es es' i ti ui st.1 su.1 (names_in fs (fs i) es es' st.1 su.0) (names_in fs (fs i) es' es su.1 st.0) in
        λ e. Dir (same e)

    in_once : (es es' : Entries) (i : ℕ) → Rattle.ct_tree.specs.Ordered.AreEntries es → Rattle.ct_tree.specs.Ordered.AreEntries es' → StandIn fs (fs i) es → StandIn fs (fs i) es'
        → ((z : List ℕ) → HasName z es → HasName z es') → ((z : List ℕ) → HasName z es' → HasName z es) → es ≡ es'
    in_once none none i a b st su on back = refl
    in_once none (entry y m s) i a b st su on back = absurd (back y (inl refl))
    in_once (entry x n r) none i a b st su on back = absurd (on x (inl refl))
    in_once (entry x n r) (entry y m s) i a b st su on back =
        at_once (name_cmp x y) x y n m r s i a.2 b.2 refl st su on back
        (λ o p. stands_once n m o a.1 b.1 p)
        (λ on' back'. in_once r s i a.3 b.3 st.1 su.1 on' back')
