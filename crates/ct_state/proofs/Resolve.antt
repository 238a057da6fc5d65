-- Names lead in the objects where they lead in the tree.
use Rattle.std.proofs.Common.{◌≡◌, ◌≢◌, ℕ, List, [], ◌∷◌, refl, sym, ap, ◌∙◌, subst, inl, inr, Some, None}
use Rattle.std.specs.declared.cmp.Ordering.{Ordering}
use Rattle.std.specs.declared.cmp.Ordering.TheVariants.{Less, Equal, Greater}
use Rattle.std.specs.Ordering.{ordering_reverse}
use Rattle.std.proofs.lemmas.Cmp.{nat_list_cmp_total, tied_itself}
use Rattle.ct_tree.specs.Tree.{Tree, File, Dir, Entries, none, entry}
use Rattle.ct_tree.specs.Entries.{by_order, name_cmp, lookup}
use Rattle.ct_tree.specs.Ordered.{IsBelow, IsTree}
use Rattle.ct_state.specs.Leads.{LeadsTo}
use Rattle.ct_base.specs.Objects.{Object}
use Rattle.ct_base.specs.Slots.{slot_inode}
use Rattle.ct_tree.specs.Stands.{HasName, IsDir, Stands, StandIn}
use Rattle.ct_base.specs.Named.{Named, Leads}
use Rattle.ct_base.specs.Rules.{AreNamesApart}
use Rattle.ct_state.proofs.Puts.{cmp_equal, onto}
use Rattle.ct_state.proofs.Unique.{below_has}
use Rattle.ct_state.proofs.Paths.{Path}

-- the slot of an entry that is found
pub record Found (fs : ℕ → Object) (f : Object) (x : List ℕ) (child : Tree) : Type 0 where
  pub slot : Named f x
  pub stands : Stands fs (slot_inode f slot.offset) child

found_at : (fs : ℕ → Object) (f : Object) (o : Ordering) (x y : List ℕ) (node child : Tree) (rest : Entries) → name_cmp x y ≡ o → StandIn fs f (entry y node rest) → by_order o None (Some node) (lookup x rest) ≡ Some child
    → (lookup x rest ≡ Some child → Found fs f x child) → Found fs f x child
found_at fs f Less x y node child rest o st is go = absurd (cc)
found_at fs f Equal x y node child rest o st is go =
    let s = st.0.0 in
    let tree : node ≡ child = cc in
    record { slot = record { offset = s.offset; slot = s.slot; name = s.name ∙ sym (cmp_equal x y o) }; stands = subst (λ n. Stands fs (slot_inode f s.offset) n) tree st.0.1 }
found_at fs f Greater x y node child rest o st is go = go is

pub stand_lookup : (fs : ℕ → Object) (f : Object) (x : List ℕ) (child : Tree) (es : Entries) → StandIn fs f es → lookup x es ≡ Some child → Found fs f x child
stand_lookup fs f x child none st is = absurd (cc)
stand_lookup fs f x child (entry y node rest) st is = found_at fs f (name_cmp x y) x y node child rest refl st is (stand_lookup fs f x child rest st.1)

-- a name that a slot has is found
pub has_lookup : (x : List ℕ) (es : Entries) → Rattle.ct_tree.specs.Ordered.AreEntries es → HasName x es → lookup x es ≢ None
has_lookup x none are h is = absurd h
has_lookup x (entry y node rest) are (inl same) is =
    let equal : name_cmp x y ≡ Equal = subst (λ k. name_cmp x k ≡ Equal) same (tied_itself nat_list_cmp_total x) in
    let some : lookup x (entry y node rest) ≡ Some node = ap (λ o. by_order o None (Some node) (lookup x rest)) equal in
    absurd (cc)
has_lookup x (entry y node rest) are (inr h) is =
    let more : name_cmp x y ≡ Greater = nat_list_cmp_total.antisymm x y ∙ ap ordering_reverse (below_has y x rest are.2 h) in
    has_lookup x rest are.3 h (sym (ap (λ o. by_order o None (Some node) (lookup x rest)) more) ∙ is)

-- what no entry has no slot has
pub no_slot : (fs : ℕ → Object) (f : Object) (x : List ℕ) (es : Entries) → Rattle.ct_tree.specs.Ordered.AreEntries es → IsDir f es → lookup x es ≡ None → Named f x → ⊥
no_slot fs f x es are dir is s = has_lookup x es are (subst (λ k. HasName k es) s.name (dir.names s.offset s.slot)) is

pub record Resolved (fs : ℕ → Object) (c : ℕ) (xs : List (List ℕ)) (n : Tree) : Type 0 where
  pub object : ℕ
  pub leads : Leads fs c xs object
  pub stands : Stands fs object n

pub resolved : (fs : ℕ → Object) (c : ℕ) (xs : List (List ℕ)) (t n : Tree) → Stands fs c t → LeadsTo t xs n → Resolved fs c xs n
unfolding Leads LeadsTo
resolved fs c [] t n st to = record { object = c; leads = refl; stands = subst (Stands fs c) to st }
resolved fs c (x ∷ xs) (File bytes) n st to = absurd (cc to.1)
resolved fs c (x ∷ xs) (Dir es) n st to =
    let found = stand_lookup fs (fs c) x to.0 es st.1 to.1 in
    let below = resolved fs (slot_inode (fs c) found.slot.offset) xs to.0 n found.stands to.2 in
    record { object = below.object; leads = (found.slot, below.leads); stands = below.stands }

-- what leads down has a path up
pub leads_path : (fs : ℕ → Object) (c d : ℕ) (xs ys : List (List ℕ)) → Leads fs c xs d → Path fs ys c → Path fs (onto xs ys) d
unfolding Leads Path
leads_path fs c d [] ys leads p = subst (Path fs ys) leads p
leads_path fs c d (x ∷ xs) ys leads p = leads_path fs (slot_inode (fs c) leads.0.offset) d xs (x ∷ ys) leads.1 (c, leads.0, refl, p)

-- the names lead to one object
pub leads_once : (fs : ℕ → Object) → AreNamesApart fs → (c d e : ℕ) (xs : List (List ℕ)) → Leads fs c xs d → Leads fs c xs e → d ≡ e
unfolding Leads
leads_once fs apart c d e [] p q = sym p ∙ q
leads_once fs apart c d e (x ∷ xs) p q =
    let same : p.0.offset ≡ q.0.offset = apart c p.0.offset q.0.offset p.0.slot q.0.slot (p.0.name ∙ sym q.0.name) in
    leads_once fs apart (slot_inode (fs c) q.0.offset) d e xs (subst (λ o. Leads fs (slot_inode (fs c) o) xs d) same p.1) q.1
