-- Names that lead to an object lead in the tree too; names one more than a way to a directory.
use Rattle.std.proofs.Common.{◌≡◌, ◌≢◌, ◌∙◌, ℕ, List, [], ◌∷◌, ◌++◌, refl, sym, ap, subst, inl, inr, arith, Some, None, Option, Ok, true}
use Rattle.std.specs.Prelude.{unwrap_or}
use Rattle.std.specs.List.{list_all}
use Rattle.std.specs.Option.{ok_or}
use Rattle.std.proofs.lemmas.Bool.{and_from}
use Rattle.std.specs.declared.cmp.Ordering.{Ordering}
use Rattle.std.specs.declared.cmp.Ordering.TheVariants.{Less, Equal, Greater}
use Rattle.ct_base.specs.Objects.{Object}
use Rattle.ct_base.specs.Path.{is_name}
use Rattle.ct_base.specs.Slots.{slot_inode}
use Rattle.ct_base.specs.Named.{Named, Leads}
use Rattle.ct_base.specs.Rules.{AreEntries, AreNamesApart}
use Rattle.ct_tree.specs.Tree.{Tree, File, Dir, Entries, none, entry}
use Rattle.ct_tree.specs.Entries.{by_order, name_cmp, lookup, put_entry, cut_entry}
use Rattle.ct_tree.specs.Ordered.{IsBelow, IsTree}
use Rattle.ct_tree.specs.Resolve.{entries_in, under, put, cut, resolve, and_then}
use Rattle.ct_tree.specs.Stands.{HasName, Stands}
use Rattle.ct_tree.specs.declared.call.Refusal.TheVariants.{NotFound}
use Rattle.ct_tree.proofs.Ordered.{found_tree}
use Rattle.ct_state.specs.Leads.{LeadsTo}
use Rattle.ct_state.proofs.Puts.{cmp_equal}
use Rattle.ct_state.proofs.Resolve.{no_slot, stand_lookup}

-- ---- from objects to the tree

pub record Followed (fs : ℕ → Object) (d : ℕ) (xs : List (List ℕ)) (t : Tree) : Type 0 where
  pub node : Tree
  pub tree : IsTree node
  pub to : LeadsTo t xs node
  pub stands : Stands fs d node

follow : (fs : ℕ → Object) → AreNamesApart fs → (c d : ℕ) (x : List ℕ) (xs : List (List ℕ)) (es : Entries) → IsTree (Dir es) → Stands fs c (Dir es) → (s : Named (fs c) x)
    → ((child : Tree) → IsTree child → Stands fs (slot_inode (fs c) s.offset) child → Followed fs d xs child) → (o : Option Tree) → lookup x es ≡ o → Followed fs d (x ∷ xs) (Dir es)
unfolding LeadsTo
follow fs apart c d x xs es tree st s go None is = absurd (no_slot fs (fs c) x es tree st.0 is s)
follow fs apart c d x xs es tree st s go (Some child) is =
    let found = stand_lookup fs (fs c) x child es st.1 is in
    let same : found.slot.offset ≡ s.offset = apart c found.slot.offset s.offset found.slot.slot s.slot (found.slot.name ∙ sym s.name) in
    let below = go child (subst (λ o. IsTree (unwrap_or o (Dir none))) is (found_tree x es tree)) (subst (λ o. Stands fs (slot_inode (fs c) o) child) same found.stands) in
    record { node = below.node; tree = below.tree; to = (child, is, below.to); stands = below.stands }

pub followed : (fs : ℕ → Object) → AreNamesApart fs → (c d : ℕ) (xs : List (List ℕ)) (t : Tree) → IsTree t → Stands fs c t → Leads fs c xs d → Followed fs d xs t
unfolding Leads LeadsTo
followed fs apart c d [] t tree st leads = record { node = t; tree = tree; to = refl; stands = subst (λ j. Stands fs j t) leads st }
followed fs apart c d (x ∷ xs) (File bytes) tree st leads = absurd (omega (arith, st.kind, leads.0.slot.dir))
followed fs apart c d (x ∷ xs) (Dir es) tree st leads =
    follow fs apart c d x xs es tree st leads.0 (λ child is_tree stands. followed fs apart (slot_inode (fs c) leads.0.offset) d xs child is_tree stands leads.1) (lookup x es) refl

-- the names on the way are names, and one more
pub all_names : (fs : ℕ → Object) → AreEntries fs → (c d : ℕ) (xs : List (List ℕ)) (x : List ℕ) → is_name x ≡ true → Leads fs c xs d → list_all is_name (xs ++ (x ∷ [])) ≡ true
unfolding Leads
all_names fs entries c d [] x is leads = and_from _ _ is refl
all_names fs entries c d (y ∷ ys) x is leads =
    let s = leads.0 in
    and_from _ _ (ap is_name (sym s.name) ∙ (entries c s.offset s.slot).name) (all_names fs entries (slot_inode (fs c) s.offset) d ys x is leads.1)

pub leads_push : (fs : ℕ → Object) (c d : ℕ) (xs : List (List ℕ)) (x : List ℕ) → Leads fs c xs d → (s : Named (fs d) x) → Leads fs c (xs ++ (x ∷ [])) (slot_inode (fs d) s.offset)
unfolding Leads
leads_push fs c d [] x is s = subst (λ k. (u : Named (fs k) x) × (slot_inode (fs k) u.offset ≡ slot_inode (fs d) s.offset)) (sym is) (s, refl)
leads_push fs c d (y ∷ ys) x leads s = (leads.0, leads_push fs (slot_inode (fs c) leads.0.offset) d ys x leads.1 s)

-- ---- in trees

pub leads_resolve : (t : Tree) (xs : List (List ℕ)) (n : Tree) → LeadsTo t xs n → resolve t xs ≡ Ok n
unfolding LeadsTo
leads_resolve t [] n to = ap Ok to
leads_resolve (File bytes) (x ∷ xs) n to = absurd (cc to.1)
leads_resolve (Dir es) (x ∷ xs) n to = ap (λ o. and_then (ok_or o NotFound) (λ k. resolve k xs)) to.1 ∙ leads_resolve to.0 xs n to.2

resolve_at : (x : List ℕ) (xs : List (List ℕ)) (es : Entries) (n : Tree) → ((k : Tree) → resolve k xs ≡ Ok n → LeadsTo k xs n) → (o : Option Tree) → lookup x es ≡ o → and_then (ok_or o NotFound) (λ k. resolve k xs) ≡ Ok n → LeadsTo (Dir es) (x ∷ xs) n
unfolding LeadsTo
resolve_at x xs es n go None is h = absurd (cc)
resolve_at x xs es n go (Some k) is h = (k, is, go k h)

pub resolve_leads : (t : Tree) (xs : List (List ℕ)) (n : Tree) → resolve t xs ≡ Ok n → LeadsTo t xs n
unfolding LeadsTo
resolve_leads t [] n h = cc
resolve_leads (File bytes) (x ∷ xs) n h = absurd (cc)
resolve_leads (Dir es) (x ∷ xs) n h = resolve_at x xs es n (λ k. resolve_leads k xs n) (lookup x es) refl h

cut_first : (t : Tree) (y : List ℕ) (ys : List (List ℕ)) (x : List ℕ) → cut t (y ∷ (ys ++ (x ∷ []))) ≡ Dir (put_entry y (cut (under t y) (ys ++ (x ∷ []))) (entries_in t))
cut_first t y [] x = refl
cut_first t y (z ∷ zs) x = refl

-- the tree without a name more than the way to a directory
pub cut_last : (xs : List (List ℕ)) (x : List ℕ) (t : Tree) (es : Entries) → LeadsTo t xs (Dir es) → cut t (xs ++ (x ∷ [])) ≡ put t xs (Dir (cut_entry x es))
unfolding LeadsTo
cut_last [] x t es to = ap (λ n. Dir (cut_entry x (entries_in n))) to
cut_last (y ∷ ys) x t es to =
    cut_first t y ys x
    ∙ ap (λ n. Dir (put_entry y n (entries_in t))) (ap (λ n. cut n (ys ++ (x ∷ []))) (under_is y to.1) ∙ cut_last ys x to.0 es to.2 ∙ sym (ap (λ n. put n ys (Dir (cut_entry x es))) (under_is y to.1)))
  where
    under_is : (y : List ℕ) {child : Tree} → lookup y (entries_in t) ≡ Some child → under t y ≡ child
    under_is y is = ap (λ o. unwrap_or o (Dir none)) is

-- a node under a name more than the way to a directory
pub put_last : (xs : List (List ℕ)) (x : List ℕ) (t leaf : Tree) (es : Entries) → LeadsTo t xs (Dir es) → put t (xs ++ (x ∷ [])) leaf ≡ put t xs (Dir (put_entry x leaf es))
unfolding LeadsTo
put_last [] x t leaf es to = ap (λ n. Dir (put_entry x leaf (entries_in n))) to
put_last (y ∷ ys) x t leaf es to =
    ap (λ n. Dir (put_entry y n (entries_in t)))
    (ap (λ n. put n (ys ++ (x ∷ [])) leaf) (under_is y to.1) ∙ put_last ys x to.0 leaf es to.2 ∙ sym (ap (λ n. put n ys (Dir (put_entry x leaf es))) (under_is y to.1)))
  where
    under_is : (y : List ℕ) {child : Tree} → lookup y (entries_in t) ≡ Some child → under t y ≡ child
    under_is y is = ap (λ o. unwrap_or o (Dir none)) is

-- what is put before all others comes first
put_front : (x : List ℕ) (u : Tree) (es : Entries) → IsBelow x es → put_entry x u es ≡ entry x u es
put_front x u none below = refl
put_front x u (entry y n rest) below = ap (λ o. by_order o (entry x u (entry y n rest)) (entry y u rest) (entry y n (put_entry x u rest))) below.0

put_cut_at : (o : Ordering) (x y : List ℕ) (u n : Tree) (rest : Entries) → name_cmp x y ≡ o → IsBelow y rest → put_entry x u (cut_entry x rest) ≡ put_entry x u rest
    → put_entry x u (by_order o (entry y n rest) rest (entry y n (cut_entry x rest))) ≡ by_order o (entry x u (entry y n rest)) (entry y u rest) (entry y n (put_entry x u rest))
put_cut_at Less x y u n rest o below ih = ap (λ k. by_order k (entry x u (entry y n rest)) (entry y u rest) (entry y n (put_entry x u rest))) o
put_cut_at Equal x y u n rest o below ih =
    let same : x ≡ y = cmp_equal x y o in
    put_front x u rest (subst (λ k. IsBelow k rest) (sym same) below) ∙ ap (λ k. entry k u rest) same
put_cut_at Greater x y u n rest o below ih =
    ap (λ k. by_order k (entry x u (entry y n (cut_entry x rest))) (entry y u (cut_entry x rest)) (entry y n (put_entry x u (cut_entry x rest)))) o ∙ ap (entry y n) ih

-- what is put under a name takes the place of what was there
pub put_cut_entry : (x : List ℕ) (u : Tree) (es : Entries) → Rattle.ct_tree.specs.Ordered.AreEntries es → put_entry x u (cut_entry x es) ≡ put_entry x u es
put_cut_entry x u none are = refl
put_cut_entry x u (entry y n rest) are = put_cut_at (name_cmp x y) x y u n rest refl are.2 (put_cut_entry x u rest are.3)

has_cut_at : (o : Ordering) (z x y : List ℕ) (n : Tree) (rest cutted : Entries) → name_cmp x y ≡ o → z ≢ x → (HasName z rest → HasName z cutted) → HasName z (entry y n rest)
    → HasName z (by_order o (entry y n rest) rest (entry y n cutted))
has_cut_at Less z x y n rest cutted o other go h = h
has_cut_at Equal z x y n rest cutted o other go (inl is) = absurd (other (is ∙ sym (cmp_equal x y o)))
has_cut_at Equal z x y n rest cutted o other go (inr h) = h
has_cut_at Greater z x y n rest cutted o other go (inl is) = inl is
has_cut_at Greater z x y n rest cutted o other go (inr h) = inr (go h)

pub has_cut : (z x : List ℕ) (es : Entries) → z ≢ x → HasName z es → HasName z (cut_entry x es)
has_cut z x none other h = h
has_cut z x (entry y n rest) other h = has_cut_at (name_cmp x y) z x y n rest (cut_entry x rest) refl other (has_cut z x rest other) h
