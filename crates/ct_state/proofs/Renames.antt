-- What the objects are after a rename, and the tree that they stand for.
use Rattle.std.proofs.Common.{◌≡◌, ◌≢◌, ◌∙◌, ℕ, ◌%◌, List, [], ◌∷◌, ◌++◌, refl, sym, ap, subst, inl, inr, arith, None, Ok, Err, Result, true, false, append-nil}
use Rattle.std.specs.Prelude.{IsOkAnd, if◌then◌else◌}
use Rattle.std.specs.Str.{bytes_eq}
use Rattle.std.proofs.lemmas.Slice.Eq.{bytes_eq-Decides}
use Rattle.ct_base.specs.Objects.{Object}
use Rattle.ct_base.specs.Slots.{IsSlot, slot_inode, slot_name}
use Rattle.ct_base.specs.Named.{Leads}
use Rattle.ct_base.specs.Rules.{AreEntries}
use Rattle.ct_tree.specs.Checks.{names, bad_path, is_root, no_node, no_dir, has_none, at, parent_at, into_self, in_the_way, unlike}
use Rattle.ct_tree.specs.Resolve.{parent, last_name, resolve, put, cut, node_in, lies_below, IsDir, HasParent}
use Rattle.ct_tree.specs.Step.{rename, refusal, moved, step}
use Rattle.ct_tree.specs.Tree.{Tree, File, Dir, Entries}
use Rattle.ct_tree.specs.declared.call.Refusal.{Refusal}
use Rattle.ct_tree.specs.declared.call.Refusal.TheVariants.{IsRoot, IntoSelf}
use Rattle.ct_tree.proofs.Again.{names_differ}
use Rattle.ct_tree.proofs.Moved.{parent_stays}
use Rattle.ct_state.specs.Forest.{OneTree, Entered, AreTrees, Forest}
use Rattle.ct_state.specs.Edits.{without_slot, detach, discard, IsFresh, HasTail, Detaches, Attaches}
use Rattle.ct_state.proofs.Changes.{entered, entered_some, detached, attached, swapped, dropped}
use Rattle.ct_state.proofs.Edits.{other_at, turns_of, detaches}
use Rattle.ct_state.proofs.Followed.{leads_resolve, resolve_leads}
use Rattle.ct_state.proofs.Forests.{path_up, up_once, once_of}
use Rattle.ct_state.proofs.Passes.{first_none, not_refused, split_last, dir_there, bare_replaced, bare_slots}
use Rattle.ct_state.proofs.Puts.{onto}
use Rattle.ct_state.proofs.Relinks.{Old, to_there, kept_slot, back_slot}
use Rattle.ct_state.proofs.Removes.{stepped}
use Rattle.ct_state.proofs.Resolve.{resolved, leads_path, leads_once}
use Rattle.ct_state.proofs.Paths.{Path}
use Rattle.ct_state.proofs.Turning.{Turns}

-- ---- where an entry went, other slots and ways are as they were

module _ {fs gs : ℕ → Object} {d o : ℕ} (e : Detaches fs gs d o) (entries : AreEntries fs) where
  turns : Turns fs gs d o
  turns = turns_of entries e.others e.rewrites

  pub old_slot : (j k : ℕ) → IsSlot (gs j) k → Old fs gs d o j k
  old_slot j k s = elim (back_slot turns j k s) [
    | inl at ↦ absurd ((to_there (λ j k. IsSlot (gs j) k) at.0 at.1 s).used e.empty)
    | inr old ↦ old
  ]

  leads_back : (c k : ℕ) (ys : List (List ℕ)) → Leads gs c ys k → Leads fs c ys k
  unfolding Leads
  leads_back c k [] leads = leads
  leads_back c k (y ∷ ys) leads =
      let s = leads.0 in
      let old = old_slot c s.offset s.slot in (
        record { offset = s.offset; slot = old.slot; name = sym old.kept.name ∙ s.name },
        leads_back (slot_inode (fs c) s.offset) k ys (subst (λ n. Leads gs n ys k) old.kept.inode leads.1),
      )

  fresh_back : (k : ℕ) (y : List ℕ) → IsFresh (fs k) y → IsFresh (gs k) y
  fresh_back k y new m s is = let old = old_slot k m s in new m old.slot (sym old.kept.name ∙ is)

-- ---- the names that lead to an object

onto_onto : (xs ys zs : List (List ℕ)) → onto (onto xs ys) zs ≡ onto ys (xs ++ zs)
onto_onto [] ys zs = refl
onto_onto (x ∷ xs) ys zs = onto_onto xs (x ∷ ys) zs

twice : (xs : List (List ℕ)) → onto (onto xs []) [] ≡ xs
twice xs = onto_onto xs [] [] ∙ append-nil xs

pub leads_same : {fs : ℕ → Object} {r : ℕ} → AreTrees fs r → (d : ℕ) (xs ys : List (List ℕ)) → Leads fs 1 xs d → Leads fs 1 ys d → xs ≡ ys
unfolding Path
leads_same {fs} f d xs ys p q =
    let same = (up_once (once_of f) 1 1 (onto xs []) (onto ys []) d f.top f.top (path_up fs (onto xs []) d (leads_path fs 1 d xs [] p refl)) (path_up fs (onto ys []) d (leads_path fs 1 d ys [] q refl))).1 in
    sym (twice xs) ∙ ap (λ zs. onto zs []) same ∙ twice ys

-- ---- the directory of the new name

has_parent : (t : Tree) (ns : List (List ℕ)) (es : Entries) → has_none ns ≡ false → resolve t (parent ns) ≡ Ok (Dir es) → HasParent t ns
has_parent t [] es below is = absurd (cc)
has_parent t (x ∷ xs) es below is = subst (λ r. IsOkAnd r IsDir) (sym is) tt

ok_dir : (r : Result Tree Refusal) → IsOkAnd r IsDir → (es : Entries) × (r ≡ Ok (Dir es))
ok_dir (Ok (File bytes)) h = absurd h
ok_dir (Ok (Dir es)) h = (es, refl)
ok_dir (Err e) h = absurd h

parent_is : (t : Tree) (ns : List (List ℕ)) → HasParent t ns → (es : Entries) × (resolve t (parent ns) ≡ Ok (Dir es))
parent_is t [] h = absurd h
parent_is t (x ∷ xs) h = ok_dir (resolve t (parent (x ∷ xs))) h

-- what the checks of a rename say
record Passed (t : Tree) (path to : List ℕ) : Type 0 where
  path_is : bad_path path ≡ None
  to_is : bad_path to ≡ None
  below_path : has_none (names path) ≡ false
  below_to : has_none (names to) ≡ false
  dir : no_dir (parent_at t to) ≡ None
  apart : lies_below (names path) (names to) ≡ false
  way : in_the_way t path to ≡ None

passed : (t : Tree) (path to : List ℕ) → refusal t (rename path to) ≡ None → Passed t path to
passed t path to h =
    let h1 = first_none (bad_path path) (bad_path to ∷ is_root path IsRoot ∷ is_root to IsRoot ∷ no_node (at t path) ∷ no_dir (parent_at t to) ∷ into_self path to ∷ in_the_way t path to ∷ []) h in
    let h2 = first_none (bad_path to) (is_root path IsRoot ∷ is_root to IsRoot ∷ no_node (at t path) ∷ no_dir (parent_at t to) ∷ into_self path to ∷ in_the_way t path to ∷ []) h1.1 in
    let h3 = first_none (is_root path IsRoot) (is_root to IsRoot ∷ no_node (at t path) ∷ no_dir (parent_at t to) ∷ into_self path to ∷ in_the_way t path to ∷ []) h2.1 in
    let h4 = first_none (is_root to IsRoot) (no_node (at t path) ∷ no_dir (parent_at t to) ∷ into_self path to ∷ in_the_way t path to ∷ []) h3.1 in
    let h5 = first_none (no_node (at t path)) (no_dir (parent_at t to) ∷ into_self path to ∷ in_the_way t path to ∷ []) h4.1 in
    let h6 = first_none (no_dir (parent_at t to)) (into_self path to ∷ in_the_way t path to ∷ []) h5.1 in
    let h7 = first_none (into_self path to) (in_the_way t path to ∷ []) h6.1 in
    let h8 = first_none (in_the_way t path to) [] h7.1 in
    record {
      path_is = h1.0;
      to_is = h2.0;
      below_path = not_refused (has_none (names path)) IsRoot h3.0;
      below_to = not_refused (has_none (names to)) IsRoot h4.0;
      dir = h6.0;
      apart = not_refused (lies_below (names path) (names to)) IntoSelf h7.0;
      way = h8.0;
    }

-- the same name again changes nothing
pub renamed_self : (path to : List ℕ) {fs : ℕ → Object} {t : Tree} → OneTree fs t → bytes_eq path to ≡ true → refusal t (rename path to) ≡ None → OneTree fs (step t (rename path to)).1
renamed_self path to {fs} {t} f same passes =
    stepped fs t (rename path to) passes (subst (OneTree fs) (sym (ap (λ b. if b then t else put (cut t (names path)) (names to) (node_in (at t path))) same)) f)

module _ (path to : List ℕ) (k : ℕ) {fs : ℕ → Object} {d o i : ℕ} {t : Tree} (f : OneTree fs t) (e : Entered fs d o i (parent (names path)) (last_name (names path))) (tail : HasTail (fs d))
    (at_to : Leads fs 1 (parent (names to)) k) (differ : bytes_eq path to ≡ false) (passes : refusal t (rename path to) ≡ None) where
  p : Passed t path to
  p = passed t path to passes

  path_split : names path ≡ parent (names path) ++ (last_name (names path) ∷ [])
  path_split = split_last (names path) p.below_path

  to_split : names to ≡ parent (names to) ++ (last_name (names to) ∷ [])
  to_split = split_last (names to) p.below_to

  out : Detaches fs (detach fs d o) d o
  out = detaches fs d o e.slot.dir tail e.slot.aligned

  -- the tree that is moved, and the forest without it
  u : Tree
  u = (detached e f out).0

  u_at : at t path ≡ Ok u
  unfolding u
  u_at = ap (resolve t) path_split ∙ leads_resolve t (parent (names path) ++ (last_name (names path) ∷ [])) u (detached e f out).1

  mid : Forest (detach fs d o) i (cut t (names path)) u
  unfolding u
  mid = subst (λ ns. Forest (detach fs d o) i (cut t ns) u) (sym path_split) (detached e f out).2

  -- the directory of the new name is where it was
  mid_leads : Leads (detach fs d o) 1 (parent (names to)) k
  mid_leads =
      let was = dir_there (parent_at t to) p.dir in
      let now = parent_is (cut t (names path)) (names to) (parent_stays t (names path) (names to) f.tree p.apart (has_parent t (names to) was.0 p.below_to was.1)) in
      let there = resolved (detach fs d o) 1 (parent (names to)) (cut t (names path)) (Dir now.0) mid.stands (resolve_leads (cut t (names path)) (parent (names to)) (Dir now.0) now.1) in
      let same : there.object ≡ k = leads_once fs f.are.apart 1 there.object k (parent (names to)) (leads_back out f.are.entries 1 there.object (parent (names to)) there.leads) at_to in
      subst (Leads (detach fs d o) 1 (parent (names to))) same there.leads

  -- the tree of the rename
  after : (hs : ℕ → Object) → OneTree hs (put (cut t (names path)) (parent (names to) ++ (last_name (names to) ∷ [])) u) → OneTree hs (step t (rename path to)).1
  after hs h =
      let is : moved t path to ≡ put (cut t (names path)) (parent (names to) ++ (last_name (names to) ∷ [])) u =
      ap (λ b. if b then t else put (cut t (names path)) (names to) (node_in (at t path))) differ ∙ ap (λ ns. put (cut t (names path)) ns (node_in (at t path))) to_split
      ∙ ap (λ r. put (cut t (names path)) (parent (names to) ++ (last_name (names to) ∷ [])) (node_in r)) u_at in
      stepped hs t (rename path to) passes (subst (OneTree hs) (sym is) h)

  some : i ≢ 1
  some = entered_some e f.are

  -- to a name that is not there: the slot is empty, or the one that was emptied
  pub renamed : {hs : ℕ → Object} {s : ℕ} → IsFresh (fs k) (last_name (names to)) → (IsSlot (detach fs d o k) s → ⊥) → Attaches (detach fs d o) hs k s i (last_name (names to)) → OneTree hs (step t (rename path to)).1
  renamed {hs} new unused c = after hs (attached (parent (names to)) mid some mid_leads unused (fresh_back out f.are.entries k (last_name (names to)) new) c)

  module _ {s j : ℕ} (there : Entered fs k s j (parent (names to)) (last_name (names to))) where
    -- the two entries are not one
    away : k ≡ d → s ≡ o → ⊥
    away here at_slot =
        let parents : parent (names path) ≡ parent (names to) = leads_same f.are d (parent (names path)) (parent (names to)) e.leads (subst (Leads fs 1 (parent (names to))) here there.leads) in
        let lasts : last_name (names path) ≡ last_name (names to) = sym e.name ∙ sym (ap (λ n. slot_name (fs n) o) here) ∙ sym (ap (slot_name (fs k)) at_slot) ∙ there.name in
        let all : names path ≡ names to = path_split ∙ ap (λ ns. ns ++ (last_name (names path) ∷ [])) parents ∙ ap (λ z. parent (names to) ++ (z ∷ [])) lasts ∙ sym to_split in
        names_differ path to p.path_is p.to_is (λ is. let same : bytes_eq path to ≡ true = (bytes_eq-Decides path to).1 is in Rattle.std.proofs.Common.true≢false (sym same ∙ differ)) all

    there_still : Entered (detach fs d o) k s j (parent (names to)) (last_name (names to))
    there_still =
        let kept = kept_slot (turns out f.are.entries) k s away there.slot in
        record { leads = mid_leads; slot = kept.slot; child = kept.inode ∙ there.child; name = kept.name ∙ there.name }

    -- what is replaced has no slots
    bare : (m : ℕ) → IsSlot (fs j) m → ⊥
    bare =
        let n = entered there f in
        let is : at t to ≡ Ok n.node = ap (resolve t) to_split ∙ leads_resolve t (parent (names to) ++ (last_name (names to) ∷ [])) n.node n.to in
        let way : unlike (Ok u) (Ok n.node) ≡ None =
        sym (ap (λ b. if b then None else unlike (at t path) (at t to)) differ ∙ ap (λ r. unlike r (at t to)) u_at ∙ ap (unlike (Ok u)) is) ∙ p.way in
        bare_slots fs j n.node (bare_replaced u n.node way) n.stands

    -- to a name that is there, whose object goes
    pub renamed_over : {ms : ℕ → Object} → Attaches (detach fs d o) ms k s i (last_name (names to)) → OneTree (discard ms j) (step t (rename path to)).1
    renamed_over {ms} c =
        let swap = swapped there_still mid some c in
        let not_old : j ≢ d = λ is. bare o (subst (λ n. IsSlot (fs n) o) (sym is) e.slot) in
        let not_new : j ≢ k = λ is. bare s (subst (λ n. IsSlot (fs n) s) (sym is) there.slot) in
        let same : ms j ≡ fs j = c.others j not_new ∙ other_at fs d (without_slot (fs d) o) j not_old in
        after (discard ms j) (dropped swap.2 (entered_some there_still mid.are) (λ m h. bare m (subst (λ g. IsSlot g m) same h)))
