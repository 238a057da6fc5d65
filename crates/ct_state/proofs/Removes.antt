-- What the objects are after create, mkdir, unlink and rmdir, and the trees that they stand for.
use Rattle.std.proofs.Common.{◌≡◌, ◌≢◌, ◌∙◌, ℕ, List, [], ◌∷◌, ◌++◌, refl, sym, ap, subst, arith, None, Ok, false}
use Rattle.ct_base.specs.Objects.{Object}
use Rattle.ct_base.specs.Slots.{IsSlot, slot_inode, slot_name}
use Rattle.ct_base.specs.Named.{Named, Leads}
use Rattle.ct_tree.specs.Checks.{names, bad_path, is_root, no_file, no_dir, has_entries, has_none, at, parent_at, exists}
use Rattle.ct_tree.specs.Resolve.{parent, last_name, resolve, put, cut}
use Rattle.ct_tree.specs.Stands.{Stands}
use Rattle.ct_tree.specs.Step.{create, mkdir, unlink, rmdir, refusal, make_refusal, effect, answered, step}
use Rattle.ct_tree.specs.Tree.{Tree, File, Dir, Entries, none}
use Rattle.ct_tree.specs.declared.call.Refusal.TheVariants.{IsRoot, Exists}
use Rattle.ct_state.specs.Forest.{OneTree, Entered, Forest}
use Rattle.ct_state.specs.Edits.{without_slot, detach, discard, fresh, IsFresh, HasTail, Attaches}
use Rattle.ct_state.proofs.Changes.{entered, entered_some, detached, dropped, attached, made_file, made_dir}
use Rattle.ct_state.proofs.Edits.{other_at, detaches, bares_at}
use Rattle.ct_state.proofs.Followed.{followed, leads_resolve}
use Rattle.ct_state.proofs.Passes.{first_none, not_refused, split_last, file_below, IsBare, bare_file, bare_dir, bare_slots}
use Rattle.ct_state.proofs.Turning.{Bares}

-- ---- an entry and its object go

module _ {fs : ℕ → Object} {d o i : ℕ} {xs : List (List ℕ)} {x : List ℕ} {t : Tree} (f : OneTree fs t) (e : Entered fs d o i xs x) (tail : HasTail (fs d)) where
  pub removed : IsBare (entered e f).node → OneTree (discard (detach fs d o) i) (cut t (xs ++ (x ∷ [])))
  removed bare =
      let slots = bare_slots fs i (entered e f).node bare (entered e f).stands in
      let mid = detached e f (detaches fs d o e.slot.dir tail e.slot.aligned) in
      let other : i ≢ d = λ is. slots o (subst (λ n. IsSlot (fs n) o) (sym is) e.slot) in
      dropped mid.2 (entered_some e f.are) (λ k s. slots k (subst (λ g. IsSlot g k) (other_at fs d (without_slot (fs d) o) i other) s))

  -- what stands where the names lead
  pub entered_is : (ns : List (List ℕ)) → ns ≡ xs ++ (x ∷ []) → resolve t ns ≡ Ok (entered e f).node
  entered_is ns is = ap (resolve t) is ∙ leads_resolve t (xs ++ (x ∷ [])) (entered e f).node (entered e f).to

root_dir : (fs : ℕ → Object) (t : Tree) → (fs 1).kind ≡ 2 → Stands fs 1 t → (es : Entries) × (t ≡ Dir es)
root_dir fs (File bytes) dir st = absurd (omega (arith, dir, st.kind))
root_dir fs (Dir es) dir st = (es, refl)

pub stepped : (fs : ℕ → Object) (t : Tree) (op : Rattle.ct_tree.specs.Step.Op) → refusal t op ≡ None → OneTree fs (effect t op).1 → OneTree fs (step t op).1
stepped fs t op passes h = subst (λ r. OneTree fs (answered r t (effect t op)).1) (sym passes) h

module _ (path : List ℕ) {fs : ℕ → Object} {d o i : ℕ} {t : Tree} (f : OneTree fs t) (e : Entered fs d o i (parent (names path)) (last_name (names path))) (tail : HasTail (fs d)) where
  gone : has_none (names path) ≡ false → IsBare (entered e f).node → OneTree (discard (detach fs d o) i) (cut t (names path))
  gone below bare = subst (λ ns. OneTree (discard (detach fs d o) i) (cut t ns)) (sym (split_last (names path) below)) (removed f e tail bare)

  pub unlinked : refusal t (unlink path) ≡ None → OneTree (discard (detach fs d o) i) (step t (unlink path)).1
  unlinked passes =
      let file = (first_none (no_file (at t path)) [] (first_none (bad_path path) (no_file (at t path) ∷ []) passes).1).0 in
      let root = root_dir fs t f.are.root f.stands in
      let below = file_below t (names path) root.0 root.1 file in
      let there = entered_is f e tail (names path) (split_last (names path) below) in
      stepped (discard (detach fs d o) i) t (unlink path) passes (gone below (bare_file (entered e f).node (sym (ap no_file there) ∙ file)))

  pub rmdired : refusal t (rmdir path) ≡ None → OneTree (discard (detach fs d o) i) (step t (rmdir path)).1
  rmdired passes =
      let a = (first_none (bad_path path) (is_root path IsRoot ∷ no_dir (at t path) ∷ has_entries (at t path) ∷ []) passes).1 in
      let b = first_none (is_root path IsRoot) (no_dir (at t path) ∷ has_entries (at t path) ∷ []) a in
      let c = first_none (no_dir (at t path)) (has_entries (at t path) ∷ []) b.1 in
      let bare = (first_none (has_entries (at t path)) [] c.1).0 in
      let below = not_refused (has_none (names path)) IsRoot b.0 in
      let there = entered_is f e tail (names path) (split_last (names path) below) in
      stepped (discard (detach fs d o) i) t (rmdir path) passes (gone below (bare_dir (entered e f).node (sym (ap has_entries there) ∙ bare)))

-- ---- an object and its entry come

-- names lead where they led
leads_bare : {fs gs : ℕ → Object} {i : ℕ} → Bares fs gs i → (c d : ℕ) (xs : List (List ℕ)) → Leads fs c xs d → Leads gs c xs d
unfolding Leads
leads_bare b c d [] leads = leads
leads_bare {fs} {gs} {i} b c d (x ∷ xs) leads =
    let s = leads.0 in
    let same : gs c ≡ fs c = b.others c (λ is. b.was s.offset (subst (λ n. IsSlot (fs n) s.offset) is s.slot)) in
    subst (λ g. (s : Named g x) × Leads gs (slot_inode g s.offset) xs d) (sym same) (s, leads_bare b (slot_inode (fs c) s.offset) d xs leads.1)

live_kind : (fs : ℕ → Object) (d : ℕ) (n : Tree) → Stands fs d n → (fs d).kind ≢ 0
live_kind fs d (File bytes) st z = omega (arith, z, st.kind)
live_kind fs d (Dir es) st z = omega (arith, z, st.0.kind)

-- an empty object under a name more than the way to a directory
module _ (kind : ℕ) (xs : List (List ℕ)) {fs hs : ℕ → Object} {d o i : ℕ} {x : List ℕ} {t : Tree} (f : OneTree fs t) (free : (fs i).kind ≡ 0) (leads : Leads fs 1 xs d) (unused : IsSlot (fs d) o → ⊥)
    (new : IsFresh (fs d) x) (c : Attaches (fresh fs i kind) hs d o i x) where
  other : d ≢ i
  other is = let n = followed fs f.are.apart 1 d xs t f.tree f.stands leads in live_kind fs d n.node n.stands (ap (λ k. (fs k).kind) is ∙ free)

  same : fresh fs i kind d ≡ fs d
  same = other_at fs i (record { kind = kind; size = 0; at = λ k. 0 }) d other

  pub added : {u : Tree} → Forest (fresh fs i kind) i t u → OneTree hs (put t (xs ++ (x ∷ [])) u)
  added {u} mid =
      let some : i ≢ 1 = λ is. omega (arith, free, ap (λ n. (fs n).kind) is, f.are.root) in
      let bares = bares_at fs i (record { kind = kind; size = 0; at = λ k. 0 }) (λ k s. omega (arith, s.dir, free)) (λ k s. omega (arith, s.below)) in
      attached xs mid some (leads_bare bares 1 d xs leads) (λ s. unused (subst (λ g. IsSlot g o) same s))
      (λ k s is. new k (subst (λ g. IsSlot g k) same s) (ap (λ g. slot_name g k) (sym same) ∙ is)) c

made_below : (t : Tree) (path : List ℕ) → make_refusal t path ≡ None → has_none (names path) ≡ false
made_below t path passes =
    let a = (first_none (bad_path path) (is_root path Exists ∷ no_dir (parent_at t path) ∷ exists t path ∷ []) passes).1 in
    not_refused (has_none (names path)) Exists (first_none (is_root path Exists) (no_dir (parent_at t path) ∷ exists t path ∷ []) a).0

at_path : (path : List ℕ) (hs : ℕ → Object) (t u : Tree) → make_refusal t path ≡ None → OneTree hs (put t (parent (names path) ++ (last_name (names path) ∷ [])) u) → OneTree hs (put t (names path) u)
at_path path hs t u passes h = subst (λ ns. OneTree hs (put t ns u)) (sym (split_last (names path) (made_below t path passes))) h

pub created : (path : List ℕ) {fs hs : ℕ → Object} {d o i : ℕ} {t : Tree} → OneTree fs t → (fs i).kind ≡ 0 → Leads fs 1 (parent (names path)) d → (IsSlot (fs d) o → ⊥) → IsFresh (fs d) (last_name (names path))
    → Attaches (fresh fs i 1) hs d o i (last_name (names path)) → refusal t (create path) ≡ None → OneTree hs (step t (create path)).1
created path {hs = hs} {t = t} f free leads unused new c passes = stepped hs t (create path) passes (at_path path hs t (File []) passes (added 1 (parent (names path)) f free leads unused new c (made_file f free)))

pub mkdired : (path : List ℕ) {fs hs : ℕ → Object} {d o i : ℕ} {t : Tree} → OneTree fs t → (fs i).kind ≡ 0 → Leads fs 1 (parent (names path)) d → (IsSlot (fs d) o → ⊥) → IsFresh (fs d) (last_name (names path))
    → Attaches (fresh fs i 2) hs d o i (last_name (names path)) → refusal t (mkdir path) ≡ None → OneTree hs (step t (mkdir path)).1
mkdired path {hs = hs} {t = t} f free leads unused new c passes = stepped hs t (mkdir path) passes (at_path path hs t (Dir none) passes (added 2 (parent (names path)) f free leads unused new c (made_dir f free)))
