-- The calls as compositions of the four changes, and what makes the objects after a call one of them.
use Rattle.std.proofs.Common.{◌≡◌, ◌≢◌, ◌∙◌, ℕ, ◌<◌, List, [], ◌∷◌, refl, sym, ap, subst, inl, inr, arith, Some, None, Option, true, false}
use Rattle.std.specs.Prelude.{is_none, unwrap_or}
use Rattle.std.specs.List.{list_all}
use Rattle.std.specs.Str.{bytes_eq}
use Rattle.std.proofs.lemmas.Bool.{cases_eq, and_parts}
use Rattle.ct_base.specs.Objects.{Object, no_object}
use Rattle.ct_base.specs.Path.{is_name, names_of}
use Rattle.ct_base.specs.Slots.{IsSlot}
use Rattle.ct_base.specs.Named.{Leads}
use Rattle.ct_tree.specs.Checks.{names, bad_path, is_root, no_node, no_dir, exists, at, parent_at, into_self, in_the_way, refuse_if, has_none}
use Rattle.ct_tree.specs.Resolve.{parent, last_name}
use Rattle.ct_tree.specs.Step.{create, mkdir, rename, refusal, step}
use Rattle.ct_tree.specs.Tree.{Tree}
use Rattle.ct_tree.specs.declared.call.Refusal.{Refusal}
use Rattle.ct_tree.specs.declared.call.Refusal.TheVariants.{BadPath, IsRoot, Exists}
use Rattle.ct_tree.proofs.Ordered.{path_names}
use Rattle.ct_state.specs.Edits.{IsPlace, with_object, without_slot, with_slot, detach, attach, discard, fresh, IsFresh, HasTail, Attaches}
use Rattle.ct_state.specs.Forest.{OneTree, Entered}
use Rattle.ct_state.proofs.Edits.{same_at, other_at, detaches, tail_without}
use Rattle.ct_state.proofs.Filled.{attaches}
use Rattle.ct_state.proofs.Passes.{first_none, not_refused}
use Rattle.ct_state.proofs.Removes.{created, mkdired}
use Rattle.ct_state.proofs.Renames.{old_slot, renamed, renamed_over}

-- ---- the last name of a path is a name

some_names : (o : Option (List (List ℕ))) (r : Refusal) → refuse_if (is_none o) r ≡ None → Some (unwrap_or o []) ≡ o
some_names None r h = absurd (cc)
some_names (Some ns) r h = refl

last_is_name : (ns : List (List ℕ)) → has_none ns ≡ false → list_all is_name ns ≡ true → is_name (last_name ns) ≡ true
last_is_name [] below all = absurd (cc)
last_is_name (x ∷ []) below all = (and_parts (is_name x) true all).0
last_is_name (x ∷ y ∷ ys) below all = last_is_name (y ∷ ys) refl (and_parts (is_name x) (list_all is_name (y ∷ ys)) all).1

path_last : (path : List ℕ) → bad_path path ≡ None → has_none (names path) ≡ false → is_name (last_name (names path)) ≡ true
path_last path good below = last_is_name (names path) below (path_names path (names path) (some_names (names_of path) BadPath good))

-- ---- a place for a slot

attach_at : (fs : ℕ → Object) (d o i : ℕ) (x : List ℕ) → IsPlace (fs d) o → i < 4294967296 → is_name x ≡ true → Attaches fs (attach fs d o i x) d o i x
attach_at fs d o i x p few name = attaches fs d o i x p.dir p.tail p.aligned few name

-- emptying a slot leaves kinds and sizes
place_still : (fs : ℕ → Object) (d o k s : ℕ) → IsPlace (fs k) s → IsPlace (detach fs d o k) s
place_still fs d o k s p = elim (cases_eq k d) [
  | inr other ↦ subst (λ g. IsPlace g s) (sym (other_at fs d (without_slot (fs d) o) k other)) p
  | inl here ↦
      let was = subst (λ n. IsPlace (fs n) s) here p in
      subst (λ n. IsPlace (detach fs d o n) s) (sym here) (subst (λ g. IsPlace g s) (sym (same_at fs d (without_slot (fs d) o))) (record { dir = was.dir; tail = tail_without (fs d) o was.tail; aligned = was.aligned }))
]

-- ---- the calls

made_place : (fs : ℕ → Object) (i kind d o : ℕ) → (fs i).kind ≡ 0 → IsPlace (fs d) o → IsPlace (fresh fs i kind d) o
made_place fs i kind d o free p =
    subst (λ g. IsPlace g o) (sym (other_at fs i (record { kind = kind; size = 0; at = λ k. 0 }) d (λ is. omega (arith, p.dir, ap (λ n. (fs n).kind) is, free)))) p

make_passes : (t : Tree) (path : List ℕ) → refusal t (create path) ≡ None → is_name (last_name (names path)) ≡ true
make_passes t path h =
    let a = first_none (bad_path path) (is_root path Exists ∷ no_dir (parent_at t path) ∷ exists t path ∷ []) h in
    let b = first_none (is_root path Exists) (no_dir (parent_at t path) ∷ exists t path ∷ []) a.1 in
    path_last path a.0 (not_refused (has_none (names path)) Exists b.0)

module _ (path : List ℕ) {fs : ℕ → Object} {d o i : ℕ} {t : Tree} (f : OneTree fs t) (free : (fs i).kind ≡ 0) (few : i < 4294967296) (leads : Leads fs 1 (parent (names path)) d) (place : IsPlace (fs d) o)
    (unused : IsSlot (fs d) o → ⊥) (new : IsFresh (fs d) (last_name (names path))) where
  pub create_composed : refusal t (create path) ≡ None → OneTree (attach (fresh fs i 1) d o i (last_name (names path))) (step t (create path)).1
  create_composed h = created path f free leads unused new (attach_at (fresh fs i 1) d o i (last_name (names path)) (made_place fs i 1 d o free place) few (make_passes t path h)) h

  pub mkdir_composed : refusal t (mkdir path) ≡ None → OneTree (attach (fresh fs i 2) d o i (last_name (names path))) (step t (mkdir path)).1
  mkdir_composed h = mkdired path f free leads unused new (attach_at (fresh fs i 2) d o i (last_name (names path)) (made_place fs i 2 d o free place) few (make_passes t path h)) h

rename_passes : (t : Tree) (path to : List ℕ) → refusal t (rename path to) ≡ None → is_name (last_name (names to)) ≡ true
rename_passes t path to h =
    let a = first_none (bad_path path) (bad_path to ∷ is_root path IsRoot ∷ is_root to IsRoot ∷ no_node (at t path) ∷ no_dir (parent_at t to) ∷ into_self path to ∷ in_the_way t path to ∷ []) h in
    let b = first_none (bad_path to) (is_root path IsRoot ∷ is_root to IsRoot ∷ no_node (at t path) ∷ no_dir (parent_at t to) ∷ into_self path to ∷ in_the_way t path to ∷ []) a.1 in
    let c = first_none (is_root path IsRoot) (is_root to IsRoot ∷ no_node (at t path) ∷ no_dir (parent_at t to) ∷ into_self path to ∷ in_the_way t path to ∷ []) b.1 in
    let e = first_none (is_root to IsRoot) (no_node (at t path) ∷ no_dir (parent_at t to) ∷ into_self path to ∷ in_the_way t path to ∷ []) c.1 in
    path_last to b.0 (not_refused (has_none (names to)) IsRoot e.0)

module _ (path to : List ℕ) (k s : ℕ) {fs : ℕ → Object} {d o i : ℕ} {t : Tree} (f : OneTree fs t) (e : Entered fs d o i (parent (names path)) (last_name (names path))) (few : i < 4294967296)
    (tail : HasTail (fs d)) (at_to : Leads fs 1 (parent (names to)) k) (place : IsPlace (fs k) s) (differ : bytes_eq path to ≡ false) (passes : refusal t (rename path to) ≡ None) where
  attaches_to : Attaches (detach fs d o) (attach (detach fs d o) k s i (last_name (names to))) k s i (last_name (names to))
  attaches_to = attach_at (detach fs d o) k s i (last_name (names to)) (place_still fs d o k s place) few (rename_passes t path to passes)

  -- to a new name in an empty slot of any directory, or in the very slot
  pub rename_composed : IsFresh (fs k) (last_name (names to)) → (IsSlot (fs k) s → (k ≡ d) × (s ≡ o)) → OneTree (attach (detach fs d o) k s i (last_name (names to))) (step t (rename path to)).1
  rename_composed new where_used =
      let out = detaches fs d o e.slot.dir tail e.slot.aligned in
      renamed path to k f e tail at_to differ passes new (λ h. let old = old_slot out f.are.entries k s h in let one = where_used old.slot in old.away one.0 one.1) attaches_to

  -- to a name that is there
  pub rename_over_composed : {j : ℕ} → Entered fs k s j (parent (names to)) (last_name (names to)) → OneTree (discard (attach (detach fs d o) k s i (last_name (names to))) j) (step t (rename path to)).1
  rename_over_composed there = renamed_over path to k f e tail at_to differ passes there attaches_to

-- ---- objects that are as one of the compositions has them

pub with_is : {fs gs : ℕ → Object} {i : ℕ} {g : Object} → gs i ≡ g → ((j : ℕ) → j ≢ i → gs j ≡ fs j) → gs ≡ with_object fs i g
with_is {fs} {gs} {i} {g} here others = λ e j. at_each j e
  where
    at_each : (j : ℕ) → gs j ≡ with_object fs i g j
    at_each j = elim (cases_eq j i) [
      | inl is ↦ ap gs is ∙ here ∙ sym (ap (with_object fs i g) is ∙ same_at fs i g)
      | inr other ↦ others j other ∙ sym (other_at fs i g j other)
    ]

-- two objects change
pub two_are : {fs gs : ℕ → Object} {i k : ℕ} {g h : Object} → i ≢ k → gs i ≡ g → gs k ≡ h → ((j : ℕ) → j ≢ i → j ≢ k → gs j ≡ fs j) → gs ≡ with_object (with_object fs i g) k h
two_are {fs} {gs} {i} {k} {g} {h} apart first second others = with_is second (λ j other. elim (cases_eq j i) [
  | inl is ↦ ap gs is ∙ first ∙ sym (ap (with_object fs i g) is ∙ same_at fs i g)
  | inr away ↦ others j away other ∙ sym (other_at fs i g j away)
])

-- unlink and rmdir
pub removed_are : {fs gs : ℕ → Object} (d o i : ℕ) → d ≢ i → gs d ≡ without_slot (fs d) o → gs i ≡ no_object → ((j : ℕ) → j ≢ d → j ≢ i → gs j ≡ fs j) → gs ≡ discard (detach fs d o) i
removed_are d o i apart dir gone others = two_are apart dir gone others

-- a rename into another directory
pub moved_are : {fs gs : ℕ → Object} (d o k s i : ℕ) (y : List ℕ) → d ≢ k → gs d ≡ without_slot (fs d) o → gs k ≡ with_slot (fs k) s i y
    → ((j : ℕ) → j ≢ d → j ≢ k → gs j ≡ fs j) → gs ≡ attach (detach fs d o) k s i y
moved_are {fs} d o k s i y apart from to others =
    two_are apart from (to ∙ ap (λ f. with_slot f s i y) (sym (other_at fs d (without_slot (fs d) o) k (λ is. apart (sym is))))) others

-- and within one
pub moved_within_are : {fs gs : ℕ → Object} (d o s i : ℕ) (y : List ℕ) → gs d ≡ with_slot (without_slot (fs d) o) s i y → ((j : ℕ) → j ≢ d → gs j ≡ fs j) → gs ≡ attach (detach fs d o) d s i y
moved_within_are {fs} d o s i y dir others =
    with_is (dir ∙ ap (λ f. with_slot f s i y) (sym (same_at fs d (without_slot (fs d) o)))) (λ j other. others j other ∙ sym (other_at fs d (without_slot (fs d) o) j other))

-- a rename that replaces object j: the other objects are as after a rename to a new name
replaced_by : (fs : ℕ → Object) {gs ms : ℕ → Object} (j : ℕ) → gs j ≡ no_object → with_object gs j (fs j) ≡ ms → gs ≡ discard ms j
replaced_by fs {gs} {ms} j gone is = with_is gone (λ c other. sym (other_at gs j (fs j) c other) ∙ ap (λ h. h c) is)

back_at : (fs gs : ℕ → Object) (j : ℕ) → with_object gs j (fs j) j ≡ fs j
back_at fs gs j = same_at gs j (fs j)

pub replaced_are : {fs gs : ℕ → Object} (d o k s i j : ℕ) (y : List ℕ) → d ≢ k → d ≢ j → k ≢ j → gs d ≡ without_slot (fs d) o → gs k ≡ with_slot (fs k) s i y → gs j ≡ no_object
    → ((c : ℕ) → c ≢ d → c ≢ k → c ≢ j → gs c ≡ fs c) → gs ≡ discard (attach (detach fs d o) k s i y) j
replaced_are {fs} {gs} d o k s i j y apart left right from to gone others =
    replaced_by fs j gone (moved_are d o k s i y apart (other_at gs j (fs j) d left ∙ from) (other_at gs j (fs j) k right ∙ to) (λ c here there. elim (cases_eq c j) [
      | inl is ↦ ap (with_object gs j (fs j)) is ∙ back_at fs gs j ∙ sym (ap fs is)
      | inr away ↦ other_at gs j (fs j) c away ∙ others c here there away
    ]))

pub replaced_within_are : {fs gs : ℕ → Object} (d o s i j : ℕ) (y : List ℕ) → d ≢ j → gs d ≡ with_slot (without_slot (fs d) o) s i y → gs j ≡ no_object
    → ((c : ℕ) → c ≢ d → c ≢ j → gs c ≡ fs c) → gs ≡ discard (attach (detach fs d o) d s i y) j
replaced_within_are {fs} {gs} d o s i j y apart dir gone others =
    replaced_by fs j gone (moved_within_are d o s i y (other_at gs j (fs j) d apart ∙ dir) (λ c here. elim (cases_eq c j) [
      | inl is ↦ ap (with_object gs j (fs j)) is ∙ back_at fs gs j ∙ sym (ap fs is)
      | inr away ↦ other_at gs j (fs j) c away ∙ others c here away
    ]))
