-- The slot of a renamed entry.
use Rattle.std.proofs.Common.{◌≡◌, ◌≢◌, ℕ, ◌<◌, true, List, refl, sym, ap, subst, ◌∙◌, inl, inr, arith}
use Rattle.std.specs.Prelude.{◌==◌, if◌then◌else◌}
use Rattle.std.proofs.lemmas.Bool.{cases_eq, eq-eqb, ne_eqb}
use Rattle.ct_base.specs.declared.inode.Inode.{Inode}
use Rattle.ct_base.specs.Named.{Named}
use Rattle.ct_base.specs.Objects.{Object, no_object}
use Rattle.ct_base.specs.Path.{is_name}
use Rattle.ct_base.specs.Rules.{names as names_apart, slots}
use Rattle.ct_base.specs.Slots.{IsSlot, free_slot, slot_inode, slot_name}
use Rattle.ct_base.specs.View.{view, inode_count}
use Rattle.ct_call.specs.Placed.{HasSlot, RenamesAt}
use Rattle.ct_commit.specs.Rest.{IsAtRest}
use Rattle.ct_state.specs.Edits.{IsPlace, attach, detach, without_slot}
use Rattle.ct_state.proofs.Bytes.{objects-in}
use Rattle.ct_state.proofs.Edits.{other_at, same_at, tail_without}
use Rattle.ct_state.proofs.Filled.{attaches}
use Rattle.ct_state.proofs.Resolve.{leads_once}
use Rattle.ct_tree.specs.Checks.{names}
use Rattle.ct_tree.specs.Lands.{files}
use Rattle.ct_tree.specs.Need.{IsParentAt}
use Rattle.ct_tree.specs.Resolve.{last_name, parent}
use Rattle.ct_find.specs.Spots.{IsNextSlot}
use Rattle.ct_find.proofs.Fitting.{entry_live}
use Rattle.ct_find.specs.Entries.{IsEntryAt}
use Rattle.ct_find.specs.declared.entry.Entry.{Entry}
use Rattle.ct_rename.specs.Forms.{IsForm}
use Rattle.ct_rename.specs.Moves.{moved, replaced}
use Rattle.ct_rename.specs.Renamed.{renamed, slot_for}
use Rattle.ct_rename.specs.declared.find.Form.{Form}
use Rattle.ct_rename.specs.declared.find.Form.TheVariants.{Same, New, Over}
use Rattle.ct_rename.proofs.Calling.{both_ways}
use Rattle.ct_rename.proofs.Composing.{over_is, slot_live, tail_of}

-- ---- the slot that is filled

-- emptying a slot leaves a place for another
place_still : (fs : ℕ → Object) (d o k s : ℕ) → IsPlace (fs k) s → IsPlace (detach fs d o k) s
place_still fs d o k s p = elim (cases_eq k d) [
  | inr other ↦ subst (λ g. IsPlace g s) (sym (other_at fs d (without_slot (fs d) o) k other)) p
  | inl here ↦
      let was = subst (λ n. IsPlace (fs n) s) here p in
      subst (λ n. IsPlace (detach fs d o n) s) (sym here) (subst (λ g. IsPlace g s) (sym (same_at fs d (without_slot (fs d) o))) (record { dir = was.dir; tail = tail_without (fs d) o was.tail; aligned = was.aligned }))
]

moved_slot : (fs : ℕ → Object) (d o k s i : ℕ) (y : List ℕ) → IsPlace (fs k) s → i < 4294967296 → is_name y ≡ true → HasSlot (moved fs d o k s i y k) s i y
moved_slot fs d o k s i y place few lawful =
    let p = place_still fs d o k s place in
    let holds = (attaches (detach fs d o) k s i y p.dir p.tail p.aligned few lawful).holds in
    record { slot = holds.slot; child = holds.child; named = holds.name }

replaced_slot : (fs : ℕ → Object) (d o k s i j : ℕ) (y : List ℕ) → d ≢ j → k ≢ j → IsPlace (fs k) s → i < 4294967296 → is_name y ≡ true → HasSlot (replaced fs d o k s i j y k) s i y
replaced_slot fs d o k s i j y left right place few lawful =
    let same : replaced fs d o k s i j y k ≡ moved fs d o k s i y k = ap (λ (gs : ℕ → Object). gs k) (over_is fs d o k s i j y left right) ∙ other_at (attach (detach fs d o) k s i y) j no_object k right in
    subst (λ g. HasSlot g s i y) (sym same) (moved_slot fs d o k s i y place few lawful)

-- a slot by what it is equal to
slot_as : {f g : Object} {o s i n : ℕ} {x y : List ℕ} → f ≡ g → o ≡ s → i ≡ n → x ≡ y → HasSlot g s n y → HasSlot f o i x
slot_as {f} {g} {o} {s} {i} {n} {x} {y} object offset number name has =
    subst (λ h. HasSlot h o i x) (sym object) (subst (λ p. HasSlot g p i x) (sym offset) (subst (λ p. HasSlot g s p x) (sym number) (subst (λ p. HasSlot g s n p) (sym name) has)))

-- ---- where the call puts it

module _ {w : List ℕ} (rest : IsAtRest w) where
  one_dir : (p : List ℕ) (d e : ℕ) → IsParentAt w p d → IsParentAt w p e → d ≡ e
  one_dir p d e at here = leads_once (files w) (rest.sound names_apart) 1 d e (parent (names p)) at here

  -- the entry to which a path leads is the slot of its last name
  one_slot : {p : List ℕ} {e : Entry} (d o i : ℕ) → IsEntryAt w p e → IsParentAt w p d → HasSlot (files w d) o i (last_name (names p)) → (d ≡ e.dir) × (o ≡ e.offset) × (i ≡ e.number)
  one_slot {p} {e} d o i at parent_at has =
      let dir : d ≡ e.dir = one_dir p d e.dir parent_at at.entered.leads in
      let here : HasSlot (files w e.dir) o i (last_name (names p)) = subst (λ k. HasSlot (files w k) o i (last_name (names p))) dir has in
      let offset : o ≡ e.offset = rest.sound names_apart e.dir o e.offset here.slot at.entered.slot (here.named ∙ sym at.entered.name) in
      (dir, offset, sym here.child ∙ ap (slot_inode (files w e.dir)) offset ∙ at.entered.child)

  few_of : {p : List ℕ} {e : Entry} → IsEntryAt w p e → e.number < 4294967296
  few_of at = omega (arith, (entry_live rest at).number.to, rest.head.inodes.1)

  place_at : (d : ℕ) {o : ℕ} → IsSlot (files w d) o → IsPlace (files w d) o
  place_at d slot = record { dir = slot.dir; tail = tail_of rest d (slot_live rest d slot).number; aligned = slot.aligned }

  -- a place for an entry under a new name: its own slot, or the next of the other directory
  new_place : (d : ℕ) {o k s : ℕ} {f : Inode} → IsSlot (files w d) o → IsNextSlot w k f s → IsPlace (files w k) (slot_for d o k s)
  new_place d {o} {k} {s} slot next = elim (cases_eq d k) [
    | inl same ↦
        let at : slot_for d o k s ≡ o = rw (eq-eqb d k same) refl in
        subst (IsPlace (files w k)) (sym at) (subst (λ n. IsPlace (files w n) o) same (place_at d slot))
    | inr other ↦
        let at : slot_for d o k s ≡ s = rw (ne_eqb d k other) refl in
        subst (IsPlace (files w k)) (sym at) (record {
          dir = ap (λ (f : Object). f.kind) (objects-in (view w) (inode_count w) k next.live.number) ∙ ap (λ (f : Inode). f.kind) next.is ∙ next.kind;
          tail = tail_of rest k next.live.number;
          aligned = next.aligned;
        })
  ]

  module _ (path to : List ℕ) where
    pub renames_at : (form : Form) → IsForm w path to form → (new : List ℕ) → files new ≡ renamed (files w) form → RenamesAt w new path to
    renames_at Same is new same differ d k o i at_path at_to has = absurd (both_ways is differ)
    renames_at (New e spot) is new same differ d k o i at_path at_to has =
        let from = one_slot d o i is.1 at_path has in
        let dir : k ≡ spot.dir = one_dir to k spot.dir at_to is.2.parent in
        let s = slot_for e.dir e.offset spot.dir spot.offset in
        let offset : (if d == k then o else free_slot (files w k)) ≡ s =
        ap (λ x. if x == k then o else free_slot (files w k)) from.0
        ∙ ap (λ x. if e.dir == x then o else free_slot (files w x)) dir
        ∙ ap (λ x. if e.dir == spot.dir then x else free_slot (files w spot.dir)) from.1
        ∙ ap (λ x. if e.dir == spot.dir then e.offset else x) (sym is.2.next.first) in (
          λ p j there.
              let here = subst (λ n. HasSlot (files w n) p j (last_name (names to))) dir there in
              absurd (is.2.fresh p here.slot (here.named ∙ sym is.2.last)),
          λ none. slot_as (ap (λ (fs : ℕ → Object). fs k) same ∙ ap (renamed (files w) (New e spot)) dir) offset from.2 (sym is.2.last)
              (moved_slot (files w) e.dir e.offset spot.dir s e.number spot.name.now (new_place e.dir is.1.entered.slot is.2.next) (few_of is.1) is.2.lawful),
        )
    renames_at (Over e there gone) is new same differ d k o i at_path at_to has =
        let from = one_slot d o i is.1 at_path has in
        let at = is.2.entered in
        let leaf = is.3 in
        let dir : k ≡ there.dir = one_dir to k there.dir at_to at.leads in
        let y = slot_name (files w there.dir) there.offset in
        let left : e.dir ≢ there.number = λ z. leaf.bare e.offset (subst (λ n. IsSlot (files w n) e.offset) z is.1.entered.slot) in
        let right : there.dir ≢ there.number = λ z. leaf.bare there.offset (subst (λ n. IsSlot (files w n) there.offset) z leaf.slot) in
        let filled = replaced_slot (files w) e.dir e.offset there.dir there.offset e.number there.number y left right (place_at there.dir at.slot) (few_of is.1) (rest.sound slots there.dir there.offset at.slot).name in (
          λ s j was. slot_as (ap (λ (fs : ℕ → Object). fs k) same ∙ ap (renamed (files w) (Over e there gone)) dir) (one_slot k s j is.2 at_to was).1 from.2 (sym at.name) filled,
          λ none. absurd (none (subst (λ n. Named (files w n) (last_name (names to))) (sym dir) (record { offset = there.offset; slot = at.slot; name = at.name }))),
        )
