-- Where a new object and its directory are, and how many pages were taken for them.
use Rattle.std.proofs.Common.{◌≡◌, ℕ, Result, Ok, Err, ◌+◌, ◌/◌, ◌^◌, ◌<◌, List, length, Some, sym, ap, ◌∙◌, subst, arith}
use Rattle.std.specs.Prelude.{OnOk, max}
use Rattle.ct_base.specs.declared.inode.Inode.{Inode}
use Rattle.ct_base.specs.Free.{HasFreePages}
use Rattle.ct_base.specs.Inode.{IsNumber, IsPart, inode, part, part_bytes}
use Rattle.ct_base.specs.Objects.{Object}
use Rattle.ct_base.specs.Plan.{first_free_number}
use Rattle.ct_base.specs.Slots.{free_slot}
use Rattle.ct_base.specs.View.{view, inode_count}
use Rattle.ct_base.specs.Walk.{walk}
use Rattle.ct_base.specs.Wants.{missing}
use Rattle.ct_dir.proofs.Held.{part_bounds}
use Rattle.ct_frames.specs.Free.{FreePages}
use Rattle.ct_image.proofs.Steps.{walk-cell}
use Rattle.ct_state.proofs.Bytes.{objects-in}
use Rattle.ct_tree.specs.Checks.{names}
use Rattle.ct_tree.specs.Lands.{files}
use Rattle.ct_tree.specs.Need.{IsParentAt, NeedsRoomIn}
use Rattle.ct_tree.specs.Resolve.{last_name}
use Rattle.ct_enter.proofs.EntryRoom.{plans}
use Rattle.ct_enter.proofs.Places.{can_plan}
use Rattle.ct_enter.proofs.Planned.{one_dir, one_number, only_plan}
use Rattle.ct_call.proofs.Spaced.{only_need}
use Rattle.ct_enter.specs.Entry.{KeepsPart}
use Rattle.ct_commit.specs.Rest.{IsAtRest, KeepsTables}
use Rattle.ct_enter.specs.Makes.{make_op}
use Rattle.ct_find.specs.Kinds.{kind_of}
use Rattle.ct_call.specs.Placed.{EntersAt, HasEntryAt, HasNewObject, HasSlot, IsMoved, Places, Replaces, empty_inode}
use Rattle.ct_call.specs.Plans.{Fits, level_of}
use Rattle.ct_enter.specs.Plans.{IsEntryPlan}
use Rattle.ct_find.specs.Spots.{IsNextSlot}
use Rattle.ct_find.specs.declared.kind.Kind.{Kind}
use Rattle.ct_find.specs.declared.kind.Kind.TheVariants.{File as file, Directory as directory}
use Rattle.ct_call.specs.declared.plan.CallPlan.{CallPlan}

-- the record of the entry leaves the directory where it is
pub moved_on : {w mid new : List ℕ} {dir level : ℕ} → IsMoved (λ v. ⊥) w mid dir level → KeepsTables mid new → KeepsPart mid new dir → IsMoved (λ v. ⊥) w new dir level
moved_on {w} {mid} {new} {dir} {level} moved keeps part_kept =
    let m = inode (view mid) dir in
    let bounds = part_bounds m.level m.base moved.part.level moved.part.aligned moved.part.high in
    let same : part (inode (view new) dir) ≡ part m =
    ap (λ b. record { base = b; level = (inode (view new) dir).level }) part_kept.0 ∙ ap (λ l. record { base = m.base; level = l }) part_kept.1 in
    record {
      base = part_kept.0 ∙ moved.base;
      to = part_kept.1 ∙ moved.to;
      part = subst IsPart (sym same) moved.part;
      larger = moved.larger;
      walks = λ owns v lt kept.
          let below : m.base + v < 2 ^ 48 = omega (arith, bounds.1, moved.larger owns, ap part_bytes moved.to, lt) in
          ap (λ b. walk new (b + v)) part_kept.0 ∙ walk-cell new (m.base + v) below ∙ keeps.cells 4 ((m.base + v) / 4096) (omega arith) ∙ sym (walk-cell mid (m.base + v) below) ∙ moved.walks owns v lt kept;
    }

-- where every object stays as it was a directory keeps its size
pub size_stays : (w mid : List ℕ) {dir : ℕ} → IsNumber (inode_count w) dir → inode_count mid ≡ inode_count w → files mid ≡ files w → (inode (view mid) dir).size ≡ (inode (view w) dir).size
size_stays w mid {dir} number counted same =
    ap (λ (f : Object). f.size)
    (sym (objects-in (view mid) (inode_count mid) dir (record { from = number.from; to = omega (arith, number.to, counted) })) ∙ ap (λ (fs : ℕ → Object). fs dir) same ∙ objects-in (view w) (inode_count w) dir number)

-- what follows from six facts where nothing failed
pub ok_six : {T E A B C P Q R U : Type 0} (r : Result T E) → (A → B → C → P → Q → R → U) → OnOk r A → OnOk r B → OnOk r C → OnOk r P → OnOk r Q → OnOk r R → OnOk r U
ok_six (Ok x) step a b c p q s = step a b c p q s
ok_six (Err e) step a b c p q s = tt

-- what was made at a spot is where the call puts it
module _ {w : List ℕ} (new : List ℕ) {before : FreePages} (after : FreePages) {dir : ℕ} {f : Inode} {offset number : ℕ} {plan : CallPlan} (rest : IsAtRest w) (slot : IsNextSlot w dir f offset)
    (first : first_free_number (view w) (inode_count w) ≡ Some number) (is : IsEntryPlan w f offset number plan) (fits : Fits w before plan) (kind : Kind) (path : List ℕ) (leads : IsParentAt w path dir) where
  -- the entry, and the object that it leads to
  module _ {name : List ℕ} (last : name ≡ last_name (names path)) {sort : ℕ} (is_kind : sort ≡ kind_of kind) (has : HasSlot (files new dir) offset number name) (object : inode (view new) number ≡ empty_inode sort)
      (size : (inode (view new) dir).size ≡ max f.size (offset + 256)) where
    has_object : HasNewObject w new dir number (kind_of kind) (last_name (names path))
    has_object = record {
      slot = subst (λ x. HasSlot (files new dir) (free_slot (files w dir)) number x) last (subst (λ o. HasSlot (files new dir) o number name) slot.first has);
      object = object ∙ ap empty_inode is_kind;
      size = size ∙ ap (λ (i : Inode). max i.size (offset + 256)) (sym slot.is) ∙ ap (λ o. max (inode (view w) dir).size (o + 256)) slot.first;
    }

    has_entry : HasEntryAt w new path (kind_of kind)
    has_entry d n at lowest =
        subst (λ i. HasNewObject w new i n (kind_of kind) (last_name (names path))) (sym (one_dir rest slot first path leads d at))
        (subst (λ k. HasNewObject w new dir k (kind_of kind) (last_name (names path))) (sym (one_number w first n lowest)) has_object)

  enters_at : (k : Kind) → HasEntryAt w new path (kind_of k) → EntersAt w new (make_op k path)
  enters_at file has = has
  enters_at directory has = has

  room_in : (k : Kind) (i : ℕ) → NeedsRoomIn w (make_op k path) i → IsParentAt w path i
  room_in file i at = at
  room_in directory i at = at

  -- no page of it is replaced
  replacing : (k : Kind) (i : ℕ) {level : ℕ} → IsMoved (λ v. ⊥) w new i level → IsMoved (Replaces w (make_op k path) i) w new i level
  replacing file i m = m
  replacing directory i m = m

  pub places : (name : List ℕ) → name ≡ last_name (names path) → {sort : ℕ} → sort ≡ kind_of kind → HasSlot (files new dir) offset number name → inode (view new) number ≡ empty_inode sort
      → (inode (view new) dir).size ≡ max f.size (offset + 256) → ((level : ℕ) → level_of plan.growth ≡ Some level → IsMoved (λ v. ⊥) w new dir level)
      → ((count : ℕ) → HasFreePages w count → count ≡ length before.free) → ((count : ℕ) → HasFreePages new count → count ≡ length after.free)
      → length after.free + missing w plan.wants ≡ length before.free → Places w new (make_op kind path)
  places name last is_kind has object size moved once once_after taken =
      let o = only_plan rest slot first path leads kind in
      let of_plan = plans (can_plan rest slot) number is in
      record {
        entry = enters_at kind (has_entry last is_kind has object size);
        moved = λ i level grows.
            replacing kind i
            (subst (λ d. IsMoved (λ v. ⊥) w new d level) (sym (one_dir rest slot first path leads i (room_in kind i grows.3)))
            (moved level (sym of_plan.growth ∙ ap (λ (p : Rattle.ct_base.specs.Plan.Plan). p.growth) (sym (o.only grows.0 grows.1)) ∙ grows.2)));
        taken = λ b a need had has_after needs. omega (arith, once b had, once_after a has_after, only_need o of_plan need needs, of_plan.need fits.opens, taken);
      }
