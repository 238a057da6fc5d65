-- A rename as a whole: words at rest behind its record, and once the staging slot is emptied.
use Rattle.std.proofs.Common.{◌≡◌, ◌≢◌, ◌⊎◌, ℕ, ◌+◌, ◌<◌, ◌≤◌, List, sym, ap, subst, ◌∙◌, inl, inr, arith}
use Rattle.std.specs.Prelude.{slice_set, Option}
use Rattle.std.proofs.lemmas.Bool.{cases_eq}
use Rattle.ct_base.specs.Inode.{inode}
use Rattle.ct_base.specs.Objects.{Object}
use Rattle.ct_base.specs.Settled.{IsShut}
use Rattle.ct_base.specs.State.{SameState}
use Rattle.ct_base.specs.View.{view, inode_count}
use Rattle.ct_base.specs.Walk.{page_at}
use Rattle.ct_cut.specs.Readied.{Readied}
use Rattle.ct_enter.specs.Entry.{KeepsPart}
use Rattle.ct_frames.specs.Agrees.{Agrees}
use Rattle.ct_frames.specs.Free.{FreePages}
use Rattle.ct_pm.specs.Images.{History}
use Rattle.ct_pm.specs.Device.{LeavesOnly, MakesOnly, NothingPending}
use Rattle.ct_pm.specs.Phase.{Phase}
use Rattle.ct_pm.proofs.Phases.{phase_then, phase_weaker}
use Rattle.ct_state.proofs.Carry.{files-same}
use Rattle.ct_tree.specs.Lands.{files}
use Rattle.ct_commit.specs.Landing.{LandsAs}
use Rattle.ct_commit.specs.Rest.{IsAtRest, IsMounted, IsUnstaged}
use Rattle.ct_commit.proofs.Emptying.{Empties, empty_alike, end_phase}
use Rattle.ct_commit.proofs.Landed.{same_as}
use Rattle.ct_commit.proofs.Resting.{empty_rest, empty_unstaged, slots_stay, slots_stay_but, tables_agree}
use Rattle.ct_commit.proofs.States.{closed_of}
use Rattle.ct_remove.specs.Asked.{IsAsked}
use Rattle.ct_find.specs.Entries.{IsLeaf}
use Rattle.ct_remove.proofs.Asked.{not_owns}
use Rattle.ct_remove.proofs.Whole.{readied_asked, readied_files, removed_agrees}
use Rattle.ct_rename.specs.Moves.{CanMove, HasTree, Moved, Replaces, TurnedOrNot, moved, replaced}
use Rattle.ct_rename.proofs.Changing.{AreBytes, moved_last, replaced_are, replaced_rest}
use Rattle.ct_rename.proofs.Moving.{base-same, keeps, level-same, moved_settled}

-- ---- an entry that moves

module _ {w new : List ℕ} {d o k s i : ℕ} {name : List ℕ} (m : Moved w new d o k s i name) where
  pub moved_rest : HasTree (moved (files w) d o k s i name) → IsShut new → IsAtRest new
  moved_rest tree shut = moved_settled m tree.one shut

  pub moved_part : KeepsPart w new k
  moved_part = let number = m.can.owns.live.number in (base-same m k number, level-same m k number)

-- room before it
pub room_phase : (w0 w1 : List ℕ) {w2 : List ℕ} {from mid to : Option History} (F : (ℕ → Object) → ℕ → Object) → files w1 ≡ files w0 → Phase (LandsAs (files w0)) 150 from mid w1 → Phase (TurnedOrNot (files w1) (F (files w1))) 65 mid to w2
    → Phase (TurnedOrNot (files w0) (F (files w0))) 242 from to w2
room_phase w0 w1 {w2 = w2} {mid = mid} {to = to} F same first second =
    phase_then (phase_weaker (TurnedOrNot (files w0) (F (files w0))) (λ image lands. inl lands) (omega arith) first)
    (phase_weaker (TurnedOrNot (files w0) (F (files w0))) (λ image lands. lands) (omega arith) (subst (λ (fs : ℕ → Object). Phase (TurnedOrNot fs (F fs)) 65 mid to w2) same second))

pub only_room : {fs gs : ℕ → Object} {now : List ℕ} {from to : Option History} → Phase (LandsAs fs) 150 from to now → Phase (TurnedOrNot fs gs) 242 from to now
only_room {fs} {gs} phase = phase_weaker (TurnedOrNot fs gs) (λ image lands. inl lands) (omega arith) phase

-- ---- an entry that replaces another

-- the same pages are free behind the record
pub replaced_agrees : {w new : List ℕ} {d o k s i j : ℕ} {name : List ℕ} {frames : FreePages} (can : CanMove w d o k s i name) (asked : IsAsked w k s j) (away : d ≡ k → o ≢ s) (r : Replaces w new d o k s i j name) → AreBytes name → Agrees w frames → Agrees new frames
replaced_agrees can asked away r small agrees =
    let m = moved_last can asked away r small in
    tables_agree (keeps m) (removed_agrees r.removes agrees)

module _ {w1 w2 : List ℕ} {d o k s i j : ℕ} {name : List ℕ} (can : CanMove w1 d o k s i name) (asked : IsAsked w1 k s j) (away : d ≡ k → o ≢ s) (tree : HasTree (replaced (files w1) d o k s i j name)) (r : Replaces w1 w2 d o k s i j name) (small : AreBytes name) (shut : IsShut w2) where
  pub last_settled : IsAtRest w2
  last_settled = replaced_rest can asked away tree w2 (record { replaces = r; small = small }) shut

  pub last_roots : (n : ℕ) → 3 ≤ n → n < 10 → page_at w2 1 n ≡ page_at w1 1 n
  last_roots n from to = (keeps (moved_last can asked away r small)).cells 1 n (omega arith) ∙ r.removes.roots n from to

  pub last_counted : inode_count w2 ≡ inode_count w1
  last_counted = (keeps (moved_last can asked away r small)).head 3 (omega arith) ∙ r.removes.head 3 (omega arith)

  pub bare_mounted : {start told : Option History} {frames : FreePages} → (inode (view w1) j).level ≡ 15 → IsMounted w1 start frames → NothingPending told → IsMounted w2 told frames
  bare_mounted none m settled = record {
    rest = last_settled;
    unstaged = slots_stay w1 w2 last_settled.tables (λ n lt. elim (cases_eq n 0) [
      | inl zero_n ↦ subst (λ x. page_at w2 1 (2 + x) ≡ page_at w1 1 (2 + x)) (sym zero_n) ((keeps (moved_last can asked away r small)).cells 1 2 (omega arith) ∙ r.removes.staging (not_owns asked none))
      | inr more ↦ last_roots (2 + n) (omega (arith, more)) (omega (arith, lt))
    ]) m.unstaged;
    settled = settled;
    agrees = replaced_agrees can asked away r small m.agrees;
  }

-- before the record
module _ {w0 : List ℕ} {k s j : ℕ} (rest : IsAtRest w0) (leaf : IsLeaf (files w0) k s j) {w1 : List ℕ} (ready : Readied w0 w1 (inode (view w0) j)) where
  files_ready : files w1 ≡ files w0
  files_ready = readied_files rest leaf ready

  pub can_ready : {d o i : ℕ} {name : List ℕ} → CanMove w0 d o k s i name → CanMove w1 d o k s i name
  can_ready {d} {o} {i} {name} can =
      let a : IsAsked w1 k s j = readied_asked rest leaf ready in
      record {
        rest = a.rest;
        slot = subst (λ fs. Rattle.ct_base.specs.Slots.IsSlot (fs d) o) (sym files_ready) can.slot;
        child = ap (λ fs. Rattle.ct_base.specs.Slots.slot_inode (fs d) o) files_ready ∙ can.child;
        owns = subst (λ b. Rattle.ct_base.specs.Rules.Owns b (inode_count w1) k) (sym ready.seen) (subst (λ n. Rattle.ct_base.specs.Rules.Owns (view w0) n k) (sym (ready.head 3 (omega arith))) can.owns);
        kind = ap (λ b. (inode b k).kind) ready.seen ∙ can.kind;
        aligned = can.aligned;
        low = subst (λ b. s ≤ (inode b k).size) (sym ready.seen) can.low;
        fits = subst (λ b. s + 256 ≤ Rattle.ct_base.specs.Inode.part_bytes (inode b k).level) (sym ready.seen) can.fits;
        few = can.few;
        some = can.some;
        lawful = can.lawful;
      }

  pub tree_ready : (d o i : ℕ) (name : List ℕ) → HasTree (replaced (files w0) d o k s i j name) → HasTree (replaced (files w1) d o k s i j name)
  tree_ready d o i name tree = subst (λ fs. HasTree (replaced fs d o k s i j name)) (sym files_ready) tree

  pub record_then : (d o i : ℕ) (name : List ℕ) {now : List ℕ} {start mid told : Option History} → Phase (SameState w0) 0 start mid w1 → Phase (TurnedOrNot (files w1) (replaced (files w1) d o k s i j name)) 242 mid told now
      → Phase (TurnedOrNot (files w0) (replaced (files w0) d o k s i j name)) 242 start told now
  record_then d o i name {now} {start} {mid} {told} first second =
      phase_then (phase_weaker (TurnedOrNot (files w0) (replaced (files w0) d o k s i j name)) (λ image same. inl (same_as rest same)) (omega arith) first)
      (subst (λ fs. Phase (TurnedOrNot fs (replaced fs d o k s i j name)) 242 mid told now) files_ready second)

pub before_only : {w0 : List ℕ} {gs : ℕ → Object} {now : List ℕ} {start told : Option History} → IsAtRest w0 → Phase (SameState w0) 0 start told now → Phase (TurnedOrNot (files w0) gs) 242 start told now
before_only {w0} {gs} rest phase = phase_weaker (TurnedOrNot (files w0) gs) (λ image same. inl (same_as rest same)) (omega arith) phase

-- all of it
module _ {w0 w1 w2 : List ℕ} {d o k s i j : ℕ} {name : List ℕ} (rest : IsAtRest w0) (leaf : IsLeaf (files w0) k s j) (ready : Readied w0 w1 (inode (view w0) j)) (can : CanMove w0 d o k s i name) (away : d ≡ k → o ≢ s)
    (tree : HasTree (replaced (files w0) d o k s i j name)) (r : Replaces w1 w2 d o k s i j name) (small : AreBytes name) (shut : IsShut w2) where
  can1 : CanMove w1 d o k s i name
  can1 = can_ready rest leaf ready can

  asked1 : IsAsked w1 k s j
  asked1 = readied_asked rest leaf ready

  tree1 : HasTree (replaced (files w1) d o k s i j name)
  tree1 = tree_ready rest leaf ready d o i name tree

  pub whole_settled : IsAtRest w2
  whole_settled = last_settled can1 asked1 away tree1 r small shut

  whole_objects : files w2 ≡ replaced (files w0) d o k s i j name
  whole_objects = replaced_are can1 asked1 away r small ∙ ap (λ (fs : ℕ → Object). replaced fs d o k s i j name) (files_ready rest leaf ready)

  whole_roots : (n : ℕ) → 3 ≤ n → n < 10 → page_at w2 1 n ≡ page_at w0 1 n
  whole_roots n from to = last_roots can1 asked1 away tree1 r small shut n from to ∙ ready.roots n from to

  whole_count : inode_count w2 ≡ inode_count w0
  whole_count = last_counted can1 asked1 away tree1 r small shut ∙ ready.head 3 (omega arith)

  pub whole_agrees : {frames : FreePages} → Agrees w1 frames → Agrees w2 frames
  whole_agrees agrees = replaced_agrees can1 asked1 away r small agrees

  module _ {w3 : List ℕ} (is : w3 ≡ slice_set w2 16898 0) where
    empties : Empties w2 w3 2
    empties = record { closed = closed_of whole_settled; from = omega arith; to = omega arith; is = is }

    pub whole_mounted : {told : Option History} {frames : FreePages} → IsUnstaged w0 → NothingPending told → Agrees w3 frames → IsMounted w3 told frames
    whole_mounted none settled agrees = record {
      rest = empty_rest empties whole_settled;
      unstaged = empty_unstaged empties (slots_stay_but w0 w2 2 whole_settled.tables (λ n lt other. whole_roots (2 + n) (omega (arith, other)) (omega (arith, lt))) none);
      settled = settled;
      agrees = agrees;
    }

    pub whole_files : files w3 ≡ replaced (files w0) d o k s i j name
    whole_files = files-same (empty_alike empties) ∙ whole_objects

    pub whole_counted : inode_count w3 ≡ inode_count w0
    whole_counted = (empty_alike empties).inodes ∙ whole_count

  pub whole_phase : {now : List ℕ} {start first mid told : Option History} → Phase (SameState w0) 0 start first w1 → Phase (TurnedOrNot (files w1) (replaced (files w1) d o k s i j name)) 242 first mid w2
      → LeavesOnly mid told (λ image. (image ≡ w2) ⊎ (image ≡ slice_set w2 16898 0)) → (now ≡ w2) ⊎ (now ≡ slice_set w2 16898 0) → MakesOnly (λ at put. (at ≡ 16898) × (put ≡ 0)) mid told
      → Phase (TurnedOrNot (files w0) (replaced (files w0) d o k s i j name)) 242 start told now
  whole_phase begins turns images reads made =
      end_phase (TurnedOrNot (files w0) (replaced (files w0) d o k s i j name)) 242 2 (closed_of whole_settled) (omega arith) (omega arith) (λ image same. inr (subst (λ fs. LandsAs fs image) whole_objects (same_as whole_settled same)))
      (record_then rest leaf ready d o i name begins turns) images reads made
