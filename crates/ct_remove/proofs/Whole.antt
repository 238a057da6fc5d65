-- A removal as a whole: what is there before its record, and behind it once the staging slot is emptied.
use Rattle.std.proofs.Common.{◌≡◌, ◌⊎◌, ℕ, ◌+◌, List, sym, ap, subst, ◌∙◌, inl, inr, arith}
use Rattle.std.specs.Prelude.{slice_set, Option}
use Rattle.std.proofs.lemmas.Bool.{cases_eq}
use Rattle.ct_base.specs.Inode.{inode}
use Rattle.ct_base.specs.Settled.{IsShut}
use Rattle.ct_base.specs.State.{SameState}
use Rattle.ct_base.specs.View.{view, inode_count}
use Rattle.ct_base.specs.Walk.{page_at}
use Rattle.ct_cut.specs.GivenUp.{CanGiveUp}
use Rattle.ct_cut.specs.Readied.{Readied}
use Rattle.ct_frames.specs.Agrees.{Agrees}
use Rattle.ct_frames.specs.Free.{FreePages}
use Rattle.ct_pm.specs.Images.{History}
use Rattle.ct_pm.specs.Device.{LeavesOnly, MakesOnly, NothingPending}
use Rattle.ct_pm.specs.Phase.{Phase}
use Rattle.ct_pm.proofs.Phases.{phase_then, phase_weaker}
use Rattle.ct_state.specs.Alike.{Alike}
use Rattle.ct_state.proofs.Carry.{files-same}
use Rattle.ct_tree.specs.Lands.{files}
use Rattle.ct_write.proofs.Reaching.{fresh_agree}
use Rattle.ct_commit.specs.Landing.{LandsAs}
use Rattle.ct_commit.specs.Rest.{IsAtRest, IsMounted, IsUnstaged}
use Rattle.ct_commit.proofs.Emptying.{Empties, empty_alike, end_phase}
use Rattle.ct_commit.proofs.Landed.{same_as}
use Rattle.ct_commit.proofs.Resting.{empty_rest, empty_unstaged, rest_alike, slots_stay, slots_stay_but}
use Rattle.ct_commit.proofs.States.{closed_of}
use Rattle.ct_remove.specs.Asked.{IsAsked}
use Rattle.ct_remove.specs.Erased.{Removes}
use Rattle.ct_find.specs.Entries.{IsLeaf}
use Rattle.ct_remove.specs.Removed.{RemovedOrNot, removed}
use Rattle.ct_remove.proofs.Asked.{not_owns}
use Rattle.ct_remove.proofs.Removing.{files_are, removed_settled}

-- the same pages are free behind the record
pub removed_agrees : {old new : List ℕ} {dir offset number : ℕ} {frames : FreePages} → Removes old new dir offset number → Agrees old frames → Agrees new frames
removed_agrees r = fresh_agree (r.head 2 (omega arith)) r.fresh r.reached

module _ {w0 : List ℕ} {dir offset number : ℕ} (rest : IsAtRest w0) (leaf : IsLeaf (files w0) dir offset number) where
  pub rest_asked : IsAsked w0 dir offset number
  rest_asked = record { rest = rest; leaf = leaf }

  -- before the record
  pub before_phase : {now : List ℕ} {start told : Option History} → Phase (SameState w0) 0 start told now → Phase (RemovedOrNot (files w0) dir offset number) 178 start told now
  before_phase phase = phase_weaker (RemovedOrNot (files w0) dir offset number) (λ image same. inl (same_as rest same)) (omega arith) phase

  -- ---- an object without a partition

  module _ {w2 : List ℕ} (none : (inode (view w0) number).level ≡ 15) (r : Removes w0 w2 dir offset number) where
    pub bare_mounted : {start told : Option History} {frames : FreePages} → IsMounted w0 start frames → IsShut w2 → NothingPending told → IsMounted w2 told frames
    bare_mounted m shut settled = record {
      rest = removed_settled rest_asked r shut;
      unstaged = slots_stay w0 w2 r.tables (λ k lt. elim (cases_eq k 0) [
        | inl zero_k ↦ subst (λ j. page_at w2 1 (2 + j) ≡ page_at w0 1 (2 + j)) (sym zero_k) (r.staging (not_owns rest_asked none))
        | inr more ↦ r.roots (2 + k) (omega (arith, more)) (omega (arith, lt))
      ]) m.unstaged;
      settled = settled;
      agrees = removed_agrees r m.agrees;
    }

    pub bare_files : files w2 ≡ removed (files w0) dir offset number
    bare_files = files_are rest_asked r

  -- ---- an object with one

  module _ {w1 : List ℕ} (ready : Readied w0 w1 (inode (view w0) number)) where
    readied_alike : Alike w0 w1
    readied_alike = record { bytes = ready.seen; inodes = ready.head 3 (omega arith) }

    pub readied_files : files w1 ≡ files w0
    readied_files = files-same readied_alike

    pub readied_asked : IsAsked w1 dir offset number
    readied_asked = record {
      rest = rest_alike rest readied_alike (record { tables = ready.laid.tables; mapped = ready.laid.mapped }) ready.head ready.size ready.laid.shut;
      leaf = subst (λ fs. IsLeaf fs dir offset number) (sym readied_files) leaf;
    }

    pub readied_level : {level : ℕ} → (inode (view w0) number).level ≡ level → (inode (view w1) number).level ≡ level
    readied_level is = ap (λ v. (inode v number).level) ready.seen ∙ is

    pub readied_can : CanGiveUp w1 (inode (view w1) number)
    readied_can = subst (λ v. CanGiveUp w1 (inode v number)) (sym ready.seen) ready.can

    pub record_phase : {now : List ℕ} {start mid told : Option History} → Phase (SameState w0) 0 start mid w1 → Phase (RemovedOrNot (files w1) dir offset number) 178 mid told now → Phase (RemovedOrNot (files w0) dir offset number) 178 start told now
    record_phase {now} {start} {mid} {told} first second =
        phase_then (before_phase first) (subst (λ fs. Phase (RemovedOrNot fs dir offset number) 178 mid told now) readied_files second)

    module _ {w2 : List ℕ} (r : Removes w1 w2 dir offset number) (shut : IsShut w2) where
      now_rest : IsAtRest w2
      now_rest = removed_settled readied_asked r shut

      now_files : files w2 ≡ removed (files w0) dir offset number
      now_files = files_are readied_asked r ∙ ap (λ fs. removed fs dir offset number) readied_files

      module _ {w3 : List ℕ} (is : w3 ≡ slice_set w2 16898 0) where
        empties : Empties w2 w3 2
        empties = record { closed = closed_of now_rest; from = omega arith; to = omega arith; is = is }

        pub whole_mounted : {told : Option History} {frames : FreePages} → IsUnstaged w0 → NothingPending told → Agrees w3 frames → IsMounted w3 told frames
        whole_mounted none settled agrees = record {
          rest = empty_rest empties now_rest;
          unstaged = empty_unstaged empties (slots_stay_but w0 w2 2 r.tables (λ k lt other. r.roots (2 + k) (omega (arith, other)) (omega (arith, lt)) ∙ ready.roots (2 + k) (omega (arith, other)) (omega (arith, lt))) none);
          settled = settled;
          agrees = agrees;
        }

        pub whole_files : files w3 ≡ removed (files w0) dir offset number
        whole_files = files-same (empty_alike empties) ∙ now_files

        pub whole_counted : inode_count w3 ≡ inode_count w0
        whole_counted = (empty_alike empties).inodes ∙ r.head 3 (omega arith) ∙ ready.head 3 (omega arith)

      -- while the slot is emptied
      pub whole_phase : {now : List ℕ} {start mid told : Option History} → Phase (RemovedOrNot (files w0) dir offset number) 178 start mid w2 → LeavesOnly mid told (λ image. (image ≡ w2) ⊎ (image ≡ slice_set w2 16898 0))
          → (now ≡ w2) ⊎ (now ≡ slice_set w2 16898 0) → MakesOnly (λ at put. (at ≡ 16898) × (put ≡ 0)) mid told → Phase (RemovedOrNot (files w0) dir offset number) 178 start told now
      whole_phase = end_phase (RemovedOrNot (files w0) dir offset number) 178 2 (closed_of now_rest) (omega arith) (omega arith) (λ image same. inr (subst (λ fs. LandsAs fs image) now_files (same_as now_rest same)))
