-- Words at rest that stand for a tree, and images of their state.
use Rattle.std.proofs.Common.{◌≡◌, ℕ, List, Option, Result, subst}
use Rattle.ct_frames.specs.Free.{FreePages}
use Rattle.ct_pm.specs.Images.{History}
use Rattle.ct_pm.specs.Phase.{Crash, Phase}
use Rattle.ct_pm.proofs.OneWord.{Replays}
use Rattle.ct_pm.proofs.Phases.{phase_here}
use Rattle.ct_record.proofs.Moments.{each_settled}
use Rattle.ct_tree.specs.Lands.{Lands}
use Rattle.ct_tree.specs.Step.{Op}
use Rattle.ct_tree.specs.Tree.{Tree}
use Rattle.ct_call.specs.Calls.{Does, StandsFor}
use Rattle.ct_call.specs.Mounted.{Volume}
use Rattle.ct_commit.specs.Rest.{IsAtRest, IsMounted}
use Rattle.ct_commit.proofs.Landed.{lands_on, rest_as}
use Rattle.ct_commit.proofs.States.{shut_crash}
use Rattle.ct_call.specs.declared.mount.FsError.{FsError}
use Rattle.ct_call.specs.declared.mount.State.{State}

pub rest_lands : {w : List ℕ} {t : Tree} → IsAtRest w → StandsFor w t → Lands w t
rest_lands rest st = lands_on st.stands (rest_as rest)

-- nothing is done, and a crash leaves what there is
pub idle_phase : {w : List ℕ} {told : Option History} {frames : FreePages} {most : ℕ} (Q : List ℕ → Type 0) → IsMounted w told frames → Replays told w → Q w → Phase Q most told told w
idle_phase {w} {told} {most = most} Q mounted replays has =
    let here : Crash Q most w = shut_crash w mounted.rest.shut has in
    phase_here told Q (each_settled told w (Crash Q most) replays mounted.settled here) here

-- a call on a mount is the same call on an equal one
pub does_over : {D T : Type 0} {bound : _} {state : Option (State D bound)} {result : Result T FsError} {was now : Volume D} (t : Tree) (op : Op) → was ≡ now
    → (StandsFor (bound.words was.dev) t → Does was t op state result) → StandsFor (bound.words now.dev) t → Does now t op state result
does_over {bound = bound} {state = state} {result = result} t op is does = subst (λ m. StandsFor (bound.words m.dev) t → Does m t op state result) is does
