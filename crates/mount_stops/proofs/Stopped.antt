-- Mounts that stop, one after another.
use Rattle.std.proofs.Common.{◌≡◌, ℕ, ◌<◌, ◌≤◌, List, [], Some, Result, Ok, Err, drop, length, subst, sym}
use Rattle.std.proofs.lemmas.List.{at_drop_all}
use Rattle.std.proofs.lemmas.Option.{same_Some}
use Rattle.std.specs.Prelude.{IfOk}
use Rattle.ct_base.specs.State.{SameState}
use Rattle.ct_base.specs.View.{inode_count}
use Rattle.ct_call.specs.Calls.{Holds}
use Rattle.ct_call.specs.Mounted.{Volume}
use Rattle.ct_call.specs.NotMounted.{image_dev}
use Rattle.ct_call.specs.declared.mount.NoMount.{NoMount}
use Rattle.ct_mount.proofs.Judged.{count_same}
use Rattle.ct_pm.specs.Device.{LeavesOnly}
use Rattle.ct_pm.specs.Images.{History, IsAllowed, IsSettled}
use Rattle.ct_pm.proofs.Told.{at_end}
use Rattle.ct_state.proofs.States.{state_lands, state_then}
use Rattle.ct_tree.specs.Lands.{Lands}
use Rattle.ct_tree.specs.Ordered.{IsTree}
use Rattle.ct_tree.specs.Tree.{Tree}
use Rattle.mount_stops.specs.Stops.{GoesOn, Through}
use Rattle.mount_stops.specs.declared.through.Stop.{Stop}
use Rattle.pm_trace.specs.Meaning.{faults_of, history, words_of}
use Rattle.pm_trace.specs.declared.trace.TracePm.{TracePm}

-- what a crash may leave after a mount
pub images : (start was last now : TracePm) → start ≡ was → now ≡ last → LeavesOnly (Some (history start)) (Some (history last)) (SameState (words_of start)) → (image : List ℕ) → IsAllowed (history now) image → SameState (words_of was) image
images start was last now is same run image allowed =
    subst (λ d. SameState (words_of d) image) is (at_end run image (subst (λ d. IsAllowed (history d) image) same allowed))

-- the device of a mount goes on with it
pub goes_on : (start was last now : TracePm) → start ≡ was → now ≡ last → LeavesOnly (Some (history start)) (Some (history last)) (SameState (words_of start)) → GoesOn (history was) (history now)
goes_on start was last now is same run =
    subst (λ d. GoesOn (history d) (history now)) is (subst (λ d. GoesOn (history start) (history d)) (sym same) (run.goes_on.0, same_Some _ _ run.goes_on.1))

-- the device after so many of the stops
pub record IsLeft (was now : TracePm) (all : List Stop) (stops : ℕ) : Type 0 where
  pub state : SameState (words_of was) (words_of now)
  pub settled : IsSettled (history now)
  pub first : stops ≡ 0 → now ≡ was
  pub later : 0 < stops → faults_of now ≡ 0
  -- what is reached from it through the stops that are left, is reached through all
  pub through : (to : History) → Through (drop stops all) (history now) to → Through all (history was) to

module _ {was now : TracePm} {all : List Stop} {stops : ℕ} (l : IsLeft was now all stops) where
  -- the last mount answers to the words at entry
  pub left_holds : (made : Result (Volume TracePm) (NoMount TracePm)) → IfOk made (λ m. (t : Tree) → IsTree t → Lands (words_of now) t → Holds (inode_count (words_of now)) t (words_of m.dev) (Some (history m.dev)))
      → IfOk made (λ m. (t : Tree) → IsTree t → Lands (words_of was) t → Holds (inode_count (words_of was)) t (words_of m.dev) (Some (history m.dev)))
  left_holds (Ok m) holds = λ t tree lands. subst (λ n. Holds n t (words_of m.dev) (Some (history m.dev))) (count_same l.state lands.head) (holds t tree (state_lands l.state lands))
  left_holds (Err no_mount) holds = tt

  pub left_images : (last : TracePm) → LeavesOnly (Some (history now)) (Some (history last)) (SameState (words_of now)) → (image : List ℕ) → IsAllowed (history last) image → SameState (words_of was) image
  left_images last run image allowed = state_then l.state (at_end run image allowed)

  -- after the last stop
  pub left_through : length all ≤ stops → (made : Result (Volume TracePm) (NoMount TracePm)) → LeavesOnly (Some (history now)) (Some (history (image_dev made))) (SameState (words_of now)) → IfOk made (λ m. Through all (history was) (history m.dev))
  left_through last (Ok m) run =
      let none : drop stops all ≡ [] = at_drop_all (λ (rest : List Stop). rest) all stops last in
      l.through (history m.dev) (subst (λ (rest : List Stop). Through rest (history now) (history m.dev)) (sym none) (run.goes_on.0, same_Some _ _ run.goes_on.1))
  left_through last (Err no_mount) run = tt
