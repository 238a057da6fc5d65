-- What was mounted is in the handle, or memory ran out.
use Rattle.std.proofs.Common.{◌≡◌, ◌∙◌, ℕ, [], List, Option, MatchOption, sym, ap, subst, inr}
use Rattle.std.specs.Prelude.{Some, None}
use Rattle.ct_base.specs.View.{inode_count}
use Rattle.ct_call.specs.Calls.{Keeps}
use Rattle.ct_call.specs.Mounted.{Volume}
use Rattle.ct_fs.specs.Mounts.{fs_dev}
use Rattle.ct_fs.specs.declared.system.Fs.{Fs}
use Rattle.ct_fs.proofs.Ready.{ready_dev}
use Rattle.ct_mount.specs.Mounting.{Judges, Recovers}
use Rattle.ct_format.specs.Formatting.{IsFormatImage}
use Rattle.ct_pm.specs.Device.{LeavesOnly}
use Rattle.ct_tree.specs.Lands.{Lands}
use Rattle.ct_tree.specs.Ordered.{IsTree}
use Rattle.ct_tree.specs.Tree.{Dir, Tree, none}
use Rattle.pm_outbox.specs.Outbox.{history, words_of}
use Rattle.pm_outbox.specs.contracts.outbox.OutboxPmPm.TheImpl.{ghosts}
use Rattle.pm_outbox.specs.declared.outbox.OutboxPm.{OutboxPm}
use Rattle.msa.specs.Mounts.{mounted_in, state_of}
use Rattle.msa.specs.Opens.{Makes, Mounts, no_space}
use Rattle.msa.specs.declared.codes.TheConstants.{NO_MEMORY}
use Rattle.msa.specs.declared.seat.Seat.{Seat}

-- what is said of the device of a mount holds of the mount that is in the seat
module _ (words : List ℕ) (fs : Fs OutboxPm ghosts)
    (keeps : (t : Tree) → IsTree t → Lands words t → Keeps (inode_count words) fs.state t)
    (recovers : (t : Tree) → Lands words t → Recovers t words (Some (record { start = words; steps = [] })) (Some (history (fs_dev fs))) (words_of (fs_dev fs))) where
  recovers_in : (o : Option (Fs OutboxPm ghosts)) → o ≡ Some fs → (t : Tree) → Lands words t → (now : Volume OutboxPm) → mounted_in o ≡ Some now
      → Recovers t words (Some (record { start = words; steps = [] })) (Some (history now.dev)) (words_of now.dev)
  recovers_in o is t lands now here =
      let dev : fs_dev fs ≡ now.dev = ready_dev fs now (ap mounted_in (sym is) ∙ here) in
      subst (λ (d : OutboxPm). Recovers t words (Some (record { start = words; steps = [] })) (Some (history d)) (words_of d)) dev (recovers t lands)

  keeps_in : (o : Option (Fs OutboxPm ghosts)) → o ≡ Some fs → (t : Tree) → IsTree t → Lands words t → Keeps (inode_count words) (state_of o) t
  keeps_in o is t tree lands = subst (λ (o : Option (Fs OutboxPm ghosts)). Keeps (inode_count words) (state_of o) t) (sym is) (keeps t tree lands)

  pub mounted : (now : Option Seat) (code : ℕ) → Judges words None → MatchOption now (code ≡ NO_MEMORY) (λ seat. (seat.fs ≡ Some fs) × (seat.taken ≡ 0) × (code ≡ 0) × (seat.space ≡ no_space)) → Mounts words now code
  mounted None code judged is = inr is
  mounted (Some seat) code judged is = (is.2, record { judged = judged; keeps = keeps_in seat.fs is.0; recovers = recovers_in seat.fs is.0; taken = is.1; space = is.3 })

-- what is said of the device of a format holds of the mount that is in the seat
module _ (start : List ℕ) (inodes : ℕ) (fs : Fs OutboxPm ghosts) (keeps : Keeps inodes fs.state (Dir none))
    (moments : LeavesOnly (Some (record { start = start; steps = [] })) (Some (history (fs_dev fs))) (IsFormatImage start)) where
  moments_in : (o : Option (Fs OutboxPm ghosts)) → o ≡ Some fs → (now : Volume OutboxPm) → mounted_in o ≡ Some now
      → LeavesOnly (Some (record { start = start; steps = [] })) (Some (history now.dev)) (IsFormatImage start)
  moments_in o is now here =
      let dev : fs_dev fs ≡ now.dev = ready_dev fs now (ap mounted_in (sym is) ∙ here) in
      subst (λ (d : OutboxPm). LeavesOnly (Some (record { start = start; steps = [] })) (Some (history d)) (IsFormatImage start)) dev moments

  pub made : (now : Option Seat) (code : ℕ) → MatchOption now (code ≡ NO_MEMORY) (λ seat. (seat.fs ≡ Some fs) × (seat.taken ≡ 0) × (code ≡ 0) × (seat.space ≡ no_space)) → Makes start inodes now code
  made None code is = inr is
  made (Some seat) code is =
      (is.2, record { keeps = subst (λ (o : Option (Fs OutboxPm ghosts)). Keeps inodes (state_of o) (Dir none)) (sym is.0) keeps; moments = moments_in seat.fs is.0; taken = is.1; space = is.3 })
