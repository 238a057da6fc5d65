-- What a mount answers where memory may run out behind its recovery.
use Rattle.std.proofs.Common.{◌≡◌, ℕ, ◌<◌, List, Result, Ok, Err, Some, None, sym, subst}
use Rattle.std.specs.Prelude.{IfErr, IfOk, IsSomeAnd}
use Rattle.ct_call.specs.Calls.{Holds, Keeps}
use Rattle.ct_call.specs.Mounted.{Volume}
use Rattle.ct_call.specs.NotMounted.{why_not}
use Rattle.ct_call.specs.declared.mount.NoMount.{NoMount}
use Rattle.ct_call.specs.declared.mount.Why.{Why}
use Rattle.ct_call.specs.declared.mount.Why.TheVariants.{Damage, Fault, Memory}
use Rattle.ct_mount.proofs.Judged.{judged_head}
use Rattle.ct_mount.specs.Mounting.{Judges}
use Rattle.ct_tree.specs.Lands.{Lands}
use Rattle.ct_tree.specs.Ordered.{IsTree}
use Rattle.ct_tree.specs.Tree.{Tree}
use Rattle.ct_fs.proofs.Ready.{ready_dev}
use Rattle.ct_fs.specs.Mounts.{fs_dev, mounts}
use Rattle.ct_fs.specs.declared.system.Fs.{Fs}

-- no rule fails, and so memory may run out
pub judged_by : {D T : Type 0} (img : List ℕ) (result : Result T (NoMount D)) → IfErr result (λ no_mount. no_mount.why ≡ Memory) → Judges img None → Judges img (why_not result)
judged_by img (Ok fs) why j = j
judged_by img (Err no_mount) why j = subst (λ w. Judges img (Some w)) (sym why) (judged_head j)

-- what is mounted keeps what was recovered
pub keeps_by : {D : Type 0} {bound : _} {img : List ℕ} (made : Volume D) (n : ℕ) (result : Result (Fs D bound) (NoMount D)) → IfOk result (λ fs. mounts fs ≡ Some made)
    → ((t : Tree) → IsTree t → Lands img t → Holds n t (bound.words made.dev) (bound.told made.dev)) → IfOk result (λ fs. (t : Tree) → IsTree t → Lands img t → Keeps n fs.state t)
keeps_by {D} {bound} made n (Ok fs) ready holds = λ t is lands. subst (λ o. IsSomeAnd o (λ v. Holds n t (bound.words v.dev) (bound.told v.dev))) (sym ready) (holds t is lands)
keeps_by made n (Err no_mount) ready holds = tt

memory_only : (w : Why) (n : ℕ) → w ≡ Memory → w ≡ Damage n → ⊥
memory_only w n is other = cc

memory_no_fault : (w : Why) → w ≡ Memory → w ≡ Fault → ⊥
memory_no_fault w is other = cc

-- want of memory is no damage and no fault
pub no_damage : {D T : Type 0} (dev : D) (result : Result T (NoMount D)) → IfErr result (λ no_mount. no_mount.why ≡ Memory) → IfErr result (λ no_mount. (rule : ℕ) → no_mount.why ≡ Damage rule → rule < 8 → no_mount.dev ≡ dev)
no_damage dev (Ok fs) why = tt
no_damage dev (Err no_mount) why = λ rule is low. absurd (memory_only no_mount.why rule why is)

pub no_fault : {D T : Type 0} (P : D → Type 0) (result : Result T (NoMount D)) → IfErr result (λ no_mount. no_mount.why ≡ Memory) → IfErr result (λ no_mount. no_mount.why ≡ Fault → P no_mount.dev)
no_fault P (Ok fs) why = tt
no_fault P (Err no_mount) why = λ is. absurd (memory_no_fault no_mount.why why is)

-- what holds of the device of the mount holds of the file system's
pub through_ready : {D : Type 0} {bound : _} (P : D → Type 0) (made : Volume D) (result : Result (Fs D bound) (NoMount D)) → IfOk result (λ fs. mounts fs ≡ Some made) → P made.dev → IfOk result (λ fs. P (fs_dev fs))
through_ready P made (Ok fs) ready holds = subst P (sym (ready_dev fs made ready)) holds
through_ready P made (Err no_mount) ready holds = tt
