-- A call that ends: what is told of the device behind is told of the mount that is left.
use Rattle.std.proofs.Common.{◌≡◌, Option, Some, Result, Ok, Err, sym, subst}
use Rattle.std.specs.Prelude.{IsOk, IsSomeAnd, OnOk}
use Rattle.ct_frames.specs.Free.{FreePages}
use Rattle.ct_record.specs.declared.idle.Broken.{Broken}
use Rattle.ct_record.specs.Seen.{device_behind}
use Rattle.ct_tree.specs.Runs.{WantsSpace}
use Rattle.ct_tree.specs.Step.{Op, append, create, exchange, fill, list, locate, mkdir, read, rename, rmdir, stat, truncate, unlink, write}
use Rattle.ct_call.specs.Calls.{IsChange}
use Rattle.ct_call.specs.Mounted.{Volume}
use Rattle.ct_call.specs.Seen.{ready_in}
use Rattle.ct_call.specs.declared.mount.FsError.{FsError}
use Rattle.ct_call.specs.declared.mount.State.{State}

-- what changes the tree may be refused for space
pub change_wants : (op : Op) → IsChange op → WantsSpace op
change_wants (create path) change = tt
change_wants (mkdir path) change = tt
change_wants (write path off bytes) change = tt
change_wants (fill path off len byte) change = tt
change_wants (append path bytes) change = tt
change_wants (truncate path len) change = tt
change_wants (exchange path off other other_off len) change = tt
change_wants (unlink path) change = tt
change_wants (rmdir path) change = tt
change_wants (rename path to) change = tt
change_wants (read path off len) change = change
change_wants (stat path) change = change
change_wants (list path) change = change
change_wants (locate path) change = change

-- ---- facts that hold where nothing failed

pub ok_two : {T E P Q R : Type 0} (r : Result T E) → (P → Q → R) → OnOk r P → OnOk r Q → OnOk r R
ok_two (Ok x) step p q = step p q
ok_two (Err e) step p q = tt

pub ok_three : {T E P Q R S : Type 0} (r : Result T E) → (P → Q → R → S) → OnOk r P → OnOk r Q → OnOk r R → OnOk r S
ok_three (Ok x) step p q r = step p q r
ok_three (Err e) step p q r = tt

pub ok_four : {T E P Q R S U : Type 0} (r : Result T E) → (P → Q → R → S → U) → OnOk r P → OnOk r Q → OnOk r R → OnOk r S → OnOk r U
ok_four (Ok x) step p q r s = step p q r s
ok_four (Err e) step p q r s = tt

-- what holds of a mount and of the device behind holds of the mount that is left
pub left_has : {D T : Type 0} {bound : _} {was now : Volume D} (P : D → D → Type 0) (state : Option (State D bound)) (carried : Result D (Broken D)) (frames : FreePages) (result : Result T FsError) → was ≡ now → OnOk result (IsOk carried)
    → OnOk result (ready_in state ≡ Some (record { dev = device_behind carried; frames = frames })) → OnOk carried (P was.dev (device_behind carried)) → OnOk result (IsSomeAnd (ready_in state) (λ left. P now.dev left.dev))
left_has {now = now} P state (Ok dev) frames (Ok value) is done left has = subst (λ volume. IsSomeAnd volume (λ left. P now.dev left.dev)) (sym left) (subst (λ m. P m.dev dev) is has)
left_has P state (Err broken) frames (Ok value) is done left has = absurd (cc)
left_has P state carried frames (Err e) is done left has = tt
