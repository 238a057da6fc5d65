-- The calls that change the bytes of a file, and what they make of them.
use Rattle.std.specs.Prelude.{ℕ, ◌+◌, List}
use Rattle.ct_base.specs.declared.inode.Inode.{Inode}
use Rattle.ct_base.specs.Plan.{Plan, truncate_plan, write_plan}
use Rattle.ct_tree.specs.Content.{resized, written}
use Rattle.ct_tree.specs.Step.{Op, append, fill, truncate, write}
use Rattle.ct_write.specs.declared.data.Data.{Data}
use Rattle.ct_write.specs.declared.data.Data.TheVariants.{Bytes as these, Fill as same}
use Rattle.ct_write.specs.Written.{data_bytes, data_len}
use Rattle.ct_call.specs.Placed.{IsTouched}
use Rattle.ct_edit.specs.declared.edit.Edit.{Edit}
use Rattle.ct_edit.specs.declared.edit.Edit.TheVariants.{Write, Fill, Append, Truncate}
use Rattle.ct_edit.specs.declared.edit.Task.{Task}
use Rattle.ct_edit.specs.declared.edit.Task.TheVariants.{Write as writes, Resize as resizes}

-- the call that does so to the file at a path
abbrev pub edit_op : List ℕ → Edit → Op
edit_op path (Write off bytes) = write path off bytes.now
edit_op path (Fill off len byte) = fill path off len byte
edit_op path (Append bytes) = append path bytes.now
edit_op path (Truncate len) = truncate path len

-- what it does to a file of a size
abbrev pub task_of : Edit → ℕ → Task
task_of (Write off bytes) size = writes off (these bytes)
task_of (Fill off len byte) size = writes off (same len byte)
task_of (Append bytes) size = writes size (these bytes)
task_of (Truncate len) size = resizes len

-- where the file ends at most, if that is past its size
abbrev pub task_end : Task → ℕ
task_end (writes off what) = off + data_len what
task_end (resizes len) = len

-- the plan for a file
abbrev pub task_plan : (ℕ → ℕ) → ℕ → Inode → Task → Plan
task_plan b count f (writes off what) = write_plan b count f off (data_len what)
task_plan b count f (resizes len) = truncate_plan b count f len

-- what a write of data from an offset on makes of the bytes of a file
abbrev pub written_from : ℕ → Data → List ℕ → List ℕ
written_from off what was = written was off (data_bytes what)

-- what becomes of the bytes
abbrev pub task_change : Task → List ℕ → List ℕ
task_change (writes off what) = written_from off what
task_change (resizes len) = resized len

-- the offset gets another page
abbrev pub IsReplaced : Task → ℕ → Type 0
IsReplaced (writes off what) v = IsTouched off (data_len what) v
IsReplaced (resizes len) v = ⊥
