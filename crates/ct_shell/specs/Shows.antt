-- The replies to what the file system answers.
use Rattle.std.specs.Prelude.{ℕ, ◌≤◌, [], ◌∷◌, Ok, Err, Some, None, IfSome, IsNone}
use Rattle.std.specs.declared.option.Option.{Option}
use Rattle.std.specs.declared.result.Result.{Result}
use Rattle.ct_base.specs.Causes.{Rose}
use Rattle.ct_call.specs.Calls.{Keeps}
use Rattle.ct_call.specs.Seen.{faults_in}
use Rattle.ct_call.specs.declared.mount.FsError.{FsError}
use Rattle.ct_call.specs.declared.mount.FsError.TheVariants.{Dead, Refused as refused, Fault}
use Rattle.ct_look.specs.declared.seen.Stat.{Stat}
use Rattle.ct_look.specs.declared.seen.Stat.TheVariants.{File as file, Dir as dir}
use Rattle.ct_call.specs.declared.mount.State.{State}
use Rattle.ct_script.specs.Shows.{reply_of}
use Rattle.ct_script.specs.declared.reply.Shown.{Shown}
use Rattle.ct_script.specs.declared.reply.Shown.TheVariants.{Done, File, Dir, At, Refused}
use Rattle.ct_tree.specs.Runs.{Item}
use Rattle.ct_tree.specs.Tree.{Tree}
use Rattle.ct_tree.specs.declared.call.Refusal.TheVariants.{NotDir}
use Rattle.ct_shell.specs.Moments.{IsBegun, Passed, moment_in}

-- a refusal has a reply; none is given where the device failed
abbrev pub error_reply : FsError → Option Shown
error_reply Dead = None
error_reply (refused r) = Some (Refused r)
error_reply Fault = None

-- the reply where something was made
abbrev pub made_reply : {T : Type 0} → Result T FsError → Option Shown
made_reply (Ok value) = Some Done
made_reply (Err error) = error_reply error

abbrev pub stat_reply : Result Stat FsError → Option Shown
stat_reply (Ok (file size)) = Some (File size)
stat_reply (Ok (dir count)) = Some (Dir count)
stat_reply (Err error) = error_reply error

abbrev pub place_reply : Result (ℕ × ℕ) FsError → Option Shown
place_reply (Ok place) = Some (At place.0 place.1)
place_reply (Err error) = error_reply error

-- how many entries there are where it is told of a directory; a file has none
abbrev pub entries_of : Result Stat FsError → Result ℕ FsError
entries_of (Ok (file size)) = Err (refused NotDir)
entries_of (Ok (dir count)) = Ok count
entries_of (Err error) = Err error

-- The reply to an item over a mount that held tree t is one that the tree may give, and the device holds the tree that the
-- item leaves; there is none only where the device failed.
pub record Replies {D : Type 0} {bound : _} (c : ℕ) (t : Tree) (item : Item) (before after : Option (State D bound)) (reply : Option Shown) : Type 0 where
  pub answered : IfSome reply (λ shown. (left : Tree) × Passed c t item (reply_of shown) left (moment_in before) (moment_in after) × Keeps c after left)
  pub later : faults_in before ≤ faults_in after
  pub fault : IsNone reply → Rose (faults_in before) (faults_in after)
  pub begun : IsNone reply → IsBegun t (item ∷ []) (moment_in before) (moment_in after)
