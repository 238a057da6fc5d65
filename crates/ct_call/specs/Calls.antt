-- What a call does to a mounted file system.
use Rattle.std.specs.Prelude.{◌≡◌, ◌⊎◌, ℕ, ◌≤◌, List, Some, None, Ok, Err, IsOk, IsSomeAnd}
use Rattle.std.specs.declared.option.Option.{Option}
use Rattle.std.specs.declared.result.Result.{Result}
use Rattle.ct_base.specs.Causes.{Rose}
use Rattle.ct_base.specs.View.{inode_count}
use Rattle.ct_base.specs.declared.limits.TheConstants.{MOST_CALL_PAIRS, MOST_EXCHANGE_PAIRS}
use Rattle.ct_pm.specs.Device.{NothingPending}
use Rattle.ct_pm.specs.Images.{History}
use Rattle.ct_pm.specs.Phase.{Phase}
use Rattle.ct_tree.specs.Lands.{Lands, files}
use Rattle.ct_tree.specs.Ordered.{IsTree}
use Rattle.ct_tree.specs.Stands.{Stands}
use Rattle.ct_tree.specs.Step.{Op, append, create, exchange, fill, mkdir, rename, rmdir, step, truncate, unlink, write}
use Rattle.ct_tree.specs.Tree.{Tree}
use Rattle.ct_call.specs.Answers.{CanStart, IsAnswer, IsTold}
use Rattle.ct_call.specs.Mounted.{Volume}
pub use Rattle.ct_commit.specs.Rest.{StandsFor}
use Rattle.ct_commit.specs.Rest.{IsAtRest, IsUnstaged}
use Rattle.ct_call.specs.Seen.{device_in, faults_in, ready_in}
use Rattle.ct_call.specs.declared.mount.FsError.{FsError}
use Rattle.ct_call.specs.declared.mount.FsError.TheVariants.{Dead, Refused, Fault}
use Rattle.ct_call.specs.declared.mount.State.{State}

-- the calls that change the tree, as many as there are
abbrev pub IsChange : Op → Type 0
IsChange (create path) = Unit {0}
IsChange (mkdir path) = Unit {0}
IsChange (write path off bytes) = Unit {0}
IsChange (fill path off len byte) = Unit {0}
IsChange (append path bytes) = Unit {0}
IsChange (truncate path len) = Unit {0}
IsChange (exchange path off other other_off len) = Unit {0}
IsChange (unlink path) = Unit {0}
IsChange (rmdir path) = Unit {0}
IsChange (rename path to) = Unit {0}
IsChange op = ⊥

-- the most pairs of a call's long record: two for each page of an exchange, else those of one swap and a size
abbrev pub most_pairs : Op → ℕ
most_pairs (exchange path off other other_off len) = MOST_EXCHANGE_PAIRS
most_pairs op = MOST_CALL_PAIRS

-- the tree after a call
abbrev pub after : Tree → Op → Tree
after t op = (step t op).1

-- the device holds the tree, and has so many inodes: the words are at rest with nothing staged and stand for it, and a crash leaves
-- nothing else
pub record Holds (count : ℕ) (t : Tree) (words : List ℕ) (told : Option History) : Type 0 where
  pub rest : IsAtRest words
  pub unstaged : IsUnstaged words
  pub stands : StandsFor words t
  pub lasts : NothingPending told
  pub counted : inode_count words ≡ count

-- the mount is ready, and its device holds the tree
abbrev pub Keeps : {D : Type 0} {bound : _} → ℕ → Option (State D bound) → Tree → Type 0
Keeps {bound = bound} count state t = IsSomeAnd (ready_in state) (λ now. Holds count t (bound.words now.dev) (bound.told now.dev))

-- what is left of the mount: the tree of the call, what was there, or nothing but the device
abbrev pub Leaves : {D T : Type 0} {bound : _} → Volume D → Tree → Op → Option (State D bound) → Result T FsError → Type 0
Leaves {bound = bound} was t op state (Ok value) = Keeps (inode_count (bound.words was.dev)) state (after t op)
Leaves was t op state (Err Dead) = ⊥
Leaves was t op state (Err (Refused r)) = ready_in state ≡ Some was
Leaves {bound = bound} was t op state (Err Fault) = (ready_in state ≡ None) × IsSomeAnd (device_in state) (λ dev. Rose (bound.faults was.dev) (bound.faults dev))

-- A call on a mount whose words stand for tree t.
pub record Does {D T : Type 0} {bound : _} (was : Volume D) (t : Tree) (op : Op) (state : Option (State D bound)) (result : Result T FsError) : Type 0 where
  pub answer : IsAnswer (bound.words was.dev) t op result
  pub told : IsTold (inode_count (bound.words was.dev)) t op result
  pub leaves : Leaves was t op state result
  pub later : bound.faults was.dev ≤ faults_in state
  -- a call that can start fails only with its device
  pub succeeds : CanStart (bound.words was.dev) t op → ¬ Rose (bound.faults was.dev) (faults_in state) → IsOk result
  -- whatever a crash may leave at a moment of the call lands on the tree before it or after it, has a lawful record of few pairs,
  -- none of which names a word of a live file's page, and so do the words as they read; no step stores on such a page
  pub phase : IsSomeAnd (device_in state) (λ dev. Phase (λ image. Lands image t ⊎ Lands image (after t op)) (most_pairs op) (bound.told was.dev) (bound.told dev) (bound.words dev))
