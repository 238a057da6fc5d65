-- What a call of C's does to its handle.
use Rattle.std.specs.Prelude.{◌≡◌, ◌↔◌, ℕ, Option, Result, Some, None, Ok, Err, IsNone, IsSomeAnd, OnOk}
use Rattle.ct_tree.specs.Step.{Op}
use Rattle.ct_tree.specs.declared.call.Refusal.{Refusal}
use Rattle.ct_tree.specs.declared.call.Refusal.TheVariants.{NoPartition, NoPages}
use Rattle.ct_tree.specs.Tree.{Tree}
use Rattle.ct_call.specs.Calls.{Does, StandsFor}
use Rattle.ct_call.specs.Mounted.{Volume}
use Rattle.ct_call.specs.Placed.{Places}
use Rattle.ct_call.specs.Seen.{ready_in}
use Rattle.ct_call.specs.declared.mount.FsError.{FsError}
use Rattle.ct_call.specs.declared.mount.FsError.TheVariants.{Dead, Fault, Refused}
use Rattle.pm_outbox.specs.Outbox.{words_of}
use Rattle.pm_outbox.specs.declared.outbox.OutboxPm.{OutboxPm}
use Rattle.msa.specs.Codes.{code_of}
use Rattle.msa.specs.declared.codes.TheConstants.{CLOSED}
use Rattle.ct_fs.specs.Mounts.{mounts}
use Rattle.ct_fs.specs.declared.system.Fs.{Fs}
use Rattle.msa.specs.declared.seat.Seat.{Seat}
use Rattle.msa.specs.declared.seat.Space.{Space}

-- what the call of the file system says of the mount before and after it and of its answer
pub record ChangesFs {bound : _} (op : Op) (was now : Fs OutboxPm bound) (result : Result (Unit {0}) FsError) : Type 0 where
  pub dead : IsNone (mounts was) ↔ (result ≡ Err Dead)
  pub still : IsNone (mounts was) → now.state ≡ was.state
  pub does : (before : Volume OutboxPm) → mounts was ≡ Some before → (t : Tree) → StandsFor (words_of before.dev) t → Does before t op now.state result
  pub places : (before : Volume OutboxPm) → mounts was ≡ Some before
      → OnOk result (IsSomeAnd (ready_in now.state) (λ after. Places (words_of before.dev) (words_of after.dev) op))

-- the numbers of a refusal for space; after another one those that were there
abbrev pub refused_space : Space → Refusal → Space
refused_space before (NoPartition level) = record { level = level; free = 0; need = 0 }
refused_space before (NoPages free need) = record { level = 0; free = free; need = need }
refused_space before other = before

-- the numbers after a call
abbrev pub told_space : Space → Result (Unit {0}) FsError → Space
told_space before (Ok done) = before
told_space before (Err Dead) = before
told_space before (Err Fault) = before
told_space before (Err (Refused refusal)) = refused_space before refusal

-- and what it says of a seat: C has taken what it had, and a refusal for space leaves its numbers
abbrev pub Changes : Op → Seat → Seat → Result (Unit {0}) FsError → Type 0
Changes op was now result = (now.taken ≡ was.taken) × (now.space ≡ told_space was.space result) × IsSomeAnd was.fs (λ before. IsSomeAnd now.fs (λ after. ChangesFs op before after result))

-- the handle had nothing in it and the answer says so, or the call was made and its code is the answer
abbrev pub Calls : Op → Option Seat → Option Seat → ℕ → Type 0
Calls op None now code = (now ≡ None) × (code ≡ CLOSED)
Calls op (Some was) None code = ⊥
Calls op (Some was) (Some now) code = (result : Result (Unit {0}) FsError) × (code ≡ code_of result) × Changes op was now result
