-- What a mount that is ready shows.
use Rattle.std.proofs.Common.{◌≡◌, Option, Some, None, ℕ, sym, ap, subst, true≢false}
use Rattle.std.specs.Prelude.{IsSome, IsSomeAnd}
use Rattle.std.proofs.lemmas.Option.{none-some, same_Some}
use Rattle.ct_pm.specs.Device.{NothingPending}
use Rattle.ct_tree.specs.Tree.{Dir, none}
use Rattle.ct_format.proofs.Fresh.{new_mounted}
use Rattle.ct_call.specs.Calls.{Holds, Keeps}
use Rattle.ct_format.specs.Made.{IsNew}
use Rattle.ct_call.specs.Mounted.{Volume}
use Rattle.ct_call.specs.Seen.{dev_in, ready_in}
use Rattle.ct_fs.specs.Mounts.{fs_dev, mounts}
use Rattle.ct_fs.specs.declared.system.Fs.{Fs}
use Rattle.ct_call.specs.declared.mount.State.{State}
use Rattle.ct_call.specs.declared.mount.State.TheVariants.{Ready, Dead}

dev_ready : {D : Type 0} {bound : _} (state : Option (State D bound)) (here : IsSome state) (now : Volume D) → ready_in state ≡ Some now → dev_in state here ≡ now.dev
dev_ready None here now is = absurd (true≢false (sym here))
dev_ready {D = D} (Some (Ready mounted)) here now is = ap (λ (v : Volume D). v.dev) (same_Some mounted now is)
dev_ready (Some (Dead failed)) here now is = absurd (none-some now is)

-- its device is the mount's
pub ready_dev : {D : Type 0} {bound : _} (fs : Fs D bound) (now : Volume D) → mounts fs ≡ Some now → fs_dev fs ≡ now.dev
ready_dev fs now is = dev_ready fs.state fs.here now is

-- and holds the empty tree, where it was made just now
pub new_keeps : {D : Type 0} {bound : _} (fs : Fs D bound) (now : Volume D) {pages n : ℕ} → mounts fs ≡ Some now → IsNew (bound.words now.dev) now.frames pages n → NothingPending (bound.told now.dev)
    → Keeps n fs.state (Dir none)
new_keeps {D = D} {bound = bound} fs now {n = n} is new settled =
    subst (λ (o : Option (Volume D)). IsSomeAnd o (λ v. Holds n (Dir none) (bound.words v.dev) (bound.told v.dev))) (sym is)
    (record { rest = (new_mounted new settled).rest; unstaged = (new_mounted new settled).unstaged; stands = new.stands; lasts = settled; counted = new.formatted.inodes })
