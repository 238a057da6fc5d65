-- What is seen of the state of a mount.
use Rattle.std.specs.Prelude.{ℕ, Option, Some, None, IsSome}
use Rattle.std.proofs.Common.{true≢false, sym}
use Rattle.ct_call.specs.Mounted.{Volume}
use Rattle.ct_call.specs.declared.mount.State.{State}
use Rattle.ct_call.specs.declared.mount.State.TheVariants.{Ready, Dead}

-- the device and its free pages, and nothing where a call met a fault
abbrev pub ready_in : {D : Type 0} {bound : _} → Option (State D bound) → Option (Volume D)
ready_in None = None
ready_in (Some (Ready mounted)) = Some mounted
ready_in (Some (Dead failed)) = None

abbrev pub device_in : {D : Type 0} {bound : _} → Option (State D bound) → Option D
device_in None = None
device_in (Some (Ready mounted)) = Some mounted.dev
device_in (Some (Dead failed)) = Some failed.dev

-- there is a state, and so a device
abbrev pub dev_in : {D : Type 0} {bound : _} → (state : Option (State D bound)) → IsSome state → D
dev_in None here = absurd (true≢false (sym here))
dev_in (Some (Ready mounted)) here = mounted.dev
dev_in (Some (Dead failed)) here = failed.dev

-- how many faults its device had
abbrev pub faults_in : {D : Type 0} {bound : _} → Option (State D bound) → ℕ
faults_in None = 0
faults_in {bound = bound} (Some (Ready mounted)) = bound.faults mounted.dev
faults_in {bound = bound} (Some (Dead failed)) = bound.faults failed.dev
