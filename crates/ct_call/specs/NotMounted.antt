-- What callers see of a device that is to be mounted, whether it was or not.
use Rattle.std.specs.Prelude.{Option, Result, Ok, Err, Some, None}
use Rattle.ct_call.specs.Mounted.{Volume}
use Rattle.ct_call.specs.declared.mount.NoMount.{NoMount}
use Rattle.ct_call.specs.declared.mount.Why.{Why}

-- the device behind either answer
abbrev pub image_dev : {D : Type 0} → Result (Volume D) (NoMount D) → D
image_dev (Ok made) = made.dev
image_dev (Err no_mount) = no_mount.dev

-- why nothing was mounted, where it was not
abbrev pub why_not : {T D : Type 0} → Result T (NoMount D) → Option Why
why_not (Ok made) = None
why_not (Err no_mount) = Some no_mount.why
