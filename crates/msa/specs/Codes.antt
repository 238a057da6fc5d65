-- The numbers that C is answered.
use Rattle.std.specs.Prelude.{ℕ, ◌+◌, ◌-◌, ◌^◌, min, Result, Ok, Err}
use Rattle.ct_tree.specs.Refusals.{refusal_number}
use Rattle.ct_call.specs.declared.mount.FsError.{FsError}
use Rattle.ct_call.specs.declared.mount.FsError.TheVariants.{Dead, Refused, Fault}
use Rattle.ct_call.specs.declared.mount.Why.{Why}
use Rattle.ct_call.specs.declared.mount.Why.TheVariants.{Damage, Memory, Fault as WhyFault}
use Rattle.msa.specs.declared.codes.TheConstants.{DEAD, FAULT, NO_MEMORY, DAMAGE}

-- what a call on a mount answered: 0 is done, 1 to 15 are the refusals
abbrev pub code_of : {T : Type 0} → Result T FsError → ℕ
code_of (Ok value) = 0
code_of (Err (Refused r)) = refusal_number r
code_of (Err Dead) = DEAD
code_of (Err Fault) = FAULT

-- why nothing was mounted
abbrev pub why_code : Why → ℕ
why_code (Damage rule) = min (DAMAGE + rule) (2 ^ 32 - 1)
why_code WhyFault = FAULT
why_code Memory = NO_MEMORY
