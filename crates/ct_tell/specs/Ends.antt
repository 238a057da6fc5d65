-- How a look ends, and what was written.
use Rattle.std.specs.Prelude.{◌≡◌, ◌⊎◌, ℕ, ◌≤◌, List, Option, take}
use Rattle.std.specs.Io.KnownBytes.{Appends}
use Rattle.ct_base.specs.Causes.{Rose}
use Rattle.ct_tell.specs.Looks.{Look}
use Rattle.ct_tell.specs.Told.{IsTold}
use Rattle.ct_tell.specs.declared.status.Status.{Status}
use Rattle.ct_tell.specs.declared.status.Status.TheVariants.{Done, Usage, NotImage, DeviceFault, WriteFault, NoMemory, Refused}

-- the text was written, and that is the end; or the output failed, and a prefix of the text was written
abbrev pub Comes : Status → List ℕ → Status → Option (List ℕ) → Option (List ℕ) → Type 0
Comes end text status old new =
    ((status ≡ end) × Appends old new text) ⊎ ((status ≡ WriteFault) × ((k : ℕ) × Appends old new (take k text)))

-- memory ran out, and nothing was written; or the look came to what is told of the image
abbrev pub EndsAs : Look → List ℕ → Status → Option (List ℕ) → Option (List ℕ) → Type 0
EndsAs look img status old new =
    ((status ≡ NoMemory) × (new ≡ old))
    ⊎ ((end : Status) × ((text : List ℕ) × IsTold look img end text × Comes end text status old new))

-- the count of the output does not fall, and it rose where the output failed
pub record HasCause (status : Status) (sink sink' : ℕ) : Type 0 where
  pub later : sink ≤ sink'
  pub failed : status ≡ WriteFault → Rose sink sink'

-- the exit status of a program
abbrev pub code_of : Status → ℕ
code_of Done = 0
code_of Usage = 2
code_of (NotImage rule) = 3
code_of DeviceFault = 4
code_of WriteFault = 6
code_of NoMemory = 7
code_of (Refused r) = 9
