-- How a run ends that dumps an image.
use Rattle.std.specs.Prelude.{◌≡◌, ◌⊎◌, ℕ, List, take, true, false, Ok, Err}
use Rattle.std.specs.Io.KnownBytes.{Appends}
use Rattle.std.specs.declared.option.Option.{Option}
use Rattle.std.specs.declared.result.Result.{Result}
use Rattle.ct_dump.specs.Dumped.{are_short, before_long, dumped, placed_below, text_of}
use Rattle.ct_dump.specs.declared.fault.DumpFault.{DumpFault}
use Rattle.ct_dump.specs.declared.fault.DumpFault.TheVariants.{Write as Write, TooLong as PathTooLong}
use Rattle.ct_shell.specs.Moments.{Begins, Moment}
use Rattle.ct_tree.specs.Tree.{Tree}
use Rattle.ct_run.specs.Images.{Settles, Unmounted}
use Rattle.ct_run.specs.declared.status.Status.{Status}
use Rattle.ct_run.specs.declared.status.Status.TheVariants.{Done, Usage, NotImage, DeviceFault, ReadFault, WriteFault, NoMemory, TooLong}

-- how a run ends whose tree was dumped so
abbrev pub dump_status : {A : Type 0} → Result A DumpFault → Status
dump_status (Ok done) = Done
dump_status (Err Write) = WriteFault
dump_status (Err PathTooLong) = TooLong

-- The paths of a tree are short enough for a call.
abbrev pub HasShortPaths : Tree → Type 0
HasShortPaths t = are_short (placed_below t) ≡ true

abbrev pub HasLongPath : Tree → Type 0
HasLongPath t = are_short (placed_below t) ≡ false

-- What was written of a tree, by the status: the script that makes it; its lines before the first node whose path is too long;
-- or a prefix of these.
abbrev pub WroteDump : Status → Tree → Option (List ℕ) → Option (List ℕ) → Type 0
WroteDump Done t old new = HasShortPaths t × Appends old new (dumped t)
WroteDump TooLong t old new = HasLongPath t × Appends old new (text_of (before_long (placed_below t)))
WroteDump WriteFault t old new = (k : ℕ) × Appends old new (take k (text_of (before_long (placed_below t))))
WroteDump Usage t old new = ⊥
WroteDump (NotImage rule) t old new = ⊥
WroteDump DeviceFault t old new = ⊥
WroteDump ReadFault t old new = ⊥
WroteDump NoMemory t old new = ⊥

-- The device failed in the mount, and nothing was written; or from some moment on it held the tree on which the words landed,
-- and then the tree was dumped with no step.
abbrev pub EndsDump : {O : Type 0} → ℕ → Tree → Status → O → O → Option (List ℕ) → Option (List ℕ) → Moment → Moment → Type 0
EndsDump c t status out out' old new from to =
    (out' ≡ out) × Unmounted status from to
    ⊎ Begins c t (Settles from) (λ begin. WroteDump status t old new × (to ≡ begin))
