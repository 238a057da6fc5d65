-- What a device is when a file system of it stands, and when it does not come to that.
use Rattle.std.specs.Prelude.{◌≡◌, ◌≢◌, ◌⊎◌, ℕ, ◌<◌, ◌≤◌}
use Rattle.std.specs.declared.option.Option.{Option}
use Rattle.ct_base.specs.Causes.{Rose}
use Rattle.ct_call.specs.Calls.{Keeps}
use Rattle.ct_call.specs.Seen.{faults_in}
use Rattle.ct_call.specs.declared.mount.State.{State}
use Rattle.ct_call.specs.declared.mount.Why.{Why}
use Rattle.ct_call.specs.declared.mount.Why.TheVariants.{Damage, Fault}
use Rattle.ct_shell.specs.Moments.{Moment, RestsOn, moment_in}
use Rattle.ct_tree.specs.Tree.{Tree}
use Rattle.ct_run.specs.Ends.{IsMade, Unmade, status_of}
use Rattle.ct_run.specs.Images.{IsRefusal, Settles, Unmounted}
use Rattle.ct_run.specs.Ways.{Bars, IsMounting, Starts, inodes_in}
use Rattle.ct_run.specs.declared.opening.Way.{Way}
use Rattle.ct_run.specs.declared.opening.Way.TheVariants.{Making, Mounting}
use Rattle.ct_run.specs.declared.status.Status.{Status}
use Rattle.ct_run.specs.declared.status.Status.TheVariants.{DeviceFault}

-- a device before and after: itself, what is seen of it at these moments, how many pages it has, and how often it failed
pub record Devices (D : Type 0) : Type 0 where
  pub dev : D
  pub dev' : D
  pub from : Moment
  pub to : Moment
  pub pages : ℕ
  pub faults : ℕ
  pub faults' : ℕ

abbrev pub devices : {D : Type 0} → D → D → Moment → Moment → ℕ → ℕ → ℕ → Devices D
devices dev dev' from to pages faults faults' = record { dev = dev; dev' = dev'; from = from; to = to; pages = pages; faults = faults; faults' = faults' }

-- what was done until the file system stood
abbrev pub Opens : Way → ℕ → Moment → Moment → Type 0
Opens (Making inodes) pages from begin = IsMade inodes pages from begin
Opens Mounting pages from begin = Settles from begin

-- and where the device failed before
abbrev pub Fails : Way → Status → Moment → Moment → Type 0
Fails (Making inodes) status from to = Unmade status from to
Fails Mounting status from to = Unmounted status from to

-- The file system stood from some moment on. There is a tree that it then held; and it held each such tree, and then this was
-- done.
pub record Stood (way : Way) (pages : ℕ) (from : Moment) (Then : ℕ → Tree → Moment → Type 0) : Type 0 where
  pub begin : Moment
  pub opens : Opens way pages from begin
  pub some : (t : Tree) × Starts way from.words t
  pub on : (t : Tree) → Starts way from.words t → RestsOn (inodes_in way from.words) t begin × Then (inodes_in way from.words) t begin

-- a file system stands
pub record Opened {D : Type 0} {bound : _} (way : Way) (pages faults : ℕ) (from : Moment) (state : Option (State D bound)) : Type 0 where
  pub some : (t : Tree) × Starts way from.words t
  pub keeps : (t : Tree) → Starts way from.words t → Keeps (inodes_in way from.words) state t
  pub opens : Opens way pages from (moment_in state)
  pub bars : (rule : ℕ) → Bars way pages from.words rule → ⊥
  pub later : faults ≤ faults_in state

-- none does, and this is why
pub record Unopened {D : Type 0} (way : Way) (why : Why) (d : Devices D) : Type 0 where
  pub bars : (rule : ℕ) → why ≡ Damage rule → Bars way d.pages d.from.words rule
  pub barred : (rule : ℕ) → Bars way d.pages d.from.words rule → IsRefusal rule (status_of why)
  pub head : (rule : ℕ) → why ≡ Damage rule → rule < 8 → d.dev' ≡ d.dev
  pub untouched : why ≢ Fault → (d.dev' ≡ d.dev) ⊎ (IsMounting way × Settles d.from d.to)
  pub fails : why ≡ Fault → Fails way DeviceFault d.from d.to
  pub cause : why ≡ Fault → Rose d.faults d.faults'
  pub later : d.faults ≤ d.faults'
