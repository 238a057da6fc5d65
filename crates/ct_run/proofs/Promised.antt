-- What is promised of each command, and of the ways in which a run ends, by what is promised of a run.
use Rattle.std.proofs.Common.{◌≡◌, ◌≢◌, ◌⊎◌, ℕ, ◌<◌, ◌≤◌, List, Option, Some, None, length, refl, inl, inr, sym, subst, true≢false, ◌∙◌, arith}
use Rattle.std.specs.Prelude.{IfSome, IsSome, IsSomeAnd}
use Rattle.ct_base.specs.Causes.{Rose}
use Rattle.ct_base.specs.View.{inode_count}
use Rattle.ct_shell.specs.Moments.{Begins, Moment, RestsOn}
use Rattle.ct_tree.specs.Lands.{Lands}
use Rattle.ct_tree.specs.Ordered.{IsTree}
use Rattle.ct_tree.specs.Tree.{Dir, Tree, none}
use Rattle.ct_run.proofs.Scripts.{gave_long, gave_short}
use Rattle.ct_run.proofs.Written.{long_or_short}
use Rattle.ct_run.specs.Carried.{EndsAs, LeavesBy, RunsAs, Streams}
use Rattle.ct_run.specs.Dumps.{EndsDump}
use Rattle.ct_run.specs.Ends.{Ends, EndsMem, IsDoneOrNoMemory, IsMade, IsServed, IsUnbegun, IsUnused}
use Rattle.ct_run.specs.Images.{EndsFormat, EndsRun, IsNoImage, Mounts}
use Rattle.ct_run.specs.Limits.{IsShortEnough, WasTooLong}
use Rattle.ct_run.specs.Opened.{Devices, Fails, Opens, Stood}
use Rattle.ct_run.specs.Ways.{IsScript, Starts, Work, calls, dump, inodes_in, nothing, script}
use Rattle.ct_run.specs.Words.{TakesImage, TakesScript, way_of, work_of}
use Rattle.ct_run.specs.Workloads.{EndsGen}
use Rattle.ct_run.specs.declared.command.Command.{Command}
use Rattle.ct_run.specs.declared.command.Command.TheVariants.{Mem, Run, Format, Gen, Dump}
use Rattle.ct_run.specs.declared.opening.Way.{Way}
use Rattle.ct_run.specs.declared.opening.Way.TheVariants.{Making, Mounting}
use Rattle.ct_run.specs.declared.status.Status.{Status}
use Rattle.ct_run.specs.declared.status.Status.TheVariants.{Done, Usage, NotImage, DeviceFault, ReadFault, WriteFault, NoMemory, TooLong}

-- a file system that stood held a tree on which it came to stand
begins : (way : Way) (pages : ℕ) (from : Moment) (Then : ℕ → Tree → Moment → Type 0) → Stood way pages from Then → (t : Tree) → Starts way from.words t → Begins (inodes_in way from.words) t (Opens way pages from) (Then (inodes_in way from.words) t)
begins way pages from Then stood t starts = let on = stood.on t starts in record { begin = stood.begin; before = stood.opens; rests = on.0; on = on.1 }

-- it did not come to stand only where the device failed
failed : (way : Way) (status : Status) (from to : Moment) → Fails way status from to → status ≡ DeviceFault
failed (Making inodes) status from to fails = fails.failed
failed Mounting status from to fails = fails.failed

served_or_not : (status : Status) → IsServed status ⊎ IsUnbegun status
served_or_not Done = inl tt
served_or_not DeviceFault = inl tt
served_or_not ReadFault = inl tt
served_or_not WriteFault = inl tt
served_or_not TooLong = inl tt
served_or_not Usage = inr (λ served. served)
served_or_not (NotImage rule) = inr (λ served. served)
served_or_not NoMemory = inr (λ served. served)

-- only a script is read
unread_by : {S O : Type 0} (work : Work) (c : ℕ) (t : Tree) (status : Status) (s : Streams S O) (begin to : Moment) → (IsScript work → ⊥) → LeavesBy work c t status s begin to → s.input' ≡ s.input
unread_by script c t status s begin to other leaves = absurd (other tt)
unread_by nothing c t status s begin to other leaves = leaves.0.0
unread_by (calls number count) c t status s begin to other leaves = leaves.0
unread_by dump c t status s begin to other leaves = leaves.0

script_long : (c : ℕ) (t : Tree) (rest rest' old new : Option (List ℕ)) (begin to : Moment) → Ends c t TooLong rest rest' old new begin to → IfSome rest (λ text. 16777216 < length text)
script_long c t rest rest' old new begin to ends = gave_long rest rest' ends.given ends.gave ends.leaves.0

script_short : (c : ℕ) (t : Tree) (rest rest' old new : Option (List ℕ)) (begin to : Moment) → Ends c t Done rest rest' old new begin to → IsSomeAnd rest (λ text. 16777216 < length text) → ⊥
script_short c t rest rest' old new begin to ends long = gave_short rest rest' ends.given ends.gave ends.leaves.0.0 ends.leaves.0.1 long

long_not_short : (rest : Option (List ℕ)) → IfSome rest (λ text. 16777216 < length text) → IsSomeAnd rest (λ text. length text ≤ 16777216) → ⊥
long_not_short None long short = short
long_not_short (Some text) long short = omega (arith, long, short)

module _ {S O : Type 0} (pages : ℕ) (s : Streams S O) (from to : Moment) where
  -- what was done over the file system of a command that stood
  abbrev StoodFor : Command → Status → Type 0
  StoodFor command status = Stood (way_of command) pages from (λ c t begin. LeavesBy (work_of command) c t status s begin to)

  too_long_over : (command : Command) → StoodFor command TooLong → WasTooLong (Some command) s.rest from.words
  too_long_over Mem stood = script_long _ _ s.rest s.rest' s.old s.new stood.begin to (stood.on stood.some.0 stood.some.1).1
  too_long_over Run stood = script_long _ _ s.rest s.rest' s.old s.new stood.begin to (stood.on stood.some.0 stood.some.1).1
  too_long_over (Format inodes) stood = let done = (stood.on stood.some.0 stood.some.1).1.1 in cc
  too_long_over (Gen number count) stood = (stood.on stood.some.0 stood.some.1).1.1
  too_long_over Dump stood = λ t tree lands. (stood.on t (tree, lands)).1.1.0

  done_over : (command : Command) → TakesScript (Some command) → StoodFor command Done → IsSomeAnd s.rest (λ text. 16777216 < length text) → ⊥
  done_over Mem takes stood long = script_short _ _ s.rest s.rest' s.old s.new stood.begin to (stood.on stood.some.0 stood.some.1).1 long
  done_over Run takes stood long = script_short _ _ s.rest s.rest' s.old s.new stood.begin to (stood.on stood.some.0 stood.some.1).1 long
  done_over (Format inodes) takes stood long = takes
  done_over (Gen number count) takes stood long = takes
  done_over Dump takes stood long = takes

  short_over : (command : Command) → StoodFor command TooLong → IsShortEnough (Some command) s.rest from.words → ⊥
  short_over Mem stood short = long_not_short s.rest (too_long_over Mem stood) short
  short_over Run stood short = long_not_short s.rest (too_long_over Run stood) short
  short_over (Format inodes) stood short = too_long_over (Format inodes) stood
  short_over (Gen number count) stood short = too_long_over (Gen number count) stood
  short_over Dump stood short = let t = stood.some in long_or_short t.0 (too_long_over Dump stood t.0 t.1.0 t.1.1) (short t.0 t.1.0 t.1.1)

module _ {D S O : Type 0} (command : Option Command) (status : Status) (d : Devices D) (s : Streams S O) (runs : RunsAs command status d s) where
  ends_as : (k : Command) → command ≡ Some k → IsServed status → EndsAs (Some k) d.pages status s d.from d.to
  ends_as k is served = subst (λ (o : Option Command). EndsAs o d.pages status s d.from d.to) is (runs.ends served)

  pub ends_mem : command ≡ Some Mem → IsServed status → EndsMem status d.pages s.input s.input' s.out s.out' s.rest s.rest' s.old s.new d.from d.to
  ends_mem is served = elim (ends_as Mem is served) [
    | inl unmade ↦ inl unmade
    | inr stood ↦ inr (begins (way_of Mem) d.pages d.from _ stood (Dir none) refl)
  ]

  pub ends_run : command ≡ Some Run → IsServed status → (t : Tree) → IsTree t → Lands d.from.words t → EndsRun (inode_count d.from.words) t status s.input s.input' s.out s.out' s.rest s.rest' s.old s.new d.from d.to
  ends_run is served t tree lands = elim (ends_as Run is served) [
    | inl unmounted ↦ inl unmounted
    | inr stood ↦ inr (begins Mounting d.pages d.from _ stood t (tree, lands))
  ]

  pub ends_format : (inodes : ℕ) → command ≡ Some (Format inodes) → IsServed status → IsUnused s.input s.input' s.out s.out' × EndsFormat inodes d.pages status d.from d.to
  ends_format inodes is served = elim (ends_as (Format inodes) is served) [
    | inl unmade ↦ (unmade.0, inl unmade.1)
    | inr stood ↦
        (let on = stood.on (Dir none) refl in (
          on.1.0,
          inr (record { done = on.1.1; made = subst (IsMade inodes d.pages d.from) (sym on.1.2) stood.opens; rests = subst (RestsOn inodes (Dir none)) (sym on.1.2) on.0 }),
        ))
  ]

  pub ends_gen : (number count : ℕ) → command ≡ Some (Gen number count) → IsServed status → EndsGen number count status d.pages s.out s.out' s.old s.new d.from d.to
  ends_gen number count is served = elim (ends_as (Gen number count) is served) [
    | inl unmade ↦ inl (unmade.0.1, unmade.1)
    | inr stood ↦ (let on = stood.on (Dir none) refl in inr (record { begin = stood.begin; before = stood.opens; rests = on.0; on = on.1.1 }))
  ]

  pub ends_dump : command ≡ Some Dump → IsServed status → (t : Tree) → IsTree t → Lands d.from.words t → EndsDump (inode_count d.from.words) t status s.out s.out' s.old s.new d.from d.to
  ends_dump is served t tree lands = elim (ends_as Dump is served) [
    | inl unmounted ↦ inl (unmounted.0.1, unmounted.1)
    | inr stood ↦ (let on = stood.on t (tree, lands) in inr (record { begin = stood.begin; before = stood.opens; rests = on.0; on = (on.1.1, on.1.2) }))
  ]

  -- a command that serves no script reads nothing
  pub ends_unread : (k : Command) → command ≡ Some k → (IsScript (work_of k) → ⊥) → s.input' ≡ s.input
  ends_unread k is other = elim (served_or_not status) [
    | inl served ↦
        elim (ends_as k is served) [
          | inl unopened ↦ unopened.0.0
          | inr stood ↦ unread_by (work_of k) _ stood.some.0 status s stood.begin d.to other (stood.on stood.some.0 stood.some.1).1
        ]
    | inr unbegun ↦ (runs.unread unbegun).0
  ]

  -- an image that lands on no tree, and a device that failed
  unmounted_over : (k : Command) → TakesImage (Some k) → ((t : Tree) → IsTree t → Lands d.from.words t → ⊥) → EndsAs (Some k) d.pages status s d.from d.to → IsUnused s.input s.input' s.out s.out' × Mounts d.from d.to
  unmounted_over Mem takes nowhere ends = absurd takes
  unmounted_over Run takes nowhere ends = elim ends [ inl unmounted ↦ (unmounted.0, unmounted.1.mounts) | inr stood ↦ absurd (nowhere stood.some.0 stood.some.1.0 stood.some.1.1) ]
  unmounted_over (Format inodes) takes nowhere ends = absurd takes
  unmounted_over (Gen number count) takes nowhere ends = absurd takes
  unmounted_over Dump takes nowhere ends = elim ends [ inl unmounted ↦ (unmounted.0, unmounted.1.mounts) | inr stood ↦ absurd (nowhere stood.some.0 stood.some.1.0 stood.some.1.1) ]

  unmounted_by : (o : Option Command) → command ≡ o → TakesImage o → ((t : Tree) → IsTree t → Lands d.from.words t → ⊥) → IsServed status → IsUnused s.input s.input' s.out s.out' × Mounts d.from d.to
  unmounted_by None is takes nowhere served = absurd takes
  unmounted_by (Some k) is takes nowhere served = unmounted_over k takes nowhere (ends_as k is served)

  pub ends_unmounted : TakesImage command → status ≡ DeviceFault → ((t : Tree) → IsTree t → Lands d.from.words t → ⊥) → IsUnused s.input s.input' s.out s.out' × Mounts d.from d.to
  ends_unmounted takes is nowhere = unmounted_by command refl takes nowhere (subst IsServed (sym is) tt)

  -- the file system of a command that ended so stood
  stood_for : (k : Command) (other : Status) → command ≡ Some k → status ≡ other → IsServed other → (other ≡ DeviceFault → ⊥) → StoodFor d.pages s d.from d.to k other
  stood_for k other is at served apart =
      subst (StoodFor d.pages s d.from d.to k) at
      (elim (ends_as k is (subst IsServed (sym at) served)) [
        | inl unopened ↦ absurd (apart (sym at ∙ failed (way_of k) status d.from d.to unopened.1))
        | inr stood ↦ stood
      ])

  no_usage : (k : Command) → command ≡ Some k → status ≡ Usage → ⊥
  no_usage k is at = let none = runs.usage.0 at in cc

  long_by : (o : Option Command) → command ≡ o → status ≡ TooLong → WasTooLong o s.rest d.from.words
  long_by None is at = let none = runs.usage.1 is in absurd (cc)
  long_by (Some k) is at = too_long_over d.pages s d.from d.to k (stood_for k TooLong is at tt (λ same. absurd (cc)))

  pub ends_too_long : status ≡ TooLong → WasTooLong command s.rest d.from.words
  ends_too_long is = long_by command refl is

  undone_by : (o : Option Command) → command ≡ o → TakesScript o → IsSomeAnd s.rest (λ text. 16777216 < length text) → status ≡ Done → ⊥
  undone_by None is takes long at = takes
  undone_by (Some k) is takes long at = done_over d.pages s d.from d.to k takes (stood_for k Done is at tt (λ same. absurd (cc))) long

  pub ends_undone : TakesScript command → IsSomeAnd s.rest (λ text. 16777216 < length text) → status ≢ Done
  ends_undone takes long = undone_by command refl takes long

  -- a run that ends in no other way is done, or memory ran out
  whole_by : (o : Option Command) → command ≡ o → IsSome o → ((rule : ℕ) → IsNoImage o d.pages d.from.words rule → ⊥) → (Rose d.faults d.faults' → ⊥) → (Rose s.source s.source' → ⊥) → (Rose s.sink s.sink' → ⊥) → IsShortEnough o s.rest d.from.words
      → (other : Status) → status ≡ other → IsDoneOrNoMemory other
  whole_by None is some image device source sink short other at = absurd (true≢false (sym some))
  whole_by (Some k) is some image device source sink short Done at = tt
  whole_by (Some k) is some image device source sink short NoMemory at = tt
  whole_by (Some k) is some image device source sink short Usage at = no_usage k is at
  whole_by (Some k) is some image device source sink short (NotImage rule) at = image rule (subst (λ (o : Option Command). IsNoImage o d.pages d.from.words rule) is (runs.not_image rule at))
  whole_by (Some k) is some image device source sink short DeviceFault at = device (runs.causes.device_fault at)
  whole_by (Some k) is some image device source sink short ReadFault at = source (runs.causes.read_fault at)
  whole_by (Some k) is some image device source sink short WriteFault at = sink (runs.causes.write_fault at)
  whole_by (Some k) is some image device source sink short TooLong at = short_over d.pages s d.from d.to k (stood_for k TooLong is at tt (λ same. absurd (cc))) short

  pub ends_whole : IsSome command → ((rule : ℕ) → IsNoImage command d.pages d.from.words rule → ⊥) → (Rose d.faults d.faults' → ⊥) → (Rose s.source s.source' → ⊥) → (Rose s.sink s.sink' → ⊥) → IsShortEnough command s.rest d.from.words → IsDoneOrNoMemory status
  ends_whole some image device source sink short = whole_by command refl some image device source sink short status refl
