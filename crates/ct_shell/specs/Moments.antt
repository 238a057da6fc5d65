-- What is seen of a device at a moment, and what a crash may leave while items are answered.
use Rattle.std.specs.Prelude.{◌≡◌, ◌⊎◌, ℕ, List, [], Some, None, IfSome}
use Rattle.std.specs.declared.option.Option.{Option}
use Rattle.ct_base.specs.declared.limits.TheConstants.{MOST_CALL_PAIRS}
use Rattle.ct_call.specs.Calls.{Holds, most_pairs as call_pairs}
use Rattle.ct_call.specs.Placed.{Places}
use Rattle.ct_call.specs.declared.mount.State.{State}
use Rattle.ct_call.specs.declared.mount.State.TheVariants.{Ready, Dead}
use Rattle.ct_chain.specs.Chains.{Chain, HasBegun}
use Rattle.ct_pm.specs.Device.{EachNow}
use Rattle.ct_pm.specs.Images.{History, reads}
use Rattle.ct_pm.specs.Phase.{Crash, Phase}
use Rattle.ct_tree.specs.Lands.{Lands}
use Rattle.ct_tree.specs.Runs.{Answers, Item, bad, call}
use Rattle.ct_tree.specs.Step.{step}
use Rattle.ct_tree.specs.Tree.{Tree}
use Rattle.ct_tree.specs.declared.call.Reply.{Reply}
use Rattle.ct_tree.specs.declared.call.Reply.TheVariants.{Done}
use Rattle.ct_shell.specs.Binds.{Binds}

-- a device at a moment: its history, where it tells one, and the words as they read
pub record Moment : Type 0 where
  pub told : Option History
  pub words : List ℕ

abbrev pub moment : Option History → List ℕ → Moment
moment told words = record { told = told; words = words }

-- the device behind a mount
abbrev pub moment_in : {D : Type 0} {bound : _} → Option (State D bound) → Moment
moment_in None = moment None []
moment_in {bound = bound} (Some (Ready mounted)) = moment (bound.told mounted.dev) (bound.words mounted.dev)
moment_in {bound = bound} (Some (Dead failed)) = moment (bound.told failed.dev) (bound.words failed.dev)

-- the most pairs of a long record while an item is answered
abbrev pub most_pairs : Item → ℕ
most_pairs bad = MOST_CALL_PAIRS
most_pairs (call op) = call_pairs op

-- The device holds the tree, and has c inodes; the words are those of its history. They, and whatever a crash may leave now, land
-- on the tree, and no record is open.
pub record RestsOn (c : ℕ) (t : Tree) (here : Moment) : Type 0 where
  pub holds : Holds c t here.words here.told
  pub replays : IfSome here.told (λ h. here.words ≡ reads h)
  pub images : EachNow here.told (Crash (λ image. Lands image t) 0)
  pub words : Crash (λ image. Lands image t) 0 here.words

-- From one moment to another a crash leaves what lands on one tree or on the other, with a lawful record of so many pairs at
-- most; so do the words as they read in the end; and no step stores on a page of a live file.
abbrev pub Works : ℕ → Tree → Tree → Moment → Moment → Type 0
Works most t left from to = Phase (λ image. Lands image t ⊎ Lands image left) most from.told to.told to.words

-- a reply other than ok was made with no step
abbrev pub IsStill : Reply → Moment → Moment → Type 0
IsStill Done from to = Unit {0}
IsStill reply from to = to ≡ from

-- what a call that is done made is where it belongs, and it took no page more than it needs
abbrev pub PlacesOf : Item → Reply → List ℕ → List ℕ → Type 0
PlacesOf (call op) Done old new = Places old new op
PlacesOf item reply old new = Unit {0}

-- The item had the reply, which tells of the words as they read before. When it was answered, all lands on the tree that it
-- left; meanwhile on that or on the tree before.
pub record Passed (c : ℕ) (t : Tree) (item : Item) (reply : Reply) (left : Tree) (from to : Moment) : Type 0 where
  pub answers : Answers c t item reply left
  pub binds : Binds from.words t item reply
  pub still : IsStill reply from to
  pub placed : PlacesOf item reply from.words to.words
  pub works : Works (most_pairs item) t left from to
  pub rests : RestsOn c left to

-- the items had these replies, one after another, with a moment for each
abbrev pub Passes : ℕ → Tree → List Item → List Reply → Tree → Moment → Moment → Type 0
Passes c = Chain (Passed c)

-- the item is a call that was begun
abbrev pub IsBegunOf : Tree → Item → Moment → Moment → Type 0
IsBegunOf t bad from to = ⊥
IsBegunOf t (call op) from to = Works (most_pairs (call op)) t (step t op).1 from to

-- the first of the items is a call that was begun
abbrev pub IsBegun : Tree → List Item → Moment → Moment → Type 0
IsBegun = HasBegun IsBegunOf

-- From some moment on a file system stood, which held the tree; and Then holds of that moment.
pub record Begins (c : ℕ) (t : Tree) (Before Then : Moment → Type 0) : Type 0 where
  pub begin : Moment
  pub before : Before begin
  pub rests : RestsOn c t begin
  pub on : Then begin
