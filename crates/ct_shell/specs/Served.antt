-- What a run has done of its items, by the tree, the replies and what was written: what is said of items of any kind, of the items
-- of a script, where each passes from a tree to the one after it, and what is written of a reply is its line.
use Rattle.std.specs.Prelude.{◌≡◌, ℕ, List, []}
use Rattle.std.specs.declared.option.Option.{Option}
use Rattle.std.specs.declared.result.Result.{Result}
use Rattle.ct_call.specs.Calls.{Keeps}
use Rattle.ct_call.specs.Seen.{faults_in}
use Rattle.ct_call.specs.declared.mount.State.{State}
use Rattle.ct_chain.specs.Chains.{RanOf, ServedOf, ServesOf, StoppedOf, StoppedWhere}
use Rattle.ct_script.specs.Texts.{reply_line}
use Rattle.ct_tree.specs.Tree.{Tree}
use Rattle.ct_tree.specs.Runs.{Item}
use Rattle.ct_tree.specs.declared.call.Reply.{Reply}
use Rattle.ct_shell.specs.Moments.{IsBegunOf, Moment, Passed, moment_in}
use Rattle.ct_shell.specs.declared.call.ServeEnd.{ServeEnd}
use Rattle.ct_shell.specs.declared.call.ServeEnd.TheVariants.{Device, Output}

-- The items before the rest had these replies; meanwhile the device went on from one moment to another.
abbrev pub Ran : ℕ → Tree → Tree → List Item → List Item → List Reply → Moment → Moment → Type 0
Ran c = RanOf (Passed c)

-- the items before the rest were answered, and each reply was written whole
abbrev pub Served : ℕ → Tree → Tree → List Item → List Item → Option (List ℕ) → Option (List ℕ) → Moment → Moment → Type 0
Served c = ServedOf (Passed c) reply_line

-- a device that failed left no reply in part, and after an output that failed no call was begun
abbrev pub StopsBy : ServeEnd → List Reply → Moment → Moment → Type 0
StopsBy Device torn moment to = torn ≡ []
StopsBy Output torn moment to = to ≡ moment

-- Some items were answered. The replies to all of them were written whole, and then at most one call was begun; or to all but
-- the last, of which a part was written, and then nothing was begun.
abbrev pub Stopped : ℕ → Tree → List Item → Option (List ℕ) → Option (List ℕ) → Moment → Moment → Type 0
Stopped c = StoppedOf (Passed c) IsBegunOf reply_line

-- and it stopped where the device failed, or the output
abbrev pub StoppedBy : ServeEnd → ℕ → Tree → List Item → Option (List ℕ) → Option (List ℕ) → Moment → Moment → Type 0
StoppedBy end c = StoppedWhere (Passed c) IsBegunOf reply_line (StopsBy end)

-- the device failed
abbrev pub IsDevice : ServeEnd → Type 0
IsDevice end = end ≡ Device

-- What was done of items over a mount that held tree t: all of them, and the device holds the tree after them; or some, where
-- the device failed or the output did.
abbrev pub Serves : {D T : Type 0} {bound : _} → ℕ → Tree → List Item → Option (State D bound) → Option (State D bound) → Option (List ℕ) → Option (List ℕ) → Result T ServeEnd → Type 0
Serves c t all before after old new result =
    ServesOf (Passed c) IsBegunOf reply_line StopsBy IsDevice (Keeps c after) t all (moment_in before) (moment_in after) (faults_in before) (faults_in after) old new result
