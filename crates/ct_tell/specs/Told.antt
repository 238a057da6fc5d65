-- What is told of an image, and by which clause.
use Rattle.std.specs.Prelude.{◌≡◌, ◌⊎◌, ℕ, ◌<◌, ◌≤◌, List, [], Option, Some, None, length}
use Rattle.ct_base.specs.Free.{HasFreePages}
use Rattle.ct_base.specs.Settled.{open_pairs, settled}
use Rattle.ct_base.specs.View.{inode_count}
use Rattle.ct_base.specs.Walk.{page_count, word}
use Rattle.ct_base.specs.declared.layout.TheConstants.{LONG_GATE, SHORT_GATE}
use Rattle.ct_call.specs.declared.mount.Why.{Why}
use Rattle.ct_call.specs.declared.mount.Why.TheVariants as NotMounted
use Rattle.ct_check.specs.First.{MountHolds, MountRule}
use Rattle.ct_check.specs.declared.fault.CheckFault.{CheckFault}
use Rattle.ct_check.specs.declared.fault.CheckFault.TheVariants.{Damage, Memory}
use Rattle.ct_mount.specs.Mounting.{IsFirst}
use Rattle.ct_tree.specs.Checks.{at}
use Rattle.ct_tree.specs.Content.{bytes_in, range}
use Rattle.ct_tree.specs.Lands.{Lands}
use Rattle.ct_tree.specs.Ordered.{IsTree}
use Rattle.ct_tree.specs.Resolve.{entries_in, node_in}
use Rattle.ct_tree.specs.Step.{list as list_call, locate as locate_call, refusal}
use Rattle.ct_tree.specs.Tree.{Tree}
use Rattle.ct_tree.specs.declared.call.Refusal.{Refusal}
use Rattle.ct_tell.specs.Held.{IsCount}
use Rattle.ct_tell.specs.Looks.{Look, rules, info, check, list, cat}
use Rattle.ct_tell.specs.Rules.{all_rules}
use Rattle.ct_tell.specs.Texts.{info_text, list_text, verdict_line}
use Rattle.ct_tell.specs.declared.info.Info.{Info}
use Rattle.ct_tell.specs.declared.info.State.{State}
use Rattle.ct_tell.specs.declared.info.State.TheVariants.{Headless, Damaged, Sound}
use Rattle.ct_tell.specs.declared.status.Status.{Status}
use Rattle.ct_tell.specs.declared.status.Status.TheVariants.{Done, NoMemory, NotImage, Refused}

-- none of the mount rules fails, or this one is the first that does
abbrev pub IsVerdict : List ℕ → Option ℕ → Type 0
IsVerdict img None = (r : MountRule) → MountHolds img r
IsVerdict img (Some rule) = IsFirst img rule

abbrev pub verdict_status : Option ℕ → Status
verdict_status None = Done
verdict_status (Some rule) = NotImage rule

-- what stands beside the counts of the first page: the words of a head that is not lawful; the pairs of the open record; and of an
-- image that lands on a tree what that holds, and how many pages are free once the image is settled
abbrev pub IsState : List ℕ → State → Type 0
IsState img (Headless magic long short rule) = (rule < 8) × IsFirst img rule × (magic ≡ word img 0) × (long ≡ word img LONG_GATE) × (short ≡ word img SHORT_GATE)
IsState img (Damaged pairs rule) = (8 ≤ rule) × IsFirst img rule × (pairs ≡ length (open_pairs img))
IsState img (Sound pairs counts free) = (pairs ≡ length (open_pairs img)) × ((t : Tree) × IsTree t × Lands img t × IsCount t counts) × HasFreePages (settled img) free

-- each value is that of the image
pub record IsInfo (img : List ℕ) (i : Info) : Type 0 where
  pub version : i.version ≡ word img 1
  pub pages : i.pages ≡ page_count img
  pub inodes : i.inodes ≡ inode_count img
  pub state : IsState img i.state

abbrev pub state_status : State → Status
state_status (Headless magic long short rule) = NotImage rule
state_status (Damaged pairs rule) = NotImage rule
state_status (Sound pairs counts free) = Done

-- why an image was not mounted: this rule is the first that fails, or memory ran out
abbrev pub IsWhy : List ℕ → CheckFault → Type 0
IsWhy img (Damage rule) = IsFirst img rule
IsWhy img Memory = Unit {0}

-- what a mount that does not fail answers
abbrev pub WasWhy : Why → CheckFault → Type 0
WasWhy why (Damage rule) = why ≡ NotMounted.Damage rule
WasWhy why Memory = why ≡ NotMounted.Memory

-- how a look ends whose image was not mounted
abbrev pub fault_status : CheckFault → Status
fault_status (Damage rule) = NotImage rule
fault_status Memory = NoMemory

-- how a look at a path ends: refused where a check of the tree fails, and then nothing is written
abbrev pub status_by : Option Refusal → Status
status_by None = Done
status_by (Some r) = Refused r

abbrev pub text_by : Option Refusal → List ℕ → List ℕ
text_by None text = text
text_by (Some r) text = []

-- a look at a path, as the tree answers it
pub record Answers (check : Option Refusal) (whole : List ℕ) (status : Status) (text : List ℕ) : Type 0 where
  pub ends : status ≡ status_by check
  pub tells : text ≡ text_by check whole

-- The image lands on a tree, of which this holds; or a rule fails, the first is told by the status, and nothing is written.
abbrev pub OverTree : List ℕ → Status → List ℕ → (Tree → Type 0) → Type 0
OverTree img status text On =
    ((t : Tree) × IsTree t × Lands img t × On t)
    ⊎ ((rule : ℕ) × IsFirst img rule × (status ≡ NotImage rule) × (text ≡ []))

-- what a look at an image comes to: how it ends, and the text of it
abbrev pub IsTold : Look → List ℕ → Status → List ℕ → Type 0
IsTold rules img status text = (status ≡ Done) × (text ≡ all_rules)
IsTold info img status text = (i : Info) × IsInfo img i × (status ≡ state_status i.state) × (text ≡ info_text i)
IsTold check img status text = (verdict : Option ℕ) × IsVerdict img verdict × (status ≡ verdict_status verdict) × (text ≡ verdict_line verdict)
IsTold (list path) img status text =
    OverTree img status text (λ t. Answers (refusal t (list_call path)) (list_text (entries_in (node_in (at t path)))) status text)
IsTold (cat path off len) img status text =
    OverTree img status text (λ t. Answers (refusal t (locate_call path)) (range (bytes_in (at t path)) off len) status text)
