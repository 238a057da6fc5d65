-- After growth the words are at rest again, and have the same objects.
use Rattle.std.proofs.Common.{◌≡◌, ◌≢◌, ℕ, ◌+◌, ◌≤◌, List, Option, sym, ap, ◌∙◌, subst, ◌⊎◌, inl, inr, arith}
use Rattle.ct_base.specs.Head.{HasHead}
use Rattle.ct_base.specs.Inode.{inode, IsPart, Partition, free_parts, live_parts}
use Rattle.ct_base.specs.Objects.{Object}
use Rattle.ct_base.specs.Plan.{next_part}
use Rattle.ct_base.specs.Rules.{entries, once, inodes, placed, apart, tails, mapped, headers, rest, slots, names, named, reached, Sound, AreEntries, AreNamesApart, AreNamed, AreReached}
use Rattle.ct_base.specs.State.{SameState}
use Rattle.ct_base.specs.View.{view, inode_count}
use Rattle.ct_base.specs.Walk.{word}
use Rattle.ct_grow.proofs.Heads.{path_bounds}
use Rattle.ct_grow.proofs.Readied.{own_part}
use Rattle.ct_grow.proofs.Wanting.{unwanted}
use Rattle.ct_grow.specs.Grown.{CanGrow, CellsMoved, IsReady, Promoted}
use Rattle.ct_grow.specs.Moments.{HasGrown, IsBeforeOrAfter}
use Rattle.ct_frames.specs.Free.{FreePages}
use Rattle.ct_pm.specs.Images.{History}
use Rattle.ct_pm.specs.Phase.{Phase}
use Rattle.ct_pm.proofs.Phases.{phase_then, phase_weaker}
use Rattle.ct_tree.specs.Lands.{files}
use Rattle.ct_call.proofs.Chosen.{first_free, head_is}
use Rattle.ct_commit.proofs.Resting.{no_table, slots_stay}
use Rattle.ct_commit.proofs.Landed.{rest_as, same_as, state_as}
use Rattle.ct_commit.proofs.States.{head_over}
use Rattle.ct_commit.specs.Landing.{LandsAs}
use Rattle.ct_commit.specs.Rest.{IsAtRest, IsMounted, IsUnstaged}

module _ {w new : List ℕ} {dir : ℕ} {p : Partition} (r : IsAtRest w) (pr : Promoted w new dir p) (ready : IsReady new) where
  pub moved_head : HasHead new
  moved_head = head_over r.head pr.superblock pr.length ready.shut

  pub moved_sound : Sound new
  moved_sound entries = ready.rules entries (omega arith)
  moved_sound once = ready.rules once (omega arith)
  moved_sound inodes = ready.rules inodes (omega arith)
  moved_sound placed = ready.rules placed (omega arith)
  moved_sound apart = ready.rules apart (omega arith)
  moved_sound tails = ready.rules tails (omega arith)
  moved_sound mapped = ready.rules mapped (omega arith)
  moved_sound headers = ready.rules headers (omega arith)
  moved_sound rest = ready.rules rest (omega arith)
  moved_sound slots = subst AreEntries (sym pr.objects) (r.sound slots)
  moved_sound names = subst AreNamesApart (sym pr.objects) (r.sound names)
  moved_sound named = subst AreNamed (sym pr.objects) (r.sound named)
  moved_sound reached = subst AreReached (sym pr.objects) (r.sound reached)

  pub moved_files : files new ≡ files w
  moved_files = pr.objects

  pub moved_as : LandsAs (files w) new
  moved_as = subst (λ fs. LandsAs fs new) moved_files (rest_as (record { head = moved_head; sound = moved_sound; shut = ready.shut; tables = ready.tables }))

-- an image of growth lands on the objects
growth_as : {w image : List ℕ} {dir : ℕ} {p : Partition} → IsAtRest w → SameState w image ⊎ HasGrown w dir p image → LandsAs (files w) image
growth_as r (inl same) = same_as r same
growth_as r (inr grown) = state_as grown.state (moved_as r grown.promoted grown.ready)

pub growth_phase : {w now : List ℕ} {dir : ℕ} {p : Partition} {from to : Option History} → IsAtRest w → Phase (IsBeforeOrAfter w dir p) 150 from to now → Phase (LandsAs (files w)) 150 from to now
growth_phase {w} r phase = phase_weaker (LandsAs (files w)) (λ image has. growth_as r has) (omega arith) phase

-- once it is done the staging slots are still empty
module _ {w new : List ℕ} {dir level : ℕ} (r : IsAtRest w) (can : CanGrow w dir level) (cells : CellsMoved w new (inode (view w) dir) (next_part (view w) (inode_count w) level)) (ready : IsReady new) where
  abbrev part_next : Partition
  part_next = next_part (view w) (inode_count w) level

  next_is : IsPart part_next
  next_is =
      let head = head_is (free_parts (live_parts (view w) (inode_count w)) level) can.some in
      (first_free (live_parts (view w) (inode_count w)) level part_next head.0 head.1).part can.fits

  low : (inode (view w) dir).level ≢ 15 → (inode (view w) dir).level ≤ 8
  low has = elim can.more [ inl none ↦ absurd (has none) | inr less ↦ omega (arith, less, can.fits) ]

  pub moved_unstaged : IsUnstaged w → IsUnstaged new
  moved_unstaged none = slots_stay w new ready.tables (λ k lt.
      let was = no_table w (2 + k) (omega (arith, lt)) (ap (word w) (omega arith) ∙ none k lt) in
      let off = unwanted (inode (view w) dir) part_next 1 (2 + k) (λ a on. (path_bounds part_next next_is a on).1) (omega arith)
      (λ has. let own = own_part can has in inr (omega (arith, own.low, lt), omega (arith, next_is.low, lt))) in
      cells.absent 3 (2 + k) (omega arith) (λ has high. absurd (omega (arith, low has, high))) was off ∙ sym was) none

  pub moved_rest : Promoted w new dir part_next → IsAtRest new
  moved_rest pr = record { head = moved_head r pr ready; sound = moved_sound r pr ready; shut = ready.shut; tables = ready.tables }

-- a directory of words at rest may grow where the plan says so
pub ready_here : {w : List ℕ} → IsAtRest w → IsUnstaged w → IsReady w
ready_here r none = record { tables = r.tables; shut = r.shut; unstaged = none 0 (omega arith); rules = λ rule le. r.sound rule; inodes = r.head.inodes }

pub ready_of : {w : List ℕ} {told : Option History} {frames : FreePages} → IsMounted w told frames → IsReady w
ready_of m = ready_here m.rest m.unstaged

-- growth, and the pages that are made then
pub room_phase : (w0 w1 : List ℕ) {w2 : List ℕ} {from mid to : Option History} → files w1 ≡ files w0 → Phase (LandsAs (files w0)) 150 from mid w1 → Phase (LandsAs (files w1)) 0 mid to w2 → Phase (LandsAs (files w0)) 150 from to w2
room_phase w0 w1 {w2 = w2} {mid = mid} {to = to} same first second =
    phase_then first (phase_weaker (LandsAs (files w0)) (λ image lands. lands) (omega arith) (subst (λ (fs : ℕ → Object). Phase (LandsAs fs) 0 mid to w2) same second))
