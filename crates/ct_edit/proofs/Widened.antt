-- A file grows, or stays, by a plan that counts growth and what comes after it.
use Rattle.std.proofs.Common.{◌≡◌, ◌≢◌, ◌⊎◌, ℕ, ◌^◌, ◌<◌, ◌≤◌, List, [], ◌++◌, length, Option, Some, None, sym, ap, subst, ◌∙◌, inl, inr, arith}
use Rattle.std.proofs.lemmas.Bool.{cases_eq}
use Rattle.ct_base.specs.declared.inode.Inode.{Inode}
use Rattle.ct_base.specs.Inode.{IsLive, IsPart, Partition, inode, live_parts, part, part_bytes}
use Rattle.ct_base.specs.Plan.{growth_need, growth_wants, grown, grows_to, next_part}
use Rattle.ct_base.specs.Rules.{HasRoom, IsPlaced, Owns, placed}
use Rattle.ct_base.specs.View.{view, inode_count}
use Rattle.ct_base.specs.Wants.{Want, missing}
use Rattle.ct_frames.specs.Free.{FreePages}
use Rattle.ct_grow.specs.Follows.{Enlarges}
use Rattle.ct_grow.specs.Grown.{CanGrow}
use Rattle.ct_image.proofs.MissingSum.{missing_first}
use Rattle.ct_call.proofs.Chosen.{IsFirst, first_free, head_is}
use Rattle.ct_call.proofs.Enlarged.{part_bytes-le}
use Rattle.ct_call.proofs.Roomed.{may_enlarge}
use Rattle.ct_call.proofs.Rooms.{ready_here}
use Rattle.ct_call.proofs.Spaced.{open_part}
use Rattle.ct_grow.specs.Grown.{IsReady}
use Rattle.ct_commit.specs.Rest.{IsAtRest, IsUnstaged}
use Rattle.ct_call.specs.Plans.{Fits, Plans, free_of, level_of}
use Rattle.ct_call.specs.Rooms.{Gives}
use Rattle.ct_call.specs.declared.plan.CallPlan.{CallPlan}
use Rattle.ct_edit.proofs.Growths.{GrowsTo, grown-growth, grows_at, stays_at}

-- A live file is to hold so many bytes, and its plan, which fits, asks for more then.
pub record Plots (w : List ℕ) (before : FreePages) (i end : ℕ) (more : Partition → List Want) (plan : CallPlan) : Type 0 where
  pub rest : IsAtRest w
  pub unstaged : IsUnstaged w
  pub live : IsLive (view w) (inode_count w) i
  pub file : (inode (view w) i).kind ≡ 1
  pub within : end ≤ 2 ^ 39
  pub plans : Plans w (grown (view w) (inode_count w) (inode (view w) i) (grows_to (inode (view w) i) end) more) plan
  pub fits : Fits w before plan

-- And it has grown to the plan's level, or stayed.
pub record Starts (w mid : List ℕ) (before middle : FreePages) (i end : ℕ) (more : Partition → List Want) (plan : CallPlan) : Type 0 where
  pub plots : Plots w before i end more plan
  pub gives : Gives w mid before middle i (level_of plan.growth)
  pub now : IsReady mid

pub starts : {w mid : List ℕ} {before middle : FreePages} {i end : ℕ} {more : Partition → List Want} {told : Option ℕ} {plan : CallPlan} → Plots w before i end more plan → told ≡ level_of plan.growth → Gives w mid before middle i told → IsReady mid
    → Starts w mid before middle i end more plan
starts {w} {mid} {before} {middle} {i} p level gave now = record { plots = p; gives = subst (λ (o : Option ℕ). Gives w mid before middle i o) level gave; now = now }

module _ {w : List ℕ} {before : FreePages} {i end : ℕ} {more : Partition → List Want} {plan : CallPlan} (p : Plots w before i end more plan) where
  abbrev f : Inode
  f = inode (view w) i

  abbrev next : ℕ → Partition
  next level = next_part (view w) (inode_count w) level

  pub placed_f : IsPlaced (inode (view w) i)
  placed_f = p.rest.sound placed i p.live

  pub goes_to : (o : Option ℕ) → level_of plan.growth ≡ o → grows_to (inode (view w) i) end ≡ o
  goes_to o goes = sym (grown-growth w f (grows_to f end) more) ∙ p.plans.growth ∙ goes

  pub grows : (level : ℕ) → level_of plan.growth ≡ Some level → GrowsTo (inode (view w) i) end level
  grows level goes = grows_at f end level p.within (goes_to (Some level) goes)

  some_free : (level : ℕ) → level_of plan.growth ≡ Some level → free_of w level ≢ []
  some_free = open_part w plan.growth p.fits.opens p.fits.part

  first : (level : ℕ) → level_of plan.growth ≡ Some level → IsFirst (live_parts (view w) (inode_count w)) level (next level)
  first level goes = let head = head_is (free_of w level) (some_free level goes) in first_free (live_parts (view w) (inode_count w)) level (next level) head.0 head.1

  pub next_is : (level : ℕ) → level_of plan.growth ≡ Some level → IsPart (next_part (view w) (inode_count w) level) × ((next_part (view w) (inode_count w) level).level ≡ level)
  next_is level goes = let at = first level goes in (at.part (grows level goes).high, at.level)

  wider : (level : ℕ) → level_of plan.growth ≡ Some level → (f.level ≡ 15) ⊎ (f.level < level)
  wider level goes = elim (cases_eq f.level 15) [ inl none ↦ inl none | inr has ↦ inr ((grows level goes).more has) ]

  pub enlarges : (level : ℕ) → level_of plan.growth ≡ Some level → (inode (view w) i).level ≢ 15 → Enlarges (inode (view w) i) (next_part (view w) (inode_count w) level)
  enlarges level goes = may_enlarge p.rest p.live (first level goes) (grows level goes).high (wider level goes)

  pub larger : (level : ℕ) → level_of plan.growth ≡ Some level → Owns (view w) (inode_count w) i → part_bytes (inode (view w) i).level ≤ part_bytes level
  larger level goes owns = elim (wider level goes) [ inl none ↦ absurd (omega (arith, none, owns.level)) | inr less ↦ part_bytes-le f.level level (omega (arith, less)) ]

  -- what the plan counts
  pub counts_grown : (level : ℕ) → level_of plan.growth ≡ Some level → missing w plan.wants ≡ missing w (growth_wants (inode (view w) i) (next_part (view w) (inode_count w) level) ++ more (next_part (view w) (inode_count w) level))
  counts_grown level goes = p.plans.need p.fits.opens ∙ ap (λ g. missing w (grown (view w) (inode_count w) f g more).wants) (goes_to (Some level) goes)

  pub counts_here : level_of plan.growth ≡ None → missing w plan.wants ≡ missing w (more (part (inode (view w) i)))
  counts_here goes = p.plans.need p.fits.opens ∙ ap (λ g. missing w (grown (view w) (inode_count w) f g more).wants) (goes_to None goes)

  -- the file can grow where the plan says so
  pub can_grow : {told : Option ℕ} → told ≡ level_of plan.growth → (level : ℕ) → told ≡ Some level → CanGrow w i level × (growth_need w (inode (view w) i) level ≤ length before.free)
  can_grow is level some =
      let goes = sym is ∙ some in (
        record { ready = ready_here p.rest p.unstaged; live = p.live; fits = (grows level goes).high; more = wider level goes; some = some_free level goes },
        omega (arith, missing_first w (growth_wants f (next level)) (more (next level)), counts_grown level goes, p.fits.pages),
      )

  -- the partition holds the bytes where the file stays
  pub stays_in : level_of plan.growth ≡ None → HasRoom (inode (view w) i) × (end ≤ part_bytes (inode (view w) i).level)
  stays_in goes = stays_at f end placed_f (goes_to None goes)

  pub next_holds : (level : ℕ) → level_of plan.growth ≡ Some level → end ≤ part_bytes (next_part (view w) (inode_count w) level).level
  next_holds level goes = subst (λ l. end ≤ part_bytes l) (sym (next_is level goes).1) (grows level goes).holds
