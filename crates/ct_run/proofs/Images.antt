-- How a run over an image ends whose device was not mounted, and where one that was stands.
use Rattle.std.proofs.Common.{◌≡◌, ◌≢◌, ◌⊎◌, ℕ, ◌<◌, ◌≤◌, List, Option, None, Some, true≢false, refl, sym, inl, inr, ap, subst, ◌∙◌, arith}
use Rattle.std.specs.Prelude.{IsSome}
use Rattle.ct_base.specs.Head.{HasHead}
use Rattle.ct_call.specs.Seen.{dev_in, faults_in}
use Rattle.ct_call.specs.declared.mount.State.{State}
use Rattle.ct_call.specs.declared.mount.State.TheVariants.{Ready, Dead}
use Rattle.ct_call.specs.declared.mount.Why.{Why}
use Rattle.ct_call.specs.declared.mount.Why.TheVariants.{Damage, Fault, Memory}
use Rattle.ct_check.proofs.Firsts.{first_body, one_first}
use Rattle.ct_check.proofs.Heads.{head_most}
use Rattle.ct_check.proofs.Order.{number_least}
use Rattle.ct_check.specs.First.{MountHolds, MountRule, body, head}
use Rattle.ct_fs.specs.Mounts.{fs_dev}
use Rattle.ct_fs.specs.declared.system.Fs.{Fs}
use Rattle.ct_mount.specs.Mounting.{IsFirst, IsSettledFrom, Judges}
use Rattle.ct_state.proofs.Landing.{lands_where}
use Rattle.ct_state.proofs.States.{head_of, head_rules}
use Rattle.ct_tree.specs.Lands.{Lands}
use Rattle.ct_tree.specs.Ordered.{IsTree}
use Rattle.ct_tree.specs.Tree.{Tree}
use Rattle.ct_shell.proofs.Kept.{dev_moment}
use Rattle.ct_shell.specs.Moments.{Moment, moment, moment_in}
use Rattle.ct_run.specs.Ends.{status_of}
use Rattle.ct_run.specs.Images.{IsRefusal, Mounts, Settles}
use Rattle.ct_run.specs.Ways.{IsMounting}
use Rattle.ct_run.specs.declared.opening.Way.TheVariants.{Mounting}
use Rattle.ct_run.specs.declared.status.Status.{Status}
use Rattle.ct_run.specs.declared.status.Status.TheVariants.{NotImage}

module _ (words : List ℕ) where
  -- where a mount was judged good, there is a tree
  pub tree_of : ((r : MountRule) → MountHolds words r) → (t : Tree) × IsTree t × Lands words t
  tree_of holds = lands_where words (head_of (λ r. holds (head r))) (λ r. holds (body r))

  first_at : (n rule : ℕ) → IsFirst words n → IsFirst words rule → n ≡ rule
  first_at n rule (r, is, f) (s, at, g) = sym is ∙ one_first words r s f g ∙ at

  -- below 8 there is no head, and from 8 on there is one
  past_head : (n : ℕ) → IsFirst words n → (n < 8) ⊎ HasHead words
  past_head n (head r, is, f) = let most = head_most r in inl (omega (arith, is, most))
  past_head n (body r, is, f) = inr (first_body words r f).0

  late : (rule : ℕ) → HasHead words → IsFirst words rule → 8 ≤ rule
  late rule has (head r, is, f) = absurd (f.fails (head_rules has r))
  late rule has (body r, is, f) = let least = number_least r in omega (arith, is, least)

  pub refused_rule : (why : Why) (status : Status) (rule : ℕ) → status ≡ status_of why → Judges words (Some why) → IsFirst words rule → IsRefusal rule status
  refused_rule (Damage n) status rule of first is = inl (of ∙ ap (λ k. NotImage k) (first_at n rule first is))
  refused_rule Fault status rule of has is = inr (inr (of, late rule has is))
  refused_rule Memory status rule of has is = inr (inl of)

-- a device that was to be mounted and was not is as it was, or was settled
pub settled_or_not : {D : Type 0} (why : Why) (dev dev' : D) (from to : Moment) → why ≢ Fault → Judges from.words (Some why)
    → ((rule : ℕ) → why ≡ Damage rule → rule < 8 → dev' ≡ dev) → (HasHead from.words → Some why ≢ Some Fault → IsSettledFrom from.words to.words to.told) → Mounts from to → (dev' ≡ dev) ⊎ (IsMounting Mounting × Settles from to)
settled_or_not (Damage n) dev dev' from to whole first low settled mounts = elim (past_head from.words n first) [
  | inl lt ↦ inl (low n refl lt)
  | inr has ↦ inr (tt, record { head = has; mounts = mounts; settled = settled has (λ is. absurd (cc)) })
]
settled_or_not Fault dev dev' from to whole has low settled mounts = absurd (whole refl)
settled_or_not Memory dev dev' from to whole has low settled mounts = inr (tt, record { head = has; mounts = mounts; settled = settled has (λ is. absurd (cc)) })

-- where all rules hold, none fails
pub none_first : (words : List ℕ) → ((r : MountRule) → MountHolds words r) → (rule : ℕ) → IsFirst words rule → ⊥
none_first words holds rule (r, is, first) = first.fails (holds r)

-- a file system that was mounted stands from then on
pub settles_at : {D : Type 0} {bound : _} (fs : Fs D bound) (from : Moment) → Settles from (moment (bound.told (fs_dev fs)) (bound.words (fs_dev fs))) → Settles from (moment_in fs.state)
settles_at fs from settles = subst (Settles from) (dev_moment fs.state fs.here) settles

pub dev_faults : {D : Type 0} {bound : _} (state : Option (State D bound)) (here : IsSome state) → bound.faults (dev_in state here) ≡ faults_in state
dev_faults None here = absurd (true≢false (sym here))
dev_faults (Some (Ready mounted)) here = refl
dev_faults (Some (Dead failed)) here = refl
