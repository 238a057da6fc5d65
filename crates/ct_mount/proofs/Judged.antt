-- Which rule fails first, and what is mounted where none does.
use Rattle.std.proofs.Common.{◌≡◌, ℕ, List, Option, Some, None, ◌+◌, sym, ◌∙◌, subst, arith}
use Rattle.std.specs.Prelude.{IfOk, Result, Ok, Err}
use Rattle.ct_base.specs.Head.{HasHead}
use Rattle.ct_base.specs.Rules.{FailsFirst, Rule}
use Rattle.ct_base.specs.Settled.{settled}
use Rattle.ct_base.specs.State.{SameState}
use Rattle.ct_base.specs.View.{inode_count}
use Rattle.ct_check.specs.First.{MountHolds, MountRule, body, head as head_rule}
use Rattle.ct_check.specs.Heads.{HeadTells}
use Rattle.ct_check.specs.Rules.{HasNoStaging}
use Rattle.ct_check.proofs.Firsts.{all_hold, body_first, head_first}
use Rattle.ct_call.specs.Calls.{Holds}
use Rattle.ct_call.specs.NotMounted.{image_dev}
use Rattle.ct_call.specs.Mounted.{Volume}
use Rattle.ct_commit.specs.Rest.{IsAtRest}
use Rattle.ct_call.specs.declared.mount.NoMount.{NoMount}
use Rattle.ct_call.specs.declared.mount.Why.{Why}
use Rattle.ct_call.specs.declared.mount.Why.TheVariants.{Damage, Fault, Memory}
use Rattle.ct_mount.specs.Mounting.{Finds, IsFirst, IsSettledFrom, Judges}
use Rattle.ct_mount.proofs.Agreeing.{agree_back, off_agree, off_rule}
use Rattle.ct_pm.specs.Images.{History}
use Rattle.ct_state.proofs.Carry.{files-same}
use Rattle.ct_state.proofs.Head.{settled_inodes}
use Rattle.ct_state.proofs.Settle.{AgreeOffRecord, alike_off, settled_unstaged}
use Rattle.ct_state.proofs.States.{head_of, head_rules}
use Rattle.ct_tree.specs.Lands.{Lands}
use Rattle.ct_tree.specs.Ordered.{IsTree}
use Rattle.ct_tree.specs.Stands.{Stands}
use Rattle.ct_tree.specs.Tree.{Tree}

pub first_head : (img : List ℕ) (n : ℕ) → HeadTells img n → IsFirst img n
first_head img n (r, is, first) = (head_rule r, is, head_first img r first)

module _ {was now : List ℕ} {told : Option History} (head : HasHead was) (s : IsSettledFrom was now told) where
  agree : AgreeOffRecord (settled was) now
  agree = off_agree s.words

  back : (r : Rule) → FailsFirst now r → FailsFirst (settled was) r
  back r f = record { fails = λ h. f.fails (off_rule agree r h); before = λ s' lt. off_rule (agree_back agree) s' (f.before s' lt) }

  -- the rules of the settled words are those of what they settle to
  pub judges : (why : Option Why) → Finds now why → Judges was why
  judges None sound = all_hold was head (λ r. off_rule (agree_back agree) r (sound r))
  judges (Some (Damage n)) (r, is, first) = (body r, is, body_first was r head (back r first))
  judges (Some Fault) none = head
  judges (Some Memory) free = head

  pub unstaged : HasNoStaging now
  unstaged k lt = s.words.others (16898 + k) (λ inside. omega (arith, inside.1)) ∙ settled_unstaged was k lt

  pub holds : IsAtRest now → (t : Tree) → IsTree t → Lands was t → Holds (inode_count was) t now told
  holds rest t tree lands = record {
    rest = rest;
    unstaged = unstaged;
    stands = record { tree = tree; stands = subst (λ fs. Stands fs 1 t) (sym (files-same (alike_off agree))) lands.stands };
    lasts = s.lasts;
    counted = (alike_off agree).inodes ∙ settled_inodes was head.recorded;
  }

-- where a volume is made
pub holds_made : {D : Type 0} {was : List ℕ} (words : D → List ℕ) (told : D → Option History) (dev : D) (result : Result (Volume D) (NoMount D)) → HasHead was → IsSettledFrom was (words dev) (told dev)
    → IfOk result (λ made. IsAtRest (words dev)) → image_dev result ≡ dev → IfOk result (λ made. (t : Tree) → IsTree t → Lands was t → Holds (inode_count was) t (words made.dev) (told made.dev))
holds_made {was = was} words told dev (Ok made) head s rest is = λ t tree lands. subst (λ d. Holds (inode_count was) t (words d) (told d)) (sym is) (holds head s rest t tree lands)
holds_made words told dev (Err no_mount) head s rest is = tt

-- ---- words of the same state

module _ {was now : List ℕ} (s : SameState was now) where
  head_back : HasHead now → HasHead was
  head_back h = head_of (λ r. (s.head r).1 (head_rules h r))

  forth : (r : MountRule) → MountHolds was r → MountHolds now r
  forth (head_rule r) h = (s.head r).0 h
  forth (body r) h = (s.rules r).0 h

  back_at : (r : MountRule) → MountHolds now r → MountHolds was r
  back_at (head_rule r) h = (s.head r).1 h
  back_at (body r) h = (s.rules r).1 h

  -- are judged alike
  pub judges_same : (why : Option Why) → Judges now why → Judges was why
  judges_same None all = λ r. back_at r (all r)
  judges_same (Some (Damage n)) (r, is, first) = (r, is, record { fails = λ h. first.fails (forth r h); before = λ s' lt. back_at s' (first.before s' lt) })
  judges_same (Some Fault) h = head_back h
  judges_same (Some Memory) h = head_back h

  -- and have as many inodes
  pub count_same : HasHead was → inode_count now ≡ inode_count was
  count_same h =
      let on : HasHead now = head_of (λ r. (s.head r).0 (head_rules h r)) in
      sym (settled_inodes now on.recorded) ∙ s.inodes ∙ settled_inodes was h.recorded

-- words that are judged without a fault have a head
pub judged_head : {img : List ℕ} → ((r : MountRule) → MountHolds img r) → HasHead img
judged_head all = head_of (λ r. all (head_rule r))
