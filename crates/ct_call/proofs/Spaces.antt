-- An answer of the image is an answer of the tree with so many inodes, for every call that changes the tree.
use Rattle.std.proofs.Common.{◌≡◌, ℕ, zero, suc, ◌+◌, ◌<◌, ◌≤◌, List, Option, Some, None, Result, Ok, Err, refl, sym, ap, subst, ◌∙◌, inl, inr, arith, true≢false, if◌then◌else◌}
use Rattle.std.specs.Prelude.{IsNone, nat_le, nat_lt, ◌==◌, ◌||◌, length}
use Rattle.std.proofs.lemmas.Bool.{cases_Bool, cond-true, cond-false}
use Rattle.ct_base.specs.declared.inode.Inode.{Inode}
use Rattle.ct_base.specs.Inode.{inode, Partition, part_bytes}
use Rattle.ct_base.specs.Plan.{Plan, cut_wants, entry_plan, exchange_plan, first_free_number, give_up_wants, grown, grows_to, level_for, level_from, no_plan, plan_of, truncate_plan, write_plan, write_wants}
use Rattle.ct_base.specs.Slots.{free_slot}
use Rattle.ct_base.specs.View.{view, inode_count}
use Rattle.ct_base.specs.Wants.{Want}
use Rattle.ct_state.proofs.LiveNodes.{full_none, nodes_crowded, none_full, some_room}
use Rattle.ct_tree.specs.Lands.{files}
use Rattle.ct_tree.specs.Need.{HasPlan}
use Rattle.ct_tree.specs.Runs.{CallAnswers, WantsInode, WantsSpace}
use Rattle.ct_tree.specs.Step.{Op, create, mkdir, write, fill, append, read, truncate, unlink, rmdir, rename, exchange, stat, list, locate, answered, effect, refusal, step}
use Rattle.ct_tree.specs.Tree.{Tree, nodes}
use Rattle.ct_tree.specs.declared.call.Refusal.{Refusal}
use Rattle.ct_tree.specs.declared.call.Refusal.TheVariants.{BadPath, NotFound, NotDir, IsDir, Exists, NotEmpty, IntoSelf, IsRoot, TooBig, BadRange, Overlap, TooLong, NoInode, NoPartition, NoPages}
use Rattle.ct_tree.specs.declared.call.Reply.{Reply}
use Rattle.ct_tree.specs.declared.call.Reply.TheVariants.{Done, Refused as refused}
use Rattle.ct_call.specs.Answers.{CanStart, ForSpace, IsAnswer, IsRefused, IsTold, LacksInode, LacksPartition, LacksPages}
use Rattle.ct_call.specs.Calls.{StandsFor}
use Rattle.ct_commit.specs.Rest.{IsAtRest}
use Rattle.ct_call.specs.declared.mount.FsError.{FsError}
use Rattle.ct_call.specs.declared.mount.FsError.TheVariants.{Dead, Refused, Fault}

-- ---- no object grows past level 9

level_most : (steps n end : ℕ) → level_from steps n end ≤ n + steps
unfolding level_from
level_most zero n end = omega arith
level_most (suc steps) n end = elim (cases_Bool (nat_le end (part_bytes n))) [
  | inl t ↦ rw t (omega arith)
  | inr u ↦ rw u (omega (arith, level_most steps (n + 1) end))
]

grows_low : (f : Inode) (end level : ℕ) → grows_to f end ≡ Some level → level ≤ 9
grows_low f end level is = elim (cases_Bool ((f.level == 15) || nat_lt (part_bytes f.level) end)) [
  | inl t ↦
      let both : Some (level_for end) ≡ Some level = sym (cond-true _ _ _ t) ∙ is in
      let same : level_for end ≡ level = cc in
      omega (arith, same, level_most 9 0 end)
  | inr u ↦
      let both : None ≡ Some level = sym (cond-false ((f.level == 15) || nat_lt (part_bytes f.level) end) (Some (level_for end)) None u) ∙ is in
      absurd (cc)
]

growth_low : (f : Inode) (o level : ℕ) → (if nat_lt f.size (o + 256) then grows_to f (o + 256) else None) ≡ Some level → level ≤ 9
growth_low f o level is = elim (cases_Bool (nat_lt f.size (o + 256))) [
  | inl t ↦ grows_low f (o + 256) level (sym (cond-true _ _ _ t) ∙ is)
  | inr u ↦
      let both : None ≡ Some level = sym (cond-false (nat_lt f.size (o + 256)) (grows_to f (o + 256)) None u) ∙ is in
      absurd (cc)
]

-- the growth of a plan is low
IsLow : Plan → Type 0
IsLow plan = (level : ℕ) → plan.growth ≡ Some level → level ≤ 9

still_low : (plan : Plan) → plan.growth ≡ None → IsLow plan
unfolding IsLow
still_low plan none level is = let both : None ≡ Some level = sym none ∙ is in absurd (cc)

grown_low : (b : ℕ → ℕ) (count : ℕ) (f : Inode) (g : Option ℕ) (more : Partition → List Want) → ((level : ℕ) → g ≡ Some level → level ≤ 9) → IsLow (grown b count f g more)
unfolding IsLow
grown_low b count f None more low level is = low level is
grown_low b count f (Some n) more low level is = low level is

if_low : (t : Rattle.std.specs.Prelude.Bool) (p q : Plan) → IsLow p → IsLow q → IsLow (if t then p else q)
if_low t p q first second = elim (cases_Bool t) [
  | inl is ↦ subst IsLow (sym (cond-true t p q is)) first
  | inr is ↦ subst IsLow (sym (cond-false t p q is)) second
]

entry_low : (b : ℕ → ℕ) (count : ℕ) (f : Inode) (o : ℕ) (more : List Want) → IsLow (entry_plan b count f o more)
entry_low b count f o more = grown_low b count f _ _ (growth_low f o)

write_low : (b : ℕ → ℕ) (count : ℕ) (f : Inode) (off len : ℕ) → IsLow (write_plan b count f off len)
write_low b count f off len = if_low (len == 0) no_plan (grown b count f (grows_to f (off + len)) (write_wants f off len)) (still_low no_plan refl) (grown_low b count f _ _ (grows_low f (off + len)))

truncate_low : (b : ℕ → ℕ) (count : ℕ) (f : Inode) (len : ℕ) → IsLow (truncate_plan b count f len)
truncate_low b count f len =
    if_low (nat_lt f.size len) _ _ (grown_low b count f (grows_to f len) (λ new. Rattle.std.specs.Prelude.[]) (grows_low f len))
    (if_low (len == f.size) no_plan _ (still_low no_plan refl) (if_low (len == 0) (plan_of (give_up_wants f)) (plan_of (cut_wants f len)) (still_low (plan_of (give_up_wants f)) refl) (still_low (plan_of (cut_wants f len)) refl)))

plan_low : (w : List ℕ) (op : Op) (plan : Plan) → HasPlan w op plan → IsLow plan
plan_low w (create path) plan has = subst IsLow (sym has.4) (entry_low (view w) (inode_count w) (inode (view w) has.0) (free_slot (files w has.0)) _)
plan_low w (mkdir path) plan has = subst IsLow (sym has.4) (entry_low (view w) (inode_count w) (inode (view w) has.0) (free_slot (files w has.0)) _)
plan_low w (write path off bytes) plan has = subst IsLow (sym has.2) (write_low (view w) (inode_count w) (inode (view w) has.0) off (length bytes))
plan_low w (fill path off len byte) plan has = subst IsLow (sym has.2) (write_low (view w) (inode_count w) (inode (view w) has.0) off len)
plan_low w (append path bytes) plan has = subst IsLow (sym has.2) (write_low (view w) (inode_count w) (inode (view w) has.0) (inode (view w) has.0).size (length bytes))
plan_low w (read path off len) plan has = subst IsLow (sym has) (still_low no_plan refl)
plan_low w (truncate path len) plan has = subst IsLow (sym has.2) (truncate_low (view w) (inode_count w) (inode (view w) has.0) len)
plan_low w (unlink path) plan has = subst IsLow (sym has.2) (still_low (plan_of (give_up_wants (inode (view w) has.0))) refl)
plan_low w (rmdir path) plan has = subst IsLow (sym has.2) (still_low (plan_of (give_up_wants (inode (view w) has.0))) refl)
plan_low w (rename path to) plan (inl same) = subst IsLow (sym same.1) (still_low no_plan refl)
plan_low w (rename path to) plan (inr (other, inl gone)) = subst IsLow (sym gone.2) (still_low (plan_of (give_up_wants (inode (view w) gone.0))) refl)
plan_low w (rename path to) plan (inr (other, inr named)) =
    let i = named.1.0 in
    let k = named.1.1 in
    subst IsLow (sym named.1.4) (if_low (i == k) no_plan _ (still_low no_plan refl) (entry_low (view w) (inode_count w) (inode (view w) k) (free_slot (files w k)) Rattle.std.specs.Prelude.[]))
plan_low w (exchange path off other other_off len) plan has =
    let p = exchange_plan (inode (view w) has.0) off (inode (view w) has.1) other_off len in
    subst IsLow (sym has.4) (if_low (len == 0) no_plan p (still_low no_plan refl) (still_low p refl))
plan_low w (stat path) plan has = subst IsLow (sym has) (still_low no_plan refl)
plan_low w (list path) plan has = subst IsLow (sym has) (still_low no_plan refl)
plan_low w (locate path) plan has = subst IsLow (sym has) (still_low no_plan refl)

low : (plan : Plan) → IsLow plan → (level : ℕ) → plan.growth ≡ Some level → level ≤ 9
unfolding IsLow
low plan is = is

-- ---- the answers

effect_done : (t : Tree) (op : Op) → WantsSpace op → effect t op ≡ (Done, (effect t op).1)
effect_done t (create path) changes = refl
effect_done t (mkdir path) changes = refl
effect_done t (write path off bytes) changes = refl
effect_done t (fill path off len byte) changes = refl
effect_done t (append path bytes) changes = refl
effect_done t (read path off len) changes = absurd changes
effect_done t (truncate path len) changes = refl
effect_done t (unlink path) changes = refl
effect_done t (rmdir path) changes = refl
effect_done t (rename path to) changes = refl
effect_done t (exchange path off other other_off len) changes = refl
effect_done t (stat path) changes = absurd changes
effect_done t (list path) changes = absurd changes
effect_done t (locate path) changes = absurd changes

module _ {w : List ℕ} {t : Tree} (rest : IsAtRest w) (st : StandsFor w t) (op : Op) (changes : WantsSpace op) where
  has_room : (o : Option ℕ) → first_free_number (view w) (inode_count w) ≡ o → (first_free_number (view w) (inode_count w) ≡ None → ⊥) → nodes t < inode_count w
  has_room None none some = absurd (some none)
  has_room (Some i) is some = some_room w t rest.sound st.tree st.stands i is

  -- a call that can start is done, and an inode was free
  started : CanStart w t op → CallAnswers (inode_count w) t op Done (step t op).1
  started can =
      let is : step t op ≡ (Done, (effect t op).1) = ap (λ r. answered r t (effect t op)) can.allowed ∙ effect_done t op changes in
      (ap (λ (p : Reply × Tree). (Done, p.1)) is ∙ sym is, λ allowed node. has_room (first_free_number (view w) (inode_count w)) refl (λ none. can.inode (node, none)))

  by_tree : (r : Refusal) → refusal t op ≡ Some r → CallAnswers (inode_count w) t op (refused r) t
  by_tree r is = inl (sym (ap (λ o. answered o t (effect t op)) is), λ allowed node. absurd (true≢false (subst IsNone is allowed)))

  -- no inode is left only where there are as many nodes
  full : ¬ LacksInode w op → WantsInode (inode_count w) t op → ⊥
  full lacks wants = lacks (wants.1, full_none w t rest.sound st.tree st.stands wants.2)

  for_space : (r : Refusal) → refusal t op ≡ None → ForSpace w op r → CallAnswers (inode_count w) t op (refused r) t
  for_space NoInode allowed lacks = inr ((subst IsNone (sym allowed) refl, lacks.0, none_full w t rest.sound st.tree st.stands lacks.1), refl)
  for_space (NoPartition level) allowed space =
      let lacks : LacksPartition w op level = space.1 in
      let most : level ≤ 9 = low lacks.1.0 (plan_low w op lacks.1.0 lacks.1.1) level lacks.1.2 in
      inr ((subst IsNone (sym allowed) refl, changes, nodes_crowded w t rest.sound st.tree st.stands level most lacks.2, full space.0, most), refl)
  for_space (NoPages free need) allowed space =
      let lacks : LacksPages w op free need = space.2 in
      inr ((subst IsNone (sym allowed) refl, changes, full space.0, lacks.2), refl)
  for_space BadPath allowed space = absurd space
  for_space NotFound allowed space = absurd space
  for_space NotDir allowed space = absurd space
  for_space IsDir allowed space = absurd space
  for_space Exists allowed space = absurd space
  for_space NotEmpty allowed space = absurd space
  for_space IntoSelf allowed space = absurd space
  for_space IsRoot allowed space = absurd space
  for_space TooBig allowed space = absurd space
  for_space BadRange allowed space = absurd space
  for_space Overlap allowed space = absurd space
  for_space TooLong allowed space = absurd space

  pub is_told : {T : Type 0} (result : Result T FsError) → IsAnswer w t op result → IsTold (inode_count w) t op result
  is_told (Ok value) can = started can
  is_told (Err Dead) none = none
  is_told (Err (Refused r)) (inl is) = by_tree r is
  is_told (Err (Refused r)) (inr space) = for_space r space.0 space.1
  is_told (Err Fault) can = tt

-- ---- and a call that can start is not refused

for_none : {w : List ℕ} {t : Tree} {op : Op} → CanStart w t op → (r : Refusal) → ForSpace w op r → ⊥
for_none can NoInode lacks = can.inode lacks
for_none can (NoPartition level) space = can.partition level space.1
for_none can (NoPages free need) space = can.pages free need space.2
for_none can BadPath space = space
for_none can NotFound space = space
for_none can NotDir space = space
for_none can IsDir space = space
for_none can Exists space = space
for_none can NotEmpty space = space
for_none can IntoSelf space = space
for_none can IsRoot space = space
for_none can TooBig space = space
for_none can BadRange space = space
for_none can Overlap space = space
for_none can TooLong space = space

pub not_refused : {w : List ℕ} {t : Tree} {op : Op} → CanStart w t op → (r : Refusal) → IsRefused w t op r → ⊥
not_refused can r (inl is) = let both : None ≡ Some r = sym can.allowed ∙ is in absurd (cc)
not_refused can r (inr space) = for_none can r space.1
