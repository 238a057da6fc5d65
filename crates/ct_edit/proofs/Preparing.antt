-- A write is planned: it is refused as the tree says, and there is one plan.
use Rattle.std.proofs.Common.{◌≡◌, ℕ, ◌+◌, ◌≤◌, List, [], ◌∷◌, length, Option, Ok, Some, None, refl, sym, ap, subst, ◌∙◌, arith}
use Rattle.std.specs.Prelude.{not, replicate}
use Rattle.std.proofs.lemmas.Bool.{le-leb, lt-leb}
use Rattle.ct_base.specs.declared.inode.Inode.{Inode}
use Rattle.ct_base.specs.Inode.{inode}
use Rattle.ct_base.specs.Free.{HasFreePages}
use Rattle.ct_base.specs.Objects.{Object}
use Rattle.ct_base.specs.Plan.{Plan}
use Rattle.ct_base.specs.Rules.{IsPlaced, apart, headers, names as names_apart, placed}
use Rattle.ct_base.specs.View.{view, inode_count}
use Rattle.ct_base.specs.Wants.{missing}
use Rattle.ct_frames.specs.Free.{FreePages}
use Rattle.ct_parts.proofs.Live.{live_stand}
use Rattle.ct_state.proofs.Bytes.{objects-in}
use Rattle.ct_state.proofs.Resolve.{leads_once}
use Rattle.ct_tree.specs.Checks.{above, at, bad_path, first_of, names, no_file, refuse_if}
use Rattle.ct_tree.specs.Content.{bytes_in, resized, written}
use Rattle.ct_tree.specs.Lands.{files}
use Rattle.ct_tree.specs.Need.{HasPlan, IsAt, NeedsRoomIn}
use Rattle.ct_tree.specs.Resolve.{put}
use Rattle.ct_tree.specs.Step.{effect, file_limit, refusal, size_at}
use Rattle.ct_tree.specs.Stands.{IsFile}
use Rattle.ct_tree.specs.Tree.{Tree, File}
use Rattle.ct_tree.specs.declared.call.Refusal.{Refusal}
use Rattle.ct_tree.specs.declared.call.Refusal.TheVariants.{TooBig}
use Rattle.ct_call.proofs.Spaced.{only_need}
use Rattle.ct_call.specs.Answers.{HasOnlyPlan, LacksInode}
use Rattle.ct_call.specs.Calls.{IsChange, StandsFor}
use Rattle.ct_commit.specs.Rest.{IsAtRest}
use Rattle.ct_call.specs.Placed.{EntersAt, IsMoved, Places, Replaces}
use Rattle.ct_call.specs.Plans.{Fits, Plans, level_of}
use Rattle.ct_call.specs.declared.plan.CallPlan.{CallPlan}
use Rattle.ct_edit.proofs.Told.{MakesBytes}
use Rattle.ct_find.proofs.Spotting.{one_more}
use Rattle.ct_find.specs.Files.{IsFileAt, IsNoFile}
use Rattle.ct_edit.specs.Planned.{CanPlan}
use Rattle.ct_edit.specs.Edits.{IsReplaced, edit_op, task_change, task_end, task_of, task_plan}
use Rattle.ct_edit.specs.declared.edit.Edit.{Edit}
use Rattle.ct_edit.specs.declared.edit.Edit.TheVariants.{Write, Fill, Append, Truncate}
use Rattle.ct_edit.specs.declared.edit.Task.{Task}

-- ---- refusals

one_check : (last : Option Refusal) → first_of (last ∷ []) ≡ last
one_check None = refl
one_check (Some r) = refl

-- what the path's file passes leaves the last check
last_check : (t : Tree) (path bytes : List ℕ) (last : Option Refusal) → bad_path path ≡ None → at t path ≡ Ok (File bytes) → first_of (bad_path path ∷ no_file (at t path) ∷ last ∷ []) ≡ last
last_check t path bytes last valid is =
    ap (λ q. first_of (q ∷ no_file (at t path) ∷ last ∷ [])) valid ∙ ap (λ n. first_of (no_file n ∷ last ∷ [])) is ∙ one_check last

pub is_above : (n : ℕ) → (n ≤ file_limit → ⊥) → above n file_limit TooBig ≡ Some TooBig
is_above n past = ap (λ b. refuse_if (not b) TooBig) (lt-leb n file_limit (omega (arith, past)))

pub not_above : (n : ℕ) → n ≤ file_limit → above n file_limit TooBig ≡ None
not_above n le = ap (λ b. refuse_if (not b) TooBig) (le-leb n file_limit le)

-- no file is there
pub no_file_refused : (path : List ℕ) (edit : Edit) (t : Tree) (r : Refusal) → IsNoFile t path r → refusal t (edit_op path edit) ≡ Some r
no_file_refused path (Write off bytes) t r is = one_more (bad_path path) (no_file (at t path)) _ is
no_file_refused path (Fill off len byte) t r is = one_more (bad_path path) (no_file (at t path)) _ is
no_file_refused path (Append bytes) t r is = one_more (bad_path path) (no_file (at t path)) _ is
no_file_refused path (Truncate len) t r is = one_more (bad_path path) (no_file (at t path)) _ is

-- where there is one its end decides
end_decides : (path : List ℕ) (edit : Edit) (t : Tree) (was : List ℕ) → bad_path path ≡ None → at t path ≡ Ok (File was) → refusal t (edit_op path edit) ≡ above (task_end (task_of edit (length was))) file_limit TooBig
end_decides path (Write off bytes) t was valid is = last_check t path was _ valid is
end_decides path (Fill off len byte) t was valid is = last_check t path was _ valid is
end_decides path (Append bytes) t was valid is =
    last_check t path was (above (size_at t path + length bytes.now) file_limit TooBig) valid is ∙ ap (λ n. above (length (bytes_in n) + length bytes.now) file_limit TooBig) is
end_decides path (Truncate len) t was valid is = last_check t path was _ valid is

module _ {w path : List ℕ} {i : ℕ} {f : Inode} (found : IsFileAt w path i f) where
  size_is : {bytes : List ℕ} → IsFile (files w i) bytes → length bytes ≡ f.size
  size_is file = sym file.size ∙ ap (λ (o : Object). o.size) (objects-in (view w) (inode_count w) i found.live.number) ∙ ap (λ (g : Inode). g.size) found.is

  pub end_of : (edit : Edit) (t : Tree) → StandsFor w t → {task : Task} → task ≡ task_of edit f.size → refusal t (edit_op path edit) ≡ above (task_end task) file_limit TooBig
  end_of edit t st is =
      let node = found.node t st in
      end_decides path edit t node.0 found.valid node.1 ∙ ap (λ n. above (task_end (task_of edit n)) file_limit TooBig) (size_is node.2) ∙ ap (λ k. above (task_end k) file_limit TooBig) (sym is)

  pub can_plan : IsAtRest w → CanPlan w f
  can_plan rest = record {
    tables = rest.tables;
    stand = live_stand (view w) (inode_count w) (rest.sound placed) (rest.sound apart) (rest.sound headers);
    placed = subst IsPlaced found.is (rest.sound placed i found.live);
  }

-- ---- the plan

pub takes_no_inode : (w path : List ℕ) (edit : Edit) → ¬ LacksInode w (edit_op path edit)
takes_no_inode w path (Write off bytes) lacks = lacks.0
takes_no_inode w path (Fill off len byte) lacks = lacks.0
takes_no_inode w path (Append bytes) lacks = lacks.0
takes_no_inode w path (Truncate len) lacks = lacks.0

-- the plan for object i
abbrev plan_at : List ℕ → Edit → ℕ → Plan
plan_at w edit i = task_plan (view w) (inode_count w) (inode (view w) i) (task_of edit (inode (view w) i).size)

to_plan : (w path : List ℕ) (edit : Edit) (p : Plan) → HasPlan w (edit_op path edit) p → (i : ℕ) × IsAt w path i × (p ≡ plan_at w edit i)
to_plan w path (Write off bytes) p has = has
to_plan w path (Fill off len byte) p has = has
to_plan w path (Append bytes) p has = has
to_plan w path (Truncate len) p has = has

from_plan : (w path : List ℕ) (edit : Edit) (p : Plan) → (i : ℕ) × IsAt w path i × (p ≡ plan_at w edit i) → HasPlan w (edit_op path edit) p
from_plan w path (Write off bytes) p has = has
from_plan w path (Fill off len byte) p has = has
from_plan w path (Append bytes) p has = has
from_plan w path (Truncate len) p has = has

needs_room : (w path : List ℕ) (edit : Edit) (i : ℕ) → IsAt w path i → NeedsRoomIn w (edit_op path edit) i
needs_room w path (Write off bytes) i leads = leads
needs_room w path (Fill off len byte) i leads = leads
needs_room w path (Append bytes) i leads = leads
needs_room w path (Truncate len) i leads = leads

room_at : (w path : List ℕ) (edit : Edit) (i : ℕ) → NeedsRoomIn w (edit_op path edit) i → IsAt w path i
room_at w path (Write off bytes) i leads = leads
room_at w path (Fill off len byte) i leads = leads
room_at w path (Append bytes) i leads = leads
room_at w path (Truncate len) i leads = leads

module _ {w path : List ℕ} {i : ℕ} {f : Inode} (rest : IsAtRest w) (found : IsFileAt w path i f) where
  -- the path leads to one object
  one_file : (j : ℕ) → IsAt w path j → j ≡ i
  one_file j leads = leads_once (files w) (rest.sound names_apart) 1 j i (names path) leads found.leads

  module _ (edit : Edit) {task : Task} (is : task ≡ task_of edit f.size) where
    by_inode : plan_at w edit i ≡ task_plan (view w) (inode_count w) f task
    by_inode = ap (λ g. task_plan (view w) (inode_count w) g (task_of edit g.size)) found.is ∙ ap (task_plan (view w) (inode_count w) f) (sym is)

    pub only_plan : HasOnlyPlan w (edit_op path edit) (task_plan (view w) (inode_count w) f task)
    only_plan = record {
      has = from_plan w path edit _ (i, found.leads, sym by_inode);
      only = λ p has. let at = to_plan w path edit p has in at.2 ∙ ap (plan_at w edit) (one_file at.0 at.1) ∙ by_inode;
      object = λ level goes. (i, needs_room w path edit i found.leads);
    }

-- ---- what the call does

-- the tree's file gets these bytes
makes_bytes : (path : List ℕ) (edit : Edit) {size : ℕ} (t : Tree) (was : List ℕ) → length was ≡ size → at t path ≡ Ok (File was) → (effect t (edit_op path edit)).1 ≡ put t (names path) (File (task_change (task_of edit size) was))
makes_bytes path (Write off bytes) t was size is = ap (λ n. put t (names path) (File (written (bytes_in n) off bytes.now))) is
makes_bytes path (Fill off len byte) t was size is = ap (λ n. put t (names path) (File (written (bytes_in n) off (replicate len byte)))) is
makes_bytes path (Append bytes) t was size is =
    ap (λ n. put t (names path) (File (written (bytes_in n) (length (bytes_in n)) bytes.now))) is ∙ ap (λ k. put t (names path) (File (written was k bytes.now))) size
makes_bytes path (Truncate len) t was size is = ap (λ n. put t (names path) (File (resized len (bytes_in n)))) is

pub changes : (path : List ℕ) (edit : Edit) → IsChange (edit_op path edit)
changes path (Write off bytes) = tt
changes path (Fill off len byte) = tt
changes path (Append bytes) = tt
changes path (Truncate len) = tt

enters : (old new path : List ℕ) (edit : Edit) → EntersAt old new (edit_op path edit)
enters old new path (Write off bytes) = tt
enters old new path (Fill off len byte) = tt
enters old new path (Append bytes) = tt
enters old new path (Truncate len) = tt

-- and the touched pages are others
replacing : (old new path : List ℕ) (edit : Edit) (i : ℕ) {level : ℕ} → IsMoved (IsReplaced (task_of edit (inode (view old) i).size)) old new i level → IsMoved (Replaces old (edit_op path edit) i) old new i level
replacing old new path (Write off bytes) i moved = moved
replacing old new path (Fill off len byte) i moved = moved
replacing old new path (Append bytes) i moved = moved
replacing old new path (Truncate len) i moved = moved

module _ {w path : List ℕ} {i : ℕ} {f : Inode} (found : IsFileAt w path i f) (edit : Edit) {task : Task} (is : task ≡ task_of edit f.size) where
  pub bytes_made : MakesBytes w path i (edit_op path edit) (task_change task)
  bytes_made = record { makes = λ t was at_is file. makes_bytes path edit t was (size_is found file) at_is ∙ ap (λ k. put t (names path) (File (task_change k was))) (sym is) }

  module _ (rest : IsAtRest w) {before : FreePages} {plan : CallPlan} (plans : Plans w (task_plan (view w) (inode_count w) f task) plan) (fits : Fits w before plan) (new : List ℕ) (after : FreePages) where
    moved_by : (level : ℕ) → IsMoved (IsReplaced task) w new i level → IsMoved (Replaces w (edit_op path edit) i) w new i level
    moved_by level moved = replacing w new path edit i (subst (λ k. IsMoved (IsReplaced k) w new i level) (is ∙ ap (λ (g : Inode). task_of edit g.size) (sym found.is)) moved)

    pub places : ((level : ℕ) → level_of plan.growth ≡ Some level → IsMoved (IsReplaced task) w new i level) → ((count : ℕ) → HasFreePages w count → count ≡ length before.free)
        → ((count : ℕ) → HasFreePages new count → count ≡ length after.free) → length before.free ≤ length after.free + missing w plan.wants → Places w new (edit_op path edit)
    places moved once once_after taken =
        let o = only_plan rest found edit is in
        record {
          entry = enters w new path edit;
          moved = λ j level grows.
              let here : j ≡ i = one_file rest found j (room_at w path edit j grows.3) in
              subst (λ k. IsMoved (Replaces w (edit_op path edit) k) w new k level) (sym here)
              (moved_by level (moved level (sym plans.growth ∙ ap (λ (p : Plan). p.growth) (sym (o.only grows.0 grows.1)) ∙ grows.2)));
          taken = λ b a need had has_after needs. omega (arith, once b had, once_after a has_after, only_need o plans need needs, plans.need fits.opens, taken);
        }
