-- A file has grown, or stayed, by the plan of a greater length: it may be lengthened.
use Rattle.std.proofs.Common.{◌≡◌, ℕ, ◌+◌, ◌^◌, ◌<◌, ◌≤◌, List, [], Option, Some, None, refl, sym, ap, subst, ◌∙◌, arith}
use Rattle.std.specs.Prelude.{length}
use Rattle.std.proofs.lemmas.List.{append-nil}
use Rattle.ct_base.specs.Inode.{IsLive, inode, part}
use Rattle.ct_base.specs.Plan.{Plan, growth_wants, next_part, truncate_plan}
use Rattle.ct_base.specs.View.{view, inode_count}
use Rattle.ct_base.specs.Wants.{missing}
use Rattle.ct_frames.specs.Free.{FreePages}
use Rattle.ct_pm.specs.Images.{History}
use Rattle.ct_pm.specs.Phase.{Phase}
use Rattle.ct_tree.specs.Content.{resized}
use Rattle.ct_tree.specs.Lands.{files}
use Rattle.ct_base.specs.Objects.{Object}
use Rattle.ct_write.specs.Lengthened.{CanLengthen, IsLengthened, IsLengthenedOrNot}
use Rattle.ct_write.proofs.Changing.{changed_sound}
use Rattle.ct_write.proofs.Lengthening.{file_lengthened, lengthening}
use Rattle.ct_call.proofs.Rooms.{ready_here}
use Rattle.ct_commit.specs.Landing.{LandsAs}
use Rattle.ct_commit.specs.Rest.{IsAtRest, IsUnstaged}
use Rattle.ct_call.specs.Plans.{Fits, Plans, level_of}
use Rattle.ct_call.specs.Rooms.{Gives}
use Rattle.ct_call.specs.declared.plan.CallPlan.{CallPlan}
use Rattle.ct_edit.specs.Changed.{ChangesOrNot}
use Rattle.ct_edit.proofs.Growths.{longer_is}
use Rattle.ct_edit.proofs.Rewritten.{Remade, edit_phase, others_stay}
use Rattle.ct_edit.proofs.Widened.{Plots, Starts, counts_grown, next_holds, next_is, stays_in}

-- the plan of a greater length
pub plots : {w : List ℕ} {before : FreePages} {i : ℕ} {plan : CallPlan} (len : ℕ) → IsAtRest w → IsUnstaged w → IsLive (view w) (inode_count w) i → (inode (view w) i).kind ≡ 1 → (inode (view w) i).size < len → len ≤ 2 ^ 39
    → Plans w (truncate_plan (view w) (inode_count w) (inode (view w) i) len) plan → Fits w before plan → Plots w before i len (λ new. []) plan
plots {w} {i = i} {plan = plan} len rest unstaged live file more within plans fits = record {
  rest = rest;
  unstaged = unstaged;
  live = live;
  file = file;
  within = within;
  plans = subst (λ (q : Plan). Plans w q plan) (longer_is (view w) (inode_count w) (inode (view w) i) len more) plans;
  fits = fits;
}

module _ {w mid : List ℕ} {before middle : FreePages} {i len : ℕ} {plan : CallPlan} (s : Starts w mid before middle i len (λ new. []) plan) where
  abbrev p : Plots w before i len (λ new. []) plan
  p = s.plots

  pub can_lengthen : (inode (view w) i).size < len → CanLengthen mid i len
  can_lengthen more = at (level_of plan.growth) refl s.gives
    where
      at : (o : Option ℕ) → level_of plan.growth ≡ o → Gives w mid before middle i o → CanLengthen mid i len
      at None goes gave =
          let room = stays_in p goes in
          subst (λ img. CanLengthen img i len) (sym gave.0) (record { ready = ready_here p.rest p.unstaged; live = p.live; file = p.file; level = room.0.part.level; more = more; fits = room.1 })
      at (Some level) goes gave =
          let pr = gave.promoted in
          let count : inode_count mid ≡ inode_count w = pr.superblock 3 (omega arith) in
          let is = next_is p level goes in
          record {
            ready = s.now;
            live = record { number = record { from = p.live.number.from; to = omega (arith, p.live.number.to, count) }; used = λ z. p.live.used (sym pr.kind ∙ z) };
            file = pr.kind ∙ p.file;
            level = omega (arith, pr.level, is.0.level);
            more = omega (arith, pr.size, more);
            fits = subst (λ l. len ≤ Rattle.ct_base.specs.Inode.part_bytes l) (sym pr.level) (next_holds p level goes);
          }

  -- growth alone takes pages
  pub all_taken : length before.free ≤ length middle.free + missing w plan.wants
  all_taken = at (level_of plan.growth) refl s.gives
    where
      at : (o : Option ℕ) → level_of plan.growth ≡ o → Gives w mid before middle i o → length before.free ≤ length middle.free + missing w plan.wants
      at None goes gave = omega (arith, ap (λ (x : FreePages). length x.free) gave.1)
      at (Some level) goes gave =
          let same : missing w plan.wants ≡ missing w (growth_wants (inode (view w) i) (next_part (view w) (inode_count w) level)) =
          counts_grown p level goes ∙ ap (missing w) (append-nil (growth_wants (inode (view w) i) (next_part (view w) (inode_count w) level))) in
          omega (arith, same, gave.taken)

pub remade_longer : {old new : List ℕ} {i len : ℕ} → CanLengthen old i len → IsLengthened old new i len → Remade old new i (resized len)
remade_longer can w = record {
  changes = record { file = file_lengthened can w; others = others_stay (lengthening can w) };
  sound = changed_sound (lengthening can w);
  inodes = w.inodes;
  roots = λ k from to. w.pages 1 k (omega arith);
  head = w.head;
  size = w.length;
}

pub longer_phase : {old : List ℕ} {i len : ℕ} {fs : ℕ → Object} {from then to : Option History} {now : List ℕ} → IsAtRest old → CanLengthen old i len → files old ≡ fs → Phase (LandsAs fs) 150 from then old → Phase (IsLengthenedOrNot old i len) 5111 then to now
    → Phase (ChangesOrNot fs i (resized len)) 5111 from to now
longer_phase {old} {i} {len} rest can = edit_phase rest (λ after. IsLengthened old after i len) (λ after is. remade_longer can is)
