-- A file is cut: the words are at rest again, and land on the objects with the length.
use Rattle.std.proofs.Common.{◌≡◌, ℕ, zero, suc, ◌+◌, ◌-◌, ◌<◌, ◌≤◌, Option, refl, sym, ap, ◌∙◌, inl, inr, arith}
use Rattle.std.specs.Prelude.{length, List}
use Rattle.std.proofs.lemmas.Bool.{cases_eq, cond-false, cond-true, eq-eqb, ne_eqb}
use Rattle.ct_base.specs.Inode.{IsLive, inode, part_bytes}
use Rattle.ct_base.specs.Objects.{Object, objects}
use Rattle.ct_base.specs.Plan.{Plan, truncate_plan}
use Rattle.ct_base.specs.View.{view, inode_count}
use Rattle.ct_base.specs.Wants.{missing}
use Rattle.ct_cut.specs.Cut.{CanCut, IsCut, IsCutOrNot, less_wants}
use Rattle.ct_cut.proofs.Emptied.{done_file, done_left, done_sound, object_emptied}
use Rattle.ct_cut.proofs.Shortening.{as_write, shorter_file, zero_size}
use Rattle.ct_frames.specs.Free.{FreePages}
use Rattle.ct_pm.specs.Images.{History}
use Rattle.ct_pm.specs.Phase.{Phase}
use Rattle.ct_pm.proofs.Phases.{phase_weaker}
use Rattle.ct_tree.specs.Content.{resized}
use Rattle.ct_tree.specs.Lands.{files}
use Rattle.ct_write.proofs.Changing.{changed_sound}
use Rattle.ct_write.proofs.Done.{changing}
use Rattle.ct_grow.specs.Grown.{IsReady}
use Rattle.ct_commit.specs.Rest.{IsAtRest}
use Rattle.ct_call.specs.Plans.{Fits, Plans}
use Rattle.ct_call.specs.declared.plan.CallPlan.{CallPlan}
use Rattle.ct_edit.specs.Changed.{ChangesOrNot}
use Rattle.ct_edit.proofs.Growths.{less_is, none_is}
use Rattle.ct_edit.proofs.Rewritten.{landing, Remade, others_stay}

pub remade_cut : {old new : List ℕ} {i : ℕ} (len : ℕ) → CanCut old i len → IsCut old new i len → Remade old new i (resized len)
remade_cut {old} {new} zero can e = record {
  changes = record { file = done_file (done_left can e); others = λ j other. ap (λ (fs : ℕ → Object). fs j) (ap (objects (view new)) e.inodes) ∙ (object_emptied (done_left can e)).others j other };
  sound = done_sound (done_left can e);
  inodes = e.inodes;
  roots = e.roots;
  head = e.head;
  size = e.length;
}
remade_cut {old} {new} {i} (suc len) can w =
    let rest = part_bytes (inode (view old) i).level - suc len in
    let c = changing (as_write can rest refl) (zero_size can rest refl) w in
    record {
      changes = record { file = shorter_file can rest refl w; others = others_stay c };
      sound = changed_sound c;
      inodes = w.inodes;
      roots = w.roots;
      head = w.head;
      size = w.length;
    }

-- a crash lands on the objects before or after
pub cut_phase : {old : List ℕ} {i : ℕ} (len : ℕ) {from to : Option History} {now : List ℕ} → IsAtRest old → CanCut old i len → Phase (IsCutOrNot old i len) 5111 from to now → Phase (ChangesOrNot (files old) i (resized len)) 5111 from to now
cut_phase {old} {i} len rest can phase = phase_weaker (ChangesOrNot (files old) i (resized len)) (landing rest (λ after. IsCut old after i len) (λ after is. remade_cut len can is)) (omega arith) phase

pub can_cut : {w : List ℕ} {i len : ℕ} → IsReady w → IsLive (view w) (inode_count w) i → (inode (view w) i).kind ≡ 1 → len < (inode (view w) i).size → CanCut w i len
can_cut ready live file less = record { ready = ready; live = live; file = file; less = less }

module _ {w : List ℕ} {before : FreePages} (i len : ℕ) {plan : CallPlan} (less : len < (inode (view w) i).size) (plans : Plans w (truncate_plan (view w) (inode_count w) (inode (view w) i) len) plan) (fits : Fits w before plan) where
  pub cut_needs : missing w plan.wants ≡ missing w (less_wants (inode (view w) i) len)
  cut_needs = plans.need fits.opens ∙ ap (missing w) (elim (cases_eq len 0) [
    | inl none ↦ ap (λ (p : Plan). p.wants) (none_is (view w) (inode_count w) (inode (view w) i) len less none) ∙ sym (cond-true _ _ _ (eq-eqb len 0 none))
    | inr some ↦ ap (λ (p : Plan). p.wants) (less_is (view w) (inode_count w) (inode (view w) i) len less some) ∙ sym (cond-false _ _ _ (ne_eqb len 0 some))
  ])

  pub cut_taken : (after : FreePages) → length before.free ≤ length after.free + missing w (less_wants (inode (view w) i) len) → length before.free ≤ length after.free + missing w plan.wants
  cut_taken after taken = omega (arith, cut_needs, taken)
