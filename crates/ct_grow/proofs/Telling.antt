-- What a crash may leave while an object grows, as the functions have it.
use Rattle.std.proofs.Common.{◌≡◌, ◌⊎◌, inl, inr, ℕ, List, sym, ap, subst, ◌∙◌, arith}
use Rattle.std.specs.Prelude.{Option}
use Rattle.ct_base.specs.declared.inode.Inode.{Inode}
use Rattle.ct_base.specs.Inode.{inode, Partition, IsPart}
use Rattle.ct_base.specs.Plan.{growth_wants, next_part}
use Rattle.ct_base.specs.Settled.{IsShut}
use Rattle.ct_base.specs.Spares.{SparesFiles}
use Rattle.ct_base.specs.State.{SameState}
use Rattle.ct_base.specs.View.{view, inode_count}
use Rattle.ct_base.specs.Wants.{Want}
use Rattle.ct_frames.specs.Agrees.{Agrees}
use Rattle.ct_frames.specs.Free.{FreePages}
use Rattle.ct_pm.specs.Images.{History}
use Rattle.ct_pm.specs.Device.{LeavesOnly, MakesOnly, NothingPending, StoresOver}
use Rattle.ct_pm.specs.Phase.{Crash, Phase}
use Rattle.ct_pm.proofs.Phases.{phase_then, phase_weaker}
use Rattle.ct_pm.proofs.Told.{and_then, weaker}
use Rattle.ct_walk.specs.Growth.{Extends, Grown, MayGrow}
use Rattle.ct_commit.specs.Closed.{IsStateOr}
use Rattle.ct_commit.specs.Made.{Spares}
use Rattle.ct_commit.proofs.Pages.{file_page, spare_off}
use Rattle.ct_state.proofs.States.{state_then}
use Rattle.ct_grow.specs.Drafted.{Moves}
use Rattle.ct_grow.specs.Grown.{IsReady}
use Rattle.ct_grow.specs.Moments.{HasGrown, IsBeforeOrAfter, IsSpare}
use Rattle.ct_grow.proofs.Carried.{Making, made_state, making_image, making_moments, ready_closed}
use Rattle.ct_grow.proofs.Moved.{Grew, page_now}
use Rattle.ct_grow.proofs.Promoting.{promoted, ready_now}
use Rattle.ct_grow.proofs.Readied.{Calls, grew, made}
use Rattle.ct_grow.proofs.Stored.{made_closed, making_stores, partner_high}

module _ (w0 : List ℕ) (i level : ℕ) (f : Inode) (wants : List Want) (p : Partition) (ready : IsReady w0) (part : IsPart p) (next : next_part (view w0) (inode_count w0) level ≡ p) (was : f ≡ inode (view w0) i) (asked : wants ≡ growth_wants f p) where
  grown_images : {start told : Option History} {before after : FreePages} → LeavesOnly start told (λ image. Grown w0 image wants before after) → LeavesOnly start told (λ image. Grown w0 image (growth_wants (inode (view w0) i) p) before after)
  grown_images {start} {told} {before} {after} moments =
      subst (λ (l : List Want). LeavesOnly start told (λ image. Grown w0 image l before after)) (asked ∙ ap (λ (g : Inode). growth_wants g p) was) moments

  asked_moments : {start told : Option History} {before after : FreePages} → LeavesOnly start told (λ image. Grown w0 image wants before after)
      → LeavesOnly start told (Crash (IsBeforeOrAfter w0 i (next_part (view w0) (inode_count w0) level)) 150)
  asked_moments {start} {told} moments =
      subst (λ (q : Partition). LeavesOnly start told (Crash (IsBeforeOrAfter w0 i q) 150)) (sym next) (making_moments (record { ready = ready; part = part }) (grown_images moments))

  asked_reads : {image : List ℕ} {before after : FreePages} → Grown w0 image wants before after → Crash (IsBeforeOrAfter w0 i (next_part (view w0) (inode_count w0) level)) 150 image
  asked_reads {image} {before} {after} g =
      subst (λ (q : Partition). Crash (IsBeforeOrAfter w0 i q) 150 image) (sym next)
      (making_image (record { ready = ready; part = part }) (subst (λ (l : List Want). Grown w0 image l before after) (asked ∙ ap (λ (h : Inode). growth_wants h p) was) g))

  pub asked_states : {start told : Option History} {before after : FreePages} → LeavesOnly start told (λ image. Grown w0 image wants before after) → LeavesOnly start told (SameState w0)
  asked_states moments = weaker (SameState w0) (λ image g. made_state (record { ready = ready; part = part }) g) (grown_images moments)

  -- no step stores on a page of a live file
  asked_stores : {start told : Option History} {before after : FreePages} → Agrees w0 before → LeavesOnly start told (λ image. Grown w0 image wants before after)
      → MakesOnly (λ at put. MayGrow w0 wants before after at) start told → StoresOver SparesFiles start told
  asked_stores {start} {told} {before} {after} agrees images made =
      making_stores (record { ready = ready; part = part }) agrees (grown_images images)
      (subst (λ (l : List Want). MakesOnly (λ at put. MayGrow w0 l before after at) start told) (asked ∙ ap (λ (g : Inode). growth_wants g p) was) made)

  -- while pages are made
  pub asked_phase : {now : List ℕ} {start told : Option History} {before after : FreePages} → Agrees w0 before → NothingPending start → Extends wants w0 now start told before after
      → Phase (IsBeforeOrAfter w0 i (next_part (view w0) (inode_count w0) level)) 150 start told now
  asked_phase agrees settled e = record { moments = asked_moments (e.images settled); stores = asked_stores agrees (e.images settled) e.made; reads = asked_reads e.grown }

module _ {w0 w1 : List ℕ} {before after : FreePages} {i level : ℕ} {f : Inode} {wants : List Want} {p : Partition} (c : Calls w0 w1 before after i level f wants p) where
  grows : (w2 : List ℕ) → Moves w1 w2 i f p → IsShut w2 → Grew w0 w1 w2 before after i p × IsReady w2
  grows w2 m shut =
      let s = grew c m in
      (s, ready_now s shut)

  making : Making w0 i p
  making = record { ready = c.can.ready; part = c.is_part }

  -- no word that the move may name lies on a page of a live file
  pub moving_spares : Spares w1 (λ w2. Moves w1 w2 i f p) (IsSpare w1)
  moving_spares = record {
    before = made_closed making (made c).grown;
    after = λ w2 m shut. ready_closed (grows w2 m shut).1;
    off = λ w spare is. spare_off 10 w (omega arith) (made_closed making (made c).grown) spare is;
    off_after = λ w2 m shut w spare is.
        let both = grows w2 m shut in
        let at = file_page (ready_closed both.1) is in
        spare _ (partner_high both.0 at.number at.high) (sym (page_now both.0 at.number) ∙ at.is);
  }

  moved_to : (image : List ℕ) → IsStateOr w1 (λ w2. Moves w1 w2 i f p) image → IsBeforeOrAfter w0 i (next_part (view w0) (inode_count w0) level) image
  moved_to image (inl none) = inl (state_then (made_state making (made c).grown) none)
  moved_to image (inr all) =
      let both = grows all.after all.done all.shut in
      inr (subst (λ (q : Partition). HasGrown w0 i q image) (sym c.first) (record { after = all.after; promoted = promoted both.0; ready = both.1; state = all.state }))

  -- and then while the object moves
  pub moved_phase : {now : List ℕ} {start mid told : Option History} → Phase (IsBeforeOrAfter w0 i (next_part (view w0) (inode_count w0) level)) 150 start mid w1 → Phase (IsStateOr w1 (λ w2. Moves w1 w2 i f p)) 150 mid told now
      → Phase (IsBeforeOrAfter w0 i (next_part (view w0) (inode_count w0) level)) 150 start told now
  moved_phase made moves = phase_then made (phase_weaker (IsBeforeOrAfter w0 i (next_part (view w0) (inode_count w0) level)) moved_to (omega arith) moves)

  pub moved_last : {w2 : List ℕ} {start mid told : Option History} → LeavesOnly start mid (λ image. Grown w0 image wants before after) → LeavesOnly mid told (λ image. SameState w1 image ⊎ SameState w2 image)
      → LeavesOnly start told (λ image. SameState w0 image ⊎ SameState w2 image)
  moved_last {w2} moments last =
      and_then (weaker (λ image. SameState w0 image ⊎ SameState w2 image) (λ image same. inl same) (asked_states w0 i level f wants p c.can.ready c.is_part c.first c.was c.asked moments))
      (weaker (λ image. SameState w0 image ⊎ SameState w2 image) (λ image either. elim either [ inl none ↦ inl (state_then (made_state making (made c).grown) none) | inr all ↦ inr all ]) last)
