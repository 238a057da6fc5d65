-- Tables and pages that are made, in live partitions and off those of files.
use Rattle.std.proofs.Common.{◌≡◌, ℕ, ◌/◌, List, Option, inl, inr, arith}
use Rattle.ct_base.specs.Settled.{settled}
use Rattle.ct_base.specs.Spares.{SparesFiles}
use Rattle.ct_base.specs.Walk.{page_at}
use Rattle.ct_base.specs.Wants.{Want}
use Rattle.ct_frames.specs.Agrees.{Agrees}
use Rattle.ct_frames.specs.Free.{FreePages}
use Rattle.ct_pm.specs.Device.{NothingPending}
use Rattle.ct_pm.specs.Images.{History}
use Rattle.ct_pm.specs.Phase.{Crash, Phase}
use Rattle.ct_pm.proofs.Over.{stores_over}
use Rattle.ct_pm.proofs.Told.{weaker}
use Rattle.ct_record.proofs.Settles.{same_refl}
use Rattle.ct_tree.specs.Lands.{files}
use Rattle.ct_walk.specs.Growth.{Extends, Grown, MayGrow}
use Rattle.ct_commit.specs.Landing.{LandsAs}
use Rattle.ct_call.specs.Mounted.{AreOwned, OffFiles}
use Rattle.ct_commit.specs.Rest.{IsAtRest}
use Rattle.ct_call.proofs.FilePages.{grown_page}
use Rattle.ct_commit.proofs.Pages.{file_cell, settles_page}
use Rattle.ct_commit.proofs.Landed.{same_as}
use Rattle.ct_commit.proofs.States.{closed_of, shut_crash}
use Rattle.ct_call.proofs.Neutral.{grown_alike, grown_rests, grown_state}

module _ {old : List ℕ} {wants : List Want} {before after : FreePages} (rest : IsAtRest old) (owned : AreOwned old wants) (off : OffFiles old wants) (agrees : Agrees old before) where
  crash : (image : List ℕ) → Grown old image wants before after → Crash (LandsAs (files old)) 0 image
  crash image g = shut_crash image (grown_rests rest g owned).shut (same_as rest (grown_state rest g owned))

  spares : (image : List ℕ) (word value : ℕ) → Grown old image wants before after → MayGrow old wants before after word → SparesFiles image word value
  spares image word value g may file =
      let now = settles_page image (closed_of (grown_rests rest g owned)) (same_refl (settled image)) file in
      let was = grown_page rest g (grown_alike rest g owned) off now in
      let q = was.address / 4096 in
      let here : page_at old 4 q ≡ word / 512 = file_cell old rest.sound was in
      elim may [
        | inl taken ↦ agrees.free (word / 512) taken.was 4 q (omega arith) here
        | inr gap ↦
            let few = gap.few in
            let same : page_at old gap.depth gap.number ≡ page_at old 4 q = omega (arith, gap.is, gap.small, here) in
            omega (arith, (rest.tables.once gap.depth gap.number 4 q (omega arith) (omega arith) gap.there same).0, few)
      ]

  pub paged_phase : {new : List ℕ} {told now : Option History} → NothingPending told → Extends wants old new told now before after → Phase (LandsAs (files old)) 0 told now new
  paged_phase {new} settled e = record {
    moments = weaker (Crash (LandsAs (files old)) 0) crash (e.images settled);
    stores = stores_over SparesFiles spares (e.images settled) e.made;
    reads = crash new e.grown;
  }
