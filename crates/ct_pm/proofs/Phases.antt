-- Phases begin, go on one after the other, and say less.
use Rattle.std.proofs.Common.{ℕ, ◌≤◌, List, Option, arith}
use Rattle.ct_base.specs.Spares.{SparesFiles}
use Rattle.ct_pm.specs.Images.{History}
use Rattle.ct_pm.specs.Device.{EachNow}
use Rattle.ct_pm.specs.Phase.{Crash, Phase}
use Rattle.ct_pm.proofs.Over.{over_none, over_then}
use Rattle.ct_pm.proofs.Told.{and_then, started, weaker}

pub crash_weaker : {Q : List ℕ → Type 0} {most more : ℕ} {image : List ℕ} (P : List ℕ → Type 0) → (Q image → P image) → most ≤ more → Crash Q most image → Crash P more image
crash_weaker P has le crash = record { has = has crash.has; few = record { lawful = crash.few.lawful; few = omega (arith, crash.few.few, le) }; spares = crash.spares }

-- nothing is done
pub phase_here : {most : ℕ} (told : Option History) (Q : List ℕ → Type 0) {now : List ℕ} → EachNow told (Crash Q most) → Crash Q most now → Phase Q most told told now
phase_here {most} told Q each now = record { moments = started told (Crash Q most) each; stores = over_none SparesFiles told; reads = now }

-- one stretch behind another
pub phase_then : {Q : List ℕ → Type 0} {most : ℕ} {from mid to : Option History} {words now : List ℕ} → Phase Q most from mid words → Phase Q most mid to now → Phase Q most from to now
phase_then first second = record { moments = and_then first.moments second.moments; stores = over_then first.stores second.stores; reads = second.reads }

-- with more images and more pairs
pub phase_weaker : {Q : List ℕ → Type 0} {most more : ℕ} {from to : Option History} {now : List ℕ} (P : List ℕ → Type 0) → ((image : List ℕ) → Q image → P image) → most ≤ more → Phase Q most from to now → Phase P more from to now
phase_weaker {more = more} {now = now} P wider le phase = record {
  moments = weaker (Crash P more) (λ image crash. crash_weaker P (wider image) le crash) phase.moments;
  stores = phase.stores;
  reads = crash_weaker P (wider now) le phase.reads;
}
