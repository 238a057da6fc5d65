-- Two images that differ in pages 1 to 32 alone.
use Rattle.std.proofs.Common.{ℕ, List, arith}
use Rattle.ct_image.proofs.Beside.{Beside}
use Rattle.ct_pm.specs.Device.{SameOff}
use Rattle.ct_record.specs.Record.{InRecord}

-- all that is read from their tables is the same
pub under_beside : (old new : List ℕ) → SameOff InRecord new old → Beside old new
under_beside old new same =
    record { size = same.size; front = λ w lt. same.others w (λ is. omega (arith, is.0)); back = λ w le. same.others w (λ is. omega (arith, is.1)) }
