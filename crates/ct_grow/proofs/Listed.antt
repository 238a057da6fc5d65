-- Headers that stand for a list do so wherever their bytes are the same.
use Rattle.std.proofs.Common.{◌≡◌, ℕ, ◌^◌, ◌<◌, ◌≤◌, List, ◌∙◌}
use Rattle.ct_base.specs.Headers.{HeadersStand, StandFor}
use Rattle.ct_base.specs.Inode.{Partition}
use Rattle.ct_base.specs.View.{view}
use Rattle.ct_parts.proofs.Stand.{place_bounds}

pub headers_same : (b c : ℕ → ℕ) (ps : List Partition) → ((v : ℕ) → 2 ^ 39 ≤ v → v < 2 ^ 40 → c v ≡ b v) → HeadersStand b ps → HeadersStand c ps
headers_same b c ps same h = record {
  bytes = λ n j le lt. let at = place_bounds n j le lt in same _ at.0 at.1 ∙ h.bytes n j le lt;
  rest = λ v low high off. same v low high ∙ h.rest v low high off;
}

pub stand_same : (old new : List ℕ) (ps : List Partition) → ((v : ℕ) → 2 ^ 39 ≤ v → v < 2 ^ 40 → view new v ≡ view old v) → StandFor (view old) ps → StandFor (view new) ps
stand_same old new ps same s = record { apart = s.apart; stand = headers_same (view old) (view new) ps same s.stand }
