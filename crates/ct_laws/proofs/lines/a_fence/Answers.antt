use Rattle.ct_laws.proofs.Shown.{fence_left, fence_may}
use Rattle.ct_laws.proofs.lines.a_fence.Goals as goal

pub returns : goal.returns
returns c = λ a. (fence_left a, fence_may a)
