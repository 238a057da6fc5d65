use Rattle.ct_state.proofs.Carry.{alike_back, fails-same}
use Rattle.ct_state.proofs.laws.alike_images_fail_alike.Goals as goal

pub returns : goal.returns
returns c = λ f g r a wf wg. (fails-same r a wf wg, fails-same r (alike_back a) wg wf)
