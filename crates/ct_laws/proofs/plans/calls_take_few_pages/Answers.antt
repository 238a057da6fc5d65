use Rattle.ct_laws.proofs.Bounded.{keeps_limits, need_bounded}
use Rattle.ct_laws.proofs.plans.calls_take_few_pages.Goals as goal

pub returns : goal.returns
returns c = record {
  keeps = λ img t op sound some tree dir st allowed. keeps_limits img sound some t (record { tree = tree; dir = dir }) st op allowed;
  few = λ img op need n sound some keeps has touches. need_bounded img sound some op need n keeps has touches;
}
