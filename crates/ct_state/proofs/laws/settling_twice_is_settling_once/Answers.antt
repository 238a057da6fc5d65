use Rattle.ct_state.proofs.Settle.{settled_twice}
use Rattle.ct_state.proofs.laws.settling_twice_is_settling_once.Goals as goal

pub returns : goal.returns
returns c = settled_twice
