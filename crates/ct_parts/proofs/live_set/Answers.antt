use Rattle.ct_parts.proofs.Live.{live_stand}
use Rattle.ct_parts.proofs.Stand.{determined}
use Rattle.ct_parts.proofs.live_set.Goals as goal

pub returns-clause-determined : goal.returns-clause-determined
returns-clause-determined c = determined

pub returns-clause-sound : goal.returns-clause-sound
returns-clause-sound c = live_stand
