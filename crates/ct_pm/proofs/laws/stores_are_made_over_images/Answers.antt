use Rattle.std.specs.Prelude.{IsTrue}
use Rattle.ct_pm.proofs.Moment.{over_at}
use Rattle.ct_pm.proofs.Over.{stores_over, over_then}
use Rattle.ct_pm.proofs.laws.stores_are_made_over_images.Goals as goal

pub returns-clause-over : goal.returns-clause-over
returns-clause-over c = λ holds gives old new images made.
    stores_over (λ words word value. IsTrue (holds words) × IsTrue (gives word value)) (λ image word value is gives_it. (is, gives_it)) images made

pub returns-clause-then : goal.returns-clause-then
returns-clause-then c = λ may old mid new first second. over_then first second

pub returns-clause-at : goal.returns-clause-at
returns-clause-at c = λ may past h moment word value over from is. over_at {R = λ words word value. IsTrue (may words word value)} past h moment word value over from is
