use Rattle.std.specs.Prelude.{refl}
use Rattle.ct_tree.proofs.laws.the_first_check_that_fails_decides.Goals as goal

pub returns-clause-makes : goal.returns-clause-makes
returns-clause-makes c = (refl, refl, refl, refl, refl)

pub returns-clause-files : goal.returns-clause-files
returns-clause-files c = (refl, refl, refl, refl, refl, refl, refl)

pub returns-clause-removes : goal.returns-clause-removes
returns-clause-removes c = (refl, refl, refl, refl)

pub returns-clause-renames : goal.returns-clause-renames
returns-clause-renames c = (refl, refl, refl, refl, refl, refl, refl)

pub returns-clause-exchanges : goal.returns-clause-exchanges
returns-clause-exchanges c = (refl, refl, refl, refl)
