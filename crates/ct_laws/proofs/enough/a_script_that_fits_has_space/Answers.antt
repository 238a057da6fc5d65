use Rattle.ct_laws.proofs.Fitting.{script_fits}
use Rattle.ct_laws.proofs.enough.a_script_that_fits_has_space.Goals as goal

pub returns : goal.returns
returns g = λ c pages left script rest replies from to. script_fits c pages left script rest replies from to
