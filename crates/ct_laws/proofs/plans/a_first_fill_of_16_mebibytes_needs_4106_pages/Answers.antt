use Rattle.ct_laws.proofs.Filled.{first_fill}
use Rattle.ct_laws.proofs.plans.a_first_fill_of_16_mebibytes_needs_4106_pages.Goals as goal

pub returns : goal.returns
returns c = first_fill
