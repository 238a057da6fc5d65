use Rattle.ct_plan.proofs.Space.{write_space}
use Rattle.ct_plan.proofs.laws.writes_take_few_pages.Goals as goal

pub returns : goal.returns
returns c = write_space
