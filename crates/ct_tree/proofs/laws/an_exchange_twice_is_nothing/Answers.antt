use Rattle.ct_tree.proofs.Undone.{exchange_undone}
use Rattle.ct_tree.proofs.laws.an_exchange_twice_is_nothing.Goals as goal

pub returns : goal.returns
returns c = exchange_undone
