use Rattle.ct_pm.proofs.Allowed.{allowed_store_line}
use Rattle.ct_pm.proofs.laws.stores_to_a_line_appear_in_order.Goals as goal

pub returns : goal.returns
returns c = allowed_store_line
