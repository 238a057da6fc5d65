use Rattle.std.proofs.Common.{ap, arith}
use Rattle.ct_base.specs.declared.inode.Inode.{Inode}
use Rattle.ct_exchange.proofs.Carrying.{placed}
use Rattle.ct_exchange.proofs.plan.Ranges.pages.Goals as goal

pub overflow_add-result : goal.overflow_add-result
overflow_add-result g c = omega (arith, (placed c.requires.rest c.requires.can).first_to, ap (λ (f : Inode). f.base) c.get-first.ensures)

pub overflow_add-result-2 : goal.overflow_add-result-2
overflow_add-result-2 g c = omega (arith, (placed c.requires.rest c.requires.can).second_to, ap (λ (f : Inode). f.base) c.get-second.ensures)
