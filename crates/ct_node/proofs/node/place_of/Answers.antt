use Rattle.std.proofs.Common.{sym, subst}
use Rattle.ct_node.specs.Places.{AtPlace}
use Rattle.ct_node.proofs.Places.{at_place}
use Rattle.ct_node.proofs.node.place_of.Goals as goal

pub returns : goal.returns
returns c = subst (AtPlace c.args.name.now c.args.entries.now) (sym c.scan.ensures) (at_place c.args.name.now c.args.entries.now)
