use Rattle.std.proofs.Common.{ap, subst, ◌∙◌}
use Rattle.ct_base.specs.Inode.{IsPart}
use Rattle.ct_base.specs.Plan.{first_of}
use Rattle.ct_level.specs.Any.{partition}
use Rattle.ct_grow.proofs.Chosen.{first_is}
use Rattle.ct_grow.proofs.parts.first_base.Goals as goal

pub returns-clause-part : goal.returns-clause-part
returns-clause-part g c =
    let some = c.requires.some in
    let found = c.in-Some.ensures some.0 some.1 in
    let is = first_is some.0 c.args.level (partition c.in-Some.part) found.0 c.base.result found.1 c.base.ensures.value in
    subst IsPart is c.base.ensures.part

pub returns-clause-first : goal.returns-clause-first
returns-clause-first g c ps stand =
    let found = c.in-Some.ensures ps stand in
    ap first_of found.1 ∙ first_is ps c.args.level (partition c.in-Some.part) found.0 c.base.result found.1 c.base.ensures.value
