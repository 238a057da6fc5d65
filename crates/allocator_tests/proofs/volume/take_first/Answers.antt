use Rattle.std.proofs.Common.{ap, sym, subst, ◌∙◌}
use Rattle.ct_base.specs.Inode.{IsPart, is_free}
use Rattle.ct_level.specs.Any.{partition}
use Rattle.allocator_tests.proofs.Devices.{first_free, first_is}
use Rattle.allocator_tests.proofs.volume.take_first.Goals as goal

pub take_at-requires-clause-part : goal.take_at-requires-clause-part
take_at-requires-clause-part g c =
    let s = c.requires.ready.stand in
    let head = c.in-Some.ensures s.0 s.1 in
    subst IsPart (first_is s.0 c.args.level (partition c.in-Some.part) head.0 c.base-base.result head.1 c.base-base.ensures.value) c.base-base.ensures.part

pub take_at-requires-clause-free : goal.take_at-requires-clause-free
take_at-requires-clause-free g c ps stands =
    let head = c.in-Some.ensures ps stands in
    ap (is_free ps) (sym (first_is ps c.args.level (partition c.in-Some.part) head.0 c.base-base.result head.1 c.base-base.ensures.value))
    ∙ (first_free ps c.args.level (partition c.in-Some.part) head.0 head.1).0

pub returns-clause-part : goal.returns-clause-part
returns-clause-part g c =
    let s = c.requires.ready.stand in
    let head = c.in-Some.ensures s.0 s.1 in
    subst IsPart (first_is s.0 c.args.level (partition c.in-Some.part) head.0 c.base-base.result head.1 c.base-base.ensures.value) c.base-base.ensures.part
