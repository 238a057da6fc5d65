use Rattle.std.proofs.Common.{◌-◌, refl, arith}
use Rattle.ct_look.proofs.Looking.{locate_dir}
use Rattle.ct_look.proofs.Reading.{content_high}
use Rattle.ct_look.proofs.Skipping.{data_mapped, data_none, data_past, data_some}
use Rattle.ct_look.proofs.holes.data_at.Goals as goal

pub returns-then-inode-eq-DIRECTORY_KIND-clause-answer : goal.returns-then-inode-eq-DIRECTORY_KIND-clause-answer
returns-then-inode-eq-DIRECTORY_KIND-clause-answer g c = λ t s. locate_dir c.requires.rest c.in_ok-inode.ensures t s c.if-inode-eq-DIRECTORY_KIND.true

pub returns-then-off-inode-clause-answer : goal.returns-then-off-inode-clause-answer
returns-then-off-inode-clause-answer g c = data_past c.requires.rest c.in_ok-inode.ensures c.args.off c.if-inode-eq-DIRECTORY_KIND.false c.if-off-inode.true

pub overflow_add-inode : goal.overflow_add-inode
overflow_add-inode g c =
    let less = c.if-off-inode.false in
    omega (arith, content_high c.requires.rest c.in_ok-inode.ensures c.args.off 0 less, less)

pub overflow_add-inode-2 : goal.overflow_add-inode-2
overflow_add-inode-2 g c = omega (arith, content_high c.requires.rest c.in_ok-inode.ensures c.args.off 0 c.if-off-inode.false)

pub next_mapped-requires-clause-high : goal.next_mapped-requires-clause-high
next_mapped-requires-clause-high g c = content_high c.requires.rest c.in_ok-inode.ensures c.args.off 0 c.if-off-inode.false

pub returns-in-Some-clause-answer : goal.returns-in-Some-clause-answer
returns-in-Some-clause-answer g c =
    data_some c.requires.rest c.in_ok-inode.ensures c.args.off c.if-inode-eq-DIRECTORY_KIND.false c.if-off-inode.false c.in-Some.address (c.in-Some.address - c.in_ok-inode.inode.base) refl c.in-Some.ensures

pub returns-in-Some-clause-mapped : goal.returns-in-Some-clause-mapped
returns-in-Some-clause-mapped g c =
    data_mapped c.requires.rest c.in_ok-inode.ensures c.args.off c.in-Some.address (c.in-Some.address - c.in_ok-inode.inode.base) refl c.in-Some.ensures

pub returns-in-None-clause-answer : goal.returns-in-None-clause-answer
returns-in-None-clause-answer g c = data_none c.requires.rest c.in_ok-inode.ensures c.args.off c.if-inode-eq-DIRECTORY_KIND.false c.if-off-inode.false c.in-None.ensures
