use Rattle.std.proofs.Common.{refl, arith}
use Rattle.ct_look.proofs.Reading.{content_high, read_dir, read_file, read_long}
use Rattle.ct_look.proofs.look.read_at.Goals as goal

pub returns-then-inode-eq-DIRECTORY_KIND-clause-answer : goal.returns-then-inode-eq-DIRECTORY_KIND-clause-answer
returns-then-inode-eq-DIRECTORY_KIND-clause-answer g c = λ t s. read_dir c.requires.rest c.in_ok-inode.ensures c.args.off c.args.len t s c.if-inode-eq-DIRECTORY_KIND.true

pub returns-then-len-gt-READ_BYTES-clause-answer : goal.returns-then-len-gt-READ_BYTES-clause-answer
returns-then-len-gt-READ_BYTES-clause-answer g c = λ t s. read_long c.requires.rest c.in_ok-inode.ensures c.args.off c.args.len t s c.if-inode-eq-DIRECTORY_KIND.false c.if-len-gt-READ_BYTES.true

pub returns-then-off-inode-clause-answer : goal.returns-then-off-inode-clause-answer
returns-then-off-inode-clause-answer g c = λ t s.
    let past = c.if-off-inode.true in
    read_file c.requires.rest c.in_ok-inode.ensures c.args.off c.args.len t s c.if-inode-eq-DIRECTORY_KIND.false c.if-len-gt-READ_BYTES.false c.args.buf.now c.args.buf.now 0
    (omega arith) (omega (arith, past)) (λ less. absurd (omega (arith, past, less))) (λ _. refl)

pub overflow_add-inode : goal.overflow_add-inode
overflow_add-inode g c =
    let less = c.if-off-inode.false in
    omega (arith, content_high c.requires.rest c.in_ok-inode.ensures c.args.off c.args.len less, less)

pub put_content-requires-clause-high : goal.put_content-requires-clause-high
put_content-requires-clause-high g c =
    let less = c.if-off-inode.false in
    omega (arith, content_high c.requires.rest c.in_ok-inode.ensures c.args.off c.args.len less, less, c.min-count.ensures)

pub returns-clause-answer : goal.returns-clause-answer
returns-clause-answer g c = λ t s.
    let less = c.if-off-inode.false in
    let room = c.requires.room c.if-len-gt-READ_BYTES.false in
    read_file c.requires.rest c.in_ok-inode.ensures c.args.off c.args.len t s c.if-inode-eq-DIRECTORY_KIND.false c.if-len-gt-READ_BYTES.false c.args.buf.now c.put_content.new.buf c.min-count.result
    (omega (arith, room, c.min-count.ensures)) c.min-count.ensures (λ _. c.put_content.ensures) (λ past. absurd (omega (arith, past, less)))
