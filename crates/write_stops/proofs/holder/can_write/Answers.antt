use Rattle.std.proofs.Common.{arith}
use Rattle.std.proofs.lemmas.Bool.{leb-true}
use Rattle.write_stops.proofs.Writable.{ends_low, in_slot, room, starts}
use Rattle.write_stops.proofs.holder.can_write.Goals as goal

pub write_wants-wants-requires-clause-old : goal.write_wants-wants-requires-clause-old
write_wants-wants-requires-clause-old g c = λ few. ends_low c.requires c.get-inode.ensures c.args.off c.args.len c.if-inode-ne-FILE_KIND.false c.if-inode-gt-TOP_LEVEL.false (omega (arith, c.if-len-eq0.false)) (omega (arith, c.length_of-most.ensures.value, c.if-off-most.false, c.if-len-most.false))

pub write_wants-wants-requires-clause-new : goal.write_wants-wants-requires-clause-new
write_wants-wants-requires-clause-new g c = let low = ends_low c.requires c.get-inode.ensures c.args.off c.args.len c.if-inode-ne-FILE_KIND.false c.if-inode-gt-TOP_LEVEL.false (omega (arith, c.if-len-eq0.false)) (omega (arith, c.length_of-most.ensures.value, c.if-off-most.false, c.if-len-most.false)) in omega (arith, low, c.length_of-most.ensures.value, c.if-off-most.false, c.if-len-most.false)

pub write_wants-wants-requires-clause-fits : goal.write_wants-wants-requires-clause-fits
write_wants-wants-requires-clause-fits g c = in_slot c.requires c.get-inode.ensures c.args.off c.args.len c.if-inode-ne-FILE_KIND.false c.if-inode-gt-TOP_LEVEL.false (omega (arith, c.if-len-eq0.false)) (omega (arith, c.length_of-most.ensures.value, c.if-off-most.false, c.if-len-most.false))

pub write_wants-wants-requires-clause-aligned : goal.write_wants-wants-requires-clause-aligned
write_wants-wants-requires-clause-aligned g c = starts c.requires c.get-inode.ensures c.args.off c.args.len c.if-inode-ne-FILE_KIND.false c.if-inode-gt-TOP_LEVEL.false (omega (arith, c.if-len-eq0.false)) (omega (arith, c.length_of-most.ensures.value, c.if-off-most.false, c.if-len-most.false))

pub returns-clause-room : goal.returns-clause-room
returns-clause-room g c = λ holds. let le = room c.requires c.get-inode.ensures c.args.off c.args.len c.if-inode-ne-FILE_KIND.false c.if-inode-gt-TOP_LEVEL.false (omega (arith, c.if-len-eq0.false)) (omega (arith, c.length_of-most.ensures.value, c.if-off-most.false, c.if-len-most.false)) c.missing.result c.free.result c.write_wants-wants.result c.missing.ensures c.write_wants-wants.ensures (leb-true c.missing.result c.free.result holds) in omega (arith, le, c.free.ensures.count)
