use Rattle.std.proofs.Common.{◌≡◌, ◌<◌, ◌⊎◌, inl, inr, arith}
use Rattle.growth_stops.proofs.Growable.{grows, own_object}
use Rattle.growth_stops.proofs.volume.can_grow.Goals as goal
use Rattle.growth_stops.proofs.volume.can_grow.Goals.{else-inode-ne-NO_PARTITION-via-then-inode-ne-NO_PARTITION+else-inode-level, else-inode-ne-NO_PARTITION-via-else-inode-ne-NO_PARTITION}

pub growth_wants-requires-clause-old : goal.growth_wants-requires-clause-old
growth_wants-requires-clause-old g c = own_object c.requires.rest c.args.number c.requires.from c.requires.to c.get-inode.result c.get-inode.ensures c.if-inode-eq0.false

pub returns-clause-can : goal.returns-clause-can
returns-clause-can g c holds =
    let more : (c.get-inode.result.level ≡ 15) ⊎ (c.get-inode.result.level < c.args.level) = elim c.else-inode-ne-NO_PARTITION.branch [
      | else-inode-ne-NO_PARTITION-via-then-inode-ne-NO_PARTITION+else-inode-level w ↦ inr (omega arith)
      | else-inode-ne-NO_PARTITION-via-else-inode-ne-NO_PARTITION w ↦ inl (omega arith)
    ] in
    grows c.requires.rest c.requires.unstaged c.args.number c.requires.from c.requires.to c.args.level c.get-inode.result c.get-inode.ensures c.if-inode-eq0.false c.if-level-gt9.false more c.in-Some.ensures.some
