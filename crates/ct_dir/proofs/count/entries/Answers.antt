use Rattle.std.proofs.Common.{◌∙◌, arith}
use Rattle.ct_dir.proofs.Counting.{counted_more, count_all, count_end, ends_below, whole_dir}
use Rattle.ct_dir.proofs.Stepping.{brings, ends}
use Rattle.ct_dir.specs.Directory.{dir_of}
use Rattle.ct_dir.proofs.count.entries.Goals as goal

pub loop-slot-preserved : goal.loop-slot-preserved
loop-slot-preserved g c =
    let so_far = c.loop-slot.invariant in
    let next = c.in-Some.ensures in
    let b = brings (g.D.Pm.words c.args.dev.now) c.loop-slot.slots.dir c.args.dir c.loop-slot.slots.at _ c.in-Some._slot so_far.dir next.used next.shows next.on next.passed in
    record {
      stands = next.stands;
      dir = next.dir ∙ so_far.dir;
      below = ends_below c.requires b;
      few = omega (arith, so_far.few, b.from, b.to);
      counted = counted_more c.loop-slot.count c.requires b so_far.stands.aligned so_far.counted;
    }

pub returns : goal.returns
returns g c =
    let img = g.D.Pm.words c.args.dev.now in
    let so_far = c.loop-slot.invariant in
    let rest = count_end (dir_of img c.args.dir) c.loop-slot.slots.at (whole_dir img c.args.dir c.requires) so_far.stands.aligned (ends img c.loop-slot.slots.dir c.args.dir c.loop-slot.slots.at so_far.dir c.in_default.ensures.end) in
    omega (arith, rest, so_far.counted, count_all (dir_of img c.args.dir))
