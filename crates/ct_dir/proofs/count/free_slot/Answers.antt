use Rattle.std.proofs.Common.{sym, ◌∙◌, arith}
use Rattle.ct_dir.proofs.Counting.{free_all, free_more, free_found, free_end, ends_below, whole_dir}
use Rattle.ct_dir.proofs.Stepping.{brings, ends}
use Rattle.ct_dir.specs.Directory.{dir_of}
use Rattle.ct_dir.proofs.count.free_slot.Goals as goal

pub returns-then-slot-free : goal.returns-then-slot-free
returns-then-slot-free g c =
    let so_far = c.loop-slot.invariant in
    let next = c.in-Some.ensures in
    let b = brings (g.D.Pm.words c.args.dev.now) c.loop-slot.slots.dir c.args.dir c.loop-slot.slots.at _ c.in-Some.slot so_far.dir next.used next.shows next.on next.passed in
    so_far.here ∙ free_found c.requires b (λ e. c.if-slot-free.true (e ∙ sym so_far.here)) so_far.stands.aligned so_far.rest ∙ free_all (dir_of (g.D.Pm.words c.args.dev.now) c.args.dir)

pub loop-slot-preserved : goal.loop-slot-preserved
loop-slot-preserved g c =
    let so_far = c.loop-slot.invariant in
    let next = c.in-Some.ensures in
    let b = brings (g.D.Pm.words c.args.dev.now) c.loop-slot.slots.dir c.args.dir c.loop-slot.slots.at _ c.in-Some.slot so_far.dir next.used next.shows next.on next.passed in
    record {
      stands = next.stands;
      dir = next.dir ∙ so_far.dir;
      below = ends_below c.requires b;
      here = omega (arith, so_far.here, c.if-slot-free.false, b.to);
      rest = free_more c.requires b (c.if-slot-free.false ∙ so_far.here) so_far.rest;
    }

pub returns : goal.returns
returns g c =
    let img = g.D.Pm.words c.args.dev.now in
    let so_far = c.loop-slot.invariant in
    so_far.here
    ∙ sym (free_end (dir_of img c.args.dir) c.loop-slot.slots.at (whole_dir img c.args.dir c.requires) so_far.stands.aligned so_far.below (ends img c.loop-slot.slots.dir c.args.dir c.loop-slot.slots.at so_far.dir c.in_default.ensures.end))
    ∙ so_far.rest ∙ free_all (dir_of img c.args.dir)
