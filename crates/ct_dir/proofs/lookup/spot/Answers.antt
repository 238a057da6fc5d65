use Rattle.std.proofs.Common.{◌∙◌, arith, rules}
use Rattle.std.proofs.lemmas.Bool.{false≢true}
use Rattle.ct_dir.proofs.Counting.{ends_below, first_end, first_more}
use Rattle.ct_dir.proofs.Matching.{first_found, none_named, other_more}
use Rattle.ct_dir.proofs.Stepping.{brings, ends}
use Rattle.ct_dir.proofs.lookup.spot.Goals as goal

pub returns-then-has_name : goal.returns-then-has_name
returns-then-has_name g c =
    let so_far = c.loop-slot.invariant in
    let next = c.in-Some.ensures in
    let b = brings (g.D.Pm.words c.args.dev.now) c.loop-slot.slots.dir c.args.dir c.loop-slot.slots.at _ c.in-Some.slot so_far.dir next.used next.shows next.on next.passed in
    first_found c.found.result c.requires b c.of-key.ensures (omega (arith, c.if-name-gt-NAME_BYTES.false)) so_far.other
    (c.if-has_name.ensures.0 (search rules)) c.found.ensures.offset c.found.ensures.inode

pub loop-slot-preserved : goal.loop-slot-preserved
loop-slot-preserved g c =
    let so_far = c.loop-slot.invariant in
    let next = c.in-Some.ensures in
    let b = brings (g.D.Pm.words c.args.dev.now) c.loop-slot.slots.dir c.args.dir c.loop-slot.slots.at _ c.in-Some.slot so_far.dir next.used next.shows next.on next.passed in
    record {
      stands = next.stands;
      dir = next.dir ∙ so_far.dir;
      below = ends_below c.requires b;
      other = other_more c.requires b c.of-key.ensures so_far.other (λ s. absurd (false≢true (c.if-has_name.ensures.1 s)));
      free = first_more c.loop-slot.free c.past-free.result c.requires b so_far.stands.aligned c.past-free.ensures.met c.past-free.ensures.other so_far.free;
    }

pub returns : goal.returns
returns g c =
    let img = g.D.Pm.words c.args.dev.now in
    let so_far = c.loop-slot.invariant in
    let empty = ends img c.loop-slot.slots.dir c.args.dir c.loop-slot.slots.at so_far.dir c.in_default.ensures.end in
    (none_named c.loop-slot.slots.at so_far.other empty, first_end c.loop-slot.free c.requires so_far.stands.aligned so_far.below empty so_far.free)
