use Rattle.std.proofs.Common.{◌∙◌, ◌+◌, take, set, length-set, sym, subst, arith}
use Rattle.std.proofs.lemmas.List.{take_more_set}
use Rattle.ct_dir.proofs.Counting.{counted_more, count_all, count_end, count_step, whole_dir}
use Rattle.ct_dir.proofs.Sorting.{Puts, puts_all, puts_more}
use Rattle.ct_dir.proofs.Stepping.{brings, ends}
use Rattle.ct_dir.specs.Directory.{dir_of}
use Rattle.ct_dir.proofs.sorted.put_offsets.Goals as goal

pub returns-then-count-offsets-clause-more : goal.returns-then-count-offsets-clause-more
returns-then-count-offsets-clause-more g c =
    let img = g.D.Pm.words c.args.dev.now in
    let so_far = c.loop-slot.invariant in
    let next = c.in-Some.ensures in
    let b = brings img c.loop-slot.slots.dir c.args.dir c.loop-slot.slots.at _ c.in-Some.slot so_far.dir next.used next.shows next.on next.passed in
    let one = count_step (dir_of img c.args.dir) c.loop-slot.slots.at c.in-Some.slot.offset (whole_dir img c.args.dir c.requires) so_far.stands.aligned b.from b.passed b.used in
    omega (arith, one, so_far.counted, so_far.size, c.if-count-offsets.true, count_all (dir_of img c.args.dir))

pub loop-slot-preserved : goal.loop-slot-preserved
loop-slot-preserved g c =
    let img = g.D.Pm.words c.args.dev.now in
    let f = dir_of img c.args.dir in
    let so_far = c.loop-slot.invariant in
    let next = c.in-Some.ensures in
    let b = brings img c.loop-slot.slots.dir c.args.dir c.loop-slot.slots.at _ c.in-Some.slot so_far.dir next.used next.shows next.on next.passed in
    let more = puts_more c.in-Some.slot.offset so_far.puts b.used b.from b.passed in
    let list = take_more_set c.loop-slot.offsets c.loop-slot.count c.in-Some.slot.offset (omega (arith, so_far.room, c.if-count-offsets.false)) in
    let long = length-set c.loop-slot.offsets c.loop-slot.count c.in-Some.slot.offset in
    record {
      stands = next.stands;
      dir = next.dir ∙ so_far.dir;
      size = long ∙ so_far.size;
      room = omega (arith, long, so_far.room, c.if-count-offsets.false);
      counted = counted_more c.loop-slot.count c.requires b so_far.stands.aligned so_far.counted;
      puts = subst (λ at. Puts f at (take (c.loop-slot.count + 1) (set c.loop-slot.offsets c.loop-slot.count c.in-Some.slot.offset))) (sym b.to) (subst (Puts f (c.in-Some.slot.offset + 256)) (sym list) more);
    }

pub returns-clause-offsets : goal.returns-clause-offsets
returns-clause-offsets g c =
    let img = g.D.Pm.words c.args.dev.now in
    let so_far = c.loop-slot.invariant in
    puts_all so_far.puts (ends img c.loop-slot.slots.dir c.args.dir c.loop-slot.slots.at so_far.dir c.in_default.ensures.end)

pub returns-clause-count : goal.returns-clause-count
returns-clause-count g c =
    let img = g.D.Pm.words c.args.dev.now in
    let so_far = c.loop-slot.invariant in
    let rest = count_end (dir_of img c.args.dir) c.loop-slot.slots.at (whole_dir img c.args.dir c.requires) so_far.stands.aligned (ends img c.loop-slot.slots.dir c.args.dir c.loop-slot.slots.at so_far.dir c.in_default.ensures.end) in
    omega (arith, rest, so_far.counted, count_all (dir_of img c.args.dir))
