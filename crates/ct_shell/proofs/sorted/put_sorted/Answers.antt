use Rattle.std.proofs.Common.{◌≡◌, Err, map, take, ap, arith, length}
use Rattle.ct_base.specs.Slots.{slot_name}
use Rattle.ct_dir.specs.Directory.{dir_of}
use Rattle.ct_look.proofs.Following.{slot_put}
use Rattle.ct_script.proofs.Puts.{rose_after}
use Rattle.ct_shell.specs.declared.call.ServeEnd.TheVariants.{Output}
use Rattle.ct_shell.proofs.Names.{listed_end, name_put, names_none, names_put, names_then, torn_end, torn_line, torn_name}
use Rattle.ct_shell.proofs.sorted.put_sorted.Goals as goal

pub returns-in-Err-clause-bytes : goal.returns-in-Err-clause-bytes
returns-in-Err-clause-bytes g c was is =
    let names = map (slot_name (dir_of (g.D.Pm.words was.dev) c.args.listing.dir)) (take c.args.listing.count c.args.offsets.now) in
    (torn_line names (g.O.Sink.written c.args.out.now) (g.O.Sink.written c.put_names.new.out) c.in-Err.ensures.bytes, λ e. absurd (cc))

pub loop-k-init : goal.loop-k-init
loop-k-init g c = record {
  listed = λ was is.
      let names = map (slot_name (dir_of (g.D.Pm.words was.dev) c.args.listing.dir)) (take c.args.listing.count c.args.offsets.now) in
      names_none names (g.O.Sink.written c.args.out.now) (g.O.Sink.written c.put_names.new.out) c.in-Ok.ensures.bytes;
  later = c.in-Ok.ensures.cause.later;
}

pub put_slot-requires-clause-readable : goal.put_slot-requires-clause-readable
put_slot-requires-clause-readable g c was is = (c.requires.slots was is).readable

pub put_slot-requires-clause-slot : goal.put_slot-requires-clause-slot
put_slot-requires-clause-slot g c was is = slot_put (c.requires.slots was is) c.loop-k.k _ c.loop-k-test.true c.requires.room

pub returns-in-Err-put_slot-clause-bytes : goal.returns-in-Err-put_slot-clause-bytes
returns-in-Err-put_slot-clause-bytes g c was is =
    let f = dir_of (g.D.Pm.words was.dev) c.args.listing.dir in
    let names = map (slot_name f) (take c.args.listing.count c.args.offsets.now) in
    let listed = c.loop-k.invariant.listed was is in
    let got = name_put f c.args.offsets.now c.args.listing.count c.loop-k.k 0 c.loop-k-test.true c.requires.room in
    let put = c.in-Err-put_slot.ensures.name was is in
    let output : c.in-Err-put_slot.end ≡ Output = put.0 in
    (torn_name names c.loop-k.k _ (g.O.Sink.written c.args.out.now) (g.O.Sink.written c.loop-k.out) (g.O.Sink.written c.put_slot.new.out) got listed put.1, λ e. absurd (cc))

pub returns-in-Err-put_slot-clause-later : goal.returns-in-Err-put_slot-clause-later
returns-in-Err-put_slot-clause-later g c = let had = c.loop-k.invariant.later in let more = c.in-Err-put_slot.ensures.later in omega (arith, had, more)

pub returns-in-Err-put_slot-clause-fault : goal.returns-in-Err-put_slot-clause-fault
returns-in-Err-put_slot-clause-fault g c is =
    let output : c.in-Err-put_slot.end ≡ Output = cc in
    rose_after _ _ _ c.loop-k.invariant.later (c.in-Err-put_slot.ensures.fault (ap Err output))

pub loop-k-preserved : goal.loop-k-preserved
loop-k-preserved g c = record {
  listed = λ was is.
      let f = dir_of (g.D.Pm.words was.dev) c.args.listing.dir in
      let names = map (slot_name f) (take c.args.listing.count c.args.offsets.now) in
      let listed = c.loop-k.invariant.listed was is in
      let got = name_put f c.args.offsets.now c.args.listing.count c.loop-k.k 0 c.loop-k-test.true c.requires.room in
      let put = c.in-Ok-put_slot.ensures.name was is in
      names_then names c.loop-k.k _ (g.O.Sink.written c.args.out.now) (g.O.Sink.written c.loop-k.out) (g.O.Sink.written c.put_slot.new.out) got listed put;
  later = let had = c.loop-k.invariant.later in let more = c.in-Ok-put_slot.ensures.later in omega (arith, had, more);
}

pub returns-in-Ok-put_end-clause-bytes : goal.returns-in-Ok-put_end-clause-bytes
returns-in-Ok-put_end-clause-bytes g c was is =
    let f = dir_of (g.D.Pm.words was.dev) c.args.listing.dir in
    let names = map (slot_name f) (take c.args.listing.count c.args.offsets.now) in
    let listed = c.loop-k.invariant.listed was is in
    let long = names_put f c.args.offsets.now c.args.listing.count c.requires.room in
    let all : c.loop-k.k ≡ length names = omega (arith, c.loop-k-test.false, c.loop-k.auto.k-end, long) in
    (listed_end names c.loop-k.k (g.O.Sink.written c.args.out.now) (g.O.Sink.written c.loop-k.out) (g.O.Sink.written c.put_end.new.out) all listed c.in-Ok-put_end.ensures.bytes, λ e. absurd (cc))

pub returns-in-Ok-put_end-clause-later : goal.returns-in-Ok-put_end-clause-later
returns-in-Ok-put_end-clause-later g c = let had = c.loop-k.invariant.later in let more = c.in-Ok-put_end.ensures.cause.later in omega (arith, had, more)

pub returns-in-Err-put_end-clause-bytes : goal.returns-in-Err-put_end-clause-bytes
returns-in-Err-put_end-clause-bytes g c was is =
    let f = dir_of (g.D.Pm.words was.dev) c.args.listing.dir in
    let names = map (slot_name f) (take c.args.listing.count c.args.offsets.now) in
    let listed = c.loop-k.invariant.listed was is in
    let long = names_put f c.args.offsets.now c.args.listing.count c.requires.room in
    let all : c.loop-k.k ≡ length names = omega (arith, c.loop-k-test.false, c.loop-k.auto.k-end, long) in
    (torn_end names c.loop-k.k (g.O.Sink.written c.args.out.now) (g.O.Sink.written c.loop-k.out) (g.O.Sink.written c.put_end.new.out) all listed c.in-Err-put_end.ensures.bytes, λ e. absurd (cc))

pub returns-in-Err-put_end-clause-later : goal.returns-in-Err-put_end-clause-later
returns-in-Err-put_end-clause-later g c = let had = c.loop-k.invariant.later in let more = c.in-Err-put_end.ensures.cause.later in omega (arith, had, more)

pub returns-in-Err-put_end-clause-fault : goal.returns-in-Err-put_end-clause-fault
returns-in-Err-put_end-clause-fault g c is = rose_after _ _ _ c.loop-k.invariant.later c.in-Err-put_end.ensures.cause.failed
