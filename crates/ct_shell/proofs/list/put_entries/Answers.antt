use Rattle.std.proofs.Common.{◌≡◌, ◌∙◌, Err, ap, arith, length}
use Rattle.ct_tree.specs.Checks.{at}
use Rattle.ct_tree.specs.Step.{listed_in}
use Rattle.ct_script.proofs.Puts.{rose_after}
use Rattle.ct_shell.specs.declared.call.ServeEnd.TheVariants.{Output}
use Rattle.ct_shell.proofs.Names.{get_within, listed_end, listed_more, listed_start, torn_end, torn_line, torn_name}
use Rattle.ct_shell.proofs.list.put_entries.Goals as goal

pub returns-in-Err-clause-bytes : goal.returns-in-Err-clause-bytes
returns-in-Err-clause-bytes g c was is t st allowed counted = (torn_line (listed_in (at t c.args.path.now)) (g.O.Sink.written c.args.out.now) (g.O.Sink.written c.put_names.new.out) c.in-Err.ensures.bytes, λ e. absurd (cc))

pub loop-init : goal.loop-init
loop-init g c = record {
  listed = λ was is t st allowed counted. listed_start (listed_in (at t c.args.path.now)) (g.O.Sink.written c.args.out.now) (g.O.Sink.written c.put_names.new.out) c.in-Ok.ensures.bytes;
  later = c.in-Ok.ensures.cause.later;
}

pub returns-in-Err-put_next-clause-bytes : goal.returns-in-Err-put_next-clause-bytes
returns-in-Err-put_next-clause-bytes g c was is t st allowed counted =
    let names = listed_in (at t c.args.path.now) in
    let listed = c.loop.invariant.listed was is t st allowed counted in
    let got = get_within names c.loop.counter (omega (arith, c.loop-test.true, counted)) in
    let put = c.in-Err-put_next.ensures.next was is t st allowed got.0 (listed.1 ∙ got.1) in
    let output : c.in-Err-put_next.end ≡ Output = put.0 in
    (torn_name names c.loop.counter got.0 (g.O.Sink.written c.args.out.now) (g.O.Sink.written c.loop.out) (g.O.Sink.written c.put_next.new.out) got.1 listed.0 put.1, λ e. absurd (cc))

pub returns-in-Err-put_next-clause-later : goal.returns-in-Err-put_next-clause-later
returns-in-Err-put_next-clause-later g c = let had = c.loop.invariant.later in let more = c.in-Err-put_next.ensures.later in omega (arith, had, more)

pub returns-in-Err-put_next-clause-fault : goal.returns-in-Err-put_next-clause-fault
returns-in-Err-put_next-clause-fault g c is =
    let output : c.in-Err-put_next.end ≡ Output = cc in
    rose_after _ _ _ c.loop.invariant.later (c.in-Err-put_next.ensures.fault (ap Err output))

pub loop-preserved : goal.loop-preserved
loop-preserved g c = record {
  listed = λ was is t st allowed counted.
      let names = listed_in (at t c.args.path.now) in
      let listed = c.loop.invariant.listed was is t st allowed counted in
      let got = get_within names c.loop.counter (omega (arith, c.loop-test.true, counted)) in
      let put = c.in-Ok-put_next.ensures.next was is t st allowed got.0 (listed.1 ∙ got.1) in
      listed_more t c.args.path.now c.loop.counter got.0 c.in-Ok-put_next.name.items _ (g.O.Sink.written c.args.out.now) (g.O.Sink.written c.loop.out) (g.O.Sink.written c.put_next.new.out) st.tree got.1 listed put.0 put.1;
  later = let had = c.loop.invariant.later in let more = c.in-Ok-put_next.ensures.later in omega (arith, had, more);
}

pub returns-in-Ok-put_end-clause-bytes : goal.returns-in-Ok-put_end-clause-bytes
returns-in-Ok-put_end-clause-bytes g c was is t st allowed counted =
    let names = listed_in (at t c.args.path.now) in
    let listed = c.loop.invariant.listed was is t st allowed counted in
    let all : c.loop.counter ≡ length names = omega (arith, c.loop-test.false, c.loop.auto.counter-end, counted) in
    (listed_end names c.loop.counter (g.O.Sink.written c.args.out.now) (g.O.Sink.written c.loop.out) (g.O.Sink.written c.put_end.new.out) all listed.0 c.in-Ok-put_end.ensures.bytes, λ e. absurd (cc))

pub returns-in-Ok-put_end-clause-later : goal.returns-in-Ok-put_end-clause-later
returns-in-Ok-put_end-clause-later g c = let had = c.loop.invariant.later in let more = c.in-Ok-put_end.ensures.cause.later in omega (arith, had, more)

pub returns-in-Err-put_end-clause-bytes : goal.returns-in-Err-put_end-clause-bytes
returns-in-Err-put_end-clause-bytes g c was is t st allowed counted =
    let names = listed_in (at t c.args.path.now) in
    let listed = c.loop.invariant.listed was is t st allowed counted in
    let all : c.loop.counter ≡ length names = omega (arith, c.loop-test.false, c.loop.auto.counter-end, counted) in
    (torn_end names c.loop.counter (g.O.Sink.written c.args.out.now) (g.O.Sink.written c.loop.out) (g.O.Sink.written c.put_end.new.out) all listed.0 c.in-Err-put_end.ensures.bytes, λ e. absurd (cc))

pub returns-in-Err-put_end-clause-later : goal.returns-in-Err-put_end-clause-later
returns-in-Err-put_end-clause-later g c = let had = c.loop.invariant.later in let more = c.in-Err-put_end.ensures.cause.later in omega (arith, had, more)

pub returns-in-Err-put_end-clause-fault : goal.returns-in-Err-put_end-clause-fault
returns-in-Err-put_end-clause-fault g c is = rose_after _ _ _ c.loop.invariant.later c.in-Err-put_end.ensures.cause.failed
