use Rattle.std.proofs.Common.{◌≡◌, Ok, Err, ap, subst, sym, arith, ◌∙◌}
use Rattle.ct_script.proofs.Puts.{rose_after}
use Rattle.ct_script.specs.Feed.{Advances}
use Rattle.ct_script.specs.declared.feed.Next.{Next}
use Rattle.ct_script.specs.declared.feed.Next.TheVariants.{End}
use Rattle.ct_script.specs.declared.feed.ReadEnd.{ReadEnd}
use Rattle.ct_shell.specs.Stream.{Streams, halted_end}
use Rattle.ct_shell.specs.declared.script.StreamEnd.{StreamEnd}
use Rattle.ct_shell.specs.declared.script.StreamEnd.TheVariants.{Input, Output}
use Rattle.ct_chain.proofs.Fed.{found_fewer}
use Rattle.ct_shell.proofs.Streams.{going_none, going_on, halted_output, halted_unread, streams_done, streams_halted, streams_long, streams_unread}
use Rattle.ct_shell.proofs.script.serve_lines.Goals as goal

pub lines-init : goal.lines-init
lines-init g c = record {
  going = going_none c.args.feed.now c.args.fs.now.state (g.S.Source.rest c.args.input.now) (g.O.Sink.written c.args.out.now) c.requires;
  input_later = omega arith;
  output_later = omega arith;
}

pub returns-in-Err-Fault-clause-serves : goal.returns-in-Err-Fault-clause-serves
returns-in-Err-Fault-clause-serves g c =
    let first = g.S.Source.rest c.args.input.now in
    let rest = g.S.Source.rest c.lines.input in
    let rest' = g.S.Source.rest c.advance.new.input in
    let on = subst (λ (end : ReadEnd). Advances c.lines.feed c.advance.new.self rest rest' (Err end)) c.in-Err-Fault.field-0-is c.in-Err-Fault.ensures.advances in
    streams_unread c.lines.feed c.advance.new.self c.args.fs.now.state c.lines.fs.state first rest rest' (g.O.Sink.written c.args.out.now) (g.O.Sink.written c.lines.out) c.lines.invariant.going g.met.D.Pm.replays on

pub returns-in-Err-TooLong-clause-serves : goal.returns-in-Err-TooLong-clause-serves
returns-in-Err-TooLong-clause-serves g c =
    let first = g.S.Source.rest c.args.input.now in
    let rest = g.S.Source.rest c.lines.input in
    let rest' = g.S.Source.rest c.advance.new.input in
    let on = subst (λ (end : ReadEnd). Advances c.lines.feed c.advance.new.self rest rest' (Err end)) c.in-Err-TooLong.field-0-is c.in-Err-TooLong.ensures.advances in
    streams_long c.lines.feed c.advance.new.self c.args.fs.now.state c.lines.fs.state first rest rest' (g.O.Sink.written c.args.out.now) (g.O.Sink.written c.lines.out) c.lines.invariant.going g.met.D.Pm.replays on

pub returns-in-End-clause-serves : goal.returns-in-End-clause-serves
returns-in-End-clause-serves g c =
    let first = g.S.Source.rest c.args.input.now in
    let rest = g.S.Source.rest c.lines.input in
    let rest' = g.S.Source.rest c.advance.new.input in
    let on = subst (λ (next : Next). Advances c.lines.feed c.advance.new.self rest rest' (Ok next)) c.in-End.is c.in-Ok.ensures.advances in
    streams_done c.lines.feed c.advance.new.self c.args.fs.now.state c.lines.fs.state first rest rest' (g.O.Sink.written c.args.out.now) (g.O.Sink.written c.lines.out) c.lines.invariant.going tt g.met.D.Pm.replays on

pub lines-smaller : goal.lines-smaller
lines-smaller g c = found_fewer c.lines.feed c.advance.new.self (g.S.Source.rest c.lines.input) (g.S.Source.rest c.advance.new.input) c.in-Ok.next c.in_default.not-End c.in-Ok.ensures.advances

pub lines-preserved : goal.lines-preserved
lines-preserved g c =
    let first = g.S.Source.rest c.args.input.now in
    let rest = g.S.Source.rest c.lines.input in
    let rest' = g.S.Source.rest c.advance.new.input in
    record {
      going =
          going_on c.lines.feed c.advance.new.self c.args.fs.now.state c.lines.fs.state first rest rest' (g.O.Sink.written c.args.out.now) (g.O.Sink.written c.lines.out) c.lines.invariant.going c.in-Ok.next c.serve_next.new.fs.state (g.O.Sink.written c.serve_next.new.out) tt
          c.in_default.not-End c.in-Ok.ensures.advances c.in-Ok-serve_next.ensures.serves;
      input_later = let a = c.lines.invariant.input_later in let b = c.in-Ok.ensures.later in omega (arith, a, b);
      output_later = let a = c.lines.invariant.output_later in let b = c.in-Ok-serve_next.ensures.later in omega (arith, a, b);
    }

pub returns-in-Err : goal.returns-in-Err
returns-in-Err g c =
    let first = g.S.Source.rest c.args.input.now in
    let rest = g.S.Source.rest c.lines.input in
    let rest' = g.S.Source.rest c.advance.new.input in
    let out = g.O.Sink.written c.args.out.now in
    let wrote' = g.O.Sink.written c.serve_next.new.out in
    let from = c.args.fs.now.state in
    let to = c.serve_next.new.fs.state in
    record {
      serves = λ n t keeps.
          subst (λ (end : StreamEnd). Streams {T = Unit {0}} n t from to first rest' out wrote' (Err end)) (sym c.halted_end.ensures)
          (streams_halted c.lines.feed c.advance.new.self from c.lines.fs.state first rest rest' out (g.O.Sink.written c.lines.out) c.lines.invariant.going c.in-Ok.next to wrote' c.in_default.not-End c.in-Ok.ensures.advances c.in-Err.end c.in-Err.ensures.serves n t keeps);
      input_later = let a = c.lines.invariant.input_later in let b = c.in-Ok.ensures.later in omega (arith, a, b);
      input_fault = λ is.
          let same : c.halted_end.result ≡ Input = cc in
          absurd (halted_unread c.in-Err.end (sym c.halted_end.ensures ∙ same));
      output_later = let a = c.lines.invariant.output_later in let b = c.in-Err.ensures.later in omega (arith, a, b);
      output_fault = λ is.
          let same : c.halted_end.result ≡ Output = cc in
          rose_after _ _ _ c.lines.invariant.output_later (c.in-Err.ensures.fault (ap Err (halted_output c.in-Err.end (sym c.halted_end.ensures ∙ same))));
    }
