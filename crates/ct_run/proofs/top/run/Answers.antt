use Rattle.std.proofs.Common.{Option, map, string_bytes, subst, sym}
use Rattle.ct_run.proofs.Commands.{are_within}
use Rattle.ct_run.proofs.Promised.{ends_undone, ends_dump, ends_format, ends_gen, ends_mem, ends_run, ends_too_long, ends_unmounted, ends_unread, ends_whole}
use Rattle.ct_run.specs.Carried.{RunsAs, streams}
use Rattle.ct_run.specs.Opened.{devices}
use Rattle.ct_run.specs.Words.{AreWithin, command_of}
use Rattle.ct_run.specs.declared.command.Command.{Command}
use Rattle.ct_run.specs.declared.command.Command.TheVariants.{Dump, Gen}
use Rattle.ct_shell.specs.Moments.{moment}
use Rattle.ct_run.proofs.top.run.Goals as goal

pub run_command-requires-clause-fits : goal.run_command-requires-clause-fits
run_command-requires-clause-fits g c = subst AreWithin (sym c.command_of.ensures) (are_within (map (λ w. string_bytes w) c.args.words.now))

pub returns : goal.returns
returns g c =
    let dev = c.args.dev in
    let dev' = c.run_command.result.dev in
    let status = c.run_command.result.status in
    let o = command_of (map (λ w. string_bytes w) c.args.words.now) in
    let d = devices dev dev' (moment (g.D.Pm.told dev) (g.D.Pm.words dev)) (moment (g.D.Pm.told dev') (g.D.Pm.words dev')) (g.D.Pm.page_count dev) (g.D.Pm.faults dev) (g.D.Pm.faults dev') in
    let s = streams c.args.input.now c.run_command.new.input c.args.out.now c.run_command.new.out (g.S.Source.rest c.args.input.now) (g.S.Source.rest c.run_command.new.input) (g.O.Sink.written c.args.out.now) (g.O.Sink.written c.run_command.new.out)
    (g.S.Source.faults c.args.input.now) (g.S.Source.faults c.run_command.new.input) (g.O.Sink.faults c.args.out.now) (g.O.Sink.faults c.run_command.new.out) in
    let r = subst (λ (p : Option Command). RunsAs p status d s) c.command_of.ensures c.run_command.ensures in
    record {
      usage = r.usage;
      unread = r.unread;
      untouched = r.untouched;
      head = r.head;
      mem = ends_mem o status d s r;
      run = ends_run o status d s r;
      format = ends_format o status d s r;
      work = ends_gen o status d s r;
      work_unread = λ number count is. ends_unread o status d s r (Gen number count) is (λ script. script);
      unmounted = ends_unmounted o status d s r;
      dump = λ is. (ends_unread o status d s r Dump is (λ script. script), ends_dump o status d s r is);
      not_image = r.not_image;
      refused = r.refused;
      later = r.later;
      causes = r.causes;
      too_long = ends_too_long o status d s r;
      long = ends_undone o status d s r;
      complete = ends_whole o status d s r;
    }
