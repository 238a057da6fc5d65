use Rattle.std.proofs.Common.{◌≡◌, List, sym, ap, subst, arith, length}
use Rattle.ct_gen.specs.Made.{gen_op}
use Rattle.ct_pm.specs.declared.device.PmFault.{PmFault}
use Rattle.ct_script.specs.Shows.{reply_of}
use Rattle.ct_tree.specs.Tree.{Tree}
use Rattle.ct_tree.specs.declared.call.Reply.{Reply}
use Rattle.ct_tally.proofs.Going.{going_ends, going_halts, going_more, going_none}
use Rattle.ct_tally.proofs.Counting.{IsMore, IsSmall, can_count, small_more}
use Rattle.ct_tally.specs.Tallies.{counts_of}
use Rattle.ct_tally.specs.Tried.{items_of}
use Rattle.ct_tally.specs.declared.counts.Counts.{Counts}
use Rattle.ct_tally.proofs.calls.make_all.Goals as goal

pub calls-init : goal.calls-init
calls-init g c = record {
  few = let few = c.requires.few in let none : c.no_replies-counts.result.calls ≡ 0 = ap (λ (k : Counts). k.calls) c.no_replies-counts.ensures in omega (arith, few, none);
  small = subst IsSmall (sym c.no_replies-counts.ensures) (record { done = omega arith; reads = omega arith; refused = omega arith });
  going = λ n t keeps. going_none n t (items_of c.args.calls) c.args.fs.now.state c.no_replies-counts.result c.no_replies-counts.ensures keeps;
}

pub returns-in-None : goal.returns-in-None
returns-in-None g c n t keeps =
    going_ends n t (items_of c.args.calls) (items_of c.calls.calls) c.args.fs.now.state c.calls.fs.state c.calls.counts (ap items_of c.in-None.ensures.steps.0) (c.calls.invariant.going n t keeps)

pub returns-in-None-answer : goal.returns-in-None-answer
returns-in-None-answer g c n t keeps =
    let going = c.calls.invariant.going n t keeps in
    going_halts n t (items_of c.args.calls) (items_of c.calls.calls) (items_of c.next.new.self) (gen_op c.in-Some.made) c.args.fs.now.state c.calls.fs.state c.answer.new.fs.state c.calls.counts going (ap items_of c.in-Some.ensures.steps)
    {T = Counts} {E = PmFault} c.answer.result (λ (counts : Counts) (replies : List Reply) (left : Tree). counts ≡ counts_of replies) _ c.in-None-answer.is (c.answer.ensures n going.left going.keeps)

pub counted-counts-requires : goal.counted-counts-requires
counted-counts-requires g c = can_count c.calls.counts c.calls.invariant.small (let few = c.calls.invariant.few in omega (arith, few))

pub calls-preserved : goal.calls-preserved
calls-preserved g c =
    let more = subst (IsMore c.calls.counts) (sym c.counted-counts.ensures) (small_more c.calls.counts c.calls.invariant.small (reply_of c.in-Some-answer.reply)) in
    record {
      few =
          let few = c.calls.invariant.few in
          let one = more.calls in
          let shorter = ap length c.in-Some.ensures.steps in
          omega (arith, few, one, shorter);
      small = more.small;
      going = λ n t keeps.
          let going = c.calls.invariant.going n t keeps in
          going_more n t (items_of c.args.calls) (items_of c.calls.calls) (items_of c.next.new.self) (gen_op c.in-Some.made) c.args.fs.now.state c.calls.fs.state c.answer.new.fs.state c.calls.counts going (ap items_of c.in-Some.ensures.steps)
          c.answer.result c.in-Some-answer.reply c.counted-counts.result c.in-Some-answer.is c.counted-counts.ensures (c.answer.ensures n going.left going.keeps);
    }

pub calls-smaller : goal.calls-smaller
calls-smaller g c = let shorter = ap length c.in-Some.ensures.steps in omega (arith, shorter)
