use Rattle.std.proofs.Common.{◌≡◌, List, Ok, Err, length, ap, subst, arith}
use Rattle.ct_pm.specs.declared.device.PmFault.{PmFault}
use Rattle.ct_tree.specs.Step.{Op}
use Rattle.ct_tree.specs.Tree.{Tree}
use Rattle.ct_tree.specs.declared.call.Reply.{Reply}
use Rattle.ct_tally.proofs.Counting.{length_made, tally_is}
use Rattle.ct_tally.specs.Tallies.{counts_of}
use Rattle.ct_tally.specs.Tried.{Tries, items_of}
use Rattle.ct_tally.specs.declared.counts.Counts.{Counts}
use Rattle.ct_tally.proofs.tally.work.Goals as goal

pub make_all-requires-clause-few : goal.make_all-requires-clause-few
make_all-requires-clause-few g c =
    let few = c.requires.few in
    let long = length_made c.args.number c.args.count in
    let same = ap (λ (ops : List Op). length ops) c.new.ensures in
    omega (arith, few, long, same)

pub returns-in-Ok : goal.returns-in-Ok
returns-in-Ok g c n t keeps =
    let tried = subst (λ (ops : List Op). Tries {T = Counts} {E = PmFault} n t (items_of ops) c.args.fs.now.state c.make_all.new.fs.state (λ (counts : Counts) (replies : List Reply) (left : Tree). counts ≡ counts_of replies) (Ok c.in-Ok.counts)) c.new.ensures (c.in-Ok.ensures n t keeps) in
    let all = tried.whole in
    let holds = c.held_in_root-held.ensures in
    record {
      whole = record {
        replies = all.replies;
        left = all.left;
        ran = all.ran;
        keeps = all.keeps;
        fact = tally_is all.replies all.left c.in-Ok.counts c.held_in_root-held.result.files c.held_in_root-held.result.bytes all.fact (holds.files n all.left all.keeps) (holds.bytes n all.left all.keeps);
      };
      halted = tt;
      later = tried.later;
      fault = tt;
    }

pub returns-in-Err : goal.returns-in-Err
returns-in-Err g c n t keeps =
    let tried = subst (λ (ops : List Op). Tries {T = Counts} {E = PmFault} n t (items_of ops) c.args.fs.now.state c.make_all.new.fs.state (λ (counts : Counts) (replies : List Reply) (left : Tree). counts ≡ counts_of replies) (Err c.in-Err.fault)) c.new.ensures (c.in-Err.ensures n t keeps) in
    record { whole = tt; halted = tried.halted; later = tried.later; fault = tried.fault }
