use Rattle.std.proofs.Common.{◌<◌, ◌+◌, ◌*◌, ◌∙◌, ℕ, List, length, sym, subst, ap, arith}
use Rattle.std.specs.Prelude.{slice_index}
use Rattle.ct_pm.proofs.Made.{makes_then}
use Rattle.ct_pm.proofs.Quiet.{quiet_then}
use Rattle.ct_record.proofs.Applying.{lines_more}
use Rattle.ct_record.proofs.pair.flush_pairs.Goals as goal

pub flush_pair-requires-clause-inside : goal.flush_pair-requires-clause-inside
flush_pair-requires-clause-inside g c = omega (arith, c.requires.inside, c.loop-i-test.true, ap length c.loop-i.invariant.words)

pub flush_pair-requires-clause-target : goal.flush_pair-requires-clause-target
flush_pair-requires-clause-target g c =
    subst (λ (l : List ℕ). slice_index l (c.args.from + 2 * c.loop-i.i) < length l) (sym c.loop-i.invariant.words) (c.requires.targets c.loop-i.i c.loop-i-test.true)

pub loop-i-preserved : goal.loop-i-preserved
loop-i-preserved g c =
    let so_far = c.loop-i.invariant in
    let one = c.in_ok-flush_pair.ensures in
    record {
      words = c.flush_pair.ensures.words ∙ so_far.words;
      quiet = quiet_then (λ _. ⊥) (λ word none. none) so_far.quiet c.flush_pair.ensures.quiet;
      made = makes_then so_far.made c.flush_pair.ensures.made;
      back = lines_more (g.D.Pm.told c.loop-i.dev) (g.D.Pm.told c.flush_pair.new.dev) c.args.from c.loop-i.i (g.D.Pm.words c.args.dev.now) (g.D.Pm.words c.loop-i.dev) so_far.words so_far.back c.flush_pair.ensures.still_back one.back;
      faults = omega (arith, so_far.faults, c.flush_pair.ensures.cause.later);
    }

pub returns-in_err-flush_pair-clause-quiet : goal.returns-in_err-flush_pair-clause-quiet
returns-in_err-flush_pair-clause-quiet g c = quiet_then (λ _. ⊥) (λ word none. none) c.loop-i.invariant.quiet c.flush_pair.ensures.quiet

pub returns-in_err-flush_pair-clause-made : goal.returns-in_err-flush_pair-clause-made
returns-in_err-flush_pair-clause-made g c = makes_then c.loop-i.invariant.made c.flush_pair.ensures.made
