use Rattle.std.proofs.Common.{◌≡◌, ◌⊎◌, ◌∙◌, ◌/◌, ℕ, List, set, ap, subst, sym, arith}
use Rattle.ct_pm.proofs.Made.{makes_step, makes_then, makes_weaker}
use Rattle.ct_pm.proofs.Told.{fenced, and_then, weaker}
use Rattle.ct_pm.proofs.OneWord.{Replays}
use Rattle.ct_base.specs.Settled.{HasFewPairs, pairs_at}
use Rattle.ct_record.specs.Record.{IsArmed, IsNoneOrAll, StaysInRecord}
use Rattle.ct_record.proofs.Arming.{none_yet, none_lawful, fenced_pairs, gate_moves, gate_lawful, long_armed}
use Rattle.ct_record.proofs.Drafts.{ok_map}
use Rattle.ct_record.proofs.Lawful.{shut_few}
use Rattle.ct_record.proofs.Moments.{either_commit}
use Rattle.ct_record.proofs.gate.open_long.Goals as goal

pub returns-in_err-flush_lines-clause-any_moment : goal.returns-in_err-flush_lines-clause-any_moment
returns-in_err-flush_lines-clause-any_moment g c = none_yet c.requires.full c.requires.images c.flush_lines.ensures.quiet

pub returns-in_err-fence-clause-any_moment : goal.returns-in_err-fence-clause-any_moment
returns-in_err-fence-clause-any_moment g c = fenced (none_yet c.requires.full c.requires.images c.flush_lines.ensures.quiet) c.fence.ensures.step

pub commit-requires-clause-settled : goal.commit-requires-clause-settled
commit-requires-clause-settled g c =
    fenced_pairs c.requires.full c.requires.images c.flush_lines.ensures.quiet
    (subst (Replays (g.D.Pm.told c.flush_lines.new.dev)) c.flush_lines.ensures.words (g.met.D.Pm.replays c.flush_lines.new.dev))
    (λ word is. c.in_ok-flush_lines.ensures.back (word / 8) (omega (arith, is.0)) (omega (arith, is.1, c.div_ceil.ensures))) c.in_ok-fence.ensures.step

pub returns-clause-any_moment : goal.returns-clause-any_moment
returns-clause-any_moment g c =
    let was = g.D.Pm.words c.args.dev.now in
    let same : g.D.Pm.words c.fence.new.self ≡ was = c.fence.ensures.words ∙ c.flush_lines.ensures.words in
    and_then (fenced (none_yet c.requires.full c.requires.images c.flush_lines.ensures.quiet) c.fence.ensures.step)
    (weaker (IsNoneOrAll (pairs_at 528 c.args.count was) was)
    (λ image is. gate_moves c.requires.full image (subst (λ (l : List ℕ). (image ≡ l) ⊎ (image ≡ set l 512 c.args.count)) same is)) c.commit.ensures.any_moment)

pub returns-in_err-flush_lines-clause-made : goal.returns-in_err-flush_lines-clause-made
returns-in_err-flush_lines-clause-made g c = makes_weaker StaysInRecord (λ word value none. absurd none) c.flush_lines.ensures.made

pub returns-in_err-fence-clause-made : goal.returns-in_err-fence-clause-made
returns-in_err-fence-clause-made g c = makes_step c.fence.result (makes_weaker StaysInRecord (λ word value none. absurd none) c.flush_lines.ensures.made) c.fence.ensures.step tt

pub returns-clause-made : goal.returns-clause-made
returns-clause-made g c =
    makes_then (makes_step c.fence.result (makes_weaker StaysInRecord (λ word value none. absurd none) c.flush_lines.ensures.made) c.fence.ensures.step tt)
    (makes_weaker StaysInRecord (λ word value is. (omega (arith, is.0), omega (arith, is.0))) c.commit.ensures.made)

pub returns-clause-reads : goal.returns-clause-reads
returns-clause-reads g c =
    let was = g.D.Pm.words c.args.dev.now in
    let fenced = g.D.Pm.words c.fence.new.self in
    let new = g.D.Pm.words c.commit.new.dev in
    let same : fenced ≡ was = c.fence.ensures.words ∙ c.flush_lines.ensures.words in
    gate_moves c.requires.full new (subst (λ (l : List ℕ). (new ≡ l) ⊎ (new ≡ set l 512 c.args.count)) same
    (either_commit c.commit.result fenced new 512 c.args.count c.commit.ensures.words c.commit.ensures.err))

pub returns-in_err-flush_lines-clause-lawful : goal.returns-in_err-flush_lines-clause-lawful
returns-in_err-flush_lines-clause-lawful g c = none_lawful c.requires.full c.requires.images c.flush_lines.ensures.quiet

pub returns-in_err-fence-clause-lawful : goal.returns-in_err-fence-clause-lawful
returns-in_err-fence-clause-lawful g c = fenced (none_lawful c.requires.full c.requires.images c.flush_lines.ensures.quiet) c.fence.ensures.step

pub returns-clause-lawful : goal.returns-clause-lawful
returns-clause-lawful g c =
    let was = g.D.Pm.words c.args.dev.now in
    let same : g.D.Pm.words c.fence.new.self ≡ was = c.fence.ensures.words ∙ c.flush_lines.ensures.words in
    and_then (fenced (none_lawful c.requires.full c.requires.images c.flush_lines.ensures.quiet) c.fence.ensures.step)
    (weaker (HasFewPairs c.args.count)
    (λ image is. gate_lawful c.requires.full image (subst (λ (l : List ℕ). (image ≡ l) ⊎ (image ≡ set l 512 c.args.count)) same is)) c.commit.ensures.any_moment)

pub returns-in_err-flush_lines-clause-reads_lawful : goal.returns-in_err-flush_lines-clause-reads_lawful
returns-in_err-flush_lines-clause-reads_lawful g c =
    subst (HasFewPairs c.args.count) (sym c.flush_lines.ensures.words) (shut_few c.args.count (g.D.Pm.words c.args.dev.now) c.requires.full.shut)

pub returns-in_err-fence-clause-reads_lawful : goal.returns-in_err-fence-clause-reads_lawful
returns-in_err-fence-clause-reads_lawful g c =
    subst (HasFewPairs c.args.count) (sym (c.fence.ensures.words ∙ c.flush_lines.ensures.words)) (shut_few c.args.count (g.D.Pm.words c.args.dev.now) c.requires.full.shut)

pub returns-clause-reads_lawful : goal.returns-clause-reads_lawful
returns-clause-reads_lawful g c =
    let was = g.D.Pm.words c.args.dev.now in
    let fenced = g.D.Pm.words c.fence.new.self in
    let new = g.D.Pm.words c.commit.new.dev in
    let same : fenced ≡ was = c.fence.ensures.words ∙ c.flush_lines.ensures.words in
    gate_lawful c.requires.full new (subst (λ (l : List ℕ). (new ≡ l) ⊎ (new ≡ set l 512 c.args.count)) same
    (either_commit c.commit.result fenced new 512 c.args.count c.commit.ensures.words c.commit.ensures.err))

pub returns-clause-armed : goal.returns-clause-armed
returns-clause-armed g c =
    let was = g.D.Pm.words c.args.dev.now in
    let new = g.D.Pm.words c.commit.new.dev in
    let same : g.D.Pm.words c.fence.new.self ≡ was = c.fence.ensures.words ∙ c.flush_lines.ensures.words in
    ok_map c.commit.result (λ is. subst (IsArmed (pairs_at 528 c.args.count was) was) (sym (is ∙ ap (λ (l : List ℕ). set l 512 c.args.count) same)) (long_armed c.requires.full)) c.commit.ensures.words
