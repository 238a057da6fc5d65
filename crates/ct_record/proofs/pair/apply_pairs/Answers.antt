use Rattle.std.proofs.Common.{◌≤◌, ◌∙◌, arith}
use Rattle.ct_pm.proofs.Made.{makes_then, makes_weaker}
use Rattle.ct_pm.proofs.Quiet.{quiet_then}
use Rattle.ct_base.specs.Settled.{Gives, Named, pairs_at}
use Rattle.ct_record.proofs.Applying.{all_back, pairs_within, some_applied, targets_within}
use Rattle.ct_record.proofs.Drafts.{err_of, ok_map, ok_of}
use Rattle.ct_record.proofs.pair.apply_pairs.Goals as goal

pub flush_pairs-requires-clause-inside : goal.flush_pairs-requires-clause-inside
flush_pairs-requires-clause-inside g c =
    let all : c.args.count ≤ c.args.count = omega arith in
    pairs_within (record { inside = c.requires.inside; pages = c.requires.pages; targets = c.requires.targets }) all c.in_ok-store_pairs.ensures.words

pub flush_pairs-requires-clause-targets : goal.flush_pairs-requires-clause-targets
flush_pairs-requires-clause-targets g c =
    let all : c.args.count ≤ c.args.count = omega arith in
    targets_within (record { inside = c.requires.inside; pages = c.requires.pages; targets = c.requires.targets }) all c.in_ok-store_pairs.ensures.words

pub returns-clause-quiet : goal.returns-clause-quiet
returns-clause-quiet g c =
    quiet_then (Named (pairs_at c.args.from c.args.count (g.D.Pm.words c.args.dev.now))) (λ word none. absurd none) c.store_pairs.ensures.quiet c.flush_pairs.ensures.quiet

pub returns-clause-made : goal.returns-clause-made
returns-clause-made g c =
    makes_then c.store_pairs.ensures.made
    (makes_weaker (Gives (pairs_at c.args.from c.args.count (g.D.Pm.words c.args.dev.now))) (λ word value none. absurd none) c.flush_pairs.ensures.made)

pub returns-clause-words : goal.returns-clause-words
returns-clause-words g c = ok_of c.flush_pairs.result (c.flush_pairs.ensures.words ∙ c.in_ok-store_pairs.ensures.words)

pub returns-clause-back : goal.returns-clause-back
returns-clause-back g c =
    let all : c.args.count ≤ c.args.count = omega arith in
    ok_map c.flush_pairs.result (λ back.
    all_back (record { inside = c.requires.inside; pages = c.requires.pages; targets = c.requires.targets }) all c.in_ok-store_pairs.ensures.words (g.D.Pm.told c.flush_pairs.new.dev) back) c.flush_pairs.ensures.back

pub returns-clause-err : goal.returns-clause-err
returns-clause-err g c =
    let all : c.args.count ≤ c.args.count = omega arith in
    err_of c.flush_pairs.result
    (some_applied (record { inside = c.requires.inside; pages = c.requires.pages; targets = c.requires.targets }) all (c.flush_pairs.ensures.words ∙ c.in_ok-store_pairs.ensures.words))
