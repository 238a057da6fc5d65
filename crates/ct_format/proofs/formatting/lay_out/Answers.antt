use Rattle.std.proofs.Common.{inl}
use Rattle.ct_format.proofs.Runs.{lays_wider}
use Rattle.ct_format.proofs.Out.{lays_two, lays_three, fence_lays, words_laid, settled_laid}
use Rattle.ct_format.proofs.formatting.lay_out.Goals as goal

pub returns-in_err-lay_head-clause-only : goal.returns-in_err-lay_head-clause-only
returns-in_err-lay_head-clause-only g c = lays_wider (λ w is. inl is) c.lay_head.ensures.only

pub returns-in_err-lay_gates-clause-only : goal.returns-in_err-lay_gates-clause-only
returns-in_err-lay_gates-clause-only g c = lays_two c.lay_head.ensures.only c.lay_gates.ensures.only

pub returns-in_err-lay_tables-clause-only : goal.returns-in_err-lay_tables-clause-only
returns-in_err-lay_tables-clause-only g c = lays_three c.lay_head.ensures.only c.lay_gates.ensures.only c.lay_tables.ensures.only

pub returns-clause-only : goal.returns-clause-only
returns-clause-only g c = fence_lays c.fence.result (lays_three c.lay_head.ensures.only c.lay_gates.ensures.only c.lay_tables.ensures.only) c.fence.ensures.words c.fence.ensures.step

pub returns-clause-words : goal.returns-clause-words
returns-clause-words g c =
    words_laid c.args.pages c.args.inodes c.fence.result c.in_ok-lay_head.ensures.laid c.lay_gates.ensures.only c.in_ok-lay_gates.ensures.laid c.lay_tables.ensures.only c.in_ok-lay_tables.ensures.laid c.fence.ensures.words

pub returns-clause-settled : goal.returns-clause-settled
returns-clause-settled g c =
    settled_laid c.args.pages c.args.inodes c.fence.result (g.met.D.Pm.replays c.args.dev.now) c.requires.settled (g.met.D.Pm.replays c.lay_tables.new.dev)
    (lays_three c.lay_head.ensures.only c.lay_gates.ensures.only c.lay_tables.ensures.only)
    c.in_ok-lay_head.ensures.laid c.lay_gates.ensures.only c.in_ok-lay_gates.ensures.laid c.lay_tables.ensures.only c.in_ok-lay_tables.ensures.laid c.fence.ensures.step
