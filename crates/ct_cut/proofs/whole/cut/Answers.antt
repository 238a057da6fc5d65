use Rattle.std.proofs.Common.{ℕ, sym, subst}
use Rattle.ct_pm.specs.Phase.{Phase}
use Rattle.ct_record.specs.Seen.{device_behind}
use Rattle.ct_cut.specs.Cut.{IsCutOrNot}
use Rattle.ct_cut.proofs.Emptied.{cut_phase}
use Rattle.ct_cut.proofs.whole.cut.Goals as goal

pub returns-then-len-eq0-clause-phase : goal.returns-then-len-eq0-clause-phase
returns-then-len-eq0-clause-phase g c =
    subst (λ (k : ℕ). Phase (IsCutOrNot (g.D.Pm.words c.args.dev) c.args.inode k) 5111 (g.D.Pm.told c.args.dev) (g.D.Pm.told (device_behind c.cut_whole.result)) (g.D.Pm.words (device_behind c.cut_whole.result))) (sym c.if-len-eq0.true) c.cut_whole.ensures.phase

pub returns-else-len-eq0-clause-phase : goal.returns-else-len-eq0-clause-phase
returns-else-len-eq0-clause-phase g c = cut_phase c.args.len c.if-len-eq0.false c.cut_inside.ensures.phase
