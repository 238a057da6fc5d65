use Rattle.std.proofs.Common.{◌∷◌, [], refl}
use Rattle.ct_format.proofs.Runs.{lays_wider, part_lays, part_laid, gates_lay, gates_laid, only_zero, one_gate, laid_run}
use Rattle.ct_format.proofs.formatting.lay_gates.Goals as goal

pub returns-in_err-lay-clause-only : goal.returns-in_err-lay-clause-only
returns-in_err-lay-clause-only g c =
    lays_wider one_gate (part_lays 512 1 (0 ∷ []) refl (g.D.Pm.words c.args.dev.now) (g.D.Pm.words c.lay.new.dev) (g.D.Pm.told c.args.dev.now) (g.D.Pm.told c.lay.new.dev) c.lay.result c.lay.ensures.words c.lay.ensures.err c.lay.ensures.quiet c.lay.ensures.made)

pub returns-clause-only : goal.returns-clause-only
returns-clause-only g c =
    gates_lay (part_lays 512 1 (0 ∷ []) refl (g.D.Pm.words c.args.dev.now) (g.D.Pm.words c.lay.new.dev) (g.D.Pm.told c.args.dev.now) (g.D.Pm.told c.lay.new.dev) c.lay.result c.lay.ensures.words c.lay.ensures.err c.lay.ensures.quiet c.lay.ensures.made)
    (part_lays 527 1 (0 ∷ []) refl (g.D.Pm.words c.lay.new.dev) (g.D.Pm.words c.lay-2.new.dev) (g.D.Pm.told c.lay.new.dev) (g.D.Pm.told c.lay-2.new.dev) c.lay-2.result c.lay-2.ensures.words c.lay-2.ensures.err c.lay-2.ensures.quiet c.lay-2.ensures.made)

pub returns-clause-laid : goal.returns-clause-laid
returns-clause-laid g c =
    gates_laid c.lay-2.result
    (laid_run 512 (0 ∷ []) (g.D.Pm.words c.args.dev.now) (g.D.Pm.words c.lay.new.dev) (g.D.Pm.told c.args.dev.now) (g.D.Pm.told c.lay.new.dev) (λ w. 0) only_zero c.in_ok-lay.ensures.words c.in_ok-lay.ensures.back c.in_ok-lay.ensures.still_back)
    (part_lays 527 1 (0 ∷ []) refl (g.D.Pm.words c.lay.new.dev) (g.D.Pm.words c.lay-2.new.dev) (g.D.Pm.told c.lay.new.dev) (g.D.Pm.told c.lay-2.new.dev) c.lay-2.result c.lay-2.ensures.words c.lay-2.ensures.err c.lay-2.ensures.quiet c.lay-2.ensures.made)
    (part_laid 527 1 (0 ∷ []) refl (g.D.Pm.words c.lay.new.dev) (g.D.Pm.words c.lay-2.new.dev) (g.D.Pm.told c.lay.new.dev) (g.D.Pm.told c.lay-2.new.dev) (λ w. 0) c.lay-2.result only_zero c.lay-2.ensures.words c.lay-2.ensures.back c.lay-2.ensures.still_back)
