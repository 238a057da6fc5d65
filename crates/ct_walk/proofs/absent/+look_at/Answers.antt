use Rattle.std.proofs.Common.{◌≡◌, ℕ, suc, ◌-◌, arith}
use Rattle.ct_walk.proofs.Finding.{finds_root, finds_absent, finds_some, finds_none, low_up}
use Rattle.ct_walk.proofs.absent.+look_at.Goals as goal

up : (d : ℕ) → (d ≡ 0 → ⊥) → d ≡ suc (d - 1)
up d ne = omega arith

pub returns-then-depth-eq0 : goal.returns-then-depth-eq0
returns-then-depth-eq0 g t c = finds_root (g.D.Pm.words c.args.dev.now) c.args.depth c.args.x c.if-depth-eq0.true c.requires.low

pub look_at-requires : goal.look_at-requires
look_at-requires g t c κs within =
    let is = up c.args.depth c.if-depth-eq0.false in
    (omega (arith, is, c.decreases), (within, (c.requires.tables, (omega (arith, c.requires.deep), low_up c.args.depth (c.args.depth - 1) c.args.x is c.requires.low))))

pub returns-in-Absent : goal.returns-in-Absent
returns-in-Absent g t c = finds_absent (g.D.Pm.words c.args.dev.now) c.args.depth (c.args.depth - 1) c.args.x c.in-Absent.cells (up c.args.depth c.if-depth-eq0.false) c.in-Absent.ensures

pub returns-in-Some : goal.returns-in-Some
returns-in-Some g t c =
    finds_some (g.D.Pm.words c.args.dev.now) c.args.depth (c.args.depth - 1) c.args.x c.in-Present.table c.in-Some.page (up c.args.depth c.if-depth-eq0.false) c.in-Present.ensures c.in-Some.ensures.exact c.in-Some.ensures.small

pub returns-in-None : goal.returns-in-None
returns-in-None g t c =
    finds_none (g.D.Pm.words c.args.dev.now) c.args.depth (c.args.depth - 1) c.args.x c.in-Present.table (up c.args.depth c.if-depth-eq0.false) c.requires.low c.in-Present.ensures c.in-None.ensures.exact
