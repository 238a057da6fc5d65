use Rattle.std.proofs.Common.{◌-◌, ◌*◌, ◌∙◌, sym, arith}
use Rattle.ct_base.specs.View.{view}
use Rattle.ct_inode.proofs.Loaded.{kind_in_page, kind_none}
use Rattle.ct_inode.proofs.Numbers.{free_here, free_later, free_end}
use Rattle.ct_inode.proofs.free.free_in_page.Goals as goal

pub load-requires : goal.load-requires
load-requires g c =
    let from = c.loop-n.auto.n in
    let page = c.requires.page in
    c.in-Some.ensures.on_device (8 * (c.loop-n.n - c.args.from)) (omega arith)

pub returns-then-load-eq0 : goal.returns-then-load-eq0
returns-then-load-eq0 g c =
    let img = g.D.Pm.words c.args.dev.now in
    let page = c.requires.page in
    let kind = kind_in_page img c.args.from c.loop-n.n c.in-Some.word c.load.result c.loop-n.auto.n (omega (arith, c.requires.few)) (omega arith) c.load.type_inv c.load.ensures c.in-Some.ensures.shown in
    let is = c.loop-n.invariant ∙ free_here (view img) c.loop-n.n c.args.past c.loop-n-test.true (kind ∙ c.if-load-eq0.true) in
    sym is

pub loop-n-preserved : goal.loop-n-preserved
loop-n-preserved g c =
    let img = g.D.Pm.words c.args.dev.now in
    let page = c.requires.page in
    let kind = kind_in_page img c.args.from c.loop-n.n c.in-Some.word c.load.result c.loop-n.auto.n (omega (arith, c.requires.few)) (omega arith) c.load.type_inv c.load.ensures c.in-Some.ensures.shown in
    c.loop-n.invariant ∙ free_later (view img) c.loop-n.n c.args.past c.loop-n-test.true (λ z. c.if-load-eq0.false (sym kind ∙ z))

pub returns-after-loop-n : goal.returns-after-loop-n
returns-after-loop-n g c =
    let b = view (g.D.Pm.words c.args.dev.now) in
    let is = c.loop-n.invariant ∙ free_end b c.loop-n.n c.args.past c.loop-n-test.false in
    sym is

pub returns-in-None : goal.returns-in-None
returns-in-None g c =
    let img = g.D.Pm.words c.args.dev.now in
    let is = free_here (view img) c.args.from c.args.past c.requires.some (kind_none img c.args.from (omega (arith, c.requires.few, c.requires.some)) c.in-None.ensures.none) in
    sym is
