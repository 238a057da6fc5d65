use Rattle.std.proofs.Common.{◌≡◌, ◌+◌, ◌∙◌, ap, arith}
use Rattle.ct_base.specs.Walk.{word}
use Rattle.ct_inode.proofs.Loaded.{inode_shown, load_shown, none_shown}
use Rattle.ct_inode.proofs.read.get.Goals as goal

pub load-requires-in-Some : goal.load-requires-in-Some
load-requires-in-Some g c = c.in-Some.ensures.on_device 1 (omega arith)

pub load-requires-in-Some-2 : goal.load-requires-in-Some-2
load-requires-in-Some-2 g c = c.in-Some.ensures.on_device 2 (omega arith)

pub load-requires-in-Some-3 : goal.load-requires-in-Some-3
load-requires-in-Some-3 g c = c.in-Some.ensures.on_device 3 (omega arith)

pub returns-in-Some : goal.returns-in-Some
returns-in-Some g c =
    let img = g.D.Pm.words c.args.dev.now in
    let n = c.args.n in
    let from = c.in-Some.word in
    let here : from ≡ from + 0 = omega arith in
    inode_shown img n c.load.result c.load-in-Some.result c.load-in-Some-2.result c.load-in-Some-3.result c.requires.to
    (load_shown img n 0 from c.load.result c.load.type_inv (c.load.ensures ∙ ap (word img) here) (c.in-Some.ensures.shown 0 (omega arith)))
    (load_shown img n 1 from c.load-in-Some.result c.load-in-Some.type_inv c.load-in-Some.ensures (c.in-Some.ensures.shown 1 (omega arith)))
    (load_shown img n 2 from c.load-in-Some-2.result c.load-in-Some-2.type_inv c.load-in-Some-2.ensures (c.in-Some.ensures.shown 2 (omega arith)))
    (load_shown img n 3 from c.load-in-Some-3.result c.load-in-Some-3.type_inv c.load-in-Some-3.ensures (c.in-Some.ensures.shown 3 (omega arith)))

pub returns-in-None : goal.returns-in-None
returns-in-None g c =
    let img = g.D.Pm.words c.args.dev.now in
    let n = c.args.n in
    inode_shown img n 0 0 0 0 c.requires.to (none_shown img n 0 c.in-None.ensures.none (omega arith)) (none_shown img n 1 c.in-None.ensures.none (omega arith))
    (none_shown img n 2 c.in-None.ensures.none (omega arith)) (none_shown img n 3 c.in-None.ensures.none (omega arith))
