use Rattle.std.proofs.Common.{◌≡◌, ◌*◌, ◌+◌, ◌%◌, ◌/◌, ap, sym, ◌∙◌, arith}
use Rattle.ct_base.specs.Walk.{page_at}
use Rattle.ct_words.proofs.Placed.{walk_some, walk_none}
use Rattle.ct_words.proofs.load.place_of.Goals as goal

pub unreachable-requires : goal.unreachable-requires
unreachable-requires g c =
    let v_is : c.in-Some.v ≡ c.args.address = c.in-Some.ensures.value in
    let w = g.D.Pm.words c.args.dev.now in
    c.requires.there (ap (λ v. page_at w 4 (v / 4096)) (sym v_is) ∙ walk_none w c.in-Some.v (let high = c.requires.high in omega arith) c.in-None-walk.ensures.exact)

pub returns-clause-value : goal.returns-clause-value
returns-clause-value g c =
    let v_is : c.in-Some.v ≡ c.args.address = c.in-Some.ensures.value in
    let w = g.D.Pm.words c.args.dev.now in
    let s = walk_some w c.in-Some.v c.in-Some-walk.page (let high = c.requires.high in omega arith) c.requires.tables c.in-Some-walk.ensures.exact in
    ap (λ p. p * 512 + c.args.address % 4096 / 8) (c.number.ensures ∙ s.0 ∙ ap (λ v. page_at w 4 (v / 4096)) v_is)

pub returns-clause-low : goal.returns-clause-low
returns-clause-low g c =
    let v_is : c.in-Some.v ≡ c.args.address = c.in-Some.ensures.value in
    let s = walk_some (g.D.Pm.words c.args.dev.now) c.in-Some.v c.in-Some-walk.page (let high = c.requires.high in omega arith) c.requires.tables c.in-Some-walk.ensures.exact in
    omega (arith, c.number.ensures, s.1)

pub returns-clause-on_device : goal.returns-clause-on_device
returns-clause-on_device g c =
    let v_is : c.in-Some.v ≡ c.args.address = c.in-Some.ensures.value in
    let s = walk_some (g.D.Pm.words c.args.dev.now) c.in-Some.v c.in-Some-walk.page (let high = c.requires.high in omega arith) c.requires.tables c.in-Some-walk.ensures.exact in
    omega (arith, c.number.ensures, s.2)
