use Rattle.std.proofs.Common.{◌≡◌, ◌+◌, ℕ, sym, subst, arith}
use Rattle.ct_naming.specs.declared.spelled.Spelled.{Spelled}
use Rattle.ct_naming.specs.Spelling.{Spells}
use Rattle.ct_naming.proofs.Spelt.{spell_all, spell_more}
use Rattle.ct_naming.proofs.names.names_of.Goals as goal

pub loop-slot-smaller : goal.loop-slot-smaller
loop-slot-smaller g c = let m = c.in-Some.ensures.some in omega (arith, m.on, m.stands.slot.below)

pub returns : goal.returns
returns g c = spell_all c.loop-slot.invariant.names (λ o from s. c.in_default.ensures.none o from s.below s)

pub loop-slot-preserved : goal.loop-slot-preserved
loop-slot-preserved g c =
    let w = g.D.Pm.words c.args.dev.now in
    let dir = c.args.dir in
    let m = c.in-Some.ensures.some in
    let r : Spelled = c.spelled.result in
    let e : r.offset ≡ c.in-Some.slot.offset = c.spelled.ensures.offset in
    let more = spell_more c.loop-slot.invariant.names r c.spelled.ensures.spelled (omega (arith, e, m.on)) (λ o from to s. m.passed o from (omega (arith, e)) s) in
    record {
      aligned = omega (arith, m.stands.slot.aligned);
      names = subst (λ (o : ℕ). Spells w dir (o + 256) c.push.new.self.items) e (subst (Spells w dir (r.offset + 256)) (sym c.in-Ok.ensures.items) more);
    }
