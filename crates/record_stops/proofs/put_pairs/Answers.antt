use Rattle.std.proofs.Common.{◌∙◌, subst, sym}
use Rattle.ct_pm.specs.Device.{MakesOnly}
use Rattle.ct_pm.proofs.Made.{makes_none, makes_then}
use Rattle.ct_record.specs.Record.{StaysInLine}
use Rattle.record_stops.proofs.put_pairs.Goals as goal

pub returns-then-count-eq0 : goal.returns-then-count-eq0
returns-then-count-eq0 g c = record {
  in_line = λ few.
      subst (λ d. MakesOnly StaysInLine (g.D.Pm.told c.args.dev) (g.D.Pm.told d)) (sym c.abandon.ensures.dev)
      (makes_then (subst (λ d. MakesOnly StaysInLine (g.D.Pm.told c.args.dev) (g.D.Pm.told d)) (sym (c.begin-draft.ensures.dev ∙ c.of.ensures)) (makes_none StaysInLine (g.D.Pm.told c.args.dev))) (c.add_pairs.ensures.in_line few c.begin-draft.ensures.short));
}

pub returns-in-Ok : goal.returns-in-Ok
returns-in-Ok g c = record {
  in_line = λ few.
      subst (λ d. MakesOnly StaysInLine (g.D.Pm.told c.args.dev) (g.D.Pm.told d)) (sym c.into_dev.ensures.dev)
      (makes_then (makes_then (subst (λ d. MakesOnly StaysInLine (g.D.Pm.told c.args.dev) (g.D.Pm.told d)) (sym (c.begin-draft.ensures.dev ∙ c.of.ensures)) (makes_none StaysInLine (g.D.Pm.told c.args.dev))) (c.add_pairs.ensures.in_line few c.begin-draft.ensures.short)) (c.in-Ok.ensures.in_line (c.add_pairs.ensures.short few c.begin-draft.ensures.short)));
}

pub returns-in-Err : goal.returns-in-Err
returns-in-Err g c = record {
  in_line = λ few. makes_then (makes_then (subst (λ d. MakesOnly StaysInLine (g.D.Pm.told c.args.dev) (g.D.Pm.told d)) (sym (c.begin-draft.ensures.dev ∙ c.of.ensures)) (makes_none StaysInLine (g.D.Pm.told c.args.dev))) (c.add_pairs.ensures.in_line few c.begin-draft.ensures.short)) (c.in-Err.ensures.in_line (c.add_pairs.ensures.short few c.begin-draft.ensures.short));
}
