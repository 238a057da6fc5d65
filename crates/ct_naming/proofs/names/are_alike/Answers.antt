use Rattle.std.proofs.Common.{sym, ◌∙◌}
use Rattle.ct_naming.proofs.Spelt.{alike_from, alike_to}
use Rattle.ct_naming.proofs.names.are_alike.Goals as goal

pub returns : goal.returns
returns g c = (
  λ on. alike_to _ _ c.compare.result c.compare.ensures (sym c.is_eq.ensures ∙ on),
  λ same. c.is_eq.ensures ∙ alike_from _ _ c.compare.result c.compare.ensures same,
)
