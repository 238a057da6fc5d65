-- What was done to a device, as the logic stores it.
use Rattle.std.specs.Prelude.{List, ℕ, refl}
use Rattle.std.specs.Coded.{Coded, code_by, coded×, coded_list, coded_ℕ}
use Rattle.ct_pm.specs.Images.{History}
use Rattle.ct_pm.specs.contracts.step.Step as step

abbrev pub history_coded : Coded History
history_coded = code_by (List ℕ × List step.the_row.Denot) (coded× (coded_list coded_ℕ) (coded_list step.the_row.coded)) (λ h. (h.start, h.steps)) (λ p. record { start = p.0; steps = p.1 }) (λ h. refl)
