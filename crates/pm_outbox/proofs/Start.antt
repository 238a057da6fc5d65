-- With no step made a crash leaves the start words.
use Rattle.std.proofs.Common.{◌≡◌, ℕ, ◌-◌, ◌/◌, List, [], refl, ◌∙◌, arith}
use Rattle.std.proofs.lemmas.List.{ext_get_or}
use Rattle.ct_pm.specs.Images.{IsSettled}

pub settled_start : (start : List ℕ) → IsSettled (record { start = start; steps = [] })
settled_start start image allowed =
    ext_get_or 0 image start allowed.size (λ word within.
    let shows = allowed.lines (word / 8) in
    let first_none : 0 - shows.0 ≡ 0 = omega arith in
    shows.3 word refl ∙ rw first_none refl)
