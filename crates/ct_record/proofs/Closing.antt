-- The gate of a record whose pairs stand is closed.
use Rattle.std.proofs.Common.{◌≡◌, ◌⊎◌, ℕ, ◌<◌, List, set, sym, ◌∙◌, subst, inl, inr, arith}
use Rattle.std.specs.Prelude.{slice_index}
use Rattle.std.proofs.lemmas.List.{get_or-set_same, get_or-set_other}
use Rattle.ct_pm.proofs.Quiet.{same_off_set}
use Rattle.ct_base.specs.Settled.{HasFewPairs, HasPages, IsShut, IsRecord}
use Rattle.ct_record.specs.Record.{InRecord, SettlesTo, Stand}
use Rattle.ct_record.proofs.Lawful.{few_here, shut_few}
use Rattle.ct_record.proofs.Settles.{same_refl, settles_stands}

pub shut_long : (words : List ℕ) → HasPages words → IsRecord words → 0 < slice_index words 512 → IsShut (set words 512 0)
shut_long words pages is some =
    (get_or-set_same words 512 0 0 (omega (arith, pages.0, pages.1)), get_or-set_other words 512 527 0 0 (λ e. omega arith) ∙ is.one some)

pub shut_short : (words : List ℕ) → HasPages words → slice_index words 512 ≡ 0 → IsShut (set words 527 0)
shut_short words pages closed =
    (get_or-set_other words 527 512 0 0 (λ e. omega arith) ∙ closed, get_or-set_same words 527 0 0 (omega (arith, pages.0, pages.1)))

pub close_moves : (gate : ℕ) (words : List ℕ) → InRecord gate → IsShut (set words gate 0) → Stand words → (image : List ℕ) → (image ≡ words) ⊎ (image ≡ set words gate 0) → SettlesTo words image
close_moves gate words inside shut stand image (inl is) = subst (SettlesTo words) (sym is) (same_refl _)
close_moves gate words inside shut stand image (inr is) =
    subst (SettlesTo words) (sym is) (settles_stands (set words gate 0) words shut stand (same_off_set InRecord words words gate 0 inside (same_refl words)))

-- the record is lawful before and after
pub close_lawful : (gate : ℕ) (words : List ℕ) → IsRecord words → IsShut (set words gate 0) → (image : List ℕ) → (image ≡ words) ⊎ (image ≡ set words gate 0) → HasFewPairs (slice_index words 512) image
close_lawful gate words was shut image (inl is) = subst (HasFewPairs (slice_index words 512)) (sym is) (few_here words was)
close_lawful gate words was shut image (inr is) = subst (HasFewPairs (slice_index words 512)) (sym is) (shut_few (slice_index words 512) (set words gate 0) shut)
