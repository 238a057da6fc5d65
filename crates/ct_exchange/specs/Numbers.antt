-- The checks of an exchange's numbers.
use Rattle.std.specs.Prelude.{ℕ, ◌+◌, ◌%◌, ◌==◌, ◌&&◌, nat_le, not, Bool, List, [], ◌∷◌}
use Rattle.std.specs.declared.option.Option.{Option}
use Rattle.ct_base.specs.declared.layout.TheConstants.{PAGE_BYTES}
use Rattle.ct_tree.specs.Checks.{above, overlap, refuse_if}
use Rattle.ct_tree.specs.Step.{exchange_limit}
use Rattle.ct_tree.specs.declared.call.Refusal.{Refusal}
use Rattle.ct_tree.specs.declared.call.Refusal.TheVariants.{BadRange, TooLong}

-- the numbers are multiples of a page, and both ranges end within files of these sizes
abbrev pub are_whole : ℕ → ℕ → ℕ → ℕ → ℕ → Bool
are_whole size off other_size other_off len =
    (off % PAGE_BYTES == 0) && (other_off % PAGE_BYTES == 0) && (len % PAGE_BYTES == 0) && nat_le (off + len) size && nat_le (other_off + len) other_size

-- the checks of the numbers, in their order
abbrev pub number_checks : List ℕ → ℕ → ℕ → List ℕ → ℕ → ℕ → ℕ → List (Option Refusal)
number_checks path size off other other_size other_off len =
    refuse_if (not (are_whole size off other_size other_off len)) BadRange ∷ overlap path off other other_off len ∷ above len exchange_limit TooLong ∷ []
