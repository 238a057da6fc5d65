-- The items of an input, whatever they are: those of each line.
use Rattle.std.specs.Prelude.{◌≡◌, ◌⊎◌, ℕ, List}
use Rattle.std.specs.Io.KnownBytes.{IsAtEnd}
use Rattle.std.specs.List.{flat_map}
use Rattle.std.specs.declared.option.Option.{Option}
use Rattle.ct_script.specs.Script.{all_but_last, lines}

module _ {I : Type 0} (items_of : List ℕ → List I) where
  abbrev pub by_lines : List ℕ → List I
  by_lines input = flat_map items_of (lines input)

  -- the items of the lines that are ended by a byte 10
  abbrev pub by_ended : List ℕ → List I
  by_ended input = flat_map items_of (all_but_last (lines input))

  -- the items that a run may take: of the lines that were ended, and at the end of the input of all
  abbrev pub MayTakeOf : List ℕ → Option (List ℕ) → List I → Type 0
  MayTakeOf given rest all = (all ≡ by_ended given) ⊎ (IsAtEnd rest × (all ≡ by_lines given))
