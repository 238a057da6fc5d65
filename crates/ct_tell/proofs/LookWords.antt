-- Which look two words are.
use Rattle.std.proofs.Common.{◌≡◌, ℕ, ◌<◌, ◌≤◌, List, [], ◌∷◌, length, map, get_or, ap, arith}
use Rattle.ct_tell.specs.Looks.{image_look, look_of}

pub of_two : {X : Type 0} (bytes : X → List ℕ) (words : List X) (word : X) → 2 ≤ length words → length words < 3 → word ≡ get_or words 0 word → image_look (bytes word) ≡ look_of (map bytes words)
of_two bytes [] word least below is = absurd (omega (arith, least))
of_two bytes (a ∷ []) word least below is = absurd (omega (arith, least))
of_two bytes (a ∷ b ∷ []) word least below is = ap (λ x. image_look (bytes x)) is
of_two bytes (a ∷ b ∷ d ∷ rest) word least below is = absurd (omega (arith, below))
