-- Escaped bytes that follow others.
use Rattle.std.proofs.Common.{◌≡◌, ◌∙◌, ℕ, List, [], ◌∷◌, ◌++◌, refl, sym, ap, append_assoc}
use Rattle.ct_script.specs.Texts.{escaped, escaped_byte}

pub escaped_append : (xs ys : List ℕ) → escaped (xs ++ ys) ≡ escaped xs ++ escaped ys
escaped_append [] ys = refl
escaped_append (x ∷ xs) ys = ap (λ t. escaped_byte x ++ t) (escaped_append xs ys) ∙ sym (append_assoc (escaped_byte x) (escaped xs) (escaped ys))
