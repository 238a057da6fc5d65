-- The verbs, looked up one after another.
use Rattle.std.proofs.Common.{◌≡◌, ◌∙◌, ℕ, ◌+◌, ◌<◌, ◌≤◌, List, [], ◌∷◌, length, drop, get_or, ap, Some, None, Option, Bool, true, false, if◌then◌else◌}
use Rattle.std.specs.Str.{bytes_eq}
use Rattle.std.proofs.lemmas.List.{drop_more, drop_all}
use Rattle.ct_script.specs.Grammar.{word_of}
use Rattle.ct_script.specs.declared.verb.Verb.{Verb}
use Rattle.ct_script.specs.declared.verb.Verb.TheVariants.{Create}

-- the first of the verbs that is written as the word
abbrev pub found : List ℕ → List Verb → Option Verb
found word [] = None
found word (verb ∷ verbs) = if bytes_eq word (word_of verb) then Some verb else found word verbs

found_at : (word : List ℕ) (verbs : List Verb) (i : ℕ) (b : Bool) → i < length verbs → bytes_eq word (word_of (get_or verbs i Create)) ≡ b
    → found word (drop i verbs) ≡ (if b then Some (get_or verbs i Create) else found word (drop (i + 1) verbs))
found_at word verbs i b within is = ap (found word) (drop_more verbs i Create within) ∙ ap (λ t. if t then Some (get_or verbs i Create) else found word (drop (i + 1) verbs)) is

pub found_here : (word : List ℕ) (verbs : List Verb) (i : ℕ) → i < length verbs → bytes_eq word (word_of (get_or verbs i Create)) ≡ true → found word (drop i verbs) ≡ Some (get_or verbs i Create)
found_here word verbs i within is = found_at word verbs i true within is

pub found_later : (word : List ℕ) (verbs : List Verb) (i : ℕ) → i < length verbs → bytes_eq word (word_of (get_or verbs i Create)) ≡ false → found word (drop i verbs) ≡ found word (drop (i + 1) verbs)
found_later word verbs i within is = found_at word verbs i false within is

pub found_none : (word : List ℕ) (verbs : List Verb) (i : ℕ) → length verbs ≤ i → found word (drop i verbs) ≡ None
found_none word verbs i past = ap (found word) (drop_all i verbs past)
