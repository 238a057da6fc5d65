-- Two scripts, one after the other.
use Rattle.std.proofs.Common.{◌≡◌, ◌∙◌, ℕ, ◌≤◌, List, [], ◌∷◌, ◌++◌, append_assoc, append-nil, length, refl, sym, ap, arith, Bool, true, false, ◌<◌, ◌≢◌, if◌then◌else◌, None}
use Rattle.std.specs.Prelude.{◌==◌, cond, nat_le}
use Rattle.std.specs.List.{flat_map, slice_split, onto_first}
use Rattle.ct_base.specs.Split.{parts_at}
use Rattle.std.proofs.lemmas.Grind.{flat_map-append}
use Rattle.std.proofs.lemmas.Bool.{ne_eqb}
use Rattle.std.proofs.lemmas.Bool.Decides.{nat_tests}
use Rattle.std.proofs.lemmas.List.Elements.{All-weaker}
use Rattle.std.proofs.lemmas.List.Splits.{length-slice_split, slice_split_none}
use Rattle.ct_tree.specs.Runs.{Item, bad}
use Rattle.ct_script.specs.Feed.{IsUnended}
use Rattle.ct_script.specs.Grammar.{call_in, chopped}
use Rattle.ct_script.specs.Script.{lines, item_of, items_of, items, all_but_last, whole}

onto_append : (z : ℕ) (ps qs : List (List ℕ)) → 1 ≤ length ps → onto_first z (ps ++ qs) ≡ onto_first z ps ++ qs
onto_append z [] qs some = absurd (omega arith)
onto_append z (p ∷ ps) qs some = refl

-- a list with an element that ends a part
pub split_joined : (p : ℕ → Bool) (xs : List ℕ) (x : ℕ) (ys : List ℕ) → p x ≡ true → slice_split p (xs ++ x ∷ ys) ≡ slice_split p xs ++ slice_split p ys
split_joined p [] x ys ends = ap (λ b. cond b ([] ∷ slice_split p ys) (onto_first x (slice_split p ys))) ends
split_joined p (z ∷ xs) x ys ends =
    ap (λ s. cond (p z) ([] ∷ s) (onto_first z s)) (split_joined p xs x ys ends) ∙ at (p z)
  where
    at : (b : Bool) → cond b ([] ∷ (slice_split p xs ++ slice_split p ys)) (onto_first z (slice_split p xs ++ slice_split p ys)) ≡ cond b ([] ∷ slice_split p xs) (onto_first z (slice_split p xs)) ++ slice_split p ys
    at true = refl
    at false = onto_append z (slice_split p xs) (slice_split p ys) (omega (arith, length-slice_split p xs))

pub lines_joined : (script more : List ℕ) → lines (script ++ 10 ∷ more) ≡ lines script ++ lines more
lines_joined script more = split_joined (λ b. b == 10) script 10 more refl

-- the items of a script with one line end more
items_ended : (script : List ℕ) → items (script ++ 10 ∷ []) ≡ items script
items_ended script = ap (flat_map items_of) (lines_joined script []) ∙ flat_map-append items_of (lines script) (lines []) ∙ append-nil (items script)

pub items_joined : (script more : List ℕ) → items ((script ++ 10 ∷ []) ++ more) ≡ items (script ++ 10 ∷ []) ++ items more
items_joined script more =
    ap items (append_assoc script (10 ∷ []) more) ∙ ap (flat_map items_of) (lines_joined script more) ∙ flat_map-append items_of (lines script) (lines more)
    ∙ ap (λ (is : List Item). is ++ items more) (sym (items_ended script))

front_push : (ls : List (List ℕ)) (l : List ℕ) → all_but_last (ls ++ l ∷ []) ≡ ls
front_push [] l = refl
front_push (m ∷ []) l = refl
front_push (m ∷ n ∷ ls) l = ap (λ r. m ∷ r) (front_push (n ∷ ls) l)

-- the last line of a script that ends with a line end is none
pub whole_ended : (script : List ℕ) → whole (script ++ 10 ∷ []) ≡ items (script ++ 10 ∷ [])
whole_ended script = ap (λ ls. flat_map items_of (all_but_last ls)) (lines_joined script []) ∙ ap (flat_map items_of) (front_push (lines script) []) ∙ sym (items_ended script)

-- a text without a byte 10 is one line
pub lines_last : (line : List ℕ) → IsUnended line → lines line ≡ line ∷ []
lines_last line unended = slice_split_none (λ b. b == 10) line (All-weaker (λ b. b ≢ 10) (λ b. (b == 10) ≡ false) (λ b other. ne_eqb b 10 other) line unended)

-- and with one after it is the first of the lines
pub lines_next : (line more : List ℕ) → IsUnended line → lines (line ++ 10 ∷ more) ≡ line ∷ lines more
lines_next line more unended = lines_joined line more ∙ ap (λ ls. ls ++ lines more) (lines_last line unended)

but_last_more : (l : List ℕ) (ls : List (List ℕ)) → 1 ≤ length ls → all_but_last (l ∷ ls) ≡ l ∷ all_but_last ls
but_last_more l [] some = absurd (omega arith)
but_last_more l (m ∷ ls) some = refl

-- so it is of those that are ended
pub ended_next : (line more : List ℕ) → IsUnended line → all_but_last (lines (line ++ 10 ∷ more)) ≡ line ∷ all_but_last (lines more)
ended_next line more unended = ap all_but_last (lines_next line more unended) ∙ but_last_more line (lines more) (omega (arith, length-slice_split (λ b. b == 10) more))

pub items_next : (line more : List ℕ) → IsUnended line → items (line ++ 10 ∷ more) ≡ items_of line ++ items more
items_next line more unended = ap (flat_map items_of) (lines_next line more unended)

pub whole_next : (line more : List ℕ) → IsUnended line → whole (line ++ 10 ∷ more) ≡ items_of line ++ whole more
whole_next line more unended = ap (flat_map items_of) (ended_next line more unended)

pub items_last : (line : List ℕ) → IsUnended line → items line ≡ items_of line
items_last line unended = ap (flat_map items_of) (lines_last line unended) ∙ append-nil (items_of line)

pub whole_last : (line : List ℕ) → IsUnended line → whole line ≡ []
whole_last line unended = ap (λ ls. flat_map items_of (all_but_last ls)) (lines_last line unended)

-- a line that is too long is no call
pub long_items : (line : List ℕ) → 65536 < length line → items_of line ≡ bad ∷ []
long_items [] long = absurd (omega arith)
long_items (x ∷ []) long = absurd (omega arith)
long_items (x ∷ y ∷ ys) long =
    let test : nat_le (length (x ∷ y ∷ ys)) 65536 ≡ false = grind (arith, nat_tests) in
    ap (λ (b : Bool). item_of (if b then call_in (parts_at 32 (chopped (x ∷ y ∷ ys))) else None) ∷ []) test
