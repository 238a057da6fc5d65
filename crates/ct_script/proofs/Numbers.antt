-- The value of digits, one after another.
use Rattle.std.proofs.Common.{◌≡◌, ◌∙◌, ℕ, ◌+◌, ◌-◌, ◌*◌, ◌<◌, ◌≤◌, List, [], ◌∷◌, length, drop, get_or, refl, sym, ap, arith, Some, None, Bool, true, false, if◌then◌else◌}
use Rattle.std.specs.Prelude.{nat_lt}
use Rattle.std.proofs.lemmas.Bool.Decides.{nat_tests}
use Rattle.std.proofs.lemmas.List.{drop_more, drop_all}
use Rattle.ct_script.specs.Grammar.{value_from, value_below}

value_grows : (n : ℕ) (ds : List ℕ) → n ≤ value_from n ds
value_grows n [] = omega arith
value_grows n (d ∷ ds) = let h = value_grows (10 * n + (d - 48)) ds in omega (arith, h)

if_not : (b : Bool) (x : ℕ) → b ≡ false → None ≡ (if b then Some x else None)
if_not true x h = absurd (cc)
if_not false x h = refl

if_so : (b : Bool) (x : ℕ) → b ≡ true → Some x ≡ (if b then Some x else None)
if_so true x h = refl
if_so false x h = absurd (cc)

-- one digit too many
pub value_over : (word : List ℕ) (i v limit : ℕ) → i < length word → value_from v (drop i word) ≡ value_from 0 word → limit ≤ 10 * v + (get_or word i 0 - 48) → None ≡ value_below limit word
value_over word i v limit within same over =
    let next = ap (value_from v) (drop_more word i 0 within) in
    let grows = value_grows (10 * v + (get_or word i 0 - 48)) (drop (i + 1) word) in
    let whole : limit ≤ value_from 0 word = omega (arith, same, next, grows, over) in
    if_not (nat_lt (value_from 0 word) limit) (value_from 0 word) (grind (arith, nat_tests))

-- all digits
pub value_whole : (word : List ℕ) (i v limit : ℕ) → length word ≤ i → value_from v (drop i word) ≡ value_from 0 word → v < limit → Some v ≡ value_below limit word
value_whole word i v limit past same below =
    let is : v ≡ value_from 0 word = sym (ap (value_from v) (drop_all i word past)) ∙ same in
    let less : value_from 0 word < limit = omega (arith, is, below) in
    ap (λ n. Some n) is ∙ if_so (nat_lt (value_from 0 word) limit) (value_from 0 word) (grind (arith, nat_tests))
