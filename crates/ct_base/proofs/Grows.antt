-- Known bytes that grow in steps, and a list that is given in pieces.
use Rattle.std.proofs.Common.{◌≡◌, ◌∙◌, ℕ, ◌+◌, ◌≤◌, List, ◌++◌, length, take, drop, sym, ap, append_assoc, length-take, length-drop, arith}
use Rattle.std.specs.Prelude.{Some, None}
use Rattle.std.specs.declared.option.Option.{Option}
use Rattle.std.specs.Io.KnownBytes.{Appends}
use Rattle.std.proofs.Math.Seq.{take-add}
use Rattle.std.proofs.lemmas.List.{take_at, drop-drop, take-append-drop}

pub appends_more : (a b c : Option (List ℕ)) (d n : ℕ) (bs : List ℕ) → Appends a b (take d bs) → Appends b c (take n (drop d bs)) → Appends a c (take (d + n) bs)
appends_more None b c d n bs p q = tt
appends_more (Some x) None c d n bs p q = absurd p
appends_more (Some x) (Some y) None d n bs p q = absurd q
appends_more (Some x) (Some y) (Some z) d n bs p q =
    q ∙ ap (λ u. u ++ take n (drop d bs)) p ∙ append_assoc x (take d bs) (take n (drop d bs)) ∙ ap (λ u. x ++ u) (sym (take-add d n bs))

-- what is copied to the front of a buffer, and what is left, are what was left
pub piece_and_rest : (xs w buf : List ℕ) (at n : ℕ) → at + n ≤ length xs → w ≡ take n (drop at xs) → drop at xs ≡ take n (w ++ buf) ++ drop (at + n) xs
piece_and_rest xs w buf at n within is =
    let long : length w ≡ n = ap length is ∙ length-take n (drop at xs) ∙ (let e = length-drop at xs in omega (arith, e)) in
    sym (take-append-drop n (drop at xs)) ∙ ap (λ u. u ++ drop n (drop at xs)) (sym (take_at w buf n long ∙ is)) ∙ ap (λ u. take n (w ++ buf) ++ u) (drop-drop n at xs)
