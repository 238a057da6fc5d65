use Rattle.std.proofs.Common.{◌+◌, ◌*◌, ◌/◌, length, get_or, arith, refl, inl, inr}
use Rattle.std.specs.Int.{w64, trailing_zeros}
use Rattle.std.proofs.lemmas.Bool.{cases_lt}
use Rattle.std.proofs.lemmas.List.{get_or_past}
use Rattle.ct_frames.proofs.Masks.{lowest-set, is_set-zero}
use Rattle.ct_frames.proofs.bits.lowest_bit.Goals as goal

pub returns-in_err-i-clause-none : goal.returns-in_err-i-clause-none
returns-in_err-i-clause-none c =
    let words = c.args.words.now in
    let zeros = c.in_err-i.ensures.none c.requires.zeros in
    rw c.from_residual.ensures (λ q. elim (cases_lt (q / 64) (length words)) [
      | inl lt ↦ is_set-zero words q (zeros (q / 64) lt)
      | inr past ↦ is_set-zero words q (get_or_past words (q / 64) 0 past)
    ])

pub returns-clause-set : goal.returns-clause-set
returns-clause-set c =
    let words = c.args.words.now in
    let i = c.in_ok-i.i in
    let found = c.in_ok-i.ensures.found in
    let set = lowest-set words i (trailing_zeros w64 (get_or words i 0)) (i * 64 + trailing_zeros w64 (get_or words i 0)) (omega (arith, found.2)) (omega (arith, c.type_inv.words i)) refl refl in
    (omega (arith, set.0, found.1), set.1)

pub returns-clause-lowest : goal.returns-clause-lowest
returns-clause-lowest c =
    let words = c.args.words.now in
    let i = c.in_ok-i.i in
    let found = c.in_ok-i.ensures.found in
    (lowest-set words i (trailing_zeros w64 (get_or words i 0)) (i * 64 + trailing_zeros w64 (get_or words i 0)) (omega (arith, found.2)) (omega (arith, c.type_inv.words i)) refl refl).2
    (c.in_ok-i.ensures.least c.requires.zeros)
