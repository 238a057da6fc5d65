-- A draft with the pairs of an exchange, from its begin to the end of its record.
use Rattle.std.proofs.Common.{◌≡◌, ℕ, ◌+◌, ◌*◌, ◌≤◌, List, [], ◌++◌, length, Result, Ok, Err, ap, subst, ◌∙◌, arith}
use Rattle.std.specs.Prelude.{OnOk}
use Rattle.std.proofs.lemmas.List.{append-nil}
use Rattle.ct_base.specs.Exchange.{Exchanged}
use Rattle.ct_base.specs.Settled.{Pair, with_pairs}
use Rattle.ct_pm.specs.Device.{SameOff}
use Rattle.ct_record.specs.declared.draft.Draft.{Draft}
use Rattle.ct_record.specs.Record.{InRecord}
use Rattle.ct_record.specs.Seen.{count_of, draft_dev, drafted, pairs_of, words_under}
use Rattle.ct_record.proofs.Under.{under_beside}
use Rattle.ct_swap.specs.Swap.{swap_pairs}
use Rattle.ct_swap.proofs.Pairing.{exchanged_beside}

-- the pairs that were drafted
pub swapped : {D T E : Type 0} {bound : _} (result : Result T E) (dev : D) (first last : Draft D bound) (a b : ℕ) (ps : List (ℕ × ℕ)) → draft_dev first ≡ dev → pairs_of first ≡ [] → count_of first ≡ 0
    → OnOk result (pairs_of last ≡ swap_pairs (words_under first) a b ps ++ pairs_of first) → OnOk result (count_of last ≡ count_of first + 2 * length ps)
    → OnOk result ((pairs_of last ≡ swap_pairs (bound.words dev) a b ps) × (count_of last ≤ 2 * length ps))
swapped {bound = bound} (Ok done) dev first last a b ps is none zero added count = (
  added ∙ ap (λ (l : List Pair). swap_pairs (words_under first) a b ps ++ l) none ∙ append-nil (swap_pairs (words_under first) a b ps) ∙ ap (λ d. swap_pairs (bound.words d) a b ps) is,
  omega (arith, count, zero),
)
swapped (Err error) dev first last a b ps is none zero added count = tt

-- the tables at the end
pub exchanged_end : {D : Type 0} {bound : _} (dev : D) (first last : Draft D bound) (done : List ℕ) (a b n : ℕ) → draft_dev first ≡ dev → pairs_of first ≡ [] → Exchanged (drafted first) (drafted last) a b n
    → SameOff InRecord done (with_pairs (pairs_of last) (words_under last)) → Exchanged (bound.words dev) done a b n
exchanged_end {bound = bound} dev first last done a b n is none exchanged same =
    let e : Exchanged (drafted first) done a b n = exchanged_beside exchanged (under_beside (drafted last) done same) in
    let begun : drafted first ≡ bound.words dev = ap (λ (l : List Pair). with_pairs l (words_under first)) none ∙ ap (λ d. bound.words d) is in
    subst (λ (l : List ℕ). Exchanged l done a b n) begun e
