-- The exchange as the first of a draft.
use Rattle.std.proofs.Common.{◌≡◌, ℕ, List, [], ap, subst}
use Rattle.ct_base.specs.Exchange.{Exchanged}
use Rattle.ct_base.specs.Settled.{Pair, with_pairs}
use Rattle.ct_image.proofs.Beside.{Beside}
use Rattle.ct_record.specs.declared.draft.Draft.{Draft}
use Rattle.ct_record.specs.Seen.{Drafts, drafted, pairs_of, words_under}
use Rattle.ct_record.proofs.Under.{under_beside}

pub from_start : {D : Type 0} {bound : _} (first last : Draft D bound) {a b n : ℕ} → pairs_of first ≡ [] → Exchanged (drafted first) (drafted last) a b n → Exchanged (words_under first) (drafted last) a b n
from_start first last {a} {b} {n} none e = subst (λ (l : List ℕ). Exchanged l (drafted last) a b n) (ap (λ (l : List Pair). with_pairs l (words_under first)) none) e

pub beside_of : {D : Type 0} {bound : _} {first last : Draft D bound} → Drafts first last → Beside (words_under first) (words_under last)
beside_of {first = first} {last = last} drafts = under_beside (words_under first) (words_under last) drafts.same
