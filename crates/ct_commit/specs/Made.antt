-- What a record makes of words, and what an operation owes of it.
use Rattle.std.specs.Prelude.{◌≡◌, ◌⊎◌, ℕ, ◌/◌, ◌≤◌, List, [], OnOk, Option, Result}
use Rattle.ct_base.specs.Free.{IsFilePage}
use Rattle.ct_base.specs.Settled.{IsShut, Named, Pair, with_pairs}
use Rattle.ct_base.specs.State.{SameState}
use Rattle.ct_base.specs.declared.layout.TheConstants.{PAGE_WORDS}
use Rattle.ct_pm.specs.Device.{SameOff}
use Rattle.ct_pm.specs.Images.{History}
use Rattle.ct_record.specs.declared.draft.Draft.{Draft}
use Rattle.ct_record.specs.Record.{AreApart, Concluded, InRecord, IsDrafted}
use Rattle.ct_record.specs.Seen.{Drafts, count_of, draft_dev, drafted, pairs_of, told_under, words_under}
use Rattle.ct_commit.specs.Closed.{IsClosed}
use Rattle.ct_commit.specs.Rest.{IsAtRest}

-- pairs that make R of the words, or none where the device failed before they were drafted; they name only words with N
pub record Made (was : List ℕ) (pairs : List Pair) (R : List ℕ → Type 0) (N : ℕ → Type 0) : Type 0 where
  pub shut : IsShut was
  pub apart : AreApart pairs
  pub named : (w : ℕ) → Named pairs w → N w
  pub makes : (pairs ≡ []) ⊎ R (with_pairs pairs was)

-- what is made of words is made where others stand in pages 1 to 32
abbrev pub IsStable : (List ℕ → List ℕ → Type 0) → Type 0
IsStable R = (was new done : List ℕ) → R was new → SameOff InRecord done new → R was done

-- what a draft gives that began on a device: R of the words before and with the pairs, and pairs that name words with N alone
pub record Drafted {D T E : Type 0} {bound : _} (R : List ℕ → List ℕ → Type 0) (N : List ℕ → ℕ → Type 0) (most : ℕ) (result : Result T E) (dev : D) (first last : Draft D bound) : Type 0 where
  pub is : draft_dev first ≡ dev
  pub drafts : Drafts first last
  pub makes : OnOk result (R (words_under first) (drafted last))
  pub named : OnOk result ((w : ℕ) → Named (pairs_of last) w → N (words_under first) w)
  pub few : OnOk result (count_of last ≤ most)

-- What an operation owes of its record: what is made of closed words is closed, and no word that is named lies on a page of a live
-- file, before or after.
pub record Spares (was : List ℕ) (R : List ℕ → Type 0) (N : ℕ → Type 0) : Type 0 where
  pub before : IsClosed was
  pub after : (new : List ℕ) → R new → IsShut new → IsClosed new
  pub off : (w : ℕ) → N w → IsFilePage was (w / PAGE_WORDS) → ⊥
  pub off_after : (new : List ℕ) → R new → IsShut new → (w : ℕ) → N w → IsFilePage new (w / PAGE_WORDS) → ⊥

-- Q holds of what settles to the state before, or to that of words of which R holds
pub record Settles (was : List ℕ) (R : List ℕ → Type 0) (Q : List ℕ → Type 0) : Type 0 where
  pub before : (image : List ℕ) → SameState was image → Q image
  pub after : (new : List ℕ) → R new → IsShut new → (image : List ℕ) → SameState new image → Q image

-- what is known of a draft that is concluded, whatever pairs it had
abbrev pub Concludes : {D T E S F : Type 0} {bound : _} → Draft D bound → Result T E → List ℕ → Option History → Result S F → Type 0
Concludes draft drafted now told result =
    (was : List ℕ) (start : Option History) (pairs : List Pair) (most : ℕ) → IsDrafted was (words_under draft) start (told_under draft) → OnOk drafted ((pairs_of draft ≡ pairs) × (count_of draft ≤ most))
    → Concluded was start pairs most now told result

-- Given pairs turn words at rest into words at rest, and none names a word of a live file's page, before or after.
pub record Turns (was : List ℕ) (pairs : List Pair) : Type 0 where
  pub rest : IsAtRest was
  pub after : IsAtRest (with_pairs pairs was)
  pub apart : AreApart pairs
  pub off : (w : ℕ) → Named pairs w → IsFilePage was (w / PAGE_WORDS) → ⊥
  pub off_after : (w : ℕ) → Named pairs w → IsFilePage (with_pairs pairs was) (w / PAGE_WORDS) → ⊥
