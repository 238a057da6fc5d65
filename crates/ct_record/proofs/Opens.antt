-- Which pairs are open in an image.
use Rattle.std.proofs.Common.{◌≡◌, ◌⊎◌, ℕ, List, set, ap, ◌∙◌, subst, inl, inr, arith}
use Rattle.ct_base.specs.Settled.{Pair, Named, open_pairs, IsRecord, IsShut}
use Rattle.ct_pm.specs.Device.{SameOff}
use Rattle.ct_record.specs.Record.{IsNoneOrAll, OpensOnly}
use Rattle.ct_record.proofs.Settles.{open_alike, open_shut, open_target}

pub shut_opens : (pairs : List Pair) (words : List ℕ) → IsShut words → OpensOnly pairs words
shut_opens pairs words shut = inl (open_shut words shut)

-- while a record is armed
pub armed_opens : (pairs : List Pair) (words image : List ℕ) → IsNoneOrAll pairs words image → OpensOnly pairs image
armed_opens pairs words image (inl none) = shut_opens pairs image none.0
armed_opens pairs words image (inr all) = inr all.0

-- while it is applied
pub moved_opens : (words image : List ℕ) → IsRecord words → SameOff (Named (open_pairs words)) image words → OpensOnly (open_pairs words) image
moved_opens words image is same = inr (open_alike image words is (λ word inside. same.others word (λ named. omega (arith, inside.1, (open_target words word is named).0))))

-- while it is closed
pub close_opens : (gate : ℕ) (words : List ℕ) → IsShut (set words gate 0) → (image : List ℕ) → (image ≡ words) ⊎ (image ≡ set words gate 0) → OpensOnly (open_pairs words) image
close_opens gate words shut image (inl is) = inr (ap open_pairs is)
close_opens gate words shut image (inr is) = inl (ap open_pairs is ∙ open_shut (set words gate 0) shut)

-- the same pairs by another name
pub opens_as : {pairs other : List Pair} (image : List ℕ) → pairs ≡ other → OpensOnly pairs image → OpensOnly other image
opens_as image same opens = subst (λ (ps : List Pair). OpensOnly ps image) same opens
