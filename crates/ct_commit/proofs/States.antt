-- What an image settles to where its record is all that differs, or where its gates are closed.
use Rattle.std.proofs.Common.{◌≡◌, ℕ, ◌<◌, List, length, ◌∙◌, subst, inl, inr, arith}
use Rattle.ct_base.specs.Head.{HasHead}
use Rattle.ct_base.specs.Rules.{mapped, placed}
use Rattle.ct_base.specs.Settled.{IsRecord, IsShut, Named, Pair}
use Rattle.ct_base.specs.State.{SameState}
use Rattle.ct_base.specs.Walk.{word}
use Rattle.ct_pm.specs.Device.{SameOff}
use Rattle.ct_pm.specs.Phase.{Crash}
use Rattle.ct_record.specs.Record.{InRecord, SettlesTo}
use Rattle.ct_record.proofs.Lawful.{settles_head, shut_few}
use Rattle.ct_record.proofs.Settles.{open_shut}
use Rattle.ct_state.specs.Alike.{IsWhole}
use Rattle.ct_state.proofs.Settle.{AgreeOffRecord}
use Rattle.ct_state.proofs.Shut.{shut_whole}
use Rattle.ct_state.proofs.States.{off_state}
use Rattle.ct_commit.specs.Closed.{IsClosed}
use Rattle.ct_commit.specs.Rest.{IsAtRest}

pub off_record : {f g : List ℕ} → SameOff InRecord g f → AgreeOffRecord f g
off_record same = record { words = λ w out. same.others w (λ is. elim out [ inl low ↦ omega (arith, is.0) | inr high ↦ omega (arith, is.1) ]); size = same.size }

-- what settles to words with closed gates has their state
pub settles_state : {words image : List ℕ} → IsShut words → IsWhole words → IsRecord image → SettlesTo words image → SameState words image
settles_state {words} {image} shut whole lawful settles =
    let own = (shut_few 0 words shut).lawful in
    let head = settles_head words image own lawful settles in
    off_state (record { lawful = own; lawful_too = lawful; words = head.head; size = head.size }) (off_record settles) (shut_whole shut whole)

-- where no record is open
pub shut_crash : {Q : List ℕ → Type 0} {most : ℕ} (image : List ℕ) → IsShut image → Q image → Crash Q most image
shut_crash {most = most} image shut has = record { has = has; few = shut_few most image shut; spares = λ w named is. subst (λ (ps : List Pair). Named ps w) (open_shut image shut) named }

-- the superblock stays
pub head_over : {old new : List ℕ} → HasHead old → ((w : ℕ) → w < 512 → word new w ≡ word old w) → length new ≡ length old → IsShut new → HasHead new
head_over {new = new} h same size shut =
    let pages = same 2 (omega arith) in
    record {
      pages = (omega (arith, h.pages.0, size), omega (arith, h.pages.1, size));
      magic = same 0 (omega arith) ∙ h.magic;
      version = same 1 (omega arith) ∙ h.version;
      count = (omega (arith, h.count.0, pages), omega (arith, h.count.1, pages, size));
      inodes = (omega (arith, h.inodes.0, same 3 (omega arith)), omega (arith, h.inodes.1, same 3 (omega arith)));
      spare = λ w four lt. same w lt ∙ h.spare w four lt;
      recorded = (shut_few 0 new shut).lawful;
    }

-- ---- words at rest

pub whole_of : {w : List ℕ} → IsAtRest w → IsWhole w
whole_of rest = record { tables = rest.tables; mapped = rest.sound mapped }

pub closed_of : {w : List ℕ} → IsAtRest w → IsClosed w
closed_of rest = record { shut = rest.shut; whole = whole_of rest; placed = rest.sound placed }
