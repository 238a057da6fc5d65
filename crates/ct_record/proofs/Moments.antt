-- What holds of each image of a device.
use Rattle.std.proofs.Common.{◌≡◌, ◌⊎◌, ℕ, ◌<◌, List, Option, Some, None, Result, Ok, Err, length, set, sym, ◌∙◌, subst, inr}
use Rattle.std.specs.Prelude.{OnOk, OnErr}
use Rattle.ct_pm.specs.declared.step.Step.TheVariants.{Store}
use Rattle.ct_pm.specs.Images.{History}
use Rattle.ct_pm.specs.Device.{AddsStep, EachNow, LeavesOnly, NothingPending, SameOff, QuietOff}
use Rattle.ct_pm.proofs.Told.{weaker}
use Rattle.ct_pm.proofs.Quiet.{quiet_here, quiet_store, quiet_then, each_now_kept}
use Rattle.ct_pm.proofs.OneWord.{Replays, on_device}
use Rattle.ct_record.proofs.Settles.{same_sym, same_then, same_wider}

-- what holds of each image now, and does not look at the words that move, holds of each image of a quiet stretch
pub quiet_keeps : {old new : Option History} {Moved : ℕ → Type 0} (P : List ℕ → Type 0) → ((image base : List ℕ) → SameOff Moved image base → P base → P image)
    → EachNow old P → QuietOff Moved old new → LeavesOnly old new P
quiet_keeps {old = None} P kept now run = record { goes_on = run.goes_on; each = tt }
quiet_keeps {old = Some past} P kept now run = weaker P (λ image comes. kept image comes.0 comes.2 (now comes.0 comes.1)) run

pub now_of : (told : Option History) (P Q : List ℕ → Type 0) → ((image : List ℕ) → Q image → P image) → EachNow told Q → EachNow told P
now_of None P Q step now = tt
now_of (Some h) P Q step now = λ image allowed. step image (now image allowed)

-- each image is still the words, but for those that may have moved
pub images_kept : {old new : Option History} {More : ℕ → Type 0} (Moved : ℕ → Type 0) (was words : List ℕ) → ((word : ℕ) → More word → Moved word) → SameOff More words was → EachNow old (SameOff Moved was) → QuietOff More old new
    → EachNow new (SameOff Moved words)
images_kept {old = old} {More = More} Moved was words within same now run =
    each_now_kept (SameOff Moved words) (λ image base moved is. same_then is (same_sym (same_wider within moved)))
    (now_of old (SameOff Moved words) (SameOff Moved was) (λ image is. same_then (same_wider within same) is) now) run

-- a stretch that is quiet off few words is quiet off more
pub quiet_wider : {old new : Option History} {More : ℕ → Type 0} (Moved : ℕ → Type 0) → ((word : ℕ) → More word → Moved word) → QuietOff More old new → QuietOff Moved old new
quiet_wider {old = old} Moved within run = quiet_then Moved within (quiet_here Moved old) run

-- two stores, the second made or refused
pub two_stores_quiet : {S F T E : Type 0} {one : Result S F} {two : Result T E} {old mid new : Option History} {a b v w : ℕ} (Moved : ℕ → Type 0) (was words : List ℕ) → Replays old was → Replays mid words
    → a < length was → b < length words → Moved a → Moved b → AddsStep one (Store a v) old mid → AddsStep two (Store b w) mid new → QuietOff Moved old new
two_stores_quiet {old = old} {mid = mid} {a = a} {b = b} Moved was words replays more within fits moved also first second =
    quiet_store Moved (quiet_store Moved (quiet_here Moved old) first (on_device old was a replays within) moved) second (on_device mid words b more fits) also

-- where nothing is pending, each image is the words
pub each_settled : (told : Option History) (words : List ℕ) (P : List ℕ → Type 0) → Replays told words → NothingPending told → P words → EachNow told P
each_settled None words P replays settled p = tt
each_settled (Some h) words P replays settled p = λ image allowed. subst P (replays ∙ sym (settled image allowed)) p

-- a commit made or refused
pub either_commit : {T E : Type 0} (r : Result T E) (old new : List ℕ) (word value : ℕ) → OnOk r (new ≡ set old word value) → OnErr r ((new ≡ old) ⊎ (new ≡ set old word value)) → (new ≡ old) ⊎ (new ≡ set old word value)
either_commit (Ok done) old new word value ok err = inr ok
either_commit (Err error) old new word value ok err = err
