-- Stretches that are quiet off some words, and lines that are written back.
use Rattle.std.proofs.Common.{◌≡◌, ◌≢◌, ℕ, ◌/◌, ◌<◌, List, [], ◌∷◌, length, Option, Some, None, Result, Ok, Err, set, refl, sym, ◌∙◌, subst}
use Rattle.std.specs.Prelude.{IfSome}
use Rattle.std.proofs.lemmas.Option.{none-some}
use Rattle.std.proofs.lemmas.List.{get_or-set_other}
use Rattle.std.proofs.Math.ListN.{length-set}
use Rattle.ct_pm.specs.declared.step.Step.TheVariants.{Store, Flush, Fence}
use Rattle.ct_pm.specs.Images.{History, reads, IsSettled}
use Rattle.ct_pm.specs.Device.{with_steps, AddsStep, EachNow, LeavesOnly, WrittenBack, SameOff, ComesFrom, QuietOff}
use Rattle.ct_pm.proofs.Allowed.{written_store, written_flush, written_flushed}
use Rattle.ct_pm.proofs.Told.{started, stored, flushed, fenced, and_then, weaker, at_end, OnDevice}

pub same_off_set : (Moved : ℕ → Type 0) (a b : List ℕ) (word value : ℕ) → Moved word → SameOff Moved a b → SameOff Moved (set a word value) b
same_off_set Moved a b word value moved same = record {
  size = length-set a word value ∙ same.size;
  others = λ w off. let ne : w ≢ word = λ is. off (subst Moved (sym is) moved) in get_or-set_other a word w value 0 ne ∙ same.others w off;
}

comes_set : (Moved : ℕ → Type 0) (told : Option History) (image : List ℕ) (word value : ℕ) → Moved word → ComesFrom Moved told image → ComesFrom Moved told (set image word value)
comes_set Moved None image word value moved comes = tt
comes_set Moved (Some past) image word value moved comes = (comes.0, comes.1, same_off_set Moved image comes.0 word value moved comes.2)

-- no step is quiet
pub quiet_here : (Moved : ℕ → Type 0) (told : Option History) → QuietOff Moved told told
quiet_here Moved None = started None (ComesFrom Moved None) tt
quiet_here Moved (Some past) = started (Some past) (ComesFrom Moved (Some past)) (λ image allowed. (image, allowed, record { size = refl; others = λ word off. refl }))

-- a store is quiet off its word
pub quiet_store : {T E : Type 0} {r : Result T E} {old mid new : Option History} {word value : ℕ} (Moved : ℕ → Type 0) → QuietOff Moved old mid → AddsStep r (Store word value) mid new
    → OnDevice word mid → Moved word → QuietOff Moved old new
quiet_store {old = old} {word = word} {value = value} Moved run adds within moved =
    stored (ComesFrom Moved old) run adds within (λ base comes. (comes, comes_set Moved old base word value moved comes))

-- what is written back
pub back_store : {T E : Type 0} (r : Result T E) {mid new : Option History} {word value : ℕ} (line : ℕ) → AddsStep r (Store word value) mid new → (word / 8 ≡ line → ⊥) → WrittenBack mid line → WrittenBack new line
back_store (Ok done) {mid = None} line adds ne back = subst (λ n. WrittenBack n line) (sym adds.ok) tt
back_store (Ok done) {mid = Some h} {word = word} {value = value} line adds ne back = subst (λ n. WrittenBack n line) (sym adds.ok) (written_store h word value line ne back)
back_store (Err error) line adds ne back = subst (λ n. WrittenBack n line) (sym adds.err) back

pub back_flush : {T E : Type 0} (r : Result T E) {mid new : Option History} {flushed : ℕ} (line : ℕ) → AddsStep r (Flush flushed) mid new → WrittenBack mid line → WrittenBack new line
back_flush (Ok done) {mid = None} line adds back = subst (λ n. WrittenBack n line) (sym adds.ok) tt
back_flush (Ok done) {mid = Some h} {flushed = flushed} line adds back = subst (λ n. WrittenBack n line) (sym adds.ok) (written_flush h flushed line back)
back_flush (Err error) line adds back = subst (λ n. WrittenBack n line) (sym adds.err) back

pub back_flushed : {T E : Type 0} {done : T} {mid new : Option History} {line : ℕ} → AddsStep {T = T} {E = E} (Ok done) (Flush line) mid new → WrittenBack new line
back_flushed {mid = None} {line = line} adds = subst (λ n. WrittenBack n line) (sym adds.ok) tt
back_flushed {mid = Some h} {line = line} adds = subst (λ n. WrittenBack n line) (sym adds.ok) (written_flushed h line)

comes_then : (Moved More : ℕ → Type 0) (old mid : Option History) (image : List ℕ) → QuietOff Moved old mid → ((word : ℕ) → More word → Moved word) → ComesFrom More mid image → ComesFrom Moved old image
comes_then Moved More None mid image run within comes = tt
comes_then Moved More (Some past) None image run within comes = absurd (none-some _ run.goes_on.1)
comes_then Moved More (Some past) (Some h) image run within comes =
    let from = at_end run comes.0 comes.1 in (
      from.0,
      from.1,
      record {
        size = comes.2.size ∙ from.2.size;
        others = λ word off. comes.2.others word (λ moved. off (within word moved)) ∙ from.2.others word off;
      },
    )

-- two quiet stretches make one
pub quiet_then : {old mid new : Option History} {More : ℕ → Type 0} (Moved : ℕ → Type 0) → ((word : ℕ) → More word → Moved word) → QuietOff Moved old mid → QuietOff More mid new → QuietOff Moved old new
quiet_then {old = old} {mid = mid} {More = More} Moved within run more =
    and_then run (weaker (ComesFrom Moved old) (λ image comes. comes_then Moved More old mid image run within comes) more)

from_settled : (Moved : ℕ → Type 0) (old : Option History) (words image : List ℕ) → IfSome old (λ h. words ≡ reads h) → IfSome old IsSettled → ComesFrom Moved old image → IfSome old (λ past. SameOff Moved image words)
from_settled Moved None words image replays settled comes = tt
from_settled Moved (Some past) words image replays settled comes =
    let is : comes.0 ≡ words = settled comes.0 comes.1 ∙ sym replays in subst (λ l. SameOff Moved image l) is comes.2

-- where nothing was pending, a quiet stretch leaves the words as they read, but for those that moved
pub quiet_settled : {old new : Option History} {Moved : ℕ → Type 0} {words : List ℕ} → IfSome old (λ h. words ≡ reads h) → IfSome old IsSettled → QuietOff Moved old new → LeavesOnly old new (λ image. SameOff Moved image words)
quiet_settled {old = None} replays settled run = record { goes_on = run.goes_on; each = tt }
quiet_settled {old = Some past} {Moved = Moved} {words = words} replays settled run =
    weaker (λ image. SameOff Moved image words) (λ image comes. from_settled Moved (Some past) words image replays settled comes) run

-- what holds of each image now, and does not look at the words that move, holds of each image after a quiet stretch
pub each_now_kept : {old new : Option History} {Moved : ℕ → Type 0} (P : List ℕ → Type 0) → ((image base : List ℕ) → SameOff Moved image base → P base → P image)
    → EachNow old P → QuietOff Moved old new → EachNow new P
each_now_kept {old = None} {new = None} P kept now run = tt
each_now_kept {old = None} {new = Some h} P kept now run = absurd (none-some _ (sym run.goes_on.1))
each_now_kept {old = Some past} {new = None} P kept now run = tt
each_now_kept {old = Some past} {new = Some h} P kept now run = λ image allowed. let from = at_end run image allowed in kept image from.0 from.2 (now from.0 from.1)

-- one step is quiet off what it stores
pub quiet_one_store : (h : History) (word value : ℕ) → word < length h.start → QuietOff (λ w. w ≡ word) (Some h) (with_steps (Store word value ∷ []) (Some h))
quiet_one_store h word value within =
    let adds : AddsStep {T = Unit {0}} {E = Unit {0}} (Ok tt) (Store word value) (Some h) (with_steps (Store word value ∷ []) (Some h)) = record { ok = refl; err = tt } in
    quiet_store (λ w. w ≡ word) (quiet_here (λ w. w ≡ word) (Some h)) adds within refl

pub quiet_one_flush : (told : Option History) (line : ℕ) → QuietOff (λ _. ⊥) told (with_steps (Flush line ∷ []) told)
quiet_one_flush told line =
    let adds : AddsStep {T = Unit {0}} {E = Unit {0}} (Ok tt) (Flush line) told (with_steps (Flush line ∷ []) told) = record { ok = refl; err = tt } in
    flushed (quiet_here (λ _. ⊥) told) adds

pub quiet_one_fence : (told : Option History) → QuietOff (λ _. ⊥) told (with_steps (Fence ∷ []) told)
quiet_one_fence told =
    let adds : AddsStep {T = Unit {0}} {E = Unit {0}} (Ok tt) Fence told (with_steps (Fence ∷ []) told) = record { ok = refl; err = tt } in
    fenced (quiet_here (λ _. ⊥) told) adds
