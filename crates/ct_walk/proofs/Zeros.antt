-- Words set to 0 one by one.
use Rattle.std.proofs.Common.{◌≡◌, ◌≢◌, ℕ, ◌+◌, ◌*◌, ◌/◌, ◌<◌, ◌≤◌, List, [], ◌∷◌, Option, Some, None, Result, Ok, Err, length, set, get_or, refl, sym, ◌∙◌, ap, subst, ◌⊎◌, inl, inr, arith}
use Rattle.std.specs.Prelude.{slice_index, OnOk}
use Rattle.std.proofs.lemmas.Bool.{cases_eq, cases_lt}
use Rattle.std.proofs.lemmas.List.{get_or-set_same, get_or-set_other}
use Rattle.ct_pm.specs.declared.step.Step.TheVariants.{Store, Flush, Fence}
use Rattle.ct_pm.specs.Images.{History, IsAllowed, reads}
use Rattle.ct_pm.proofs.Allowed.{push, length-reads, shows_fence, written_flushed}
use Rattle.ct_pm.proofs.Told.{OnDevice}
use Rattle.ct_pm.specs.Device.{with_steps, AddsStep, EachNow, MakesOnly, NothingPending, WrittenBack, SameOff, QuietOff, KeepsOthersBack, IsIn}
use Rattle.ct_pm.proofs.Made.{makes_none, makes_step, makes_then, makes_weaker}
use Rattle.ct_pm.proofs.OneWord.{Replays, on_device}
use Rattle.ct_pm.proofs.Quiet.{same_off_set, quiet_here, quiet_store, quiet_then, quiet_settled, back_store}
use Rattle.ct_pm.proofs.Fence.{settled_by_fence}

-- what holds of a result that is Ok, where it holds under a premise
pub on_ok_if : {T E : Type 0} (P Q : Type 0) (r : Result T E) → (P → OnOk r Q) → OnOk r (P → Q)
on_ok_if P Q (Ok done) f = f
on_ok_if P Q (Err error) f = tt

pub on_ok_then : {T E P Q : Type 0} (r : Result T E) → OnOk r P → (P → Q) → OnOk r Q
on_ok_then (Ok done) p f = f p
on_ok_then (Err error) p f = tt

pub on_ok_of : {T E P : Type 0} (r : Result T E) → P → OnOk r P
on_ok_of (Ok done) p = p
on_ok_of (Err error) p = tt

-- the first i of n words are 0, and all others are as they were
pub record ZeroSoFar (first n i : ℕ) (was words : List ℕ) (old told : Option History) : Type 0 where
  pub zeros : (k : ℕ) → k < i → slice_index words (first + k) ≡ 0
  pub same : SameOff (IsIn first n) words was
  pub quiet : QuietOff (IsIn first n) old told
  pub others : KeepsOthersBack (IsIn first n) old told
  pub made : MakesOnly (λ at put. IsIn first n at) old told

pub zero_none : (first n : ℕ) (was : List ℕ) (old : Option History) → ZeroSoFar first n 0 was was old old
zero_none first n was old = record {
  zeros = λ k below. absurd (omega arith);
  same = record { size = refl; others = λ word off. refl };
  quiet = quiet_here (IsIn first n) old;
  others = λ line none back. back;
  made = makes_none (λ at put. IsIn first n at) old;
}

pub zero_more : {T E : Type 0} (r : Result T E) {first n i : ℕ} {was words after : List ℕ} {old told new : Option History} → ZeroSoFar first n i was words old told → i < n
    → first + n ≤ length was → Replays told words → after ≡ set words (first + i) 0 → AddsStep r (Store (first + i) 0) told new → ZeroSoFar first n (i + 1) was after old new
zero_more r {first = first} {n = n} {i = i} {was = was} {words = words} {after = after} {old = old} {told = told} {new = new} so_far within room replays put adds =
    let size : length words ≡ length was = so_far.same.size in
    let fits : first + i < length words = omega arith in
    record {
      zeros = λ k below. elim (cases_eq k i) [
        | inl here ↦ ap (λ (l : List ℕ). slice_index l (first + k)) put ∙ ap (λ (m : ℕ). get_or (set words (first + i) 0) (first + m) 0) here ∙ get_or-set_same words (first + i) 0 0 fits
        | inr ne ↦
            let apart : first + k ≢ first + i = λ e. ne (omega arith) in
            ap (λ (l : List ℕ). slice_index l (first + k)) put ∙ get_or-set_other words (first + i) (first + k) 0 0 apart ∙ so_far.zeros k (omega arith)
      ];
      same = subst (λ l. SameOff (IsIn first n) l was) (sym put) (same_off_set (IsIn first n) words was (first + i) 0 (omega arith, omega arith) so_far.same);
      others = λ line none back. back_store r line adds (λ is. none (first + i) (omega arith, omega arith) is) (so_far.others line none back);
      quiet = quiet_store (IsIn first n) so_far.quiet adds (on_device told words (first + i) replays fits) (omega arith, omega arith);
      made = makes_step r so_far.made adds (omega arith, omega arith);
    }

pub is_in : (first n word : ℕ) → IsIn first n word ⊎ (IsIn first n word → ⊥)
is_in first n word = elim (cases_lt word first) [
  | inl below ↦ inr (λ is. omega (arith, is.0))
  | inr from ↦ elim (cases_lt word (first + n)) [ inl within ↦ inl (from, within) | inr past ↦ inr (λ is. omega (arith, is.1)) ]
]

-- the words are set to 0, and their lines flushed
pub quiet_cleared : (first n : ℕ) {old mid new : Option History} → QuietOff (IsIn first n) old mid → QuietOff (λ _. ⊥) mid new → QuietOff (IsIn first n) old new
quiet_cleared first n run more = quiet_then (IsIn first n) (λ word none. absurd none) run more

pub made_cleared : (first n : ℕ) {old mid new : Option History} → MakesOnly (λ at put. IsIn first n at) old mid → MakesOnly (λ at put. ⊥) mid new → MakesOnly (λ at put. IsIn first n at) old new
made_cleared first n made more = makes_then made (makes_weaker (λ at put. IsIn first n at) (λ at put none. absurd none) more)

-- and fenced
pub settled_cleared : {T E : Type 0} (r : Result T E) (page : ℕ) {was words : List ℕ} {old mid new : Option History} → Replays old was → QuietOff (IsIn (page * 512) 512) old mid → SameOff (IsIn (page * 512) 512) words was → Replays mid words
    → ((line : ℕ) → page * 64 ≤ line → line < page * 64 + 64 → WrittenBack mid line) → AddsStep r Fence mid new → OnOk r (NothingPending old → NothingPending new)
settled_cleared r page {old = old} {new = new} replays quiet same replays' back adds =
    on_ok_if (NothingPending old) (NothingPending new) r (λ settled. settled_by_fence (is_in (page * 512) 512) (quiet_settled replays settled quiet) same replays'
    (λ word inside. back (word / 8) (omega (arith, inside.0)) (omega (arith, inside.1))) adds)

-- a word that was stored, flushed and fenced shows in every image
shown_after : (h : History) (word value : ℕ) → word < length h.start
    → (image : List ℕ) → IsAllowed (push Fence (push (Flush (word / 8)) (push (Store word value) h))) image → slice_index image word ≡ value
shown_after h word value within image allowed =
    let stored = push (Store word value) h in
    let flushed = push (Flush (word / 8)) stored in
    shows_fence flushed image (word / 8) (written_flushed stored (word / 8)) (allowed.lines (word / 8)) word refl
    ∙ get_or-set_same (reads h) word value 0 (omega (arith, length-reads h))

pub entry_shown : {T E : Type 0} (r : Result T E) {done : T} {old stored flushed new : Option History} (words : List ℕ) (word value : ℕ) → Replays old words → word < length words
    → AddsStep {T = T} {E = E} (Ok done) (Store word value) old stored → AddsStep {T = T} {E = E} (Ok done) (Flush (word / 8)) stored flushed → AddsStep r Fence flushed new → OnOk r (EachNow new (λ image. slice_index image word ≡ value))
entry_shown (Ok done) {old = old} words word value replays within s f n =
    subst (λ (told : Option History). EachNow told (λ image. slice_index image word ≡ value)) (sym (n.ok ∙ ap (with_steps (Fence ∷ [])) (f.ok ∙ ap (with_steps (Flush (word / 8) ∷ [])) s.ok)))
    (shown_told old (on_device old words word replays within))
  where
    shown_told : (told : Option History) → OnDevice word told → EachNow (with_steps (Fence ∷ []) (with_steps (Flush (word / 8) ∷ []) (with_steps (Store word value ∷ []) told))) (λ image. slice_index image word ≡ value)
    shown_told None on = tt
    shown_told (Some h) on = shown_after h word value on
entry_shown (Err error) words word value replays within s f n = tt
