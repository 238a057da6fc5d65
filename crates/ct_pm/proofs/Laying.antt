-- Values stored one by one, and lines flushed one by one.
use Rattle.std.proofs.Common.{◌≡◌, ◌≢◌, ℕ, zero, suc, ◌+◌, ◌-◌, ◌/◌, ◌<◌, ◌≤◌, ◌++◌, List, [], ◌∷◌, Option, Result, Ok, Err, length, set, get_or, refl, sym, ◌∙◌, ap, subst, inl, inr, arith}
use Rattle.std.specs.Prelude.{OnOk, slice_index}
use Rattle.std.proofs.lemmas.Bool.{cases_eq}
use Rattle.std.proofs.lemmas.List.{get_or-set_same, get_or-set_other}
use Rattle.ct_pm.specs.declared.step.Step.TheVariants.{Store, Flush}
use Rattle.ct_pm.specs.Images.{History}
use Rattle.ct_pm.specs.Device.{with_steps, AddsStep, SameOff, QuietOff, MakesOnly, IsIn, IsValueOf, stores_of, flushes_of, line_count, KeepsOthersBack}
use Rattle.ct_pm.proofs.Made.{makes_step}
use Rattle.ct_pm.proofs.Told.{with_more}
use Rattle.ct_pm.proofs.OneWord.{Replays, on_device}
use Rattle.ct_pm.proofs.Quiet.{same_off_set, quiet_store, back_store}

-- the first i values stand, and the rest is as it was
pub record StoredSoFar (first : ℕ) (values : List ℕ) (i : ℕ) (was words : List ℕ) (old told : Option History) : Type 0 where
  pub put : (k : ℕ) → k < i → slice_index words (first + k) ≡ slice_index values k
  pub same : SameOff (IsIn first i) words was
  pub quiet : QuietOff (IsIn first (length values)) old told
  pub others : KeepsOthersBack (IsIn first (length values)) old told
  pub steps : told ≡ with_steps (stores_of first values i) old
  pub made : MakesOnly (IsValueOf first values) old told

steps_more : {T E : Type 0} {done : T} {value : ℕ} {told new : Option History} (first i : ℕ) (values : List ℕ) (old : Option History) → value ≡ slice_index values i → told ≡ with_steps (stores_of first values i) old
    → AddsStep {T = T} {E = E} (Ok done) (Store (first + i) value) told new → new ≡ with_steps (stores_of first values (i + 1)) old
steps_more first i values old is so_far adds =
    let next : i + 1 ≡ suc i = omega arith in
    adds.ok ∙ ap (with_steps (Store (first + i) _ ∷ [])) so_far ∙ with_more old (stores_of first values i) (Store (first + i) _ ∷ [])
    ∙ ap (λ (v : ℕ). with_steps (Store (first + i) v ∷ stores_of first values i) old) is ∙ ap (λ (n : ℕ). with_steps (stores_of first values n) old) (sym next)

pub stored_more : {T E : Type 0} {done : T} {first i value : ℕ} {values was words after : List ℕ} {old told new : Option History} → StoredSoFar first values i was words old told → i < length values
    → first + length values ≤ length was → Replays told words → value ≡ slice_index values i → after ≡ set words (first + i) value → AddsStep {T = T} {E = E} (Ok done) (Store (first + i) value) told new
    → StoredSoFar first values (i + 1) was after old new
stored_more {done = done} {first = first} {i = i} {value = value} {values = values} {was = was} {words = words} {after = after} {old = old} {told = told} {new = new} so_far within room replays is put adds =
    let Moved : ℕ → Type 0 = IsIn first (length values) in
    let size : length words ≡ length was = so_far.same.size in
    let fits : first + i < length words = omega arith in
    let wider : SameOff (IsIn first (i + 1)) words was = record {
      size = size;
      others = λ word off. so_far.same.others word (λ inside. off (inside.0, omega (arith, inside.1)));
    } in
    record {
      put = λ k below. elim (cases_eq k i) [
        | inl here ↦ ap (λ (l : List ℕ). slice_index l (first + k)) put ∙ ap (λ (n : ℕ). get_or (set words (first + i) value) (first + n) 0) here
            ∙ get_or-set_same words (first + i) value 0 fits ∙ is ∙ ap (λ (n : ℕ). slice_index values n) (sym here)
        | inr ne ↦
            let apart : first + k ≢ first + i = λ e. ne (omega arith) in
            ap (λ (l : List ℕ). slice_index l (first + k)) put ∙ get_or-set_other words (first + i) (first + k) value 0 apart ∙ so_far.put k (omega arith)
      ];
      same = subst (λ l. SameOff (IsIn first (i + 1)) l was) (sym put) (same_off_set (IsIn first (i + 1)) words was (first + i) value (omega arith, omega arith) wider);
      quiet = quiet_store Moved so_far.quiet adds (on_device told words (first + i) replays fits) (omega arith, omega arith);
      others = λ line apart back. back_store (Ok done) line adds (λ on_line. apart (first + i) (omega arith, omega arith) on_line) (so_far.others line apart back);
      steps = steps_more first i values old is so_far.steps adds;
      made = makes_step (Ok done) so_far.made adds (i, within, refl, is);
    }

pub flushed_more : {T E : Type 0} {done : T} {from line : ℕ} {told new : Option History} (old : Option History) → from ≤ line → told ≡ with_steps (flushes_of from (line - from)) old
    → AddsStep {T = T} {E = E} (Ok done) (Flush line) told new → new ≡ with_steps (flushes_of from (line + 1 - from)) old
flushed_more {from = from} {line = line} old after so_far adds =
    let next : line + 1 - from ≡ suc (line - from) = omega arith in
    let here : from + (line - from) ≡ line = omega arith in
    adds.ok ∙ ap (with_steps (Flush line ∷ [])) so_far ∙ with_more old (flushes_of from (line - from)) (Flush line ∷ [])
    ∙ ap (λ (l : ℕ). with_steps (Flush l ∷ flushes_of from (line - from)) old) (sym here) ∙ ap (λ (n : ℕ). with_steps (flushes_of from n) old) (sym next)

-- stores and then flushes, where some word was stored
pub laid_steps : {T E : Type 0} {last : ℕ} {mid : Option History} (r : Result T E) (new : Option History) (first count : ℕ) (values : List ℕ) (old : Option History) → 0 < count → last ≡ first + (count - 1)
    → mid ≡ with_steps (stores_of first values count) old → OnOk r (new ≡ with_steps (flushes_of (first / 8) (last / 8 + 1 - first / 8)) mid)
    → OnOk r (new ≡ with_steps (flushes_of (first / 8) (line_count first count) ++ stores_of first values count) old)
laid_steps r new first zero values old some is stores flushes = absurd (omega arith)
laid_steps (Err error) new first (suc n) values old some is stores flushes = tt
laid_steps {last = last} (Ok done) new first (suc n) values old some is stores flushes =
    let same : last ≡ first + n = omega arith in
    let lines = λ (l : ℕ). flushes_of (first / 8) (l / 8 + 1 - first / 8) in
    flushes ∙ ap (with_steps (lines last)) stores ∙ with_more old (stores_of first values (suc n)) (lines last)
    ∙ ap (λ (l : ℕ). with_steps (lines l ++ stores_of first values (suc n)) old) same
