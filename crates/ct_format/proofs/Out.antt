-- All is laid out, and waited for.
use Rattle.std.proofs.Common.{◌≡◌, ◌∙◌, ◌⊎◌, ℕ, List, Option, Result, Ok, Err, ap, subst, sym, inl, inr}
use Rattle.std.specs.Prelude.{IfSome, OnOk, slice_index}
use Rattle.std.proofs.lemmas.Bool.{cases_eq}
use Rattle.ct_pm.specs.declared.step.Step.TheVariants.{Fence}
use Rattle.ct_pm.specs.Images.{History, reads}
use Rattle.ct_pm.specs.Device.{AddsStep, NothingPending, SameOff}
use Rattle.ct_pm.proofs.Fence.{settled_by_fence}
use Rattle.ct_pm.proofs.Made.{makes_step}
use Rattle.ct_pm.proofs.Quiet.{quiet_settled}
use Rattle.ct_pm.proofs.Told.{fenced}
use Rattle.ct_format.specs.Formatting.{IsHeadWord, IsGate, IsTableWord, IsLaidOut, HasWords, Lays, Laid, format_word}
use Rattle.ct_format.proofs.Runs.{Decided, in_decided, lays_then, laid_then}

either_decided : {First More : ℕ → Type 0} → Decided First → Decided More → Decided (λ w. First w ⊎ More w)
either_decided first more w = elim (first w) [
  | inl is ↦ inl (inl is)
  | inr off ↦ elim (more w) [ inl is ↦ inl (inr is) | inr none ↦ inr (λ moved. elim moved [ inl is ↦ off is | inr is ↦ none is ]) ]
]

word_decided : (v : ℕ) → Decided (λ w. w ≡ v)
word_decided v w = cases_eq w v

gate_decided : Decided IsGate
gate_decided = either_decided (word_decided 512) (word_decided 527)

out_decided : Decided IsLaidOut
out_decided = either_decided (in_decided 1 511) (either_decided gate_decided (in_decided 16896 4608))

gate_word : (pages n w : ℕ) → IsGate w → 0 ≡ format_word pages n w
unfolding format_word
gate_word pages n w (inl is) = sym (ap (format_word pages n) is)
gate_word pages n w (inr is) = sym (ap (format_word pages n) is)

-- the gates hold 0, as the image has it
pub gates_are : {words : List ℕ} {old new : Option History} (pages n : ℕ) → Laid IsGate (λ w. 0) words old new → Laid IsGate (format_word pages n) words old new
gates_are pages n a = record { put = λ w is. a.put w is ∙ gate_word pages n w is; back = a.back; still = a.still }

pub lays_two : {was head gates : List ℕ} {old a b : Option History} → Lays IsHeadWord was head old a → Lays IsGate head gates a b → Lays IsLaidOut was gates old b
lays_two x y = lays_then (λ w is. inl is) (λ w is. inr (inl is)) x y

pub lays_three : {was head gates words : List ℕ} {old a b c : Option History} → Lays IsHeadWord was head old a → Lays IsGate head gates a b → Lays IsTableWord gates words b c → Lays IsLaidOut was words old c
lays_three x y z = lays_then (λ w is. is) (λ w is. inr (inr is)) (lays_two x y) z

-- a fence stores nothing
pub fence_lays : {T E : Type 0} {Moved : ℕ → Type 0} {was mid words : List ℕ} {old told new : Option History} (r : Result T E) → Lays Moved was mid old told → words ≡ mid → AddsStep r Fence told new → Lays Moved was words old new
fence_lays {Moved = Moved} {was = was} r a same adds = record {
  same = subst (λ l. SameOff Moved l was) (sym same) a.same;
  quiet = fenced a.quiet adds;
  made = makes_step r a.made adds tt;
}

module _ (pages n : ℕ) {head gates words : List ℕ} {old a b c : Option History} where
  all_laid : Laid IsHeadWord (format_word pages n) head old a → Lays IsGate head gates a b → Laid IsGate (format_word pages n) gates a b → Lays IsTableWord gates words b c → Laid IsTableWord (format_word pages n) words b c →
      Laid IsLaidOut (format_word pages n) words old c
  all_laid x lays y lays' z =
      let front = laid_then gate_decided x lays y in
      let all = laid_then (in_decided 16896 4608) front lays' z in
      record { put = λ w is. all.put w (regroup w is); back = λ w is. all.back w (regroup w is); still = all.still }
    where
      regroup : (w : ℕ) → IsLaidOut w → (IsHeadWord w ⊎ IsGate w) ⊎ IsTableWord w
      regroup w (inl is) = inl (inl is)
      regroup w (inr (inl is)) = inl (inr is)
      regroup w (inr (inr is)) = inr is

  pub words_laid : {T E : Type 0} {after : List ℕ} (r : Result T E) → Laid IsHeadWord (format_word pages n) head old a → Lays IsGate head gates a b → Laid IsGate (λ w. 0) gates a b → Lays IsTableWord gates words b c →
      Laid IsTableWord (format_word pages n) words b c → after ≡ words → OnOk r (HasWords pages n after)
  words_laid (Ok done) x lays y lays' z same = λ w is. ap (λ l. slice_index l w) same ∙ (all_laid x lays (gates_are pages n y) lays' z).put w is
  words_laid (Err error) x lays y lays' z same = tt

  pub settled_laid : {T E : Type 0} {was : List ℕ} {new : Option History} (r : Result T E) → IfSome old (λ h. was ≡ reads h) → NothingPending old → IfSome c (λ h. words ≡ reads h) → Lays IsLaidOut was words old c →
      Laid IsHeadWord (format_word pages n) head old a → Lays IsGate head gates a b → Laid IsGate (λ w. 0) gates a b → Lays IsTableWord gates words b c → Laid IsTableWord (format_word pages n) words b c → AddsStep r Fence c new → OnOk r (NothingPending new)
  settled_laid r reads_was settled reads_now all x lays y lays' z adds =
      settled_by_fence out_decided (quiet_settled reads_was settled all.quiet) all.same reads_now (all_laid x lays (gates_are pages n y) lays' z).back adds
