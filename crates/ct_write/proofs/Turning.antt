-- A record over words that are seen as they were: what a crash may leave while it is made and while root slot 2 is emptied.
use Rattle.std.proofs.Common.{◌≡◌, ◌⊎◌, ℕ, ◌*◌, ◌^◌, ◌≤◌, List, ◌∙◌, inl, inr, arith}
use Rattle.std.specs.Prelude.{slice_set, Option}
use Rattle.ct_base.specs.Settled.{IsShut}
use Rattle.ct_base.specs.State.{SameState}
use Rattle.ct_base.specs.Walk.{page_at}
use Rattle.ct_pm.specs.Device.{LeavesOnly, MakesOnly}
use Rattle.ct_pm.specs.Images.{History}
use Rattle.ct_pm.specs.Phase.{Phase}
use Rattle.ct_pm.proofs.Phases.{phase_then, phase_weaker}
use Rattle.ct_state.proofs.States.{state_then}
use Rattle.ct_commit.specs.Closed.{IsClosed, IsStateOr}
use Rattle.ct_commit.specs.Made.{Spares}
use Rattle.ct_commit.proofs.Emptying.{end_phase}
use Rattle.ct_commit.proofs.Pages.{file_page, spare_off}
use Rattle.ct_write.specs.Recorded.{IsBare}

-- before the record
pub still_phase : {words now : List ℕ} {start told : Option History} (Then : List ℕ → Type 0) → Phase (SameState words) 0 start told now → Phase (IsStateOr words Then) 5111 start told now
still_phase {words} Then phase = phase_weaker (IsStateOr words Then) (λ image same. inl same) (omega arith) phase

-- The words that the record is made over, and those of which Done holds: the pages of each partition after it were there before,
-- from root slot 2 on.
pub record Turns (w0 w1 : List ℕ) (Done : List ℕ → Type 0) : Type 0 where
  pub still : SameState w0 w1
  pub closed : IsClosed w1
  pub after : (w2 : List ℕ) → Done w2 → IsShut w2 → IsClosed w2
  pub from : (w2 : List ℕ) → Done w2 → (q : ℕ) → 10 * 2 ^ 27 ≤ q → (p : ℕ) × (2 * 2 ^ 27 ≤ p) × (page_at w1 4 p ≡ page_at w2 4 q)

module _ {w0 w1 : List ℕ} {Done : List ℕ → Type 0} (t : Turns w0 w1 Done) where
  pub bare_spares : Spares w1 Done (IsBare w1)
  bare_spares = record {
    before = t.closed;
    after = t.after;
    off = λ w bare. spare_off 2 w (omega arith) t.closed bare;
    off_after = λ w2 done shut w bare is.
        let at = file_page (t.after w2 done shut) is in
        let was = t.from w2 done at.number at.high in
        bare was.0 was.1 (was.2 ∙ at.is);
  }

  module _ (Then : List ℕ → Type 0) (then : (w2 : List ℕ) → Done w2 → Then w2) where
    pub record_state : (image : List ℕ) → IsStateOr w1 Done image → IsStateOr w0 Then image
    record_state image (inl none) = inl (state_then t.still none)
    record_state image (inr all) = inr (record { after = all.after; done = then all.after all.done; shut = all.shut; whole = all.whole; state = all.state })

    -- while the record is made
    pub record_phase : {start mid told : Option History} {now : List ℕ} → Phase (SameState w0) 0 start mid w1 → Phase (IsStateOr w1 Done) 5111 mid told now → Phase (IsStateOr w0 Then) 5111 start told now
    record_phase before phase = phase_then (still_phase Then before) (phase_weaker (IsStateOr w0 Then) record_state (omega arith) phase)

    -- while the slot is emptied
    pub empty_phase : {start mid told : Option History} {w2 now : List ℕ} → Done w2 → IsShut w2 → Phase (IsStateOr w0 Then) 5111 start mid w2 → LeavesOnly mid told (λ image. (image ≡ w2) ⊎ (image ≡ slice_set w2 16898 0))
        → (now ≡ w2) ⊎ (now ≡ slice_set w2 16898 0) → MakesOnly (λ at put. (at ≡ 16898) × (put ≡ 0)) mid told → Phase (IsStateOr w0 Then) 5111 start told now
    empty_phase {w2 = w2} done shut =
        let closed = t.after w2 done shut in
        end_phase (IsStateOr w0 Then) 5111 2 closed (omega arith) (omega arith) (λ image same. inr (record { after = w2; done = then w2 done; shut = shut; whole = closed.whole; state = same }))
