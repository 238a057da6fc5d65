use Rattle.std.proofs.Common.{◌≡◌, ℕ, ◌/◌, ◌<◌, true, false, List, [], ◌∷◌, length, sym, ap, subst, ◌∙◌, inl, inr, arith}
use Rattle.std.proofs.lemmas.Bool.{both_ways, cases_eq, cases_lt}
use Rattle.ct_frames.specs.Free.{FreePages, listed, is_set, AreFrames, ZeroBelow}
use Rattle.ct_frames.proofs.Lists.{listed-first, listed-none, listed_passes}
use Rattle.ct_frames.proofs.Kept.{OneBit, frames_taken, in_pages}
use Rattle.ct_frames.proofs.map.Frames.take.Goals as goal

pub returns-in_err-page-clause-none : goal.returns-in_err-page-clause-none
returns-in_err-page-clause-none c =
    let old = c.self.inside.words.items in
    let none = c.in_err-page.ensures.none in
    let same : c.deref.result.now ≡ old = c.deref.ensures.value in
    let free : c.args.self.now.free ≡ [] =
    sym (ap (λ (v : FreePages). v.free) c.self.view_is)
    ∙ listed-none (is_set old) c.self.inside.pages 0 (λ q p l. ap (λ (xs : List ℕ). is_set xs q) (sym same) ∙ none q) in
    rw c.from_residual.ensures (free, free)

-- the page that is taken, and the others
takes : (old seen new : List ℕ) (pages from total page : ℕ) → AreFrames old pages from total → seen ≡ old → (page / 64 < length seen) × (is_set seen page ≡ true)
    → ((q : ℕ) → q < page → is_set seen q ≡ false) → OneBit old new page false
    → (page < pages) × (is_set old page ≡ true) × (listed (is_set old) pages 0 ≡ page ∷ listed (is_set new) pages 0)
takes old seen new pages from total page a e set lowest one =
    let is : is_set old page ≡ true = ap (λ (xs : List ℕ). is_set xs page) (sym e) ∙ set.1 in
    let range = in_pages old pages from total page a is in (
      range.1,
      is,
      listed-first (is_set old) (is_set new) pages 0 page (omega arith) (omega (arith, range.1)) is one.here
          (λ q lt. ap (λ (xs : List ℕ). is_set xs q) (sym e) ∙ lowest q lt) one.others,
    )

pub overflow_sub-self : goal.overflow_sub-self
overflow_sub-self c =
    let one : OneBit c.self.inside.words.items c.clear_bit.new.words.items c.in_ok-page.page false =
    record { here = c.clear_bit.ensures.clear; others = c.clear_bit.ensures.others; words = c.clear_bit.ensures.words; size = c.clear_bit.ensures.len } in
    let it = takes c.self.inside.words.items c.deref.result.now c.clear_bit.new.words.items c.self.inside.pages c.self.inside.first c.self.inside.free c.in_ok-page.page
    c.self.invariant c.deref.ensures.value c.in_ok-page.ensures.set c.in_ok-page.ensures.lowest one in
    omega (arith, c.self.invariant.count, ap length it.2)

pub invariant_of-self : goal.invariant_of-self
invariant_of-self c =
    let one : OneBit c.self.inside.words.items c.clear_bit.new.words.items c.in_ok-page.page false =
    record { here = c.clear_bit.ensures.clear; others = c.clear_bit.ensures.others; words = c.clear_bit.ensures.words; size = c.clear_bit.ensures.len } in
    let it = takes c.self.inside.words.items c.deref.result.now c.clear_bit.new.words.items c.self.inside.pages c.self.inside.first c.self.inside.free c.in_ok-page.page
    c.self.invariant c.deref.ensures.value c.in_ok-page.ensures.set c.in_ok-page.ensures.lowest one in
    frames_taken c.self.inside.words.items c.clear_bit.new.words.items c.self.inside.pages c.self.inside.first (c.in_ok-page.page / 64) c.self.inside.free c.in_ok-page.page
    c.self.invariant one it.0 it.1
    (omega (arith, ap length c.deref.ensures.value, c.in_ok-page.ensures.set.0))
    (subst (λ (xs : List ℕ). ZeroBelow xs (c.in_ok-page.page / 64)) c.deref.ensures.value c.in_ok-page.ensures.zeros)

pub returns-clause-some : goal.returns-clause-some
returns-clause-some c =
    let one : OneBit c.self.inside.words.items c.clear_bit.new.words.items c.in_ok-page.page false =
    record { here = c.clear_bit.ensures.clear; others = c.clear_bit.ensures.others; words = c.clear_bit.ensures.words; size = c.clear_bit.ensures.len } in
    let it = takes c.self.inside.words.items c.deref.result.now c.clear_bit.new.words.items c.self.inside.pages c.self.inside.first c.self.inside.free c.in_ok-page.page
    c.self.invariant c.deref.ensures.value c.in_ok-page.ensures.set c.in_ok-page.ensures.lowest one in
    sym (ap (λ (v : FreePages). v.free) c.self.view_is) ∙ it.2 ∙ ap (λ (p : ℕ). p ∷ listed (is_set c.clear_bit.new.words.items) c.self.inside.pages 0) (sym c.new.ensures)

-- a page that is still free is greater than the lowest one was
left : (old seen new : List ℕ) (page q : ℕ) → seen ≡ old → ((k : ℕ) → k < page → is_set seen k ≡ false) → OneBit old new page false → is_set new q ≡ true → page < q
left old seen new page q e lowest one is =
    elim (cases_eq q page) [
      | inl here ↦ absurd (both_ways _ one.here (ap (is_set new) (sym here) ∙ is))
      | inr away ↦ elim (cases_lt q page) [
        | inl lt ↦ absurd (both_ways _ (lowest q lt) (ap (λ (xs : List ℕ). is_set xs q) e ∙ sym (one.others q away) ∙ is))
        | inr ge ↦ omega (arith, away)
      ]
    ]

pub returns-clause-least : goal.returns-clause-least
returns-clause-least c q contains =
    let one : OneBit c.self.inside.words.items c.clear_bit.new.words.items c.in_ok-page.page false =
    record { here = c.clear_bit.ensures.clear; others = c.clear_bit.ensures.others; words = c.clear_bit.ensures.words; size = c.clear_bit.ensures.len } in
    let passes = listed_passes (is_set c.clear_bit.new.words.items) c.self.inside.pages 0 q contains in
    omega (arith, c.new.ensures, left c.self.inside.words.items c.deref.result.now c.clear_bit.new.words.items c.in_ok-page.page q c.deref.ensures.value c.in_ok-page.ensures.lowest one passes.2)
