use Rattle.std.proofs.Common.{◌≡◌, ℕ, ◌+◌, ◌<◌, ◌≤◌, true, List, [], ◌∷◌, sym, ap, subst, ◌∙◌, inl, inr, arith}
use Rattle.std.specs.Prelude.{Contains}
use Rattle.std.proofs.lemmas.Bool.{cases_lt, both_ways}
use Rattle.ct_frames.specs.Free.{FreePages, listed, is_set, from_on}
use Rattle.ct_frames.proofs.Lists.{from_on-first, from_on-none, listed_passes}
use Rattle.ct_frames.proofs.Kept.{in_pages}
use Rattle.ct_frames.specs.Free.{AreFrames}
use Rattle.ct_frames.proofs.map.Frames.lowest_from.Goals as goal

pub returns-in_err-page-clause-none : goal.returns-in_err-page-clause-none
returns-in_err-page-clause-none c =
    let old = c.self.inside.words.items in
    let none : from_on c.args.from c.args.self.now.free ≡ [] =
    ap (λ (v : FreePages). from_on c.args.from v.free) (sym c.self.view_is)
    ∙ from_on-none (is_set old) c.self.inside.pages c.args.from (λ q from. ap (λ (xs : List ℕ). is_set xs q) (sym c.deref.ensures.value) ∙ c.in_err-page.ensures.none q from) in
    rw c.from_residual.ensures none

pub returns-clause-some : goal.returns-clause-some
returns-clause-some c =
    let old = c.self.inside.words.items in
    let page = c.in_ok-page.page in
    let found = c.in_ok-page.ensures.set in
    let is : is_set old page ≡ true = ap (λ (xs : List ℕ). is_set xs page) (sym c.deref.ensures.value) ∙ found.2 in
    let range = in_pages old c.self.inside.pages c.self.inside.first c.self.inside.free page c.self.invariant is in
    let first = from_on-first (is_set old) c.self.inside.pages c.args.from page found.0 range.1 is
    (λ q from lt. ap (λ (xs : List ℕ). is_set xs q) (sym c.deref.ensures.value) ∙ c.in_ok-page.ensures.lowest q from lt) in
    ap (λ (v : FreePages). from_on c.args.from v.free) (sym c.self.view_is) ∙ first
    ∙ ap (λ (v : FreePages). page ∷ from_on (page + 1) v.free) c.self.view_is
    ∙ ap (λ (p : ℕ). p ∷ from_on (p + 1) c.args.self.now.free) (sym c.new.ensures)

-- each page that is free may be handed out
free_range : (words : List ℕ) (pages from total : ℕ) (seen : FreePages) → AreFrames words pages from total → record { pages = pages; free = listed (is_set words) pages 0 } ≡ seen
    → (q : ℕ) → Contains seen.free q → (34 ≤ q) × (q < seen.pages)
free_range words pages from total seen are is q contains =
    let passes = listed_passes (is_set words) pages 0 q (subst (λ (v : FreePages). Contains v.free q) (sym is) contains) in
    (elim (cases_lt q 34) [ inl low ↦ absurd (both_ways (is_set words q) (are.low q low) passes.2) | inr from ↦ from ], omega (arith, ap (λ (v : FreePages). v.pages) is, passes.1))

pub returns-in_err-page-clause-in_range : goal.returns-in_err-page-clause-in_range
returns-in_err-page-clause-in_range c = free_range c.self.inside.words.items c.self.inside.pages c.self.inside.first c.self.inside.free c.args.self.now c.self.invariant c.self.view_is

pub returns-clause-in_range : goal.returns-clause-in_range
returns-clause-in_range c = free_range c.self.inside.words.items c.self.inside.pages c.self.inside.first c.self.inside.free c.args.self.now c.self.invariant c.self.view_is
