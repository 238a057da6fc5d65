use Rattle.std.proofs.Common.{◌≡◌, ℕ, List, sym, ap, subst, inl, inr, arith}
use Rattle.std.specs.Prelude.{Contains}
use Rattle.std.proofs.lemmas.Bool.{cases_lt, both_ways}
use Rattle.ct_base.specs.Free.{IsRising}
use Rattle.ct_frames.specs.Free.{FreePages, listed, is_set}
use Rattle.ct_frames.proofs.Lists.{listed_passes, listed_rising}
use Rattle.ct_frames.proofs.map.Frames.free.Goals as goal

pub returns-clause-rising : goal.returns-clause-rising
returns-clause-rising c =
    let f = is_set c.self.inside.words.items in
    let free : listed f c.self.inside.pages 0 ≡ c.args.self.now.free = ap (λ (v : FreePages). v.free) c.self.view_is in
    subst (λ (xs : List ℕ). IsRising xs) free (listed_rising f c.self.inside.pages 0)

pub returns-clause-in_range : goal.returns-clause-in_range
returns-clause-in_range c = λ q contains.
    let f = is_set c.self.inside.words.items in
    let free : listed f c.self.inside.pages 0 ≡ c.args.self.now.free = ap (λ (v : FreePages). v.free) c.self.view_is in
    let pages : c.self.inside.pages ≡ c.args.self.now.pages = ap (λ (v : FreePages). v.pages) c.self.view_is in
    let passes = listed_passes f c.self.inside.pages 0 q (subst (λ (xs : List ℕ). Contains xs q) (sym free) contains) in
    (elim (cases_lt q 34) [ inl low ↦ absurd (both_ways (f q) (c.self.invariant.low q low) passes.2) | inr from ↦ from ], omega (arith, pages, passes.1))
