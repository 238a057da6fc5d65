use Rattle.std.proofs.Common.{◌≡◌, ◌∙◌, ◌⊎◌, ℕ, ◌+◌, ◌-◌, ◌^◌, ◌<◌, List, length, get_or, set, subst, sym, ap, arith, bit_and, length-set}
use Rattle.std.proofs.lemmas.Grind.{get_or_default_zero}
use Rattle.pm_file.specs.Lines.{IsCleared, IsKept}
use Rattle.pm_file.proofs.Masks.{cleared_more, zero_more}
use Rattle.pm_file.proofs.marks.clear_pages.Goals as goal

pub loop-page-preserved : goal.loop-page-preserved
loop-page-preserved c =
    let inv = c.loop-page.invariant in
    let in_marked : get_or c.args.pages.now c.loop-page.page-index 0 < length c.loop-page.marked.items = omega (arith, c.requires.in_range c.loop-page.page-index 0 c.loop-page-test.true, inv.marked_size) in
    let in_stored : get_or c.args.pages.now c.loop-page.page-index 0 < length c.loop-page.stored.items = omega (arith, c.requires.in_range c.loop-page.page-index 0 c.loop-page-test.true, inv.stored_size, c.requires.same_size) in
    let AtStored : List ℕ → Type 0 = λ s. (p : ℕ) → IsCleared c.args.stored.now.items c.args.marked.now.items s c.clear_page.new.marked.items p ⊎ IsKept c.args.stored.now.items c.args.marked.now.items s c.clear_page.new.marked.items p in
    let AtMarked : List ℕ → Type 0 = λ m. (p : ℕ) → IsCleared c.args.stored.now.items c.args.marked.now.items (set c.loop-page.stored.items (get_or c.args.pages.now c.loop-page.page-index 0) (bit_and (get_or c.loop-page.stored.items (get_or c.args.pages.now c.loop-page.page-index 0) 0) (2 ^ 64 - 1 - get_or c.loop-page.marked.items (get_or c.args.pages.now c.loop-page.page-index 0) 0))) m p ⊎ IsKept c.args.stored.now.items c.args.marked.now.items (set c.loop-page.stored.items (get_or c.args.pages.now c.loop-page.page-index 0) (bit_and (get_or c.loop-page.stored.items (get_or c.args.pages.now c.loop-page.page-index 0) 0) (2 ^ 64 - 1 - get_or c.loop-page.marked.items (get_or c.args.pages.now c.loop-page.page-index 0) 0))) m p in
    let Zero : List ℕ → Type 0 = λ m. (k : ℕ) → k < c.loop-page.page-index + 1 → get_or m (get_or c.args.pages.now k 0) 0 ≡ 0 in
    record {
      stored_size = ap length c.clear_page.ensures.stored ∙ length-set c.loop-page.stored.items _ _ ∙ inv.stored_size;
      marked_size = ap length c.clear_page.ensures.marked ∙ length-set c.loop-page.marked.items _ _ ∙ inv.marked_size;
      cleared = subst Zero (sym c.clear_page.ensures.marked) (zero_more c.args.pages.now c.loop-page.marked.items c.loop-page.page-index in_marked inv.cleared);
      each = subst AtStored (sym c.clear_page.ensures.stored) (subst AtMarked (sym c.clear_page.ensures.marked) (cleared_more c.args.stored.now.items c.args.marked.now.items c.loop-page.stored.items c.loop-page.marked.items (get_or c.args.pages.now c.loop-page.page-index 0) in_stored in_marked inv.each));
    }

pub returns-clause-cleared : goal.returns-clause-cleared
returns-clause-cleared c = λ k d h.
    ap (λ p. get_or c.loop-page.marked.items p 0) (get_or_default_zero c.args.pages.now k d h)
    ∙ c.loop-page.invariant.cleared k (omega (arith, h))
