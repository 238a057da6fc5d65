use Rattle.std.proofs.Common.{◌≡◌, ℕ, ◌<◌, Bool, true, false, List, sym, ap, subst, ◌∙◌, arith}
use Rattle.std.specs.Prelude.{Contains}
use Rattle.ct_frames.specs.Free.{FreePages, listed, is_set, without}
use Rattle.ct_frames.proofs.Lists.{listed_passes, listed-without}
use Rattle.ct_frames.proofs.Kept.{OneBit, frames_taken}
use Rattle.ct_frames.proofs.map.Frames.mark.Goals as goal

-- a page that is listed has its bit
has : (f : ℕ → Bool) (pages page n : ℕ) (free : List ℕ) → listed f pages 0 ≡ free → n ≡ page → Contains free page → (n < pages) × (f n ≡ true)
has f pages page n free e is contains =
    let passes = listed_passes f pages 0 page (subst (λ (xs : List ℕ). Contains xs page) (sym e) contains) in
    (omega (arith, is, passes.1), ap f is ∙ passes.2)

pub clear_bit-requires : goal.clear_bit-requires
clear_bit-requires c =
    let it = has (is_set c.self.inside.words.items) c.self.inside.pages c.args.page c.number.result c.args.self.now.free (ap (λ (v : FreePages). v.free) c.self.view_is) c.number.ensures c.requires in
    omega (arith, it.0, c.self.invariant.size)

pub invariant_of-self : goal.invariant_of-self
invariant_of-self c =
    let old = c.self.inside.words.items in
    let n = c.number.result in
    let it = has (is_set old) c.self.inside.pages c.args.page n c.args.self.now.free (ap (λ (v : FreePages). v.free) c.self.view_is) c.number.ensures c.requires in
    let one : OneBit old c.clear_bit.new.words.items n false =
    record { here = c.clear_bit.ensures.clear; others = c.clear_bit.ensures.others; words = c.clear_bit.ensures.words; size = c.clear_bit.ensures.len } in
    frames_taken old c.clear_bit.new.words.items c.self.inside.pages c.self.inside.first c.self.inside.first c.self.inside.free n c.self.invariant one it.0 it.1
    c.self.invariant.first c.self.invariant.zeros

pub returns : goal.returns
returns c =
    let old = c.self.inside.words.items in
    let pages = c.self.inside.pages in
    let n = c.number.result in
    let it = has (is_set old) pages c.args.page n c.args.self.now.free (ap (λ (v : FreePages). v.free) c.self.view_is) c.number.ensures c.requires in
    ap (λ (xs : List ℕ). record { pages = pages; free = xs })
    (listed-without (is_set old) (is_set c.clear_bit.new.words.items) pages 0 n (omega arith) (omega (arith, it.0)) it.1 c.clear_bit.ensures.clear c.clear_bit.ensures.others)
    ∙ ap (λ (p : ℕ). record { pages = pages; free = without p (listed (is_set old) pages 0) }) c.number.ensures
    ∙ ap (λ (v : FreePages). record { pages = v.pages; free = without c.args.page v.free }) c.self.view_is
