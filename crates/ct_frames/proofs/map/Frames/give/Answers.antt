use Rattle.std.proofs.Common.{◌≡◌, ℕ, ◌<◌, Bool, true, false, List, ap, subst, ◌∙◌, arith}
use Rattle.std.proofs.lemmas.Bool.{false_from_ne_true}
use Rattle.std.specs.Prelude.{Contains}
use Rattle.ct_frames.specs.Free.{FreePages, listed, is_set, inserted}
use Rattle.ct_frames.proofs.Lists.{listed-inserted, length-listed, in_listed}
use Rattle.ct_frames.proofs.Kept.{OneBit, frames_given}
use Rattle.ct_frames.proofs.map.Frames.give.Goals as goal

pub overflow_add-self : goal.overflow_add-self
overflow_add-self c =
    omega (arith, c.self.invariant.count, c.self.invariant.most, length-listed (is_set c.self.inside.words.items) c.self.inside.pages 0)

not_free : (f : ℕ → Bool) (pages page n : ℕ) (free : List ℕ) → listed f pages 0 ≡ free → n ≡ page → page < pages → (Contains free page → ⊥) → f n ≡ false
not_free f pages page n free e is lt not =
    ap f is ∙ false_from_ne_true _ (λ t. not (subst (λ (xs : List ℕ). Contains xs page) e (in_listed f pages 0 page (omega arith) (omega arith) t)))

pub invariant_of-self : goal.invariant_of-self
invariant_of-self c =
    let old = c.self.inside.words.items in
    let pages = c.self.inside.pages in
    let view = c.self.view_is in
    let n = c.number-number.result in
    let is : n ≡ c.args.page = c.number-number.ensures in
    let high : c.args.page < pages = omega (arith, ap (λ (v : FreePages). v.pages) view, c.requires.high) in
    let not = not_free (is_set old) pages c.args.page n c.args.self.now.free (ap (λ (v : FreePages). v.free) view) is high c.requires.used in
    let one : OneBit old c.set_bit.new.words.items n true =
    record { here = c.set_bit.ensures.set; others = c.set_bit.ensures.others; words = c.set_bit.ensures.words; size = c.set_bit.ensures.len } in
    rw c.min-self-inside.ensures (frames_given old c.set_bit.new.words.items pages c.self.inside.first c.self.inside.free n c.self.invariant one (omega (arith, is, c.requires.low)) (omega (arith, is, high)) not)

pub returns : goal.returns
returns c =
    let old = c.self.inside.words.items in
    let pages = c.self.inside.pages in
    let view = c.self.view_is in
    let n = c.number-number.result in
    let is : n ≡ c.args.page = c.number-number.ensures in
    let high : c.args.page < pages = omega (arith, ap (λ (v : FreePages). v.pages) view, c.requires.high) in
    let not = not_free (is_set old) pages c.args.page n c.args.self.now.free (ap (λ (v : FreePages). v.free) view) is high c.requires.used in
    ap (λ (xs : List ℕ). record { pages = pages; free = xs })
    (listed-inserted (is_set old) (is_set c.set_bit.new.words.items) pages 0 n (omega arith) (omega (arith, is, high)) not c.set_bit.ensures.set c.set_bit.ensures.others)
    ∙ ap (λ (p : ℕ). record { pages = pages; free = inserted p (listed (is_set old) pages 0) }) is
    ∙ ap (λ (v : FreePages). record { pages = v.pages; free = inserted c.args.page v.free }) view
