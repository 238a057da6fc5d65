use Rattle.std.proofs.Common.{◌≡◌, ℕ, List, sym, ap, subst, ◌∙◌, arith}
use Rattle.std.specs.Prelude.{Contains}
use Rattle.std.proofs.lemmas.Bool.{ltb-true}
use Rattle.ct_frames.specs.Free.{FreePages, listed, is_set}
use Rattle.ct_frames.proofs.Lists.{in_listed, listed_passes}
use Rattle.ct_frames.proofs.map.Frames.is_free.Goals as goal

pub returns-then-number-self : goal.returns-then-number-self
returns-then-number-self c =
    let f = is_set c.self.inside.words.items in
    let pages = c.self.inside.pages in
    let page = c.args.page in
    let is : c.number-number.result ≡ page = c.number-number.ensures in
    let free : listed f pages 0 ≡ c.args.self.now.free = ap (λ (v : FreePages). v.free) c.self.view_is in
    let has : c.has_bit.result ≡ f page = c.has_bit.ensures ∙ ap (λ (xs : List ℕ). is_set xs c.number-number.result) c.deref.ensures.value ∙ ap f is in (
      λ t. subst (λ (xs : List ℕ). Contains xs page) free (in_listed f pages 0 page (omega arith) (omega (arith, is)) (sym has ∙ t)),
      λ contains. has ∙ (listed_passes f pages 0 page (subst (λ (xs : List ℕ). Contains xs page) (sym free) contains)).2,
    )

pub returns-else-number-self : goal.returns-else-number-self
returns-else-number-self c =
    let f = is_set c.self.inside.words.items in
    let pages = c.self.inside.pages in
    let page = c.args.page in
    let is : c.number-number.result ≡ page = c.number-number.ensures in
    let free : listed f pages 0 ≡ c.args.self.now.free = ap (λ (v : FreePages). v.free) c.self.view_is in (
      λ t. absurd (omega (arith, ltb-true c.number-number.result pages t)),
      λ contains. absurd (omega (arith, is, (listed_passes f pages 0 page (subst (λ (xs : List ℕ). Contains xs page) (sym free) contains)).1)),
    )
