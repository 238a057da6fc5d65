use Rattle.std.proofs.Common.{◌≡◌, List, get_or, sym, subst, rules}
use Rattle.std.specs.Prelude.{Contains}
use Rattle.std.specs.List.Sorted.{IsNonDecreasingBy}
use Rattle.std.proofs.lemmas.List.Sorted.{answers_always}
use Rattle.ct_placing.specs.declared.extent.Extent.{Extent}
use Rattle.ct_placing.specs.Extents.{EndsAt}
use Rattle.ct_placing.proofs.Finding.{found, not_found}
use Rattle.ct_placing.proofs.headers.end_of.Goals as goal

pub returns-in-Ok-clause-some : goal.returns-in-Ok-clause-some
returns-in-Ok-clause-some c =
    let xs = c.args.extents.now.items in
    let base = c.args.base in
    let at = c.in-Ok.at in
    let r = c.index.result.now in
    let by_key = c.in-Ok.ensures.position (λ (e : Extent). e.base) (answers_always _ _ _ (λ f a r g called. search rules)) in
    let here = found c.deref.result.now base at c.in-Ok.ensures.bound by_key r in
    subst (λ (e : Extent). EndsAt xs base e.end) (sym c.index.ensures) (subst (λ (ys : List Extent). EndsAt ys base (get_or ys at r).end) c.deref.ensures.value here)

pub returns-in-Err-clause-none : goal.returns-in-Err-clause-none
returns-in-Err-clause-none c =
    let base = c.args.base in
    let by_key = c.in-Err.ensures.position (λ (e : Extent). e.base) (answers_always _ _ _ (λ f a r g called. search rules)) in
    let sorted = subst (λ (ys : List Extent). IsNonDecreasingBy (λ e. e.base) ys) (sym c.deref.ensures.value) c.requires.sorted in
    subst (λ (ys : List Extent). (e : Extent) → Contains ys e → e.base ≡ base → ⊥) c.deref.ensures.value (not_found c.deref.result.now base c.in-Err.field-0 sorted by_key)
