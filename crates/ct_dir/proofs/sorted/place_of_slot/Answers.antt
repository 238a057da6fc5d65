use Rattle.std.proofs.Common.{◌≡◌, ◌+◌, ◌-◌, ◌^◌, ◌<◌, ◌≤◌, ℕ, true, false, min, refl, sym, ap, ◌∙◌, inl, inr, arith}
use Rattle.std.specs.Prelude.{Some}
use Rattle.std.proofs.lemmas.Bool.{cases_lt, false≢true}
use Rattle.ct_dir.proofs.Sorting.{place_inside, place_none, place_past, place_some}
use Rattle.ct_dir.proofs.sorted.place_of_slot.Goals as goal

pub returns-in-None-clause-exact : goal.returns-in-None-clause-exact
returns-in-None-clause-exact g c = place_past (g.D.Pm.words c.args.dev.now) c.args.dir c.args.offset (omega (arith, c.in-None.ensures.none.0 refl, c.saturating_add.ensures))

-- the address is that of the slot
address : (sum v base o : ℕ) → sum ≡ min (base + o) (2 ^ 64 - 1) → v ≡ sum → (2 ^ 48 ≤ sum → true ≡ false) → (v < 2 ^ 48) × (v ≡ base + o)
address sum v base o is same none = elim (cases_lt sum 281474976710656) [
  | inl low ↦ (omega arith, omega arith)
  | inr high ↦ absurd (false≢true (sym (none high)))
]

pub returns-in-None-walk-clause-exact : goal.returns-in-None-walk-clause-exact
returns-in-None-walk-clause-exact g c =
    let at = address c.saturating_add.result c.in-Some.v c.args.dir.base c.args.offset c.saturating_add.ensures c.in-Some.ensures.value c.in-Some.ensures.none.1 in
    place_none (g.D.Pm.words c.args.dev.now) c.args.dir c.args.offset c.in-Some.v at.1 at.0 c.in-None-walk.ensures.exact

pub returns-clause-exact : goal.returns-clause-exact
returns-clause-exact g c =
    let at = address c.saturating_add.result c.in-Some.v c.args.dir.base c.args.offset c.saturating_add.ensures c.in-Some.ensures.value c.in-Some.ensures.none.1 in
    place_some (g.D.Pm.words c.args.dev.now) c.args.dir c.args.offset c.in-Some.v at.1 at.0 c.number-page.result (ap (λ (p : ℕ). Some p) c.number-page.ensures ∙ c.in-Some-walk.ensures.exact)

pub returns-clause-inside : goal.returns-clause-inside
returns-clause-inside g c =
    let at = address c.saturating_add.result c.in-Some.v c.args.dir.base c.args.offset c.saturating_add.ensures c.in-Some.ensures.value c.in-Some.ensures.none.1 in
    place_inside (g.D.Pm.words c.args.dev.now) c.in-Some.v c.number-page.result c.args.offset c.requires.tables at.0 (ap (λ (p : ℕ). Some p) c.number-page.ensures ∙ c.in-Some-walk.ensures.exact)
