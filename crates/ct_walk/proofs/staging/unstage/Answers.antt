use Rattle.std.proofs.Common.{◌≡◌, ◌≢◌, ℕ, ◌+◌, ◌/◌, ◌<◌, List, set, refl, sym, ap, subst, ◌∙◌, ◌⊎◌, inl, inr, arith}
use Rattle.std.specs.Prelude.{Contains, ◌↔◌}
use Rattle.ct_base.specs.Walk.{word, page_at, IsUnder, IsSubtree, AreTables}
use Rattle.ct_image.proofs.Below.{under_none}
use Rattle.ct_frames.specs.Free.{FreePages}
use Rattle.ct_frames.specs.Agrees.{Agrees}
use Rattle.ct_walk.proofs.Slots.{unstaged, view_either, slot_some, slot_none, slot_subtree, under_old, under_new, not_free, agrees_cut}
use Rattle.ct_walk.proofs.staging.unstage.Goals as goal

-- what is known where the slot has a table: its page, what lies below it, and that none of that is free
module _ (old new : List ℕ) (slot entry : ℕ) (frames : FreePages) (tables : AreTables old) (lt : slot < 512) (is : new ≡ set old (16896 + slot) 0)
    (reads : entry ≡ word old (16896 + slot)) (some : entry ≢ 0) (agrees : Agrees old frames) where
  page_is : (page_at old 1 slot ≢ 0) × (page_at old 1 slot ≡ entry / 4096)
  page_is =
      let s = slot_some tables lt is (λ none. some (reads ∙ none)) in
      (s.0, s.1 ∙ ap (λ k. k / 4096) (sym reads))

  subtree : IsSubtree new (entry / 4096) 3
  subtree = subst (λ (t : ℕ). IsSubtree new t 3) page_is.1 (slot_subtree tables lt is page_is.0)

  used : (q : ℕ) → IsUnder new (entry / 4096) 3 q → Contains frames.free q → ⊥
  used q u = not_free tables lt is frames agrees q (under_old tables lt is 3 q page_is.0 (subst (λ (t : ℕ). IsUnder new t 3 q) (sym page_is.1) u))

  given_old : (after : FreePages) → ((q : ℕ) → Contains after.free q ↔ (Contains frames.free q ⊎ IsUnder new (entry / 4096) 3 q))
      → (q : ℕ) → Contains after.free q ↔ (Contains frames.free q ⊎ IsUnder old (page_at old 1 slot) 3 q)
  given_old after given q = (
    λ c. elim ((given q).0 c) [ inl was ↦ inl was | inr u ↦ inr (under_old tables lt is 3 q page_is.0 (subst (λ (t : ℕ). IsUnder new t 3 q) (sym page_is.1) u)) ],
    λ either. (given q).1 (elim either [ inl was ↦ inl was | inr u ↦ inr (subst (λ (t : ℕ). IsUnder new t 3 q) page_is.1 (under_new tables lt is 3 q page_is.0 u)) ]),
  )

pub give_below-requires-clause-subtree : goal.give_below-requires-clause-subtree
give_below-requires-clause-subtree g c =
    subtree (g.D.Pm.words c.args.dev.now) (g.D.Pm.words c.put_entry.new.dev) c.args.slot c.load-entry.result c.args.frames.now c.requires.tables (omega (arith, c.requires.to)) c.in_ok-put_entry.ensures.words c.load-entry.ensures
    c.if-entry-ne0.true c.requires.agrees

pub give_below-requires-clause-used : goal.give_below-requires-clause-used
give_below-requires-clause-used g c =
    used (g.D.Pm.words c.args.dev.now) (g.D.Pm.words c.put_entry.new.dev) c.args.slot c.load-entry.result c.args.frames.now c.requires.tables (omega (arith, c.requires.to)) c.in_ok-put_entry.ensures.words c.load-entry.ensures
    c.if-entry-ne0.true c.requires.agrees

pub returns-then-entry-ne0-clause-unstaged : goal.returns-then-entry-ne0-clause-unstaged
returns-then-entry-ne0-clause-unstaged g c = unstaged (g.D.Pm.words c.args.dev.now) (g.D.Pm.words c.put_entry.new.dev) c.args.slot c.requires.tables (omega (arith, c.requires.to)) c.in_ok-put_entry.ensures.words

pub returns-else-entry-ne0-clause-unstaged : goal.returns-else-entry-ne0-clause-unstaged
returns-else-entry-ne0-clause-unstaged g c = unstaged (g.D.Pm.words c.args.dev.now) (g.D.Pm.words c.put_entry.new.dev) c.args.slot c.requires.tables (omega (arith, c.requires.to)) c.in_ok-put_entry.ensures.words

pub returns-then-entry-ne0-clause-agrees : goal.returns-then-entry-ne0-clause-agrees
returns-then-entry-ne0-clause-agrees g c =
    let old = g.D.Pm.words c.args.dev.now in
    let new = g.D.Pm.words c.put_entry.new.dev in
    agrees_cut c.requires.tables (omega (arith, c.requires.to)) c.in_ok-put_entry.ensures.words c.args.frames.now c.give_below.new.frames c.requires.agrees c.give_below.ensures.pages
    (given_old old new c.args.slot c.load-entry.result c.args.frames.now c.requires.tables (omega (arith, c.requires.to)) c.in_ok-put_entry.ensures.words c.load-entry.ensures c.if-entry-ne0.true c.requires.agrees
    c.give_below.new.frames c.give_below.ensures.given)

pub returns-else-entry-ne0-clause-agrees : goal.returns-else-entry-ne0-clause-agrees
returns-else-entry-ne0-clause-agrees g c =
    let old = g.D.Pm.words c.args.dev.now in
    let new = g.D.Pm.words c.put_entry.new.dev in
    let none = slot_none c.requires.tables (omega (arith, c.requires.to)) c.in_ok-put_entry.ensures.words (sym c.load-entry.ensures ∙ c.if-entry-ne0.false) in
    agrees_cut c.requires.tables (omega (arith, c.requires.to)) c.in_ok-put_entry.ensures.words c.args.frames.now c.args.frames.now c.requires.agrees refl
    (λ q. (
      λ was. inl was,
      λ either. elim either [
        | inl was ↦ was
        | inr u ↦ absurd (under_none old 3 q (subst (λ (t : ℕ). IsUnder old t 3 q) none u))
      ],
    ))

pub returns-in_err-put_entry-clause-view : goal.returns-in_err-put_entry-clause-view
returns-in_err-put_entry-clause-view g c =
    view_either (g.D.Pm.words c.args.dev.now) (g.D.Pm.words c.put_entry.new.dev) c.args.slot c.requires.tables c.requires.from c.requires.to c.put_entry.ensures.either

pub returns-then-entry-ne0-clause-view : goal.returns-then-entry-ne0-clause-view
returns-then-entry-ne0-clause-view g c =
    view_either (g.D.Pm.words c.args.dev.now) (g.D.Pm.words c.put_entry.new.dev) c.args.slot c.requires.tables c.requires.from c.requires.to c.put_entry.ensures.either

pub returns-else-entry-ne0-clause-view : goal.returns-else-entry-ne0-clause-view
returns-else-entry-ne0-clause-view g c =
    view_either (g.D.Pm.words c.args.dev.now) (g.D.Pm.words c.put_entry.new.dev) c.args.slot c.requires.tables c.requires.from c.requires.to c.put_entry.ensures.either

pub returns-then-entry-ne0-clause-given : goal.returns-then-entry-ne0-clause-given
returns-then-entry-ne0-clause-given g c =
    let lt : c.args.slot < 512 = omega (arith, c.requires.to) in
    given_old (g.D.Pm.words c.args.dev.now) (g.D.Pm.words c.put_entry.new.dev) c.args.slot c.load-entry.result c.args.frames.now c.requires.tables lt c.in_ok-put_entry.ensures.words c.load-entry.ensures
    c.if-entry-ne0.true c.requires.agrees c.give_below.new.frames c.give_below.ensures.given

pub returns-else-entry-ne0-clause-given : goal.returns-else-entry-ne0-clause-given
returns-else-entry-ne0-clause-given g c q =
    let old = g.D.Pm.words c.args.dev.now in
    let lt : c.args.slot < 512 = omega (arith, c.requires.to) in
    let none = slot_none c.requires.tables lt c.in_ok-put_entry.ensures.words (sym c.load-entry.ensures ∙ c.if-entry-ne0.false) in (
      λ was. inl was,
      λ either. elim either [
        | inl was ↦ was
        | inr u ↦ absurd (under_none old 3 q (subst (λ (t : ℕ). IsUnder old t 3 q) none u))
      ],
    )
