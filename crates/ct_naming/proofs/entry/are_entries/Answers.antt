use Rattle.std.proofs.Common.{ℕ, false, refl, subst, inl, inr, arith}
use Rattle.std.proofs.lemmas.Bool.{both_ways, cases_eq}
use Rattle.ct_base.specs.Objects.{objects}
use Rattle.ct_base.specs.Rules.{IsEntry}
use Rattle.ct_base.specs.Slots.{IsSlot}
use Rattle.ct_base.specs.View.{inode_count, view}
use Rattle.ct_naming.proofs.Meeting.{live_number}
use Rattle.ct_naming.proofs.entry.are_entries.Goals as goal

pub are_slots_entries-requires-clause-number : goal.are_slots_entries-requires-clause-number
are_slots_entries-requires-clause-number g c = record { from = omega arith; to = omega (arith, c.load-n-end.ensures) }

pub loop-n-preserved : goal.loop-n-preserved
loop-n-preserved g c =
    let w = g.D.Pm.words c.args.dev.now in
    let fs = objects (view w) (inode_count w) in
    λ i from to. elim (cases_eq c.loop-n.n i) [
      | inl here ↦ subst (λ (k : ℕ). (o : ℕ) → IsSlot (fs k) o → IsEntry fs (fs k) o) here (c.if-not-are_slots_entries.ensures.0 refl)
      | inr other ↦ c.loop-n.invariant i from (omega arith)
    ]

pub returns-then-not-are_slots_entries : goal.returns-then-not-are_slots_entries
returns-then-not-are_slots_entries g c = (λ on. absurd (both_ways false refl on), λ all. c.if-not-are_slots_entries.ensures.1 (all c.loop-n.n))

pub returns : goal.returns
returns g c =
    let w = g.D.Pm.words c.args.dev.now in (
      λ on i o s.
          let number = live_number (view w) (inode_count w) i (λ none. omega (arith, none, s.dir)) in
          c.loop-n.invariant i number.from (omega (arith, number.to, c.load-n-end.ensures)) o s,
      λ all. refl,
    )
