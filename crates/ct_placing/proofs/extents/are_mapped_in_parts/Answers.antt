use Rattle.std.proofs.Common.{◌≡◌, ◌+◌, ◌/◌, ◌<◌, ◌≤◌, ℕ, List, false, length, get_or, refl, sym, ap, subst, arith}
use Rattle.std.proofs.lemmas.Bool.{both_ways}
use Rattle.ct_base.specs.View.{inode_count, view}
use Rattle.ct_base.specs.Walk.{page_at}
use Rattle.ct_placing.specs.declared.extent.Extent.{Extent}
use Rattle.ct_placing.proofs.Collecting.{Passes, gap_after, gap_before, pass_end, pass_more}
use Rattle.ct_placing.proofs.extents.are_mapped_in_parts.Goals as goal

pub loop-extent-preserved : goal.loop-extent-preserved
loop-extent-preserved g c =
    let w = g.D.Pm.words c.args.dev.now in
    let xs = c.args.extents.now.items in
    let k = c.loop-extent.extent-index in
    let page = c.loop-extent.page in
    let d : Extent = record { base = 0; end = 0; inode = 0 } in
    let value : c.deref-extent-items.result.now ≡ xs = c.deref-extent-items.ensures.value in
    let lt : k < length xs = omega (arith, ap length value) in
    let absent = subst (λ (ys : List Extent). (p : ℕ) → page ≤ p → p < (get_or ys k d).base / 4096 → page_at w 4 p ≡ 0) value (c.if-not-are_absent.ensures.0 refl) in
    subst (λ (ys : List Extent). Passes w (view w) (inode_count w) xs (k + 1) ((get_or ys k d).end / 4096)) (sym value)
    (pass_more w c.requires.extents c.requires.placed c.requires.order k d lt c.loop-extent.invariant absent)

pub returns-then-not-are_absent : goal.returns-then-not-are_absent
returns-then-not-are_absent g c =
    let w = g.D.Pm.words c.args.dev.now in
    let xs = c.args.extents.now.items in
    let k = c.loop-extent.extent-index in
    let page = c.loop-extent.page in
    let d : Extent = record { base = 0; end = 0; inode = 0 } in
    let value : c.deref-extent-items.result.now ≡ xs = c.deref-extent-items.ensures.value in
    let lt : k < length xs = omega (arith, ap length value) in (
      λ on. absurd (both_ways false refl on),
      λ mapped. c.if-not-are_absent.ensures.1 (subst (λ (ys : List Extent). (p : ℕ) → page ≤ p → p < (get_or ys k d).base / 4096 → page_at w 4 p ≡ 0) (sym value)
          (gap_before w c.requires.extents c.requires.placed c.requires.order c.loop-extent.invariant d lt mapped)),
    )

pub returns : goal.returns
returns g c =
    let w = g.D.Pm.words c.args.dev.now in
    let xs = c.args.extents.now.items in
    let value : c.deref-extent-items.result.now ≡ xs = c.deref-extent-items.ensures.value in
    let all : length xs ≤ c.loop-extent.extent-index = omega (arith, ap length value) in (
      λ on. pass_end w c.requires.extents c.requires.placed c.loop-extent.invariant (c.are_absent-2.ensures.0 on),
      λ mapped. c.are_absent-2.ensures.1 (gap_after w c.requires.extents c.requires.placed c.loop-extent.invariant all mapped),
    )
