use Rattle.std.proofs.Common.{◌≡◌, ◌+◌, ◌*◌, ◌/◌, ◌-◌, [], ◌∷◌, max, ap, ◌∙◌}
use Rattle.ct_base.specs.Inode.{Partition}
use Rattle.ct_base.specs.Plan.{counted as counted_want, stage as stage_of, table_want, touched as touched_of}
use Rattle.ct_base.specs.Wants.{Want}
use Rattle.ct_plan.specs.Few.{edge, stays_from as stays_from_of}
use Rattle.ct_plan.proofs.wants.write_wants.Goals as goal

four : (p q r s x y z w : Want) → p ≡ x → q ≡ y → r ≡ z → s ≡ w → (p ∷ q ∷ r ∷ s ∷ []) ≡ (x ∷ y ∷ z ∷ w ∷ [])
four p q r s x y z w one two three last =
    ap (λ v. v ∷ q ∷ r ∷ s ∷ []) one ∙ ap (λ v. x ∷ v ∷ r ∷ s ∷ []) two ∙ ap (λ v. x ∷ y ∷ v ∷ s ∷ []) three ∙ ap (λ v. x ∷ y ∷ z ∷ v ∷ []) last

pub returns : goal.returns
returns c = λ level.
    let f = c.args.inode in
    let part : Partition = record { base = c.args.base; level = level } in
    let a = (c.args.base + c.args.off) / 4096 in
    let n = touched_of c.args.off c.args.len in
    four _ _ _ _
    (counted_want f part (table_want (edge 3 a) (a * 4096)))
    (table_want (max (stays_from_of f) (edge 3 a)) (a * 4096))
    (table_want (edge 3 (a + n)) ((a + n - 1) * 4096))
    (record { height = 0; at = stage_of (c.args.base + c.args.off) / 4096 * 4096; len = n * 4096 })
    (c.counted-brought.ensures level ∙ ap (λ h. counted_want f part (table_want h (a * 4096))) c.edge-first.ensures.exact)
    (c.table-stays.ensures ∙ ap (λ h. table_want h (a * 4096)) (c.max.ensures ∙ ap (λ h. max h c.edge-first.result) c.stays_from.ensures.exact ∙ ap (λ k. max (stays_from_of f) k) c.edge-first.ensures.exact))
    (c.table-last.ensures ∙ ap (λ h. table_want h ((a + n - 1) * 4096)) c.edge.ensures.exact)
    c.pages-page.ensures
