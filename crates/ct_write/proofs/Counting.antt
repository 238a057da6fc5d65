-- The pages that a write takes, by the plan.
use Rattle.std.proofs.Common.{◌≡◌, ℕ, ◌≤◌, List, refl, sym, ◌∙◌}
use Rattle.ct_base.specs.declared.inode.Inode.{Inode}
use Rattle.ct_base.specs.Inode.{part}
use Rattle.ct_base.specs.Plan.{touched, write_wants}
use Rattle.ct_base.specs.Wants.{missing}
use Rattle.ct_plan.specs.Few.{few_table_wants, few_wants}
use Rattle.ct_plan.proofs.Same.{missing_same, same_append}
use Rattle.ct_plan.proofs.Short.{few_same}
use Rattle.ct_plan.proofs.Write.{few_tables_part, few_write_part}
use Rattle.ct_stage.specs.Staged.{pages_from}
use Rattle.ct_write.specs.Prepared.{range_wants}
use Rattle.ct_write.specs.Written.{side_page, stage_page}

-- as much is missing of the short list as of the plan's
pub range_missing : (img : List ℕ) (f : Inode) (off len : ℕ) → 1 ≤ touched off len → missing img (range_wants (side_page f off) (stage_page f off) (touched off len)) ≡ missing img (write_wants f off len (part f))
range_missing img f off len some =
    let a = side_page f off in
    let b = stage_page f off in
    let n = touched off len in
    sym (missing_same img (write_wants f off len (part f)) (range_wants (side_page f off) (stage_page f off) (touched off len)) (λ d x one four.
    few_write_part f off len d x one
    ∙ same_append (few_table_wants f (part f) (side_page f off) (touched off len)) (pages_from (stage_page f off) (touched off len)) (few_wants (side_page f off) (stage_page f off) (touched off len)) (pages_from (stage_page f off) (touched off len)) d x
    (sym (few_tables_part f off len d x one) ∙ few_same (side_page f off) (stage_page f off) (touched off len) d x some) refl))
