use Rattle.std.proofs.Common.{◌≡◌, ◌<◌, ◌≤◌, ℕ, List, sym, subst, ap, ◌∙◌, arith}
use Rattle.std.specs.Prelude.{Contains, ◌↔◌, false}
use Rattle.ct_frames.specs.Free.{FreePages, listed, without}
use Rattle.ct_marks.specs.Marks.{is_marked}
use Rattle.ct_check.proofs.Spare.{is_spare, spare_start, spare_there, spare_marked, spare_unmarked, spare_all}
use Rattle.ct_check.proofs.frames.unmarked.Goals as goal
use Rattle.ct_check.proofs.frames.unmarked.Goals.{then-has_mark, else-has_mark}

pub loop-page-init : goal.loop-page-init
loop-page-init c = record {
  pages = ap (λ (v : FreePages). v.pages) c.in_ok-frames.ensures;
  free = ap (λ (v : FreePages). v.free) c.in_ok-frames.ensures ∙ spare_start c.args.marks.now.items c.args.pages c.requires.least;
}

pub mark-requires : goal.mark-requires
mark-requires c =
    subst (λ (xs : List ℕ). Contains xs c.new-then-has_mark.result) (sym c.loop-page.invariant.free)
    (subst (λ (n : ℕ). Contains (listed (is_spare c.args.marks.now.items c.loop-page.page) c.args.pages 0) n) (sym c.new-then-has_mark.ensures)
    (spare_there c.args.marks.now.items c.args.pages c.loop-page.page (omega arith) (omega arith)))

pub loop-page-preserved : goal.loop-page-preserved
loop-page-preserved c =
    let marks = c.args.marks.now.items in
    let k = c.loop-page.page in
    let inv = c.loop-page.invariant in
    elim c.if-has_mark.branch [
      | then-has_mark w ↦
          let is = w.frames-is ∙ w.mark.ensures in
          record {
            pages = ap (λ (v : FreePages). v.pages) is ∙ inv.pages;
            free = ap (λ (v : FreePages). v.free) is ∙ ap (λ (n : ℕ). without n c.loop-page.frames.free) w.new-then-has_mark.ensures ∙ ap (without k) inv.free
                ∙ spare_marked marks c.args.pages k (omega arith) (omega arith) (sym w.if-has_mark.ensures);
          }
      | else-has_mark w ↦ record {
        pages = ap (λ (v : FreePages). v.pages) w.frames-is ∙ inv.pages;
        free = ap (λ (v : FreePages). v.free) w.frames-is ∙ inv.free ∙ spare_unmarked marks c.args.pages k (omega arith) (sym w.if-has_mark.ensures);
      }
    ]

pub returns-clause-free : goal.returns-clause-free
returns-clause-free c =
    let marks = c.args.marks.now.items in
    let all : c.loop-page.page ≡ c.args.pages = omega arith in
    let free = c.loop-page.invariant.free ∙ ap (λ (k : ℕ). listed (is_spare marks k) c.args.pages 0) all in
    λ q. subst (λ (xs : List ℕ). Contains xs q ↔ ((34 ≤ q) × (q < c.args.pages) × (is_marked marks q ≡ false))) (sym free) (spare_all marks c.args.pages q)
