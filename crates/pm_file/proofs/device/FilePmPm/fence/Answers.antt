use Rattle.std.proofs.Common.{◌∙◌, ◌-◌, ◌^◌, ℕ, List, All, ap, subst, sym, get_or, bit_and}
use Rattle.std.specs.Prelude.{Contains}
use Rattle.std.proofs.lemmas.List.Elements.{All-contains_itself}
use Rattle.pm_file.specs.Lines.{HasLine}
use Rattle.pm_file.proofs.Members.{all_within, still_stored}
use Rattle.pm_file.proofs.device.FilePmPm.fence.Goals as goal

pub returns-then-is_quiet-clause-as_kept : goal.returns-then-is_quiet-clause-as_kept
returns-then-is_quiet-clause-as_kept g c = All-contains_itself c.args.self.now.kept.lines.items

pub invariant_of-self-then-is_err-clause-kept_stored : goal.invariant_of-self-then-is_err-clause-kept_stored
invariant_of-self-then-is_err-clause-kept_stored g c =
    let old = c.args.self.now in
    let within : All (Contains old.kept.lines.items) c.forget.new.self.lines.items = all_within (Contains old.kept.lines.items) c.sort-2.new.self.lines.items c.forget.new.self.lines.items c.sort-2.ensures c.forget.ensures.kept in
    all_within (λ kept. HasLine c.sort.new.self.stored.items kept.line) old.kept.lines.items c.forget.new.self.lines.items
    (subst (λ s. All (λ kept. HasLine s kept.line) old.kept.lines.items) (sym {A = List ℕ} c.sort.ensures.stored) old.kept_stored) within

pub returns-then-is_err-clause-as_kept : goal.returns-then-is_err-clause-as_kept
returns-then-is_err-clause-as_kept g c = all_within (Contains c.args.self.now.kept.lines.items) c.sort-2.new.self.lines.items c.forget.new.self.lines.items c.sort-2.ensures c.forget.ensures.kept

pub invariant_of-self-2-clause-kept_stored : goal.invariant_of-self-2-clause-kept_stored
invariant_of-self-2-clause-kept_stored g c =
    let old = c.args.self.now in
    let within : All (Contains old.kept.lines.items) c.forget.new.self.lines.items = all_within (Contains old.kept.lines.items) c.sort-2.new.self.lines.items c.forget.new.self.lines.items c.sort-2.ensures c.forget.ensures.kept in
    still_stored old.marks.stored.items old.marks.marked.items c.clear.new.self.stored.items old.marks.marked_fit
    (λ page. c.clear.ensures.stored page
    ∙ ap (λ s. bit_and (get_or s page 0) (2 ^ 64 - 1 - get_or c.sort.new.self.marked.items page 0)) c.sort.ensures.stored
    ∙ ap (λ m. bit_and (get_or old.marks.stored.items page 0) (2 ^ 64 - 1 - get_or m page 0)) c.sort.ensures.marked)
    c.forget.new.self.lines.items
    (all_within (λ kept. HasLine old.marks.stored.items kept.line) old.kept.lines.items c.forget.new.self.lines.items old.kept_stored within)
    (subst (λ m. All (λ kept. ¬ HasLine m kept.line) c.forget.new.self.lines.items) (c.deref-2.ensures.value ∙ c.sort.ensures.marked) c.forget.ensures.forgotten)

pub returns-clause-as_kept : goal.returns-clause-as_kept
returns-clause-as_kept g c = all_within (Contains c.args.self.now.kept.lines.items) c.sort-2.new.self.lines.items c.forget.new.self.lines.items c.sort-2.ensures c.forget.ensures.kept
