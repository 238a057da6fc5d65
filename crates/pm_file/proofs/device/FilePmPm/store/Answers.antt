use Rattle.std.proofs.Common.{ℕ, ◌∙◌, ◌<◌, ◌/◌, List, All, inl, inr, ap, arith, length, get_or, set, subst, sym, get_or-set_other, get_or-set_same}
use Rattle.std.proofs.lemmas.Bool.{cases_eq}
use Rattle.pm_file.specs.Lines.{HasLine}
use Rattle.pm_file.proofs.Members.{kept_more}
use Rattle.pm_file.proofs.device.FilePmPm.store.Goals as goal

pub invariant_of-self-3-clause-kept_stored : goal.invariant_of-self-3-clause-kept_stored
invariant_of-self-3-clause-kept_stored g c =
    let old = c.args.self.now in
    let line : ℕ = c.args.word / 8 in
    let there : line / 64 < length old.marks.stored.items = omega (arith, c.requires, old.whole_pages, old.marks_size, old.marks.same_size) in
    subst (λ s. All (λ kept. HasLine s kept.line) c.keep_line.new.kept.lines.items) (sym {A = List ℕ} c.store.ensures.stored)
    (kept_more old.marks.stored.items line there old.kept.lines.items c.keep_line.new.kept.lines.items _ old.kept_stored
    (λ none. c.keep_line.ensures.first (λ had. none (subst (λ s. HasLine s line) c.deref.ensures.value had)))
    (λ had. c.keep_line.ensures.again (subst (λ s. HasLine s line) (sym c.deref.ensures.value) had)))

pub invariant_of-self-3-clause-words_fit : goal.invariant_of-self-3-clause-words_fit
invariant_of-self-3-clause-words_fit g c =
    let words = c.args.self.now.words.items in
    λ at. elim (cases_eq at c.args.word) [
      | inl here ↦ omega (arith, ap (λ k. get_or (set words c.args.word c.args.value) k 0) here ∙ get_or-set_same words c.args.word c.args.value 0 c.requires, c.ranges.value.fits)
      | inr away ↦ omega (arith, get_or-set_other words c.args.word at c.args.value 0 away, c.args.self.now.words_fit at)
    ]
