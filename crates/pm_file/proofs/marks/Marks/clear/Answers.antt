use Rattle.std.proofs.Common.{arith, ◌≡◌, ◌∙◌, ℕ, List, length, get_or, subst, sym, ap, All}
use Rattle.pm_file.proofs.Masks.{all_cleared, all_written, none_total}
use Rattle.pm_file.proofs.marks.Marks.clear.Goals as goal

zero : (c : goal.After-clear) → (page : ℕ) → get_or c.clear_pages.new.marked.items page 0 ≡ 0
zero c =
    let A : List ℕ → Type 0 = λ pages. All (λ p. get_or c.clear_pages.new.marked.items p 0 ≡ 0) pages in
    all_cleared c.args.self.now.pages.items c.args.self.now.stored.items c.args.self.now.marked.items c.clear_pages.new.stored.items c.clear_pages.new.marked.items
    c.args.self.now.listed (subst A c.deref.ensures.value c.clear_pages.ensures.cleared) c.clear_pages.ensures.each

pub invariant_of-self-clause-listed : goal.invariant_of-self-clause-listed
invariant_of-self-clause-listed c = λ page all. zero c page

pub invariant_of-self-clause-counted : goal.invariant_of-self-clause-counted
invariant_of-self-clause-counted c = ap length c.clear.ensures.items ∙ sym (none_total c.clear_pages.new.marked.items (zero c))

pub returns-clause-stored : goal.returns-clause-stored
returns-clause-stored c =
    let A : List ℕ → Type 0 = λ pages. All (λ p. get_or c.clear_pages.new.marked.items p 0 ≡ 0) pages in
    all_written c.args.self.now.pages.items c.args.self.now.stored.items c.args.self.now.marked.items c.clear_pages.new.stored.items c.clear_pages.new.marked.items
    c.args.self.now.listed (subst A c.deref.ensures.value c.clear_pages.ensures.cleared) c.clear_pages.ensures.each c.args.self.now.stored_fit

pub invariant_of-self-clause-marked_fit : goal.invariant_of-self-clause-marked_fit
invariant_of-self-clause-marked_fit c = λ page. omega (arith, zero c page)
