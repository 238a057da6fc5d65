use Rattle.std.proofs.Common.{◌≡◌, ◌≢◌, ◌∙◌, ℕ, ◌+◌, ◌/◌, ◌<◌, List, ◌∷◌, [], length, get_or, subst, sym, ap, All, arith, length-append}
use Rattle.std.proofs.lemmas.List.{get_or_read}
use Rattle.std.proofs.lemmas.List.Elements.{All-push}
use Rattle.pm_file.specs.Lines.{page_total}
use Rattle.pm_file.proofs.Masks.{room_left, line_same, line_more, listed_same, listed_more, length-with_line}
use Rattle.pm_file.proofs.marks.Marks.mark.Goals as goal

pub invariant_of-self-clause-listed : goal.invariant_of-self-clause-listed
invariant_of-self-clause-listed c =
    let old = c.args.self.now in
    let there : c.args.line / 64 < length old.marked.items = omega (arith, c.requires, old.same_size) in
    let some : get_or old.marked.items (c.args.line / 64) 0 ≢ 0 = λ e. c.if-index-ne0.true (get_or_read old.marked.items (c.args.line / 64) c.index.result.now there c.index.ensures 0 ∙ e) in
    let P : List ℕ → Type 0 = λ masks. (page : ℕ) → All (λ p. p ≢ page) old.pages.items → get_or masks page 0 ≡ 0 in
    subst P (sym c.add_line.ensures.masks) (listed_same old.marked.items old.pages.items c.args.line there old.listed some)

pub invariant_of-self-clause-counted : goal.invariant_of-self-clause-counted
invariant_of-self-clause-counted c =
    let old = c.args.self.now in
    let there : c.args.line / 64 < length old.marked.items = omega (arith, c.requires, old.same_size) in
    let some : get_or old.marked.items (c.args.line / 64) 0 ≢ 0 = λ e. c.if-index-ne0.true (get_or_read old.marked.items (c.args.line / 64) c.index.result.now there c.index.ensures 0 ∙ e) in
    old.counted ∙ sym (line_same old.marked.items old.pages.items c.args.line there old.listed some) ∙ ap page_total (sym c.add_line.ensures.masks)

pub invariant_of-self-clause-in_range : goal.invariant_of-self-clause-in_range
invariant_of-self-clause-in_range c =
    let old = c.args.self.now in
    let P : ℕ → Type 0 = λ n. All (λ x. x < n) old.pages.items in
    subst P (sym (length-with_line old.marked.items c.args.line) ∙ ap length (sym c.add_line.ensures.masks)) old.in_range

pub push_page-requires : goal.push_page-requires
push_page-requires c =
    let old = c.args.self.now in
    let there : c.args.line / 64 < length old.marked.items = omega (arith, c.requires, old.same_size) in
    let none : get_or old.marked.items (c.args.line / 64) 0 ≡ 0 = sym (get_or_read old.marked.items (c.args.line / 64) c.index.result.now there c.index.ensures 0) ∙ c.if-index-ne0.false in
    omega (arith, room_left old.marked.items (c.args.line / 64) there none, old.room, old.counted)

pub invariant_of-self-2-clause-listed : goal.invariant_of-self-2-clause-listed
invariant_of-self-2-clause-listed c =
    let old = c.args.self.now in
    let there : c.args.line / 64 < length old.marked.items = omega (arith, c.requires, old.same_size) in
    let P : List ℕ → Type 0 = λ masks. (page : ℕ) → All (λ p. p ≢ page) c.push_page.new.pages.items → get_or masks page 0 ≡ 0 in
    subst P (sym c.add_line-2.ensures.masks) (λ page all.
    let A : List ℕ → Type 0 = λ pages. All (λ p. p ≢ page) pages in
    listed_more old.marked.items old.pages.items c.args.line there old.listed page (subst A c.push_page.ensures.items all))

pub invariant_of-self-2-clause-counted : goal.invariant_of-self-2-clause-counted
invariant_of-self-2-clause-counted c =
    let old = c.args.self.now in
    let there : c.args.line / 64 < length old.marked.items = omega (arith, c.requires, old.same_size) in
    let none : get_or old.marked.items (c.args.line / 64) 0 ≡ 0 = sym (get_or_read old.marked.items (c.args.line / 64) c.index.result.now there c.index.ensures 0) ∙ c.if-index-ne0.false in
    let longer : length c.push_page.new.pages.items ≡ length old.pages.items + 1 = ap length c.push_page.ensures.items ∙ length-append old.pages.items (c.args.line / 64 ∷ []) in
    longer ∙ ap (λ n. n + 1) old.counted ∙ sym (line_more old.marked.items old.pages.items c.args.line there old.listed none) ∙ ap page_total (sym c.add_line-2.ensures.masks)

pub invariant_of-self-2-clause-in_range : goal.invariant_of-self-2-clause-in_range
invariant_of-self-2-clause-in_range c =
    let old = c.args.self.now in
    let there : c.args.line / 64 < length old.marked.items = omega (arith, c.requires, old.same_size) in
    let P : ℕ → Type 0 = λ n. All (λ x. x < n) c.push_page.new.pages.items in
    let A : List ℕ → Type 0 = λ pages. All (λ x. x < length old.marked.items) pages in
    subst P (sym (length-with_line old.marked.items c.args.line) ∙ ap length (sym c.add_line-2.ensures.masks))
    (subst A (sym c.push_page.ensures.items) (All-push (λ x. x < length old.marked.items) old.pages.items (c.args.line / 64) old.in_range there))
