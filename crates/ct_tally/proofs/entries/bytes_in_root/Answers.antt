use Rattle.std.proofs.Common.{◌≡◌, ◌∙◌, ◌+◌, ℕ, Option, Some, arith, sym, ap, subst}
use Rattle.std.specs.Option.{option_map}
use Rattle.arrayvec.specs.declared.array_vec.ArrayVec.{ArrayVec}
use Rattle.ct_base.specs.Path.{is_name}
use Rattle.ct_look.specs.Looks.{next_name}
use Rattle.ct_shell.proofs.Kept.{held}
use Rattle.ct_tree.specs.Entries.{lookup}
use Rattle.ct_tree.specs.Resolve.{entries_in}
use Rattle.ct_tree.specs.Step.{names_in}
use Rattle.ct_tally.proofs.Numbered.{bytes_most}
use Rattle.ct_tally.proofs.Root.{Summed, all_fit, summed_all, summed_end, summed_more, summed_none}
use Rattle.ct_tally.proofs.entries.bytes_in_root.Goals as goal

pub loop-init : goal.loop-init
loop-init g c n t keeps counted = summed_none t _ (c.next_in_root-next.ensures n t keeps)

pub returns-in-None : goal.returns-in-None
returns-in-None g c n t keeps counted =
    absurd (summed_end t c.loop.counter c.args.count _ c.loop.bytes (c.loop.invariant n t keeps counted) c.loop-test.true counted (ap (λ (next : Option (ArrayVec ℕ 248 (Unit {0}))). option_map (λ name. name.items) next) c.in-None.is))

pub loop-preserved : goal.loop-preserved
loop-preserved g c n t keeps counted =
    let h = held n c.args.fs.now.state t keeps in
    let summed = c.loop.invariant n t keeps counted in
    let same = c.as_slice.ensures.value in
    let next = summed_more t c.loop.counter _ c.loop.bytes c.size_in_root.result c.in-Some.name.items _ h.2.stands.tree summed
    (ap (λ (next : Option (ArrayVec ℕ 248 (Unit {0}))). option_map (λ name. name.items) next) c.in-Some.is)
    (λ node is found. c.size_in_root.ensures n t node keeps (ap is_name same ∙ is) (ap (λ x. lookup x (entries_in t)) same ∙ found))
    (c.next_in_root-next-in-loop.ensures n t keeps ∙ ap (λ x. next_name (Some x) (names_in (entries_in t))) c.as_slice-in-loop.ensures.value) in
    let fits = all_fit h.2 in
    let most = bytes_most (entries_in t) (c.loop.counter + 1) in
    let sum = next.sum in
    let exact : c.saturating_add-bytes.result ≡ c.loop.bytes + c.size_in_root.result = omega (arith, c.saturating_add-bytes.ensures, fits, most, sum) in
    subst (Summed t (c.loop.counter + 1) _) (sym exact) next

pub returns : goal.returns
returns g c n t keeps counted =
    summed_all t c.loop.counter _ c.loop.bytes (c.loop.invariant n t keeps counted)
    (let past = c.loop-test.false in let end = c.loop.auto.counter-end in omega (arith, past, end, counted))
