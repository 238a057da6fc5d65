use Rattle.std.proofs.Common.{◌≡◌, get_or, ap, ◌∙◌, subst, ℕ, List, arith}
use Rattle.std.proofs.lemmas.List.Elements.{Contains-get_or}
use Rattle.std.specs.Prelude.{Contains}
use Rattle.ct_base.specs.Inode.{Partition}
use Rattle.ct_base.specs.Published.{header_words}
use Rattle.ct_grow.proofs.Heads.{path_bounds}
use Rattle.ct_grow.proofs.wants.header_pages.Goals as goal

pub want_at-requires-clause-high : goal.want_at-requires-clause-high
want_at-requires-clause-high c =
    let p : Partition = record { base = c.args.base; level = c.args.level } in
    let items = c.deref-address-items.result.now in
    let list : items ≡ header_words p = c.deref-address-items.ensures.0 ∙ c.words.ensures ∙ ap header_words c.part_at.ensures in
    let on : Contains (header_words p) (get_or items c.loop-address.address-index 0) = subst (λ (xs : List ℕ). Contains xs (get_or items c.loop-address.address-index 0)) list (Contains-get_or items c.loop-address.address-index 0 c.loop-address-test.true) in
    omega (arith, (path_bounds p c.requires _ on).1)
