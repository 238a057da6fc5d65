use Rattle.std.proofs.Common.{◌*◌, ◌%◌, inl, inr, ap, sym, refl, arith, ◌∙◌}
use Rattle.ct_base.specs.Inode.{part_bytes}
use Rattle.ct_parts.proofs.Lengths.{base_there}
use Rattle.ct_header.proofs.free.part_of.Goals as goal

pub overflow_mul-number : goal.overflow_mul-number
overflow_mul-number c = let b = base_there c.args.level c.args.number c.length_of.result c.requires c.length_of.ensures.value in omega (arith, b.1)

pub unreachable-requires : goal.unreachable-requires
unreachable-requires c =
    let b = base_there c.args.level c.args.number c.length_of.result c.requires c.length_of.ensures.value in
    let base = c.args.number * c.length_of.result in
    let is = c.in-Some.ensures.value in
    elim (c.in-None-at.ensures.none.0 refl) [
      | inl high ↦ omega (arith, c.requires.level, high)
      | inr more ↦ elim more [
        | inl off ↦ off (ap (λ k. k % part_bytes c.args.level) is ∙ ap (λ k. base % k) (sym c.length_of.ensures.value) ∙ b.2)
        | inr low ↦ omega (arith, b.0, low, is)
      ]
    ]

pub unreachable-requires-in-None : goal.unreachable-requires-in-None
unreachable-requires-in-None c =
    let b = base_there c.args.level c.args.number c.length_of.result c.requires c.length_of.ensures.value in
    omega (arith, b.1, c.in-None.ensures.none.0 refl)
