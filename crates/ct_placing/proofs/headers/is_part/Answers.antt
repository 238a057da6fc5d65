use Rattle.std.proofs.Common.{◌+◌, ◌*◌, false, refl, sym, ap, ◌∙◌, arith}
use Rattle.std.proofs.lemmas.Bool.{both_ways, eq-eqb, eqb-true}
use Rattle.ct_placing.proofs.Finding.{base_from_one, end_from_one, one_from_end, range_fits}
use Rattle.ct_placing.proofs.headers.is_part.Goals as goal

pub overflow_mul-base : goal.overflow_mul-base
overflow_mul-base g c =
    let at = ap (λ k. c.args.number * k) c.bytes_of-bytes.ensures.bytes in
    omega (arith, at, range_fits c.args.level c.args.number c.requires.level c.requires.number)

pub overflow_add-result : goal.overflow_add-result
overflow_add-result g c =
    let at = ap (λ k. c.args.number * k) c.bytes_of-bytes.ensures.bytes in
    omega (arith, at, c.bytes_of-bytes.ensures.bytes, range_fits c.args.level c.args.number c.requires.level c.requires.number)

pub returns-in-Some : goal.returns-in-Some
returns-in-Some g c =
    let n = c.args.level in
    let j = c.args.number in
    let bytes = c.bytes_of-bytes.ensures.bytes in
    let base = j * c.bytes_of-bytes.result in
    let end = c.in-Some.end in
    let at = ap (λ k. j * k) bytes in
    let to = ap (λ k. base + k) bytes in (
      λ on. one_from_end c.requires.extents n j base end c.requires.level c.in-Some.ensures.some at (eqb-true _ _ on ∙ to),
      λ one. eq-eqb _ _ (end_from_one c.requires.extents c.requires.apart n j base end c.in-Some.ensures.some at one ∙ sym to),
    )

pub returns-in-None : goal.returns-in-None
returns-in-None g c =
    let at = ap (λ k. c.args.number * k) c.bytes_of-bytes.ensures.bytes in (
      λ on. absurd (both_ways false refl on),
      λ one. let h = base_from_one c.requires.extents c.args.level c.args.number one in absurd (c.in-None.ensures.none h.extent h.has (h.is ∙ sym at)),
    )
