use Rattle.std.proofs.Common.{◌+◌, ◌*◌, ◌/◌, ◌≤◌, ℕ, refl, sym, ap, subst, arith}
use Rattle.std.proofs.lemmas.Bool.{both_ways}
use Rattle.ct_base.specs.Inode.{part_bytes}
use Rattle.ct_placing.specs.Zeros.{AreZero}
use Rattle.ct_placing.proofs.Stretches.{part_high, part_even, tail_zero, zero_tail}
use Rattle.ct_placing.proofs.tails.is_tail_zero.Goals as goal

pub are_bytes_zero-requires-clause-high : goal.are_bytes_zero-requires-clause-high
are_bytes_zero-requires-clause-high g c = let most = part_high c.args.f c.requires.room in omega (arith, most, c.requires.room.size)

pub are_zero_between-requires-clause-high : goal.are_zero_between-requires-clause-high
are_zero_between-requires-clause-high g c = let most = part_high c.args.f c.requires.room in omega (arith, most, c.bytes_of.ensures.bytes)

pub returns-then-are_bytes_zero : goal.returns-then-are_bytes_zero
returns-then-are_bytes_zero g c =
    let w = g.D.Pm.words c.args.dev.now in
    let f = c.args.f in
    let room = c.requires.room in
    let even = part_even f room in
    let up = (f.base + f.size + 7) / 8 * 8 in
    let to : up ≤ f.base + part_bytes f.level = omega (arith, even, room.size) in
    let end = ap (λ k. f.base + k) c.bytes_of.ensures.bytes in
    let P : ℕ → Type 0 = AreZero w up in (
      λ on. tail_zero w f room up (omega arith) (omega arith) to even (c.if-are_bytes_zero.ensures.0 refl) (subst P end (c.are_zero_between.ensures.0 on)),
      λ all. c.are_zero_between.ensures.1 (subst P (sym end) (zero_tail w f room up (omega arith) to even all).1),
    )

pub returns-else-are_bytes_zero : goal.returns-else-are_bytes_zero
returns-else-are_bytes_zero g c =
    let w = g.D.Pm.words c.args.dev.now in
    let f = c.args.f in
    let room = c.requires.room in
    let even = part_even f room in
    let up = (f.base + f.size + 7) / 8 * 8 in
    let to : up ≤ f.base + part_bytes f.level = omega (arith, even, room.size) in
    (λ on. absurd (both_ways _ c.if-are_bytes_zero.false on), λ all. c.are_bytes_zero.ensures.1 (zero_tail w f room up (omega arith) to even all).0)
