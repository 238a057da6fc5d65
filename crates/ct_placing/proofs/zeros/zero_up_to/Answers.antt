use Rattle.std.proofs.Common.{◌≡◌, ◌≢◌, ◌+◌, ◌-◌, ◌*◌, ◌/◌, ◌%◌, ◌<◌, ◌≤◌, ℕ, refl, sym, subst, arith}
use Rattle.ct_base.specs.Walk.{page_at, word}
use Rattle.ct_placing.specs.Zeros.{AreZero}
use Rattle.ct_placing.proofs.Stretches.{page_small, shown_none, zero_shown, shown_zero}
use Rattle.ct_placing.proofs.zeros.zero_up_to.Goals as goal

pub returns-then-absent-gt0-clause-zero : goal.returns-then-absent-gt0-clause-zero
returns-then-absent-gt0-clause-zero g c = λ x from to even.
    shown_none (g.D.Pm.words c.args.dev.now) x (c.absent_from-absent.ensures.absent (x / 4096) (omega arith) (omega arith))

pub overflow_add-word : goal.overflow_add-word
overflow_add-word g c =
    let w = g.D.Pm.words c.args.dev.now in
    let small = page_small w (g.met.D.Pm.words_fit c.args.dev.now) (c.args.a / 4096) (c.absent_from-absent.ensures.present (omega arith)) in
    omega (arith, c.place_of-word.ensures.value, small, c.min-end.ensures)

pub returns-then-are_zero-clause-zero : goal.returns-then-are_zero-clause-zero
returns-then-are_zero-clause-zero g c = λ x from to even.
    let w = g.D.Pm.words c.args.dev.now in
    let a = c.args.a in
    let e = c.min-end.result in
    let end : e % 8 ≡ 0 = omega (arith, c.min-end.ensures, c.requires.end) in
    let page : e ≤ (a / 4096 + 1) * 4096 = omega (arith, c.min-end.ensures) in
    let there : page_at w 4 (a / 4096) ≢ 0 = c.absent_from-absent.ensures.present (omega arith) in
    let zeros = subst (λ (p : ℕ). (k : ℕ) → p ≤ k → k < p + (e - a) / 8 → word w k ≡ 0) c.place_of-word.ensures.value (c.if-are_zero.ensures.0 refl) in
    zero_shown w (g.met.D.Pm.words_fit c.args.dev.now) a e c.requires.aligned end page there zeros x from to even

pub returns-else-are_zero-clause-none : goal.returns-else-are_zero-clause-none
returns-else-are_zero-clause-none g c = λ all.
    let w = g.D.Pm.words c.args.dev.now in
    let a = c.args.a in
    let e = c.min-end.result in
    let end : e % 8 ≡ 0 = omega (arith, c.min-end.ensures, c.requires.end) in
    let page : e ≤ (a / 4096 + 1) * 4096 = omega (arith, c.min-end.ensures) in
    let last : e ≤ c.args.to = omega (arith, c.min-end.ensures) in
    let there : page_at w 4 (a / 4096) ≢ 0 = c.absent_from-absent.ensures.present (omega arith) in
    let part : AreZero w a e = λ x from to even. all x from (omega arith) even in
    let zeros = shown_zero w (g.met.D.Pm.words_fit c.args.dev.now) a e c.requires.aligned end page there part in
    let off = c.if-are_zero.ensures.1 (subst (λ (p : ℕ). (k : ℕ) → p ≤ k → k < p + (e - a) / 8 → word w k ≡ 0) (sym c.place_of-word.ensures.value) zeros) in
    cc
