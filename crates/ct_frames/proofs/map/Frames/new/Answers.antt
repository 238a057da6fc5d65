use Rattle.std.proofs.Common.{◌≡◌, ℕ, ◌+◌, ◌-◌, ◌/◌, false, List, length, replicate, ap, ◌∙◌, arith}
use Rattle.ct_frames.specs.Free.{is_set}
use Rattle.std.proofs.lemmas.List.{length-replicate}
use Rattle.ct_frames.proofs.Lists.{length-rising}
use Rattle.ct_frames.proofs.Kept.{listed-full, is_set-zeros}
use Rattle.ct_frames.proofs.map.Frames.new.Goals as goal

pub loop-page-init : goal.loop-page-init
loop-page-init c =
    let n = (c.args.pages + 63) / 64 in
    let items : c.in-Ok.words.items ≡ replicate n 0 = c.in-Ok.ensures.items_if_clones_equal (λ y e. e) in
    let none : (q : ℕ) → is_set c.in-Ok.words.items q ≡ false = λ q. ap (λ (xs : List ℕ). is_set xs q) items ∙ is_set-zeros n q in
    record { size = ap length items ∙ length-replicate {A = ℕ} n 0; low = λ q lt. none q; set = λ q p l. absurd (omega arith); high = λ q le. none q }

pub invariant_of-result : goal.invariant_of-result
invariant_of-result c =
    let inv = c.loop-page.invariant in
    let full = listed-full c.loop-page.words.items c.args.pages c.requires.least inv.low (λ q p l. inv.set q p (omega arith)) in
    record {
      least = c.requires.least;
      most = c.requires.most;
      size = omega (arith, inv.size);
      short = omega (arith, inv.size);
      first = omega arith;
      zeros = λ k lt. absurd (omega arith);
      low = inv.low;
      high = λ q le. inv.high q (omega arith);
      count = omega (arith, ap length full, length-rising (c.args.pages - 34) 34);
    }

pub returns : goal.returns
returns c =
    let inv = c.loop-page.invariant in
    ap (λ (xs : List ℕ). record { pages = c.args.pages; free = xs })
    (listed-full c.loop-page.words.items c.args.pages c.requires.least inv.low (λ q p l. inv.set q p (omega arith)))
