use Rattle.std.proofs.Common.{◌≡◌, ◌/◌, sym, ap, ◌∙◌, slice_index}
use Rattle.std.specs.Int.{w64, swap_bytes}
use Rattle.std.specs.Ordering.{nat_cmp, ordering_then}
use Rattle.ct_dir.specs.Keys.{word_after}
use Rattle.ct_dir.proofs.Orders.{words_decided, words_alike, words_end}
use Rattle.ct_dir.proofs.slot.Slot.compare.Goals as goal

pub returns-in_default : goal.returns-in_default
returns-in_default g c =
    let v = word_after (g.D.Pm.words c.args.dev.now) c.args.self in
    let w = slice_index c.args.key.now.words in
    let left : c.swap_bytes-word.result ≡ swap_bytes w64 (v c.loop-k.k) = c.swap_bytes-word.ensures ∙ ap (swap_bytes w64) c.load.ensures in
    let is : c.cmp.result ≡ nat_cmp (swap_bytes w64 (v c.loop-k.k)) (swap_bytes w64 (w c.loop-k.k)) =
    c.cmp.ensures ∙ ap (λ x. nat_cmp x c.swap_bytes.result) left ∙ ap (nat_cmp (swap_bytes w64 (v c.loop-k.k))) c.swap_bytes.ensures in
    words_decided v w c.loop-k.k c.cmp.result (nat_cmp (c.args.self.head / 4294967296) c.args.key.now.length) c.loop-k-test.true c.loop-k.invariant is c.in_default.not-Equal

pub loop-k-preserved : goal.loop-k-preserved
loop-k-preserved g c =
    let v = word_after (g.D.Pm.words c.args.dev.now) c.args.self in
    let w = slice_index c.args.key.now.words in
    let left : c.swap_bytes-word.result ≡ swap_bytes w64 (v c.loop-k.k) = c.swap_bytes-word.ensures ∙ ap (swap_bytes w64) c.load.ensures in
    let is : c.cmp.result ≡ nat_cmp (swap_bytes w64 (v c.loop-k.k)) (swap_bytes w64 (w c.loop-k.k)) =
    c.cmp.ensures ∙ ap (λ x. nat_cmp x c.swap_bytes.result) left ∙ ap (nat_cmp (swap_bytes w64 (v c.loop-k.k))) c.swap_bytes.ensures in
    words_alike v w c.loop-k.k c.loop-k-test.true c.loop-k.invariant (sym is ∙ c.in-Equal.is)

pub returns : goal.returns
returns g c =
    let v = word_after (g.D.Pm.words c.args.dev.now) c.args.self in
    let w = slice_index c.args.key.now.words in
    let lengths = nat_cmp (c.args.self.head / 4294967296) c.args.key.now.length in
    c.cmp-2.ensures ∙ ap (λ n. nat_cmp n c.args.key.now.length) c.length.ensures.value
    ∙ sym (ap (λ o. ordering_then o lengths) (words_end v w c.loop-k.k c.loop-k-test.false c.loop-k.invariant))
