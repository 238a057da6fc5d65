use Rattle.std.proofs.Common.{◌≡◌, ◌+◌, ◌-◌, ◌/◌, [], ◌∷◌, ◌++◌, sym, ap, ◌∙◌, append-nil, arith}
use Rattle.ct_base.specs.Ranges.{header_at}
use Rattle.ct_base.specs.Published.{words_above, header_words}
use Rattle.ct_parts.proofs.Path.{words_so_far, words_above-none, partition_up}
use Rattle.ct_parts.proofs.Lists.{number-nth}
use Rattle.ct_header.proofs.address.words.Goals as goal

pub loop-at-preserved : goal.loop-at-preserved
loop-at-preserved c =
    let n = c.place-level.result.0 in
    let j = c.place-level.result.1 in
    let pushed : c.push.new.self.items ≡ c.loop-at.words.items ++ header_at (c.loop-at.at + 1) (c.loop-at.child / 8) ∷ [] =
    c.push.ensures.items ∙ ap (λ a. c.loop-at.words.items ++ a ∷ []) c.header_address.ensures.value in
    record {
      all = ap (λ xs. xs ++ words_above (c.loop-at.at + 1) (c.loop-at.child / 8) (10 - (c.loop-at.at + 1))) pushed
          ∙ words_so_far n j c.loop-at.at c.loop-at.child c.loop-at.words.items (omega arith) c.loop-at.invariant.all;
      count = omega (arith, c.push.ensures.len, c.loop-at.invariant.count);
      place = λ le. partition_up c.loop-at.at c.loop-at.child (omega arith) (c.loop-at.invariant.place (omega arith));
    }

pub returns : goal.returns
returns c =
    let e = c.place-level.ensures in
    let n = c.place-level.result.0 in
    let j = c.place-level.result.1 in
    let done = words_above-none c.loop-at.at c.loop-at.child (omega arith) in
    sym (ap (λ ws. c.loop-at.words.items ++ ws) done ∙ append-nil c.loop-at.words.items)
    ∙ c.loop-at.invariant.all
    ∙ ap (λ x. words_above n x (10 - n)) (sym (number-nth n j e.partition.level))
    ∙ ap header_words (sym e.value)
