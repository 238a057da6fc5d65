use Rattle.std.proofs.Common.{◌≤◌, ◌^◌, length, arith}
use Rattle.ct_script.proofs.Numbers.{value_over, value_whole}
use Rattle.ct_script.proofs.number.value_of.Goals as goal

pub returns-in-None : goal.returns-in-None
returns-in-None c = value_over c.args.word.now c.loop-digit.digit-index c.loop-digit.value (2 ^ 64) c.loop-digit-test.true c.loop-digit.invariant.value c.in-None.ensures

pub returns : goal.returns
returns c =
    let past : length c.args.word.now ≤ c.loop-digit.digit-index = omega arith in
    value_whole c.args.word.now c.loop-digit.digit-index c.loop-digit.value (2 ^ 64) past c.loop-digit.invariant.value c.loop-digit.invariant.bound
