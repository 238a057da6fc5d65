use Rattle.std.proofs.Common.{ap, arith, length}
use Rattle.percent_encoding.proofs.PercentLemmas.{length-percent_decode}
use Rattle.ct_script.proofs.scratch.decode_onto.Goals as goal

pub loop-byte-init : goal.loop-byte-init
loop-byte-init c = record {
  text = c.percent_decode-bytes.ensures.bytes;
  fits = let same = ap length c.percent_decode-bytes.ensures.bytes in let short = (length-percent_decode c.args.word.now).0 in omega (arith, same, short);
}
