use Rattle.std.proofs.Common.{◌++◌, sym, ap, ◌∙◌, append-nil, arith}
use Rattle.ct_dir.proofs.Spelling.{bytes_from-none, bytes_pushed}
use Rattle.ct_dir.specs.Keys.{byte_of}
use Rattle.ct_dir.proofs.slot.push_bytes.Goals as goal

pub loop-i-init : goal.loop-i-init
loop-i-init c = record { items = sym (ap (λ xs. c.args.name.now.items ++ xs) (bytes_from-none (byte_of c.args.word) 0) ∙ append-nil c.args.name.now.items); size = omega arith }

pub loop-i-preserved : goal.loop-i-preserved
loop-i-preserved c =
    record {
      items = bytes_pushed c.loop-i.name.items c.args.name.now.items c.push.new.self.items c.to_le_bytes-bytes.result c.args.word c.loop-i.i c.loop-i.invariant.items c.push.ensures.items c.to_le_bytes-bytes.ensures
          (omega arith);
      size = omega (arith, c.push.ensures.len, c.loop-i.invariant.size);
    }
