use Rattle.std.proofs.Common.{◌≡◌, ◌*◌, min, sym, ap, ◌∙◌, arith, length, ◌++◌}
use Rattle.ct_base.specs.Slots.{bytes_from}
use Rattle.ct_dir.specs.Keys.{name_byte, byte_of}
use Rattle.ct_dir.proofs.Spelling.{bytes_from-none, words_pushed}
use Rattle.ct_dir.proofs.Texts.{length-bytes_from}
use Rattle.ct_dir.proofs.slot.Slot.name.Goals as goal

pub loop-k-init : goal.loop-k-init
loop-k-init g c =
    let none : min (8 * 0) c.length-length.result ≡ 0 = omega arith in
    c.new-name.ensures ∙ sym (ap (bytes_from (name_byte (g.D.Pm.words c.args.dev.now) c.args.self) 0) none ∙ bytes_from-none (name_byte (g.D.Pm.words c.args.dev.now) c.args.self) 0)

pub push_bytes-requires-clause-room : goal.push_bytes-requires-clause-room
push_bytes-requires-clause-room g c =
    let so_far : c.loop-k.name.items ≡ bytes_from (name_byte (g.D.Pm.words c.args.dev.now) c.args.self) 0 (min (8 * c.loop-k.k) c.length-length.result) = c.loop-k.invariant in
    let size = ap length so_far ∙ length-bytes_from (name_byte (g.D.Pm.words c.args.dev.now) c.args.self) 0 (min (8 * c.loop-k.k) c.length-length.result) in
    omega (arith, size, c.min.ensures, c.length-length.ensures.value, c.requires.short)

pub loop-k-preserved : goal.loop-k-preserved
loop-k-preserved g c =
    words_pushed (g.D.Pm.words c.args.dev.now) c.args.self c.loop-k.name.items c.push_bytes.new.name.items c.load-word.result c.loop-k.k c.length-length.result c.loop-k.invariant c.load-word.ensures
    (omega (arith, c.loop-k-test.true, c.div_ceil-k-end.ensures)) (c.push_bytes.ensures ∙ ap (λ m. c.loop-k.name.items ++ bytes_from (byte_of c.load-word.result) 0 m) c.min.ensures)
