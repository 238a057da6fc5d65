use Rattle.std.proofs.Common.{◌≡◌, ◌++◌, ◌∷◌, [], length, ap, sym, ◌∙◌, arith}
use Rattle.ct_base.specs.Slots.{bytes_from}
use Rattle.ct_dir.proofs.Spelling.{bytes_from-none, bytes_from-push}
use Rattle.ct_dir.proofs.Texts.{length-bytes_from}
use Rattle.ct_naming.specs.Slots.{byte_at}
use Rattle.ct_naming.proofs.entry.name_in.Goals as goal

pub loop-k-init : goal.loop-k-init
loop-k-init g c = let none = bytes_from-none (byte_at (g.D.Pm.words c.args.dev.now) c.args.slot.place) 8 in c.new-name.ensures ∙ sym none

pub push-requires : goal.push-requires
push-requires g c =
    let size : length c.loop-k.name.items ≡ c.loop-k.k = ap length c.loop-k.invariant ∙ length-bytes_from (byte_at (g.D.Pm.words c.args.dev.now) c.args.slot.place) 8 c.loop-k.k in
    (omega arith, omega (arith, size, c.requires.short))

pub loop-k-preserved : goal.loop-k-preserved
loop-k-preserved g c =
    let b = byte_at (g.D.Pm.words c.args.dev.now) c.args.slot.place in
    let more = bytes_from-push b 8 c.loop-k.k in
    c.push.ensures.items ∙ ap (λ xs. xs ++ c.byte_in.result ∷ []) c.loop-k.invariant ∙ ap (λ x. bytes_from b 8 c.loop-k.k ++ x ∷ []) c.byte_in.ensures ∙ sym more
