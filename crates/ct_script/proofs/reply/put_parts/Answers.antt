use Rattle.std.proofs.Common.{ℕ, List, [], Bor, get_or, sym, subst, take, drop, ◌+◌}
use Rattle.std.specs.Io.KnownBytes.{Appends}
use Rattle.std.specs.List.{flat_map}
use Rattle.std.proofs.lemmas.List.{take_more}
use Rattle.ct_script.proofs.Puts.{whole_at, fault_after}
use Rattle.ct_script.proofs.reply.put_parts.Goals as goal

abbrev blank : Bor (List ℕ)
blank = record { ref_ptr = (0, 0); now = [] }

pub returns-in-Err-clause-bytes : goal.returns-in-Err-clause-bytes
returns-in-Err-clause-bytes g c =
    let parts = c.args.parts.now in
    let i = c.loop-part.part-index in
    let x = get_or parts i blank in
    subst (λ t. (k : ℕ) × Appends (g.O.Sink.written c.args.out.now) (g.O.Sink.written c.put.new.self) (take k t)) (sym (whole_at parts i x (take_more parts i blank c.loop-part-test.true)))
    (fault_after (g.O.Sink.written c.args.out.now) (g.O.Sink.written c.loop-part.out) (g.O.Sink.written c.put.new.self) (flat_map (λ part. part.now) (take i parts)) x.now (flat_map (λ part. part.now) (drop (i + 1) parts)) c.loop-part.invariant.bytes c.in-Err.ensures.bytes)
