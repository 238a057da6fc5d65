use Rattle.std.proofs.Common.{◌+◌}
use Rattle.ct_base.specs.Walk.{byte_in}
use Rattle.ct_look.specs.Content.{Fills}
use Rattle.ct_look.proofs.content.put_bytes.Given as goal

abbrev pub invariant-loop-i : goal.invariant-loop-i
invariant-loop-i g l = record { filled : Fills l.fn.buf l.buf l.place l.i (λ k. byte_in (g.D.Pm.words l.dev) l.page (l.from + k)) }
