use Rattle.std.proofs.Common.{◌+◌, ◌-◌, ◌≤◌}
use Rattle.ct_base.specs.Walk.{byte}
use Rattle.ct_look.specs.Content.{Fills}
use Rattle.ct_look.proofs.content.put_content.Given as goal

abbrev pub invariant-pages : goal.invariant-pages
invariant-pages g l = record {
  within : l.done ≤ l.count;
  filled : Fills l.fn.buf l.buf 0 l.done (λ k. byte (g.D.Pm.words l.dev) (l.from + k));
}

abbrev pub decreases-pages : goal.decreases-pages
decreases-pages g l = l.count - l.done
