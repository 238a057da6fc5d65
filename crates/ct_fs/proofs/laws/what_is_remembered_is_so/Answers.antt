use Rattle.std.proofs.Common.{subst}
use Rattle.std.specs.Prelude.{IfSome}
use Rattle.ct_fs.specs.Remembering.{IsRemembered}
use Rattle.ct_fs.proofs.laws.what_is_remembered_is_so.Goals as goal

pub returns : goal.returns
returns g c was is = subst (λ o. IfSome o (λ now. IsRemembered (g.D.Pm.words now.dev) c.args.fs.now.remembered)) is c.args.fs.now.so
