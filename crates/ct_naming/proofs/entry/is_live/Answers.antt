use Rattle.std.proofs.Common.{◌≡◌, false, refl, sym, ap, ◌∙◌, arith}
use Rattle.std.proofs.lemmas.Bool.{both_ways}
use Rattle.ct_base.specs.declared.inode.Inode.{Inode}
use Rattle.ct_base.specs.Objects.{objects}
use Rattle.ct_base.specs.View.{inode_count, view}
use Rattle.ct_naming.proofs.Meeting.{kind_is, live_number, some_from, some_to}
use Rattle.ct_naming.proofs.entry.is_live.Goals as goal

pub returns-then-n-eq0 : goal.returns-then-n-eq0
returns-then-n-eq0 g c =
    let w = g.D.Pm.words c.args.dev.now in
    (λ on. absurd (both_ways false refl on), λ live. let number = live_number (view w) (inode_count w) c.args.n live in absurd (omega (arith, number.from)))

pub returns-then-n-load : goal.returns-then-n-load
returns-then-n-load g c =
    let w = g.D.Pm.words c.args.dev.now in
    (λ on. absurd (both_ways false refl on), λ live. let number = live_number (view w) (inode_count w) c.args.n live in absurd (omega (arith, number.to, c.load.ensures)))

pub returns : goal.returns
returns g c =
    let w = g.D.Pm.words c.args.dev.now in
    let is : (objects (view w) (inode_count w) c.args.n).kind ≡ c.get.result.kind =
    kind_is (view w) (inode_count w) c.args.n (record { from = omega arith; to = omega (arith, c.load.ensures) }) ∙ sym (ap (λ (f : Inode). f.kind) c.get.ensures) in
    (some_from c.get.result.kind _ is, some_to c.get.result.kind _ is)
