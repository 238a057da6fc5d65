use Rattle.std.proofs.Common.{refl, arith}
use Rattle.ct_base.specs.View.{inode_count, view}
use Rattle.ct_naming.proofs.Meeting.{live_number}
use Rattle.ct_naming.proofs.names.are_names_apart.Goals as goal

pub returns : goal.returns
returns g c =
    let w = g.D.Pm.words c.args.dev.now in (
      λ on i o k so sk same.
          let number = live_number (view w) (inode_count w) i (λ none. omega (arith, none, so.dir)) in
          c.loop-n.invariant i number.from (omega (arith, number.to, c.load-n-end.ensures)) o k so sk same,
      λ all. refl,
    )
