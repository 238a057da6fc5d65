use Rattle.std.proofs.Common.{◌<◌, refl, subst, arith}
use Rattle.growth_stops.proofs.Growable.{root_owned, root_high}
use Rattle.growth_stops.proofs.volume.place_of.Goals as goal

pub overflow_add-result : goal.overflow_add-result
overflow_add-result g c =
    let inside = subst (λ m. c.args.offset < m) c.length_of.ensures.value c.if-offset-length_of.false in
    omega (arith, root_high c.requires c.args.offset c.get-inode.result c.get-inode.ensures c.if-inode-eq0.false c.if-inode-gt-TOP_LEVEL.false inside)

pub returns : goal.returns
returns g c =
    let inside = subst (λ m. c.args.offset < m) c.length_of.ensures.value c.if-offset-length_of.false in
    record {
      high = root_high c.requires c.args.offset c.get-inode.result c.get-inode.ensures c.if-inode-eq0.false c.if-inode-gt-TOP_LEVEL.false inside;
      owned = root_owned c.requires c.args.offset _ c.get-inode.result c.get-inode.ensures c.if-inode-eq0.false c.if-inode-gt-TOP_LEVEL.false inside refl;
    }
