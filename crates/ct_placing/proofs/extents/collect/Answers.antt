use Rattle.std.proofs.Common.{◌≡◌, ◌+◌, refl, sym, ap, subst, ◌∙◌, arith}
use Rattle.ct_base.specs.declared.inode.Inode.{Inode}
use Rattle.ct_base.specs.Inode.{inode, part_bytes}
use Rattle.ct_base.specs.View.{inode_count, view}
use Rattle.ct_placing.specs.declared.extent.Extent.{Extent}
use Rattle.ct_placing.specs.Extents.{Collects}
use Rattle.ct_placing.proofs.Collecting.{collect_push}
use Rattle.ct_placing.proofs.extents.collect.Goals as goal

pub returns-in-Ok : goal.returns-in-Ok
returns-in-Ok g c =
    let w = g.D.Pm.words c.args.dev.now in
    let f = inode (view w) c.args.n in
    let is : c.get-f.result ≡ f = c.get-f.ensures in
    let kind : c.get-f.result.kind ≡ f.kind = ap (λ (e : Inode). e.kind) is in
    let level : c.get-f.result.level ≡ f.level = ap (λ (e : Inode). e.level) is in
    let base : c.get-f.result.base ≡ f.base = ap (λ (e : Inode). e.base) is in
    let bytes : c.bytes_of.result ≡ part_bytes f.level = c.bytes_of.ensures.bytes ∙ ap part_bytes level in
    let end : c.get-f.result.base + c.bytes_of.result ≡ f.base + part_bytes f.level = ap (λ k. k + c.bytes_of.result) base ∙ ap (λ k. f.base + k) bytes in
    let e : Extent = record { base = c.get-f.result.base; end = c.get-f.result.base + c.bytes_of.result; inode = c.args.n } in
    λ so_far. subst (Collects (view w) (inode_count w) (c.args.n + 1)) (sym c.in-Ok.ensures.items)
    (collect_push so_far e (record {
      owns = record { live = record { number = record { from = c.requires.from; to = c.requires.to }; used = λ none. omega (arith, kind, none) }; level = omega (arith, level) };
      base = base;
      end = end;
    }) refl)
