use Rattle.std.proofs.Common.{◌<◌, ap, sym, subst}
use Rattle.ct_base.specs.Free.{HasFreePages}
use Rattle.ct_tree.specs.declared.call.Refusal.TheVariants.{NoPages}
use Rattle.ct_call.proofs.Vacant.{has_free, free_once}
use Rattle.ct_call.proofs.space.check_pages.Goals as goal

pub returns-then-free-need-clause-lacks : goal.returns-then-free-need-clause-lacks
returns-then-free-need-clause-lacks g c =
    let w = g.D.Pm.words c.args.dev.now in (
      c.free-free.result,
      subst (HasFreePages w) (sym c.free-free.ensures.count) (has_free w c.requires.mounted.unstaged c.requires.mounted.agrees c.free-free.ensures.rising c.free-free.ensures.in_range),
      ap (λ n. NoPages c.free-free.result n) c.missing-need.ensures,
      subst (λ n. c.free-free.result < n) c.missing-need.ensures c.if-free-need.true,
    )

pub returns-then-free-need-clause-counted : goal.returns-then-free-need-clause-counted
returns-then-free-need-clause-counted g c = free_once (g.D.Pm.words c.args.dev.now) c.requires.mounted.unstaged c.requires.mounted.agrees c.free-free.ensures.rising c.free-free.ensures.in_range

pub returns-clause-counted : goal.returns-clause-counted
returns-clause-counted g c = free_once (g.D.Pm.words c.args.dev.now) c.requires.mounted.unstaged c.requires.mounted.agrees c.free-free.ensures.rising c.free-free.ensures.in_range
