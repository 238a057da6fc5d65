use Rattle.std.proofs.Common.{refl, sym, ◌∙◌}
use Rattle.ct_base.specs.Head.{size, magic, version, count, inodes, spare, gates, targets}
use Rattle.ct_check.proofs.Heads.{heads_first, below_magic, below_version, below_count, below_inodes, below_spare, below_gates, below_targets}
use Rattle.ct_check.proofs.head.check_head.Goals as goal

pub returns-then-not-is_sized-clause-damage : goal.returns-then-not-is_sized-clause-damage
returns-then-not-is_sized-clause-damage g c = (
  size,
  refl,
  record {
    fails = λ h. let e = c.if-not-is_sized.ensures.1 h in cc;
    before = heads_first (g.D.Pm.words c.args.dev.now);
  },
)

pub returns-then-load-ne-MAGIC-clause-damage : goal.returns-then-load-ne-MAGIC-clause-damage
returns-then-load-ne-MAGIC-clause-damage g c = (
  magic,
  refl,
  record {
    fails = λ h. c.if-load-ne-MAGIC.true (c.load.ensures ∙ h);
    before = below_magic (g.D.Pm.words c.args.dev.now) (c.if-not-is_sized.ensures.0 refl);
  },
)

pub returns-then-load-ne1-clause-damage : goal.returns-then-load-ne1-clause-damage
returns-then-load-ne1-clause-damage g c = (
  version,
  refl,
  record {
    fails = λ h. c.if-load-ne1.true (c.load-2.ensures ∙ h);
    before = below_version (g.D.Pm.words c.args.dev.now) (c.if-not-is_sized.ensures.0 refl) (sym c.load.ensures ∙ c.if-load-ne-MAGIC.false);
  },
)

pub returns-then-not-is_counted-clause-damage : goal.returns-then-not-is_counted-clause-damage
returns-then-not-is_counted-clause-damage g c = (
  count,
  refl,
  record {
    fails = λ h. let e = c.if-not-is_counted.ensures.1 h in cc;
    before = below_count (g.D.Pm.words c.args.dev.now) (c.if-not-is_sized.ensures.0 refl) (sym c.load.ensures ∙ c.if-load-ne-MAGIC.false) (sym c.load-2.ensures ∙ c.if-load-ne1.false);
  },
)

pub returns-then-not-has_inodes-clause-damage : goal.returns-then-not-has_inodes-clause-damage
returns-then-not-has_inodes-clause-damage g c = (
  inodes,
  refl,
  record {
    fails = λ h. let e = c.if-not-has_inodes.ensures.1 h in cc;
    before = below_inodes (g.D.Pm.words c.args.dev.now) (c.if-not-is_sized.ensures.0 refl) (sym c.load.ensures ∙ c.if-load-ne-MAGIC.false) (sym c.load-2.ensures ∙ c.if-load-ne1.false) (c.if-not-is_counted.ensures.0 refl);
  },
)

pub returns-then-not-are_zero-clause-damage : goal.returns-then-not-are_zero-clause-damage
returns-then-not-are_zero-clause-damage g c = (
  spare,
  refl,
  record {
    fails = λ h. let e = c.if-not-are_zero.ensures.1 h in cc;
    before = below_spare (g.D.Pm.words c.args.dev.now) (c.if-not-is_sized.ensures.0 refl) (sym c.load.ensures ∙ c.if-load-ne-MAGIC.false) (sym c.load-2.ensures ∙ c.if-load-ne1.false) (c.if-not-is_counted.ensures.0 refl) (c.if-not-has_inodes.ensures.0 refl);
  },
)

pub returns-then-not-has_gates-clause-damage : goal.returns-then-not-has_gates-clause-damage
returns-then-not-has_gates-clause-damage g c = (
  gates,
  refl,
  record {
    fails = λ h. let e = c.if-not-has_gates.ensures.1 h in cc;
    before = below_gates (g.D.Pm.words c.args.dev.now) (c.if-not-is_sized.ensures.0 refl) (sym c.load.ensures ∙ c.if-load-ne-MAGIC.false) (sym c.load-2.ensures ∙ c.if-load-ne1.false) (c.if-not-is_counted.ensures.0 refl) (c.if-not-has_inodes.ensures.0 refl) (c.if-not-are_zero.ensures.0 refl);
  },
)

pub returns-then-not-are_targets-clause-damage : goal.returns-then-not-are_targets-clause-damage
returns-then-not-are_targets-clause-damage g c = (
  targets,
  refl,
  record {
    fails = λ h. let e = c.if-not-are_targets.ensures.1 h in cc;
    before = below_targets (g.D.Pm.words c.args.dev.now) (c.if-not-is_sized.ensures.0 refl) (sym c.load.ensures ∙ c.if-load-ne-MAGIC.false) (sym c.load-2.ensures ∙ c.if-load-ne1.false) (c.if-not-is_counted.ensures.0 refl) (c.if-not-has_inodes.ensures.0 refl) (c.if-not-are_zero.ensures.0 refl) (c.if-not-has_gates.ensures.0 refl);
  },
)
