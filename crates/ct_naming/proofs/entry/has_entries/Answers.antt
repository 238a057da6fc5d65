use Rattle.std.proofs.Common.{ℕ, false, refl, arith}
use Rattle.std.proofs.lemmas.Bool.{both_ways}
use Rattle.ct_base.specs.Objects.{objects}
use Rattle.ct_base.specs.Rules.{IsEntry}
use Rattle.ct_base.specs.View.{inode_count, view}
use Rattle.ct_dir.specs.Directory.{dir_of}
use Rattle.ct_naming.proofs.Meeting.{met_all, met_more}
use Rattle.ct_naming.proofs.entry.has_entries.Goals as goal

pub loop-slot-preserved : goal.loop-slot-preserved
loop-slot-preserved g c =
    let w = g.D.Pm.words c.args.dev.now in
    let P : ℕ → Type 0 = λ o. IsEntry (objects (view w) (inode_count w)) (dir_of w c.args.dir) o in
    let m = c.in-Some.ensures.some in
    record {
      aligned = omega (arith, m.stands.slot.aligned);
      entries = met_more w c.args.dir P c.loop-slot.invariant.entries m (c.if-not-is_entry.ensures.0 refl);
    }

pub loop-slot-smaller : goal.loop-slot-smaller
loop-slot-smaller g c = let m = c.in-Some.ensures.some in omega (arith, m.on, m.stands.slot.below)

pub returns-then-not-is_entry : goal.returns-then-not-is_entry
returns-then-not-is_entry g c = (
  λ on. absurd (both_ways false refl on),
  λ all. c.if-not-is_entry.ensures.1 (all c.in-Some.slot.offset c.in-Some.ensures.some.stands.slot),
)

pub returns : goal.returns
returns g c =
    let w = g.D.Pm.words c.args.dev.now in
    let P : ℕ → Type 0 = λ o. IsEntry (objects (view w) (inode_count w)) (dir_of w c.args.dir) o in
    (λ on. met_all w c.args.dir P c.loop-slot.invariant.entries c.in_default.ensures.none, λ all. refl)
