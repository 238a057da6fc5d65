use Rattle.std.proofs.Common.{sym, subst}
use Rattle.ct_base.specs.Settled.{HasPages, IsRecord}
use Rattle.ct_record.specs.Record.{IsOpen, Stand}
use Rattle.ct_record.proofs.Applying.{applied_pages, applied_record, applied_still, applied_stand}
use Rattle.ct_record.proofs.armed.Armed.apply.Goals as goal

pub of-requires-clause-pages : goal.of-requires-clause-pages
of-requires-clause-pages g c = subst HasPages (sym c.in-Ok.ensures.words) (applied_pages c.args.self.record c.args.self.pages)

pub of-requires-clause-record : goal.of-requires-clause-record
of-requires-clause-record g c = subst IsRecord (sym c.in-Ok.ensures.words) (applied_record c.args.self.record c.args.self.pages)

pub of-requires-clause-opened : goal.of-requires-clause-opened
of-requires-clause-opened g c = subst IsOpen (sym c.in-Ok.ensures.words) (applied_still c.args.self.record c.args.self.pages c.args.self.opened)

pub of-requires-clause-stand : goal.of-requires-clause-stand
of-requires-clause-stand g c = subst Stand (sym c.in-Ok.ensures.words) (applied_stand c.args.self.record c.args.self.pages)
