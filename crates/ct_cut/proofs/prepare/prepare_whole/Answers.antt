use Rattle.std.proofs.Common.{◌≡◌, ◌+◌, ◌*◌, ◌%◌, ◌^◌, ◌≤◌, length, ap, arith}
use Rattle.ct_base.specs.declared.inode.Inode.{Inode}
use Rattle.ct_base.specs.Inode.{inode}
use Rattle.ct_base.specs.Plan.{give_up_wants}
use Rattle.ct_base.specs.Rules.{placed}
use Rattle.ct_base.specs.View.{view}
use Rattle.ct_base.specs.Wants.{missing}
use Rattle.ct_cut.specs.Sides.{cut_asks}
use Rattle.ct_cut.proofs.Parts.{CalledSo, WholeSpot, at_pages, called_so, whole_spot}
use Rattle.ct_cut.proofs.Wholes.{asks_called, called_from, room_owned}
use Rattle.ct_parts.proofs.Lengths.{pow8_small}
use Rattle.ct_write.proofs.Opening.{rest_of}
use Rattle.ct_cut.proofs.prepare.prepare_whole.Given.{Over}
use Rattle.ct_cut.proofs.prepare.prepare_whole.Goals as goal

pub pow-pages-requires : goal.pow-pages-requires
pow-pages-requires g c = omega (arith, pow8_small (inode (view (g.D.Pm.words c.args.dev.now)) c.args.inode).level c.requires.owns.level, ap (λ (f : Inode). 8 ^ f.level) c.get-file.ensures)

pub overflow_mul-end : goal.overflow_mul-end
overflow_mul-end g c = omega (arith, pow8_small (inode (view (g.D.Pm.words c.args.dev.now)) c.args.inode).level c.requires.owns.level, ap (λ (f : Inode). 8 ^ f.level) c.get-file.ensures, c.pow-pages.ensures)

pub overflow_add-end : goal.overflow_add-end
overflow_add-end g c =
    let at = whole_spot (inode (view (g.D.Pm.words c.args.dev.now)) c.args.inode) (room_owned c.requires.ready c.requires.owns).part in
    omega (arith, at.first_to, at.start, ap (λ (f : Inode). f.base) c.get-file.ensures, ap (λ (f : Inode). 8 ^ f.level) c.get-file.ensures, c.pow-pages.ensures)

pub prepare_range-requires-clause-rest : goal.prepare_range-requires-clause-rest
prepare_range-requires-clause-rest g c = rest_of c.requires.ready

pub prepare_range-requires-clause-placed : goal.prepare_range-requires-clause-placed
prepare_range-requires-clause-placed g c = c.requires.ready.rules placed (omega arith)

module _ (g : Over) (c : goal.After-staged_page g) where
  so : CalledSo (inode (view (g.D.Pm.words c.args.dev.now)) c.args.inode) c.page_of.result c.staged_page.result c.pow-pages.result
  so = called_so c.get-file.ensures c.page_of.ensures c.staged_page.ensures c.pow-pages.ensures

  at : WholeSpot (inode (view (g.D.Pm.words c.args.dev.now)) c.args.inode)
  at = whole_spot (inode (view (g.D.Pm.words c.args.dev.now)) c.args.inode) (room_owned c.requires.ready c.requires.owns).part

pub prepare_range-requires-clause-some : goal.prepare_range-requires-clause-some
prepare_range-requires-clause-some g c = omega (arith, (so g c).count, (at g c).some)

pub prepare_range-requires-clause-first_from : goal.prepare_range-requires-clause-first_from
prepare_range-requires-clause-first_from g c = omega (arith, (so g c).first, (at g c).first_from)

pub prepare_range-requires-clause-first_to : goal.prepare_range-requires-clause-first_to
prepare_range-requires-clause-first_to g c = omega (arith, (so g c).first, (so g c).count, (at g c).first_to)

pub prepare_range-requires-clause-second_from : goal.prepare_range-requires-clause-second_from
prepare_range-requires-clause-second_from g c = omega (arith, (so g c).second, (at g c).second_from)

pub prepare_range-requires-clause-second_to : goal.prepare_range-requires-clause-second_to
prepare_range-requires-clause-second_to g c = omega (arith, (so g c).second, (so g c).count, (at g c).second_to)

pub prepare_range-requires-clause-alike : goal.prepare_range-requires-clause-alike
prepare_range-requires-clause-alike g c = at_pages (so g c) (λ x y z. x % 2 ^ 27 ≡ y % 2 ^ 27) (at g c).alike

pub prepare_range-requires-clause-ends : goal.prepare_range-requires-clause-ends
prepare_range-requires-clause-ends g c = omega (arith, c.page_of.ensures)

pub prepare_range-requires-clause-room : goal.prepare_range-requires-clause-room
prepare_range-requires-clause-room g c =
    omega (arith, asks_called (so g c) (ap (λ (f : Inode). f.base) c.get-file.ensures) (room_owned c.requires.ready c.requires.owns).part (g.D.Pm.words c.args.dev.now), c.requires.room)

module _ (g : Over) (c : goal.After-prepare_range g) where
  so-end : CalledSo (inode (view (g.D.Pm.words c.args.dev.now)) c.args.inode) c.page_of.result c.staged_page.result c.pow-pages.result
  so-end = called_so c.get-file.ensures c.page_of.ensures c.staged_page.ensures c.pow-pages.ensures

pub returns-clause-readied : goal.returns-clause-readied
returns-clause-readied g c = called_from c.prepare_range.result (g.D.Pm.words c.prepare_range.new.dev) (c.get-file.result.base + 4096 * c.pow-pages.result) c.requires.ready c.requires.owns (so-end g c) (ap (λ (f : Inode). f.base) c.get-file.ensures) c.prepare_range.ensures.prepared c.prepare_range.ensures.unmapped

pub returns-clause-taken : goal.returns-clause-taken
returns-clause-taken g c =
    let fewer = asks_called (so-end g c) (ap (λ (f : Inode). f.base) c.get-file.ensures) (room_owned c.requires.ready c.requires.owns).part (g.D.Pm.words c.args.dev.now) in
    Rattle.ct_record.proofs.Drafts.ok_map c.prepare_range.result (λ (is : length c.prepare_range.new.frames.free + missing (g.D.Pm.words c.args.dev.now) (cut_asks c.page_of.result c.staged_page.result c.pow-pages.result c.get-file.result.base) ≡ length c.args.frames.now.free).
    let le : length c.args.frames.now.free ≤ length c.prepare_range.new.frames.free + missing (g.D.Pm.words c.args.dev.now) (give_up_wants (inode (view (g.D.Pm.words c.args.dev.now)) c.args.inode)) = omega (arith, is, fewer) in le) c.prepare_range.ensures.taken
