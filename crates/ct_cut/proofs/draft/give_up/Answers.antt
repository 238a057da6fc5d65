use Rattle.std.proofs.Common.{◌≡◌, ◌/◌, ◌++◌, ap, ◌∙◌, arith}
use Rattle.std.specs.Prelude.{All}
use Rattle.ct_base.specs.Exchange.{Exchanged, HasTables}
use Rattle.ct_base.specs.Inode.{inode, part}
use Rattle.ct_base.specs.Pieces.{pieces}
use Rattle.ct_base.specs.Plan.{stage}
use Rattle.ct_base.specs.View.{view}
use Rattle.ct_cut.proofs.GivingUp.{GivingUp, adds, bare, gives, release_leaves, tables_beside}
use Rattle.ct_cut.proofs.Parts.{CalledSo, at_pages, called_so, few_called, from_pages}
use Rattle.ct_cut.specs.GivenUp.{whole_pieces}
use Rattle.ct_level.specs.Any.{partition}
use Rattle.ct_record.specs.Seen.{drafted, pairs_of, words_under}
use Rattle.ct_record.proofs.Chain.{apart_of, drafts_then}
use Rattle.ct_swap.specs.Swap.{swap_pairs}
use Rattle.ct_write.proofs.Settling.{beside_of}
use Rattle.ct_cut.proofs.draft.give_up.Given.{Over}
use Rattle.ct_cut.proofs.draft.give_up.Goals as goal

module _ (g : Over) (c : goal.After-staged_page g) where
  file : c.get-file.result ≡ inode (view (words_under c.args.draft.now)) c.args.inode
  file = c.get-file.ensures ∙ ap (λ d. inode (view (g.D.Pm.words d)) c.args.inode) c.dev.ensures

  so : CalledSo (inode (view (words_under c.args.draft.now)) c.args.inode) c.page_of.result c.staged_page.result c.pow-pages.result
  so = called_so file c.page_of.ensures c.staged_page.ensures c.pow-pages.ensures

pub pswap-requires-clause-there : goal.pswap-requires-clause-there
pswap-requires-clause-there g c =
    at_pages (so g c) (λ x y z. All (HasTables (words_under c.release.new.draft) x y) (pieces x y z))
    (tables_beside (beside_of c.release.ensures.drafts) ((inode (view (words_under c.args.draft.now)) c.args.inode).base / 4096) (stage (inode (view (words_under c.args.draft.now)) c.args.inode).base / 4096) (whole_pieces (inode (view (words_under c.args.draft.now)) c.args.inode)) c.requires.can.tables)

pub pswap-requires-clause-free : goal.pswap-requires-clause-free
pswap-requires-clause-free g c = release_leaves c.requires.tables c.requires.can (c.part_of.ensures ∙ ap part (file g c)) c.release.ensures.drafts.same c.in_ok-release.ensures.pairs c.requires.leave

pub pswap-requires-clause-room : goal.pswap-requires-clause-room
pswap-requires-clause-room g c = omega (arith, few_called (so g c) c.requires.can.placed, c.in_ok-release.ensures.count, c.requires.room)

pub returns-in_err-pswap-clause-drafts : goal.returns-in_err-pswap-clause-drafts
returns-in_err-pswap-clause-drafts g c = drafts_then c.release.ensures.drafts c.pswap.ensures.drafts

module _ (g : Over) (c : goal.In_ok-pswap g) where
  file-end : c.get-file.result ≡ inode (view (words_under c.args.draft.now)) c.args.inode
  file-end = c.get-file.ensures ∙ ap (λ d. inode (view (g.D.Pm.words d)) c.args.inode) c.dev.ensures

  so-end : CalledSo (inode (view (words_under c.args.draft.now)) c.args.inode) c.page_of.result c.staged_page.result c.pow-pages.result
  so-end = called_so file-end c.page_of.ensures c.staged_page.ensures c.pow-pages.ensures

  giving : GivingUp (words_under c.args.draft.now) (words_under c.release.new.draft) (words_under c.pswap.new.draft) (pairs_of c.args.draft.now) (pairs_of c.release.new.draft) (pairs_of c.pswap.new.draft) (inode (view (words_under c.args.draft.now)) c.args.inode) (partition c.part_of.result)
  giving = record {
    tables = c.requires.tables;
    can = c.requires.can;
    same = c.part_of.ensures ∙ ap part file-end;
    leave = c.requires.leave;
    apart = apart_of c.args.draft.now;
    apart_all = apart_of c.pswap.new.draft;
    first = c.release.ensures.drafts.same;
    second = c.pswap.ensures.drafts.same;
    added = c.in_ok-release.ensures.pairs;
    stand = c.in_ok-release.ensures.stand;
    bytes = c.in_ok-release.ensures.bytes;
    cells = c.in_ok-release.ensures.cells;
    exchanged = from_pages so-end (λ x y z. Exchanged (drafted c.release.new.draft) (drafted c.pswap.new.draft) x y z) c.in_ok-pswap.ensures.exchanged;
    pairs = from_pages so-end (λ x y z. pairs_of c.pswap.new.draft ≡ swap_pairs (words_under c.release.new.draft) x y (pieces x y z) ++ pairs_of c.release.new.draft) c.in_ok-pswap.ensures.pairs;
  }

pub returns-clause-gives_up : goal.returns-clause-gives_up
returns-clause-gives_up g c = gives (giving g c)

pub returns-clause-pairs : goal.returns-clause-pairs
returns-clause-pairs g c = adds (giving g c)

pub returns-clause-bare : goal.returns-clause-bare
returns-clause-bare g c = bare (giving g c)

pub returns-clause-few : goal.returns-clause-few
returns-clause-few g c = omega (arith, few_called (so-end g c) c.requires.can.placed, c.in_ok-release.ensures.count, c.in_ok-pswap.ensures.count)

pub returns-clause-drafts : goal.returns-clause-drafts
returns-clause-drafts g c = drafts_then c.release.ensures.drafts c.pswap.ensures.drafts
