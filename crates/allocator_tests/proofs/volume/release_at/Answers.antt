use Rattle.std.proofs.Common.{◌≡◌, ℕ, List, ap, subst, sym, true, ◌∙◌, arith}
use Rattle.ct_base.specs.Headers.{StandFor, is_one, without}
use Rattle.ct_base.specs.Inode.{Partition, number_of}
use Rattle.ct_base.specs.Settled.{Pair, with_pairs}
use Rattle.ct_base.specs.View.{view}
use Rattle.ct_base.specs.Walk.{word}
use Rattle.ct_level.specs.Any.{partition}
use Rattle.ct_record.specs.Seen.{words_under}
use Rattle.ct_record.specs.Seen.{drafted}
use Rattle.allocator_tests.proofs.Devices.{Ends, ends_ready, stand_start}
use Rattle.allocator_tests.proofs.volume.release_at.Given.{Over}
use Rattle.allocator_tests.proofs.volume.release_at.Goals as goal

-- the draft begins on the device with its new pages
start : (g : Over) (c : goal.In_ok-dev g) → drafted c.begin-draft.result ≡ g.D.Pm.words c.ensure_pages.new.dev
start g c = ap (λ (ps : List Pair). with_pairs ps (words_under c.begin-draft.result)) c.begin-draft.ensures.pairs ∙ ap g.D.Pm.words (c.begin-draft.ensures.dev ∙ c.of.ensures)

ends : (g : Over) (c : goal.In_ok-dev g) → Ends (g.D.Pm.words c.ensure_pages.new.dev) (drafted c.begin-draft.result) (drafted c.release.new.draft) (g.D.Pm.words c.in_ok-dev.dev) c.ensure_pages.new.frames
ends g c =
    record {
      is = start g c;
      agrees = c.in_ok-ensure_pages.ensures.pages.agrees;
      tables = c.in-Ok.ensures.maps.after;
      count = c.in-Ok.ensures.maps.count ∙ c.in-Ok.ensures.drafts.same.others 2 (λ is. omega (arith, is.0)) ∙ ap (λ (x : List ℕ). word x 2) (ap g.D.Pm.words (c.begin-draft.ensures.dev ∙ c.of.ensures));
      cells = c.in-Ok.ensures.cells;
      applied = c.in_ok-dev.ensures.applied;
    }

before : (g : Over) (c : goal.In_ok-dev g) (ps : List Partition) → StandFor (view (g.D.Pm.words c.args.dev)) ps → StandFor (view (drafted c.begin-draft.result)) ps
before g c ps s = stand_start (g.D.Pm.words c.args.dev) (g.D.Pm.words c.ensure_pages.new.dev) (drafted c.begin-draft.result) ps (start g c) c.in_ok-ensure_pages.ensures.pages.bytes s

pub returns-clause-ready : goal.returns-clause-ready
returns-clause-ready g c =
    let l = c.requires.live in
    let p : Partition = record { base = c.args.base; level = c.args.level } in
    let one : is_one l.0 (partition c.part_at-2.result).level (number_of (partition c.part_at-2.result)) ≡ true =
    subst (λ (x : Partition). is_one l.0 x.level (number_of x) ≡ true) (sym c.part_at-2.ensures) l.2 in
    ends_ready (ends g c) (without (partition c.part_at-2.result) l.0) (c.in-Ok.ensures.stand l.0 (before g c l.0 l.1) one)
