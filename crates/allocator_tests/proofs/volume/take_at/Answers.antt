use Rattle.std.proofs.Common.{◌≡◌, ℕ, ◌∷◌, List, ap, subst, ◌∙◌, arith}
use Rattle.ct_base.specs.Headers.{StandFor}
use Rattle.ct_base.specs.Inode.{Partition, is_free}
use Rattle.ct_base.specs.Settled.{Pair, with_pairs}
use Rattle.ct_base.specs.View.{view}
use Rattle.ct_base.specs.Walk.{word}
use Rattle.ct_level.specs.Any.{partition}
use Rattle.ct_record.specs.Seen.{words_under}
use Rattle.ct_record.specs.Seen.{drafted}
use Rattle.ct_parts.proofs.Lists.{is_one-first}
use Rattle.allocator_tests.proofs.Devices.{Ends, ends_stand, ends_ready, stand_start}
use Rattle.allocator_tests.proofs.volume.take_at.Given.{Over}
use Rattle.allocator_tests.proofs.volume.take_at.Goals as goal

-- the draft begins on the device with its new pages
start : (g : Over) (c : goal.In_ok-dev g) → drafted c.begin-draft.result ≡ g.D.Pm.words c.ensure_pages.new.dev
start g c = ap (λ (ps : List Pair). with_pairs ps (words_under c.begin-draft.result)) c.begin-draft.ensures.pairs ∙ ap g.D.Pm.words (c.begin-draft.ensures.dev ∙ c.of.ensures)

ends : (g : Over) (c : goal.In_ok-dev g) → Ends (g.D.Pm.words c.ensure_pages.new.dev) (drafted c.begin-draft.result) (drafted c.take.new.draft) (g.D.Pm.words c.in_ok-dev.dev) c.ensure_pages.new.frames
ends g c =
    record {
      is = start g c;
      agrees = c.in_ok-ensure_pages.ensures.pages.agrees;
      tables = c.in-Ok.ensures.maps.after;
      count = c.in-Ok.ensures.maps.count ∙ c.in-Ok.ensures.drafts.same.others 2 (λ is. omega (arith, is.0)) ∙ ap (λ (x : List ℕ). word x 2) (ap g.D.Pm.words (c.begin-draft.ensures.dev ∙ c.of.ensures));
      cells = c.in-Ok.ensures.cells;
      applied = c.in_ok-dev.ensures.applied;
    }

before : (g : Over) (c : goal.In_ok-dev g) (ps : List Partition) → StandFor (view (g.D.Pm.words c.args.dev)) ps → StandFor (view (drafted c.begin-draft.result)) ps
before g c ps s = stand_start (g.D.Pm.words c.args.dev) (g.D.Pm.words c.ensure_pages.new.dev) (drafted c.begin-draft.result) ps (start g c) c.in_ok-ensure_pages.ensures.pages.bytes s

after : (g : Over) (c : goal.In_ok-dev g) (ps : List Partition) → StandFor (view (g.D.Pm.words c.args.dev)) ps → StandFor (view (drafted c.take.new.draft)) (partition c.part_at-2.result ∷ ps)
after g c ps s = c.in-Ok.ensures.stand ps (before g c ps s) (ap (is_free ps) c.part_at-2.ensures ∙ c.requires.free ps s)

pub returns-clause-ready : goal.returns-clause-ready
returns-clause-ready g c =
    let s = c.requires.ready.stand in
    ends_ready (ends g c) (partition c.part_at-2.result ∷ s.0) (after g c s.0 s.1)

pub returns-clause-live : goal.returns-clause-live
returns-clause-live g c =
    let s = c.requires.ready.stand in
    let p : Partition = record { base = c.args.base; level = c.args.level } in (
      p ∷ s.0,
      subst (λ (x : Partition). StandFor (view (g.D.Pm.words c.in_ok-dev.dev)) (x ∷ s.0)) c.part_at-2.ensures (ends_stand (ends g c) (partition c.part_at-2.result ∷ s.0) (after g c s.0 s.1)),
      is_one-first p s.0 c.requires.part,
    )
