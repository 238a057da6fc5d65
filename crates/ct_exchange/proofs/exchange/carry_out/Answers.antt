use Rattle.std.proofs.Common.{◌*◌, ap, inl, length, sym, subst, ◌∙◌, arith}
use Rattle.ct_base.specs.Exchange.{Exchanged}
use Rattle.ct_base.specs.Pieces.{pieces}
use Rattle.ct_base.specs.Wants.{missing}
use Rattle.ct_pm.proofs.Phases.{phase_weaker}
use Rattle.ct_record.proofs.Ended.{ok_then}
use Rattle.ct_record.specs.Record.{Concluded}
use Rattle.ct_record.specs.Seen.{device_behind}
use Rattle.ct_swap.specs.Swap.{swap_pairs}
use Rattle.ct_call.proofs.Resting.{idle_phase}
use Rattle.ct_call.specs.Mounted.{AreOwned, OffFiles}
use Rattle.ct_exchange.proofs.Carrying.{Tabled, pages_held, swap_apart, swap_few, swap_first, swap_second, swap_some, swap_there, swapped_count, swapped_files, swapped_mounted, swapped_pages, swapped_phase, tabled, wants_off, wants_owned}
use Rattle.ct_commit.proofs.Landed.{rest_as}
use Rattle.ct_exchange.proofs.Nothing.{none_files, none_missing, none_swapped}
use Rattle.ct_exchange.specs.Swapped.{SwapsOrNot}
use Rattle.ct_exchange.proofs.exchange.carry_out.Given.{Over}
use Rattle.ct_exchange.proofs.exchange.carry_out.Goals as goal

pub returns-then-ranges-eq0-clause-swapped : goal.returns-then-ranges-eq0-clause-swapped
returns-then-ranges-eq0-clause-swapped g c = none_swapped (g.D.Pm.words c.args.dev) c.args.ranges.now c.if-ranges-eq0.true

pub returns-then-ranges-eq0-clause-files : goal.returns-then-ranges-eq0-clause-files
returns-then-ranges-eq0-clause-files g c = none_files (g.D.Pm.words c.args.dev) c.args.ranges.now c.if-ranges-eq0.true

pub returns-then-ranges-eq0-clause-taken : goal.returns-then-ranges-eq0-clause-taken
returns-then-ranges-eq0-clause-taken g c =
    let none = ap (missing (g.D.Pm.words c.args.dev)) c.requires.wants ∙ none_missing (g.D.Pm.words c.args.dev) c.args.ranges.now c.if-ranges-eq0.true in
    omega (arith, none)

pub returns-then-ranges-eq0-clause-phase : goal.returns-then-ranges-eq0-clause-phase
returns-then-ranges-eq0-clause-phase g c = idle_phase (SwapsOrNot (g.D.Pm.words c.args.dev) c.args.ranges.now) c.requires.mounted (g.met.D.Pm.replays c.args.dev) (inl (rest_as c.requires.mounted.rest))

pub make_pages-requires-clause-owned : goal.make_pages-requires-clause-owned
make_pages-requires-clause-owned g c = subst (AreOwned (g.D.Pm.words c.args.dev)) (sym (c.as_slice.ensures ∙ c.requires.wants)) (wants_owned c.requires.mounted.rest (c.requires.can (omega (arith, c.if-ranges-eq0.false))))

pub make_pages-requires-clause-off : goal.make_pages-requires-clause-off
make_pages-requires-clause-off g c = subst (OffFiles (g.D.Pm.words c.args.dev)) (sym (c.as_slice.ensures ∙ c.requires.wants)) (wants_off c.requires.mounted.rest (c.requires.can (omega (arith, c.if-ranges-eq0.false))))

pub returns-in-Err-clause-phase : goal.returns-in-Err-clause-phase
returns-in-Err-clause-phase g c = phase_weaker (SwapsOrNot (g.D.Pm.words c.args.dev) c.args.ranges.now) (λ image lands. inl lands) (omega arith) c.make_pages.ensures.phase

made : (g : Over) (c : goal.In-Ok g) → Tabled (g.D.Pm.words c.args.dev) (g.D.Pm.words c.make_pages.new.dev) c.args.ranges.now c.pages-a.result.0 c.pages-a.result.1 c.pages-a.result.2
made g c =
    tabled c.as_slice.result.now c.args.plan.now.wants c.requires.mounted.rest c.make_pages.ensures.rest c.make_pages.ensures.alike (c.requires.can (omega (arith, c.if-ranges-eq0.false))) c.pages-a.ensures.first c.pages-a.ensures.second c.pages-a.ensures.count c.as_slice.ensures c.requires.wants
    c.in-Ok.ensures.there c.make_pages.ensures.cells

pub pswap_now-requires-clause-some : goal.pswap_now-requires-clause-some
pswap_now-requires-clause-some g c = swap_some (made g c)

pub pswap_now-requires-clause-first : goal.pswap_now-requires-clause-first
pswap_now-requires-clause-first g c = swap_first (made g c)

pub pswap_now-requires-clause-second : goal.pswap_now-requires-clause-second
pswap_now-requires-clause-second g c = swap_second (made g c)

pub pswap_now-requires-clause-apart : goal.pswap_now-requires-clause-apart
pswap_now-requires-clause-apart g c = swap_apart (made g c)

pub pswap_now-requires-clause-there : goal.pswap_now-requires-clause-there
pswap_now-requires-clause-there g c = swap_there (made g c)

pub pswap_now-requires-clause-room : goal.pswap_now-requires-clause-room
pswap_now-requires-clause-room g c = omega (arith, swap_few (made g c))

before : (g : Over) (c : goal.After-pswap_now g) → Tabled (g.D.Pm.words c.args.dev) (g.D.Pm.words c.make_pages.new.dev) c.args.ranges.now c.pages-a.result.0 c.pages-a.result.1 c.pages-a.result.2
before g c =
    tabled c.as_slice.result.now c.args.plan.now.wants c.requires.mounted.rest c.make_pages.ensures.rest c.make_pages.ensures.alike (c.requires.can (omega (arith, c.if-ranges-eq0.false))) c.pages-a.ensures.first c.pages-a.ensures.second c.pages-a.ensures.count c.as_slice.ensures c.requires.wants
    c.in-Ok.ensures.there c.make_pages.ensures.cells

module _ (g : Over) (c : goal.After-pswap_now g) where
  ends : Concluded (g.D.Pm.words c.make_pages.new.dev) (g.D.Pm.told c.make_pages.new.dev) (swap_pairs (g.D.Pm.words c.make_pages.new.dev) c.pages-a.result.0 c.pages-a.result.1 (pieces c.pages-a.result.0 c.pages-a.result.1 c.pages-a.result.2))
      (2 * length (pieces c.pages-a.result.0 c.pages-a.result.1 c.pages-a.result.2)) (g.D.Pm.words (device_behind c.pswap_now.result)) (g.D.Pm.told (device_behind c.pswap_now.result)) c.pswap_now.result
  ends = record {
    words = c.pswap_now.ensures.words;
    shut = c.pswap_now.ensures.shut;
    settled = c.pswap_now.ensures.settled;
    pages = pages_held (before g c) (g.D.Pm.words (device_behind c.pswap_now.result)) c.pswap_now.result c.pswap_now.ensures.words;
    any_moment = c.pswap_now.ensures.any_moment;
    reads = c.pswap_now.ensures.reads;
    lawful = c.pswap_now.ensures.lawful;
    reads_lawful = c.pswap_now.ensures.reads_lawful;
    opens = c.pswap_now.ensures.opens;
    reads_opens = c.pswap_now.ensures.reads_opens;
    made = c.pswap_now.ensures.made;
  }

pub returns-clause-swapped : goal.returns-clause-swapped
returns-clause-swapped g c =
    let now = g.D.Pm.words (device_behind c.pswap_now.result) in
    ok_then (Exchanged (g.D.Pm.words c.make_pages.new.dev) now c.pages-a.result.0 c.pages-a.result.1 c.pages-a.result.2) c.pswap_now.result (λ e. swapped_pages (before g c) e) c.pswap_now.ensures.exchanged

pub returns-clause-files : goal.returns-clause-files
returns-clause-files g c = swapped_files (before g c) (ends g c)

pub returns-clause-counted : goal.returns-clause-counted
returns-clause-counted g c = swapped_count (before g c) (ends g c)

pub returns-clause-mounted : goal.returns-clause-mounted
returns-clause-mounted g c = swapped_mounted (before g c) (ends g c) c.in-Ok.ensures.mounted

pub returns-clause-phase : goal.returns-clause-phase
returns-clause-phase g c = swapped_phase (before g c) (ends g c) c.make_pages.ensures.phase
