use Rattle.std.proofs.Common.{◌≡◌, ◌≢◌, ℕ, suc, subst, ◌≤◌, ◌+◌, ◌-◌, ◌*◌, ◌/◌, ◌%◌, ◌^◌, ◌<◌, List, ◌∷◌, length, sym, ap, ◌∙◌, arith}
use Rattle.std.specs.Prelude.{Contains}
use Rattle.ct_base.specs.Walk.{word, AreTables}
use Rattle.ct_frames.specs.Free.{FreePages}
use Rattle.ct_frames.specs.Agrees.{Agrees}
use Rattle.ct_walk.specs.Pages.{on_way}
use Rattle.ct_walk.proofs.Grows.{extends_none, done_none}
use Rattle.ct_walk.proofs.Levels.{Place, Takes, on_device, absent, present, extends_filled, extends_linked, there_result, done_result, wanted_step, page_fits}
use Rattle.ct_walk.proofs.growing.ensure_level.Goals as goal

next : (d : ℕ) → d + 1 ≡ suc d
next d = omega arith

pub load-requires : goal.load-requires
load-requires g c =
    let place : Place (g.D.Pm.words c.args.dev.now) c.args.n c.args.depth c.entry_word-word.result = record { tables = c.requires.tables; depth = c.requires.deep; there = c.requires.table; word_is = c.entry_word-word.ensures } in
    on_device place

pub returns-then-load-ne0-clause-there : goal.returns-then-load-ne0-clause-there
returns-then-load-ne0-clause-there g c =
    let place : Place (g.D.Pm.words c.args.dev.now) c.args.n c.args.depth c.entry_word-word.result = record { tables = c.requires.tables; depth = c.requires.deep; there = c.requires.table; word_is = c.entry_word-word.ensures } in
    subst (λ (k : ℕ). on_way (g.D.Pm.words c.args.dev.now) c.args.n k ≢ 0) (sym (next c.args.depth)) (present place (λ none. c.if-load-ne0.true (c.load.ensures ∙ none)))

pub returns-then-load-ne0-clause-extends : goal.returns-then-load-ne0-clause-extends
returns-then-load-ne0-clause-extends g c wants wanted = extends_none wants (g.D.Pm.words c.args.dev.now) (g.D.Pm.told c.args.dev.now) c.args.frames.now c.requires.tables (g.met.D.Pm.replays c.args.dev.now)

pub returns-then-load-ne0-clause-done : goal.returns-then-load-ne0-clause-done
returns-then-load-ne0-clause-done g c wants wanted = done_none wants (g.D.Pm.words c.args.dev.now) (g.D.Pm.told c.args.dev.now) c.args.frames.now c.requires.agrees

pub unreachable-requires : goal.unreachable-requires
unreachable-requires g c =
    let w = g.D.Pm.words c.args.dev.now in
    let place : Place w c.args.n c.args.depth c.entry_word-word.result = record { tables = c.requires.tables; depth = c.requires.deep; there = c.requires.table; word_is = c.entry_word-word.ensures } in
    let read : word w c.entry_word-word.result ≡ 0 = sym c.load.ensures ∙ c.if-load-ne0.false in
    let none : on_way w c.args.n (c.args.depth + 1) ≡ 0 = ap (on_way w c.args.n) (next c.args.depth) ∙ absent place read in
    omega (arith, c.requires.room none, ap length c.in-None.ensures.none.0)

-- what is known once the page is taken
takes_of : (img : List ℕ) (before after : FreePages) (n d w num page : ℕ) → AreTables img → d ≤ 3 → on_way img n d ≢ 0 → w ≡ on_way img n d * 512 + n / 512 ^ (3 - d) % 512 → word img w ≡ 0 → Agrees img before
    → num ≡ page → before.free ≡ page ∷ after.free → ((q : ℕ) → Contains after.free q → page < q) → (34 ≤ page) × (page < before.pages) → after.pages ≡ before.pages → Takes img before after n d w num
takes_of img before after n d w num page tables depth there word_is none agrees e takes least range pages = record {
  place = record { tables = tables; depth = depth; there = there; word_is = word_is };
  none = none;
  agrees = agrees;
  takes = takes ∙ ap (λ k. k ∷ after.free) (sym e);
  least = λ q c. omega (arith, e, least q c);
  low = omega (arith, e, range.0);
  high = omega (arith, e, range.1);
  same_pages = pages;
}

pub clear_page-requires : goal.clear_page-requires
clear_page-requires g c =
    page_fits (takes_of (g.D.Pm.words c.args.dev.now) c.args.frames.now c.take.new.self c.args.n c.args.depth c.entry_word-word.result c.number-page.result c.in-Some.page
    c.requires.tables c.requires.deep c.requires.table c.entry_word-word.ensures (sym c.load.ensures ∙ c.if-load-ne0.false) c.requires.agrees
    c.number-page.ensures c.in-Some.ensures.some c.in-Some.ensures.least c.in-Some.ensures.in_range c.in-Some.ensures.pages)

pub returns-in_err-clear_page-clause-extends : goal.returns-in_err-clear_page-clause-extends
returns-in_err-clear_page-clause-extends g c =
    let it = takes_of (g.D.Pm.words c.args.dev.now) c.args.frames.now c.take.new.self c.args.n c.args.depth c.entry_word-word.result c.number-page.result c.in-Some.page
    c.requires.tables c.requires.deep c.requires.table c.entry_word-word.ensures (sym c.load.ensures ∙ c.if-load-ne0.false) c.requires.agrees
    c.number-page.ensures c.in-Some.ensures.some c.in-Some.ensures.least c.in-Some.ensures.in_range c.in-Some.ensures.pages in
    λ wants wanted. extends_filled it c.clear_page.ensures.same c.clear_page.ensures.images c.clear_page.ensures.made wants

pub put_entry-requires : goal.put_entry-requires
put_entry-requires g c =
    let place : Place (g.D.Pm.words c.args.dev.now) c.args.n c.args.depth c.entry_word-word.result = record { tables = c.requires.tables; depth = c.requires.deep; there = c.requires.table; word_is = c.entry_word-word.ensures } in
    omega (arith, on_device place, c.clear_page.ensures.same.size)

pub returns-clause-extends : goal.returns-clause-extends
returns-clause-extends g c =
    let it = takes_of (g.D.Pm.words c.args.dev.now) c.args.frames.now c.take.new.self c.args.n c.args.depth c.entry_word-word.result c.number-page.result c.in-Some.page
    c.requires.tables c.requires.deep c.requires.table c.entry_word-word.ensures (sym c.load.ensures ∙ c.if-load-ne0.false) c.requires.agrees
    c.number-page.ensures c.in-Some.ensures.some c.in-Some.ensures.least c.in-Some.ensures.in_range c.in-Some.ensures.pages in
    λ wants wanted. extends_linked it c.clear_page.ensures.same c.in_ok-clear_page.ensures.zeros c.clear_page.ensures.images c.in_ok-clear_page.ensures.settled c.clear_page.ensures.made
    c.put_entry.ensures.either c.put_entry.ensures.images c.put_entry.ensures.made wants (wanted_step it wants wanted)

pub returns-clause-there : goal.returns-clause-there
returns-clause-there g c =
    let it = takes_of (g.D.Pm.words c.args.dev.now) c.args.frames.now c.take.new.self c.args.n c.args.depth c.entry_word-word.result c.number-page.result c.in-Some.page
    c.requires.tables c.requires.deep c.requires.table c.entry_word-word.ensures (sym c.load.ensures ∙ c.if-load-ne0.false) c.requires.agrees
    c.number-page.ensures c.in-Some.ensures.some c.in-Some.ensures.least c.in-Some.ensures.in_range c.in-Some.ensures.pages in
    there_result it c.put_entry.result (g.D.Pm.words c.put_entry.new.dev) c.clear_page.ensures.same c.in_ok-clear_page.ensures.zeros c.put_entry.ensures.words

pub returns-clause-done : goal.returns-clause-done
returns-clause-done g c =
    let it = takes_of (g.D.Pm.words c.args.dev.now) c.args.frames.now c.take.new.self c.args.n c.args.depth c.entry_word-word.result c.number-page.result c.in-Some.page
    c.requires.tables c.requires.deep c.requires.table c.entry_word-word.ensures (sym c.load.ensures ∙ c.if-load-ne0.false) c.requires.agrees
    c.number-page.ensures c.in-Some.ensures.some c.in-Some.ensures.least c.in-Some.ensures.in_range c.in-Some.ensures.pages in
    done_result it c.put_entry.result (g.D.Pm.words c.put_entry.new.dev) (g.D.Pm.told c.args.dev.now) (g.D.Pm.told c.clear_page.new.dev) (g.D.Pm.told c.put_entry.new.dev) c.clear_page.ensures.same c.in_ok-clear_page.ensures.zeros c.put_entry.ensures.words c.in_ok-clear_page.ensures.settled c.put_entry.ensures.settled
