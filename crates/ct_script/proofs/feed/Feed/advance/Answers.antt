use Rattle.std.proofs.Common.{inl, inr, refl, ◌≡◌, ap, subst, arith, Ok}
use Rattle.ct_script.specs.Feed.{FeedState, Fills, TakesLine}
use Rattle.ct_script.proofs.Feeds.{advance_failed, advance_last, advance_line, advance_past, asked_unended, not_asked, reads_more, reads_none, reads_room}
use Rattle.ct_script.proofs.feed.Feed.advance.Goals as goal

pub returns-then-self-gt-SCRIPT_BYTES-clause-advances : goal.returns-then-self-gt-SCRIPT_BYTES-clause-advances
returns-then-self-gt-SCRIPT_BYTES-clause-advances g c =
    let given : c.self.inside.given ≡ c.args.self.now.given = ap (λ (s : FeedState). s.given) c.self.view_is in
    let past = c.if-self-gt-SCRIPT_BYTES.true in
    let at = c.self.invariant.3 in
    advance_past c.args.self.now (g.S.Source.rest c.args.input.now) (omega (arith, given, past, at))

pub pieces-init : goal.pieces-init
pieces-init g c =
    let given : c.self.inside.given ≡ c.args.self.now.given = ap (λ (s : FeedState). s.given) c.self.view_is in
    let below = c.if-self-gt-SCRIPT_BYTES.false in
    record { reads = reads_none c.args.self.now (g.S.Source.rest c.args.input.now) (omega (arith, given, below)); ready = inl (refl, refl); later = omega arith }

pub returns-then-take_line-clause-advances : goal.returns-then-take_line-clause-advances
returns-then-take_line-clause-advances g c =
    let rest = g.S.Source.rest in
    let takes = subst (TakesLine c.pieces.self c.take_line.new.self) c.if-take_line.true c.take_line.ensures.line in
    advance_line c.pieces.passed c.args.self.now c.pieces.self (rest c.args.input.now) (rest c.pieces.input) c.pieces.invariant.reads c.take_line.new.self c.found.result takes c.take_line.ensures.given c.take_line.ensures.ended c.found.ensures

pub fill-requires : goal.fill-requires
fill-requires g c =
    let rest = g.S.Source.rest in
    let takes = subst (TakesLine c.pieces.self c.take_line.new.self) c.if-take_line.false c.take_line.ensures.line in
    let roomy = c.make_room-passed in
    let room = reads_room c.pieces.passed c.args.self.now c.pieces.self (rest c.args.input.now) (rest c.pieces.input) c.pieces.invariant.reads c.take_line.new.self roomy.new.self roomy.result takes roomy.ensures.room
    c.take_line.ensures.given c.take_line.ensures.ended roomy.ensures.given roomy.ensures.ended in
    record { room = room.2; unended = room.1; below = room.3 }

pub returns-in-Ok-eq0-clause-advances : goal.returns-in-Ok-eq0-clause-advances
returns-in-Ok-eq0-clause-advances g c =
    let rest = g.S.Source.rest in
    let takes = subst (TakesLine c.pieces.self c.take_line.new.self) c.if-take_line.false c.take_line.ensures.line in
    let roomy = c.make_room-passed in
    let room = reads_room c.pieces.passed c.args.self.now c.pieces.self (rest c.args.input.now) (rest c.pieces.input) c.pieces.invariant.reads c.take_line.new.self roomy.new.self roomy.result takes roomy.ensures.room
    c.take_line.ensures.given c.take_line.ensures.ended roomy.ensures.given roomy.ensures.ended in
    let fills = subst (λ n. Fills roomy.new.self c.fill.new.self (rest c.pieces.input) (rest c.fill.new.input) (Ok n)) c.in-Ok-eq0.field-0-test c.in-Ok-eq0.ensures.fills in
    let last = c.take_last.ensures in
    advance_last roomy.result c.args.self.now roomy.new.self (rest c.args.input.now) (rest c.pieces.input) room.0 c.fill.new.self c.take_last.new.self (rest c.fill.new.input) room.1 room.2 fills last.line last.held last.given last.ended c.take_last.result last.next

pub pieces-preserved : goal.pieces-preserved
pieces-preserved g c =
    let rest = g.S.Source.rest in
    let takes = subst (TakesLine c.pieces.self c.take_line.new.self) c.if-take_line.false c.take_line.ensures.line in
    let roomy = c.make_room-passed in
    let room = reads_room c.pieces.passed c.args.self.now c.pieces.self (rest c.args.input.now) (rest c.pieces.input) c.pieces.invariant.reads c.take_line.new.self roomy.new.self roomy.result takes roomy.ensures.room
    c.take_line.ensures.given c.take_line.ensures.ended roomy.ensures.given roomy.ensures.ended in
    record {
      ready = inr (asked_unended c.args.self.now.held c.pieces.self.held c.args.input.now c.pieces.input c.pieces.invariant.ready takes.1);
      reads = reads_more roomy.result c.args.self.now roomy.new.self (rest c.args.input.now) (rest c.pieces.input) room.0 c.fill.new.self (rest c.fill.new.input) c.in-Ok.field-0 c.in-Ok.ensures.fills;
      later = let a = c.pieces.invariant.later in let b = c.in-Ok.ensures.later in omega (arith, a, b);
    }

pub pieces-smaller : goal.pieces-smaller
pieces-smaller g c =
    let some = c.in-Ok.field-0-test.1 in
    let fills = c.in-Ok.ensures.fills in
    let long = fills.fits.0 in
    let below = fills.fits.2 in
    let more = fills.gives.count in
    let same = c.take_line.ensures.given in
    let same' = c.make_room-passed.ensures.given in
    omega (arith, some, long, below, more, same, same')

pub returns-in-Err-clause-advances : goal.returns-in-Err-clause-advances
returns-in-Err-clause-advances g c =
    let rest = g.S.Source.rest in
    let takes = subst (TakesLine c.pieces.self c.take_line.new.self) c.if-take_line.false c.take_line.ensures.line in
    let roomy = c.make_room-passed in
    let room = reads_room c.pieces.passed c.args.self.now c.pieces.self (rest c.args.input.now) (rest c.pieces.input) c.pieces.invariant.reads c.take_line.new.self roomy.new.self roomy.result takes roomy.ensures.room
    c.take_line.ensures.given c.take_line.ensures.ended roomy.ensures.given roomy.ensures.ended in
    advance_failed roomy.result c.args.self.now roomy.new.self (rest c.args.input.now) (rest c.pieces.input) room.0 c.fill.new.self (rest c.fill.new.input) c.in-Err.end room.1 c.in-Err.ensures.fills

pub returns-then-take_line-clause-ready : goal.returns-then-take_line-clause-ready
returns-then-take_line-clause-ready g c = not_asked c.args.self.now.held c.pieces.self.held c.args.input.now c.pieces.input c.pieces.invariant.ready

pub returns-in-Ok-eq0-clause-ready : goal.returns-in-Ok-eq0-clause-ready
returns-in-Ok-eq0-clause-ready g c ended =
    let takes = subst (TakesLine c.pieces.self c.take_line.new.self) c.if-take_line.false c.take_line.ensures.line in
    absurd (ended (asked_unended c.args.self.now.held c.pieces.self.held c.args.input.now c.pieces.input c.pieces.invariant.ready takes.1))

pub returns-in-Err-clause-ready : goal.returns-in-Err-clause-ready
returns-in-Err-clause-ready g c ended =
    let takes = subst (TakesLine c.pieces.self c.take_line.new.self) c.if-take_line.false c.take_line.ensures.line in
    absurd (ended (asked_unended c.args.self.now.held c.pieces.self.held c.args.input.now c.pieces.input c.pieces.invariant.ready takes.1))
