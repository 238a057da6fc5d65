use Rattle.std.proofs.Common.{◌≡◌, ◌∙◌, ◌-◌, ◌++◌, ◌≤◌, List, ℕ, length, take, drop, ap, sym, arith, length-take, length-drop, true≢false}
use Rattle.std.proofs.Math.Seq.{take-add}
use Rattle.ct_script.specs.Feed.{FeedState}
use Rattle.ct_script.proofs.feed.Feed.fill.Goals as goal

-- a piece within a buffer has as many bytes as came
piece_length : (xs ys zs : List ℕ) (at n most : ℕ) → length xs ≡ length ys → length ys ≡ length zs → length zs ≡ 65537 → n ≤ most → most ≤ 65537 - at → length (take n (drop at xs)) ≡ n
piece_length xs ys zs at n most same same' is bound fits = let e = length-take n (drop at xs) in let f = length-drop at xs in omega (arith, e, f, same, same', is, bound, fits)

pub returns-then-self-gt-SCRIPT_BYTES-clause-fills : goal.returns-then-self-gt-SCRIPT_BYTES-clause-fills
returns-then-self-gt-SCRIPT_BYTES-clause-fills g c =
    let f = c.self.inside in
    let xs = c.read_at.new.buffer.items in
    let n = c.in-Ok.count in
    let ended : c.args.self.now.ended ≡ f.ended = sym (ap (λ (s : FeedState). s.ended) c.self.view_is) in
    let given : f.given ≡ c.args.self.now.given = ap (λ (s : FeedState). s.given) c.self.view_is in
    let held : take f.len (drop f.begin f.buffer.items) ≡ c.args.self.now.held = ap (λ (s : FeedState). s.held) c.self.view_is in
    let bound = c.in-Ok.ensures.bound in
    let most = c.min-most.ensures in
    let past = c.if-self-gt-SCRIPT_BYTES.true in
    let long = piece_length xs c.move_to_front.new.buffer.items f.buffer.items f.len n c.min-most.result c.in-Ok.ensures.length c.move_to_front.ensures.length c.self.invariant.0 bound (omega (arith, most)) in
    record {
      piece = take n (drop f.len xs);
      gives = record { gave = c.in-Ok.ensures.bytes.0; count = omega (arith, given, long); ends = λ e. absurd (true≢false (sym e ∙ c.if-self.false)); after = λ e. absurd (true≢false (sym e ∙ ended ∙ c.if-self.false)) };
      held = take-add f.len n xs ∙ ap (λ z. z ++ take n (drop f.len xs)) (c.in-Ok.ensures.front ∙ c.move_to_front.ensures.front ∙ held);
      fits = omega (arith, bound, most, past, given);
    }

pub returns-else-self-gt-SCRIPT_BYTES-clause-fills : goal.returns-else-self-gt-SCRIPT_BYTES-clause-fills
returns-else-self-gt-SCRIPT_BYTES-clause-fills g c =
    let f = c.self.inside in
    let xs = c.read_at.new.buffer.items in
    let n = c.in-Ok.count in
    let ended : c.args.self.now.ended ≡ f.ended = sym (ap (λ (s : FeedState). s.ended) c.self.view_is) in
    let given : f.given ≡ c.args.self.now.given = ap (λ (s : FeedState). s.given) c.self.view_is in
    let held : take f.len (drop f.begin f.buffer.items) ≡ c.args.self.now.held = ap (λ (s : FeedState). s.held) c.self.view_is in
    let bound = c.in-Ok.ensures.bound in
    let most = c.min-most.ensures in
    let long = piece_length xs c.move_to_front.new.buffer.items f.buffer.items f.len n c.min-most.result c.in-Ok.ensures.length c.move_to_front.ensures.length c.self.invariant.0 bound (omega (arith, most)) in
    record {
      piece = take n (drop f.len xs);
      gives = record { gave = c.in-Ok.ensures.bytes.0; count = omega (arith, given, long); ends = λ e. absurd (true≢false (sym e ∙ c.if-self.false)); after = λ e. absurd (true≢false (sym e ∙ ended ∙ c.if-self.false)) };
      held = take-add f.len n xs ∙ ap (λ z. z ++ take n (drop f.len xs)) (c.in-Ok.ensures.front ∙ c.move_to_front.ensures.front ∙ held);
      fits = (sym long, λ zero. absurd (c.in-Ok.count-test.1 zero), c.if-self-gt-SCRIPT_BYTES.false);
    }
