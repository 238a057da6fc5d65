-- Lines of a text that comes piece by piece.
use Rattle.std.proofs.Common.{◌⊎◌, ◌≡◌, ◌≢◌, ◌∙◌, ℕ, ◌+◌, ◌-◌, ◌<◌, ◌≤◌, Bool, true, false, List, [], ◌∷◌, ◌++◌, length, take, drop, refl, sym, ap, subst, inl, inr, append_assoc, append-nil, length-append, length-take, length-drop, arith, Option, Some, None, Ok, Err, if◌then◌else◌}
use Rattle.std.specs.Prelude.{slice_range}
use Rattle.std.specs.Io.KnownBytes.{Consumes, IsAtEnd}
use Rattle.std.proofs.Math.Seq.{take-add, drop-append-add}
use Rattle.std.proofs.lemmas.List.{take-take, take_at, drop-take, drop-drop}
use Rattle.std.proofs.lemmas.List.Elements.{All-append}
use Rattle.ct_script.specs.Feed.{Advances, BeginsWith, FeedState, Fills, Finds, Gives, IsUnended, MakesRoom, TakesLine, last_next}
use Rattle.ct_script.specs.declared.feed.Next.{Next}
use Rattle.ct_script.specs.declared.feed.Next.TheVariants.{Line, Overlong}
use Rattle.ct_script.specs.declared.feed.ReadEnd.{ReadEnd}
use Rattle.ct_script.specs.declared.feed.ReadEnd.TheVariants.{Fault, TooLong}

pub unended_none : IsUnended []
unended_none k d less = absurd (omega (arith, less))

pub unended_both : (xs ys : List ℕ) → IsUnended xs → IsUnended ys → IsUnended (xs ++ ys)
unended_both xs ys p q = All-append (λ b. b ≢ 10) xs ys p q

pub consumes_none : (a : Option (List ℕ)) → Consumes a a []
consumes_none None = tt
consumes_none (Some x) = refl

pub consumes_more : (a b c : Option (List ℕ)) (bs cs : List ℕ) → Consumes a b bs → Consumes b c cs → Consumes a c (bs ++ cs)
consumes_more None b c bs cs p q = tt
consumes_more (Some x) None c bs cs p q = absurd p
consumes_more (Some x) (Some y) None bs cs p q = absurd q
consumes_more (Some x) (Some y) (Some z) bs cs p q = p ∙ ap (λ u. bs ++ u) q ∙ sym (append_assoc bs cs z)

-- a list that is cut at an element, by places
cut : (xs a c : List ℕ) (n : ℕ) → n ≤ length xs → take n xs ≡ a ++ 10 ∷ c → (take (length a) xs ≡ a) × (take (n - (length a + 1)) (drop (length a + 1) xs) ≡ c)
cut xs a c n within is =
    let long : n ≡ length a + (1 + length c) = (let e = length-take n xs in let f = ap length is in omega (arith, e, f, within, length-append a (10 ∷ c))) in
    let whole : (length a + 1) + (n - (length a + 1)) ≡ n = omega (arith, long) in (
      sym (take-take (length a) n xs (omega (arith, long))) ∙ ap (take (length a)) is ∙ take_at a (10 ∷ c) (length a) refl,
      sym (drop-take (length a + 1) (n - (length a + 1)) xs) ∙ ap (λ m. drop (length a + 1) (take m xs)) whole ∙ ap (drop (length a + 1)) is ∙ drop-append-add a (10 ∷ c) 1,
    )

-- bytes that stand in a buffer, of which some at the front were searched
module _ (buf : List ℕ) (b s n : ℕ) (fits : b + n ≤ length buf) (searched : s ≤ n) where
  part_is : slice_range buf (b + s) (b + n) ≡ take (n - s) (drop s (drop b buf))
  part_is =
      let long : (b + n) - (b + s) ≡ n - s = omega arith in
      ap (λ m. take m (drop (b + s) buf)) long ∙ ap (take (n - s)) (sym (drop-drop s b buf))

  pub both_parts : take n (drop b buf) ≡ take s (drop b buf) ++ slice_range buf (b + s) (b + n)
  both_parts =
      let whole : s + (n - s) ≡ n = omega (arith, searched) in
      ap (λ m. take m (drop b buf)) (sym whole) ∙ take-add s (n - s) (drop b buf) ∙ ap (λ p. take s (drop b buf) ++ p) (sym part_is)

  part_length : length (slice_range buf (b + s) (b + n)) ≡ n - s
  part_length = let e = length-take ((b + n) - (b + s)) (drop (b + s) buf) in let f = length-drop (b + s) buf in omega (arith, e, f, fits, searched)

  pub unended_parts : IsUnended (take s (drop b buf)) → IsUnended (slice_range buf (b + s) (b + n)) → IsUnended (take n (drop b buf))
  unended_parts p q = subst IsUnended (sym both_parts) (unended_both (take s (drop b buf)) (slice_range buf (b + s) (b + n)) p q)

  -- a byte 10 in the other part
  pub line_in_parts : (i : ℕ) → IsUnended (take s (drop b buf)) → slice_range buf (b + s) (b + n) ≡ take i (slice_range buf (b + s) (b + n)) ++ 10 ∷ drop (i + 1) (slice_range buf (b + s) (b + n))
      → IsUnended (take i (slice_range buf (b + s) (b + n))) → i < length (slice_range buf (b + s) (b + n))
      → (take n (drop b buf) ≡ take (s + i) (drop b buf) ++ 10 ∷ take (n - (s + i + 1)) (drop (b + (s + i + 1)) buf)) × IsUnended (take (s + i) (drop b buf)) × (s + i < n)
  line_in_parts i p is q within =
      let part = slice_range buf (b + s) (b + n) in
      let xs = drop b buf in
      let a = take s xs ++ take i part in
      let c = drop (i + 1) part in
      let whole : take n xs ≡ a ++ 10 ∷ c = both_parts ∙ ap (λ z. take s xs ++ z) is ∙ sym (append_assoc (take s xs) (take i part) (10 ∷ c)) in
      let room : n ≤ length xs = (let f = length-drop b buf in omega (arith, f, fits)) in
      let long : length a ≡ s + i = (let e = length-take s xs in let f = length-take i part in omega (arith, e, f, room, searched, within, length-append (take s xs) (take i part))) in
      let at = cut xs a c n room whole in
      let line : take (s + i) xs ≡ a = ap (λ m. take m xs) (sym long) ∙ at.0 in
      let rest : take (n - (s + i + 1)) (drop (b + (s + i + 1)) buf) ≡ c = ap (take (n - (s + i + 1))) (sym (drop-drop (s + i + 1) b buf)) ∙ ap (λ m. take (n - (m + 1)) (drop (m + 1) xs)) (sym long) ∙ at.1 in (
        whole ∙ ap (λ z. z ++ 10 ∷ c) (sym line) ∙ ap (λ z. take (s + i) xs ++ 10 ∷ z) (sym rest),
        subst IsUnended (sym line) (unended_both (take s xs) (take i part) p q),
        omega (arith, within, part_length),
      )

-- So many pieces came: what is held is what came in all but for a front without a byte 10, which is none, or is that of a line that is
-- too long and was passed over.
abbrev pub IsFront : Bool → List ℕ → Type 0
IsFront true front = IsUnended front × (65536 < length front)
IsFront false front = front ≡ []

pub record Reads (passed : Bool) (old now : FeedState) (rest rest' : Option (List ℕ)) : Type 0 where
  pub more : List ℕ
  pub gives : Gives old now rest rest' more
  pub front : List ℕ
  pub split : old.held ++ more ≡ front ++ now.held
  pub is : IsFront passed front
  pub below : now.given ≤ 16777216

front_unended : (passed : Bool) (front : List ℕ) → IsFront passed front → IsUnended front
front_unended true front is = is.0
front_unended false front is = subst IsUnended (sym is) unended_none

gives_none : (feed : FeedState) (rest : Option (List ℕ)) → Gives feed feed rest rest []
gives_none feed rest = record { gave = consumes_none rest; count = omega arith; ends = λ e. inr (e, refl); after = λ e. (refl, e) }

-- nothing came yet
pub reads_none : (feed : FeedState) (rest : Option (List ℕ)) → feed.given ≤ 16777216 → Reads false feed feed rest rest
reads_none feed rest below = record { more = []; gives = gives_none feed rest; front = []; split = append-nil feed.held; is = refl; below = below }

-- a feed that gave too much gives no more
pub advance_past : (feed : FeedState) (rest : Option (List ℕ)) → feed.given ≡ 16777217 → Advances feed feed rest rest (Err TooLong)
advance_past feed rest is = record { more = []; gives = gives_none feed rest; found = is }

module _ (old now new : FeedState) (rest rest' : Option (List ℕ)) (more : List ℕ) (gives : Gives old now rest rest' more) (given : new.given ≡ now.given) (ended : new.ended ≡ now.ended) where
  gives_same : Gives old new rest rest' more
  gives_same = record { gave = gives.gave; count = given ∙ gives.count; ends = λ e. gives.ends (sym ended ∙ e); after = λ e. let was = gives.after e in (was.0, ended ∙ was.1) }

module _ (passed : Bool) (old now : FeedState) (rest rest' : Option (List ℕ)) (reads : Reads passed old now rest rest') where
  -- a line is found
  pub advance_line : (new : FeedState) (next : Next) → TakesLine now new true → new.given ≡ now.given → new.ended ≡ now.ended → next ≡ (if passed then Overlong else Line) → Advances old new rest rest' (Ok next)
  advance_line new next takes given ended is = record {
    more = reads.more;
    gives = gives_same old now new rest rest' reads.more reads.gives given ended;
    found = (subst (Finds (old.held ++ reads.more) new) (sym is) (finds passed reads.is), let b = reads.below in omega (arith, b, given));
  }
    where
      begins : BeginsWith (old.held ++ reads.more) (reads.front ++ new.line) new
      begins = (
        unended_both reads.front new.line (front_unended passed reads.front reads.is) takes.1,
        inl (reads.split ∙ ap (λ z. reads.front ++ z) takes.0 ∙ sym (append_assoc reads.front new.line (10 ∷ new.held))),
      )

      finds : (b : Bool) → IsFront b reads.front → Finds (old.held ++ reads.more) new (if b then Overlong else Line)
      finds true front = (reads.front ++ new.line, begins, omega (arith, front.1, length-append reads.front new.line))
      finds false front = (subst (λ f. BeginsWith (old.held ++ reads.more) (f ++ new.line) new) front begins, takes.2)

  -- none is ended, and there is room for more
  pub reads_room : (taken roomy : FeedState) (passed' : Bool) → TakesLine now taken false → MakesRoom taken roomy passed passed' → taken.given ≡ now.given → taken.ended ≡ now.ended → roomy.given ≡ taken.given → roomy.ended ≡ taken.ended
      → Reads passed' old roomy rest rest' × IsUnended roomy.held × (length roomy.held ≤ 65536) × (roomy.given ≤ 16777216)
  reads_room taken roomy passed' takes (inl kept) given ended given' ended' =
      let below : roomy.given ≤ 16777216 = (let b = reads.below in omega (arith, b, given, given')) in
      let same : roomy.held ≡ now.held = kept.1 ∙ takes.0 in (
        record {
          more = reads.more;
          gives = gives_same old now roomy rest rest' reads.more reads.gives (given' ∙ given) (ended' ∙ ended);
          front = reads.front;
          split = reads.split ∙ ap (λ z. reads.front ++ z) (sym same);
          is = subst (λ b. IsFront b reads.front) (sym kept.2) reads.is;
          below = below;
        },
        subst IsUnended (sym same) takes.1,
        (let short = kept.0 in let e = ap length kept.1 in omega (arith, short, e)),
        below,
      )
  reads_room taken roomy passed' takes (inr passes) given ended given' ended' =
      let below : roomy.given ≤ 16777216 = (let b = reads.below in omega (arith, b, given, given')) in
      let long : 65536 < length now.held = (let l = passes.0 in let e = ap length takes.0 in omega (arith, l, e)) in (
        record {
          more = reads.more;
          gives = gives_same old now roomy rest rest' reads.more reads.gives (given' ∙ given) (ended' ∙ ended);
          front = reads.front ++ now.held;
          split = reads.split ∙ sym (append-nil (reads.front ++ now.held)) ∙ ap (λ z. (reads.front ++ now.held) ++ z) (sym passes.1);
          is = subst (λ b. IsFront b (reads.front ++ now.held)) (sym passes.2) (unended_both reads.front now.held (front_unended passed reads.front reads.is) takes.1, omega (arith, long, length-append reads.front now.held));
          below = below;
        },
        subst IsUnended (sym passes.1) unended_none,
        (let e = ap length passes.1 in omega (arith, e)),
        below,
      )

  -- a piece comes
  module _ (new : FeedState) (rest'' : Option (List ℕ)) (piece : List ℕ) (gives : Gives now new rest' rest'' piece) (held : new.held ≡ now.held ++ piece) where
    gives_more : Gives old new rest rest'' (reads.more ++ piece)
    gives_more = record {
      gave = consumes_more rest rest' rest'' reads.more piece reads.gives.gave gives.gave;
      count = let a = reads.gives.count in let b = gives.count in omega (arith, a, b, length-append reads.more piece);
      ends = λ e.
          elim (gives.ends e) [
            | inl at ↦ inl at
            | inr was ↦ elim (reads.gives.ends was.0) [ inl at ↦ inl (subst IsAtEnd (sym was.1) at) | inr before ↦ inr (before.0, was.1 ∙ before.1) ]
          ];
      after = λ e. let was = reads.gives.after e in let is = gives.after was.1 in (ap (λ z. z ++ piece) was.0 ∙ is.0, is.1);
    }

    split_more : old.held ++ (reads.more ++ piece) ≡ reads.front ++ new.held
    split_more =
        sym (append_assoc old.held reads.more piece) ∙ ap (λ z. z ++ piece) reads.split ∙ append_assoc reads.front now.held piece ∙ ap (λ z. reads.front ++ z) (sym held)

  pub reads_more : (new : FeedState) (rest'' : Option (List ℕ)) (n : ℕ) → Fills now new rest' rest'' (Ok n) → Reads passed old new rest rest''
  reads_more new rest'' n fills = record {
    more = reads.more ++ fills.piece;
    gives = gives_more new rest'' fills.piece fills.gives fills.held;
    front = reads.front;
    split = split_more new rest'' fills.piece fills.gives fills.held;
    is = reads.is;
    below = fills.fits.2;
  }

  -- none comes
  pub advance_failed : (new : FeedState) (rest'' : Option (List ℕ)) (end : ReadEnd) → IsUnended now.held → Fills now new rest' rest'' (Err end) → Advances old new rest rest'' (Err end)
  advance_failed new rest'' Fault unended fills = record {
    more = reads.more ++ fills.piece;
    gives = gives_more new rest'' fills.piece fills.gives fills.held;
    found = (
      subst IsUnended (sym (split_more new rest'' fills.piece fills.gives fills.held ∙ ap (λ z. reads.front ++ z) (fills.held ∙ ap (λ z. now.held ++ z) fills.fits.0 ∙ append-nil now.held)))
          (unended_both reads.front now.held (front_unended passed reads.front reads.is) unended),
      fills.fits.1,
      fills.fits.2,
    );
  }
  advance_failed new rest'' TooLong unended fills = record { more = reads.more ++ fills.piece; gives = gives_more new rest'' fills.piece fills.gives fills.held; found = fills.fits }

  -- the input has ended
  module _ (new last : FeedState) (rest'' : Option (List ℕ)) (unended : IsUnended now.held) (short : length now.held ≤ 65536) (fills : Fills now new rest' rest'' (Ok 0)) (line : last.line ≡ new.held) (none : last.held ≡ []) (given : last.given ≡ new.given) (ended : last.ended ≡ new.ended) where
    same_held : new.held ≡ now.held
    same_held = fills.held ∙ ap (λ z. now.held ++ z) (nothing fills.piece fills.fits.0) ∙ append-nil now.held
      where
        nothing : (xs : List ℕ) → 0 ≡ length xs → xs ≡ []
        nothing [] e = refl
        nothing (x ∷ xs) e = absurd (omega (arith, e))

    all_is : old.held ++ (reads.more ++ fills.piece) ≡ reads.front ++ now.held
    all_is = split_more new rest'' fills.piece fills.gives fills.held ∙ ap (λ z. reads.front ++ z) same_held

    is_ended : last.ended ≡ true
    is_ended = ended ∙ fills.fits.1 refl

    finds_last : (b : Bool) → IsFront b reads.front → (held : List ℕ) → now.held ≡ held → Finds (old.held ++ (reads.more ++ fills.piece)) last (last_next b held)
    finds_last true front held is = (
      reads.front ++ now.held,
      (unended_both reads.front now.held front.0 unended, inr (record { all = all_is; some = (let l = front.1 in omega (arith, l, length-append reads.front now.held)); ended = is_ended; none = none })),
      omega (arith, front.1, length-append reads.front now.held),
    )
    finds_last false front [] is = (all_is ∙ ap (λ f. f ++ now.held) front ∙ is, is_ended, none)
    finds_last false front (x ∷ xs) is =
        let same : last.line ≡ now.held = line ∙ same_held in (
          (
            subst IsUnended (sym same) unended,
            inr (record {
              all = all_is ∙ ap (λ f. f ++ now.held) front ∙ sym same;
              some = let e = ap length (same ∙ is) in omega (arith, e);
              ended = is_ended;
              none = none;
            }),
          ),
          (let e = ap length same in omega (arith, e, short)),
        )

    pub advance_last : (next : Next) → next ≡ last_next passed new.held → Advances old last rest rest'' (Ok next)
    advance_last next is = record {
      more = reads.more ++ fills.piece;
      gives = gives_same old new last rest rest'' (reads.more ++ fills.piece) (gives_more new rest'' fills.piece fills.gives fills.held) given ended;
      found = (subst (Finds (old.held ++ (reads.more ++ fills.piece)) last) (sym is) (finds_last passed reads.is new.held (sym same_held)), let b = fills.fits.2 in omega (arith, b, given));
    }

-- a line that is ended in what is held is found before the input is asked
pub asked_unended : {S : Type 0} (first held : List ℕ) (input input' : S) → ((held ≡ first) × (input' ≡ input)) ⊎ IsUnended first → IsUnended held → IsUnended first
asked_unended first held input input' (inl same) unended = subst IsUnended same.0 unended
asked_unended first held input input' (inr was) unended = was

pub not_asked : {S : Type 0} (first held : List ℕ) (input input' : S) → ((held ≡ first) × (input' ≡ input)) ⊎ IsUnended first → (IsUnended first → ⊥) → input' ≡ input
not_asked first held input input' (inl same) ended = same.1
not_asked first held input input' (inr was) ended = absurd (ended was)
