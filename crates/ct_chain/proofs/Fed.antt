-- The items of an input whose lines come one after another, whatever the items are.
use Rattle.std.proofs.Common.{◌≡◌, ◌≢◌, ◌∙◌, ◌⊎◌, ℕ, ◌+◌, ◌-◌, ◌<◌, ◌≤◌, true, false, true≢false, List, [], ◌∷◌, ◌++◌, length, refl, sym, ap, subst, inl, inr, append_assoc, append-nil, length-append, arith, Option, Ok}
use Rattle.std.specs.Io.KnownBytes.{Consumes, IsAtEnd}
use Rattle.std.specs.List.{flat_map}
use Rattle.ct_script.proofs.Cuts.{ended_next, lines_last, lines_next}
use Rattle.ct_script.proofs.Feeds.{consumes_more, consumes_none}
use Rattle.ct_script.specs.Feed.{Advances, BeginsWith, FeedState, Finds, Gives, IsUnended, unasked}
use Rattle.ct_script.specs.Script.{all_but_last, lines}
use Rattle.ct_script.specs.declared.feed.Next.{Next}
use Rattle.ct_script.specs.declared.feed.Next.TheVariants.{Line, Overlong, End}
use Rattle.ct_chain.specs.Inputs.{MayTakeOf, by_ended, by_lines}

-- the line that was found, if one was
abbrev pub IsFound : List ℕ → FeedState → Next → List ℕ → Type 0
IsFound text feed Line line = (line ≡ feed.line) × BeginsWith text line feed
IsFound text feed Overlong line = BeginsWith text line feed × (65536 < length line)
IsFound text feed End line = ⊥

pub found_line : (text : List ℕ) (feed : FeedState) (next : Next) → next ≢ End → Finds text feed next → (line : List ℕ) × IsFound text feed next line
found_line text feed Line other finds = (feed.line, (refl, finds.0))
found_line text feed Overlong other finds = (finds.0, (finds.1, finds.2))
found_line text feed End other finds = absurd (other refl)

pub begins_line : (text : List ℕ) (feed : FeedState) (next : Next) (line : List ℕ) → IsFound text feed next line → BeginsWith text line feed
begins_line text feed Line line is = is.1
begins_line text feed Overlong line is = is.0
begins_line text feed End line is = absurd is

-- a line that was found is gone from what is left
line_shorter : (text line : List ℕ) (feed : FeedState) → BeginsWith text line feed → length feed.held < length text
line_shorter text line feed begins = elim begins.1 [
  | inl is ↦ (let e = ap length is in omega (arith, e, length-append line (10 ∷ feed.held)))
  | inr last ↦ (let e = ap length last.all in let none = ap length last.none in let some = last.some in omega (arith, e, none, some))
]

-- so the bytes that may still come, with those that are held, grow fewer
pub found_fewer : (old new : FeedState) (rest rest' : Option (List ℕ)) (next : Next) → next ≢ End → Advances old new rest rest' (Ok next) → (16777217 - new.given) + length new.held < (16777217 - old.given) + length old.held
found_fewer old new rest rest' next other on =
    let found = found_line (old.held ++ on.more) new next other on.found.0 in
    let less = line_shorter (old.held ++ on.more) found.0 new (begins_line (old.held ++ on.more) new next found.0 found.1) in
    let count = on.gives.count in
    let below = on.found.1 in
    omega (arith, less, count, below, length-append old.held on.more)

module _ {I : Type 0} (items_of : List ℕ → List I) where
  lines_of_next : (line more : List ℕ) → IsUnended line → by_lines items_of (line ++ 10 ∷ more) ≡ items_of line ++ by_lines items_of more
  lines_of_next line more unended = ap (λ ls. flat_map items_of ls) (lines_next line more unended)

  ended_of_next : (line more : List ℕ) → IsUnended line → by_ended items_of (line ++ 10 ∷ more) ≡ items_of line ++ by_ended items_of more
  ended_of_next line more unended = ap (λ ls. flat_map items_of ls) (ended_next line more unended)

  lines_of_last : (line : List ℕ) → IsUnended line → by_lines items_of line ≡ items_of line
  lines_of_last line unended = ap (λ ls. flat_map items_of ls) (lines_last line unended) ∙ append-nil (items_of line)

  ended_of_last : (line : List ℕ) → IsUnended line → by_ended items_of line ≡ []
  ended_of_last line unended = ap (λ ls. flat_map items_of (all_but_last ls)) (lines_last line unended)

  -- The items of the lines that were found were taken: all others, now and whatever comes, are those of what is held and comes.
  abbrev pub IsAhead : List ℕ → List ℕ → List I → Type 0
  IsAhead given held taken =
      (more : List ℕ) → (by_lines items_of (given ++ more) ≡ taken ++ by_lines items_of (held ++ more)) × (by_ended items_of (given ++ more) ≡ taken ++ by_ended items_of (held ++ more))

  -- or the last line was found, and all items were taken
  pub record IsOver (given : List ℕ) (feed : FeedState) (taken : List I) : Type 0 where
    pub ended : feed.ended ≡ true
    pub held : feed.held ≡ []
    pub all : by_lines items_of given ≡ taken

  -- so many bytes came, and so many items of theirs were taken
  pub record Taken (feed : FeedState) (first rest : Option (List ℕ)) (taken : List I) : Type 0 where
    pub given : List ℕ
    pub gave : Consumes first rest given
    pub count : feed.given ≡ length given
    pub below : feed.given ≤ 16777216
    pub ends : feed.ended ≡ true → IsAtEnd rest
    pub split : IsAhead given feed.held taken ⊎ IsOver given feed taken

  -- nothing came yet
  pub taken_none : (feed : FeedState) (first : Option (List ℕ)) → feed ≡ unasked → Taken feed first first []
  taken_none feed first is =
      subst (λ (f : FeedState). Taken f first first []) (sym is)
      (record {
        given = [];
        gave = consumes_none first;
        count = refl;
        below = omega arith;
        ends = λ e. absurd (true≢false (sym e));
        split = inl (λ more. (refl, refl));
      })

  -- one line more is taken, with the lines that are ended or with all
  ahead_next : (all : List ℕ → List I) (given held held' more line : List ℕ) (taken items : List I) → ((m : List ℕ) → all (given ++ m) ≡ taken ++ all (held ++ m)) → held ++ more ≡ line ++ 10 ∷ held' → ((m : List ℕ) → all (line ++ 10 ∷ m) ≡ items ++ all m)
      → (m : List ℕ) → all ((given ++ more) ++ m) ≡ (taken ++ items) ++ all (held' ++ m)
  ahead_next all given held held' more line taken items ahead is next m =
      ap all (append_assoc given more m) ∙ ahead (more ++ m) ∙ ap (λ z. taken ++ all z) (sym (append_assoc held more m) ∙ ap (λ z. z ++ m) is ∙ append_assoc line (10 ∷ held') m) ∙ ap (λ z. taken ++ z) (next (held' ++ m))
      ∙ sym (append_assoc taken items (all (held' ++ m)))

  -- more came
  module _ (old new : FeedState) (first rest rest' : Option (List ℕ)) (taken : List I) (had : Taken old first rest taken) (more : List ℕ) (gives : Gives old new rest rest' more) where
    pub gave_now : Consumes first rest' (had.given ++ more)
    gave_now = consumes_more first rest rest' had.given more had.gave gives.gave

    pub count_now : new.given ≡ length (had.given ++ more)
    count_now = let a = had.count in let b = gives.count in omega (arith, a, b, length-append had.given more)

    pub ends_now : new.ended ≡ true → IsAtEnd rest'
    ends_now e = elim (gives.ends e) [ inl at ↦ at | inr was ↦ subst IsAtEnd (sym was.1) (had.ends was.0) ]

    -- the input failed before a line was ended
    pub ended_all : IsUnended (old.held ++ more) → new.ended ≡ false → by_ended items_of (had.given ++ more) ≡ taken
    ended_all unended open_still = elim had.split [
      | inl ahead ↦ (ahead more).1 ∙ ap (λ (z : List I). taken ++ z) (ended_of_last (old.held ++ more) unended) ∙ append-nil taken
      | inr over ↦ absurd (true≢false (sym (gives.after over.ended).1 ∙ open_still))
    ]

    -- it gave too much
    pub ended_left : new.given ≡ 16777217 → (left : List I) × (by_ended items_of (had.given ++ more) ≡ taken ++ left)
    ended_left long = elim had.split [
      | inl ahead ↦ (by_ended items_of (old.held ++ more), (ahead more).1)
      | inr over ↦ (let none = ap length (gives.after over.ended).0 in let count = gives.count in let below = had.below in absurd (omega (arith, none, count, below, long)))
    ]

    -- nothing is left
    pub all_taken : items_of [] ≡ [] → old.held ++ more ≡ [] → by_lines items_of (had.given ++ more) ≡ taken
    all_taken nothing none = elim had.split [
      | inl ahead ↦ (ahead more).0 ∙ ap (λ z. taken ++ by_lines items_of z) none ∙ ap (λ (z : List I). taken ++ (z ++ [])) nothing ∙ append-nil taken
      | inr over ↦ ap (λ z. by_lines items_of (had.given ++ z)) (gives.after over.ended).0 ∙ ap (by_lines items_of) (append-nil had.given) ∙ over.all
    ]

    -- a line was found
    module _ (line : List ℕ) (begins : BeginsWith (old.held ++ more) line new) where
      no_line : IsOver had.given old taken → ⊥
      no_line over =
          let less = line_shorter (old.held ++ more) line new begins in
          let none = ap length (gives.after over.ended).0 in
          let held = ap length over.held in
          omega (arith, less, none, held, length-append old.held more)

      -- its items come next among those that the run may take
      pub may_take : (all : List I) × (after : List I) × (all ≡ taken ++ (items_of line ++ after)) × MayTakeOf items_of (had.given ++ more) rest' all
      may_take = elim had.split [
        | inl ahead ↦
            elim begins.1 [
              | inl is ↦ (
                by_ended items_of (had.given ++ more),
                by_ended items_of new.held,
                (ahead more).1 ∙ ap (λ z. taken ++ by_ended items_of z) is ∙ ap (λ (z : List I). taken ++ z) (ended_of_next line new.held begins.0),
                inl refl,
              )
              | inr last ↦ (
                by_lines items_of (had.given ++ more),
                [],
                (ahead more).0 ∙ ap (λ z. taken ++ by_lines items_of z) last.all ∙ ap (λ (z : List I). taken ++ z) (lines_of_last line begins.0 ∙ sym (append-nil (items_of line))),
                inr (ends_now last.ended, refl),
              )
            ]
        | inr over ↦ absurd (no_line over)
      ]

      -- and are taken
      pub taken_next : new.given ≤ 16777216 → Taken new first rest' (taken ++ items_of line)
      taken_next below = record {
        given = had.given ++ more;
        gave = gave_now;
        count = count_now;
        below = below;
        ends = ends_now;
        split =
            elim had.split [
              | inl ahead ↦
                  elim begins.1 [
                    | inl is ↦
                        inl
                        (λ m. (
                          ahead_next (by_lines items_of) had.given old.held new.held more line taken (items_of line) (λ k. (ahead k).0) is (λ k. lines_of_next line k begins.0) m,
                          ahead_next (by_ended items_of) had.given old.held new.held more line taken (items_of line) (λ k. (ahead k).1) is (λ k. ended_of_next line k begins.0) m,
                        ))
                    | inr last ↦
                        inr
                        (record {
                          ended = last.ended;
                          held = last.none;
                          all = (ahead more).0 ∙ ap (λ z. taken ++ by_lines items_of z) last.all ∙ ap (λ (z : List I). taken ++ z) (lines_of_last line begins.0);
                        })
                  ]
              | inr over ↦ absurd (no_line over)
            ];
      }
