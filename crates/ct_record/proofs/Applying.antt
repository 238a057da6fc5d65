-- Pairs are applied one after the other.
use Rattle.std.proofs.Common.{◌≡◌, ◌⊎◌, ℕ, ◌+◌, ◌*◌, ◌/◌, ◌<◌, ◌≤◌, zero, suc, List, [], ◌∷◌, Option, Result, Ok, Err, length, drop, set, refl, sym, ◌∙◌, ap, ap₂, subst, inl, inr, arith}
use Rattle.std.specs.Prelude.{slice_index, OnOk}
use Rattle.std.proofs.lemmas.Bool.{cases_eq}
use Rattle.ct_pm.specs.declared.step.Step.TheVariants.{Fence, Flush}
use Rattle.ct_pm.specs.Images.{History}
use Rattle.ct_pm.specs.Device.{AddsStep, LeavesOnly, MakesOnly, NothingPending, SameOff, WrittenBack, QuietOff}
use Rattle.ct_pm.proofs.Told.{weaker}
use Rattle.ct_pm.proofs.Quiet.{back_flushed, quiet_then, quiet_settled}
use Rattle.ct_pm.proofs.Fence.{settled_by_fence}
use Rattle.ct_pm.proofs.Made.{makes_then, makes_weaker}
use Rattle.ct_pm.proofs.OneWord.{Replays}
use Rattle.ct_base.specs.Settled.{Gives, HasFewPairs, HasPages, HaveTargets, IsRecord, Named, open_pairs, Pair, pairs_at, pairs_behind, with_pairs}
use Rattle.ct_record.specs.Record.{SettlesTo, IsOpen, OpensOnly, Stand, IsPlace, AreApplied, SharesLine, StaysInLine}
use Rattle.ct_image.proofs.Pairs.{length-with_pairs, with_pairs_off, with_pairs_twice, is_named, named_at, named_target, named_here, named_more, gives_here}
use Rattle.ct_record.proofs.Lawful.{few_alike, moved_few}
use Rattle.ct_record.proofs.Opens.{moved_opens}
use Rattle.ct_record.proofs.Settles.{same_wider, open_alike, open_target, pairs_same, settles_moved}

-- the pairs that are applied
pub record MayApply (from count : ℕ) (was : List ℕ) : Type 0 where
  pub inside : from + 2 * count ≤ 16896
  pub pages : HasPages was
  pub targets : HaveTargets from count was

-- the first i of them are
abbrev pub Applied : ℕ → ℕ → List ℕ → List ℕ → Type 0
Applied from i was words = words ≡ with_pairs (pairs_at from i was) was

module _ {from count i : ℕ} {was words : List ℕ} (may : MayApply from count was) (within : i ≤ count) (so_far : Applied from i was words) where
  stays : (word : ℕ) → word < 16896 → slice_index words word ≡ slice_index was word
  stays word low =
      ap (λ (l : List ℕ). slice_index l word) so_far
      ∙ with_pairs_off (pairs_at from i was) was word (λ named.
      let target = named_target from count was word may.targets (named_more from count i was word within named) in omega (arith, target.0))

  size : length words ≡ length was
  size = ap length so_far ∙ length-with_pairs (pairs_at from i was) was

  pair_word : (k : ℕ) → k < count → slice_index words (from + 2 * k) ≡ slice_index was (from + 2 * k)
  pair_word k below = stays (from + 2 * k) (omega (arith, may.inside))

  pair_value : (k : ℕ) → k < count → slice_index words (from + 2 * k + 1) ≡ slice_index was (from + 2 * k + 1)
  pair_value k below = stays (from + 2 * k + 1) (omega (arith, may.inside))

  pub pairs_within : from + 2 * count ≤ length words
  pairs_within = omega (arith, size, may.inside, may.pages.0, may.pages.1)

  pub targets_within : (k : ℕ) → k < count → slice_index words (from + 2 * k) < length words
  targets_within k below = omega (arith, size, pair_word k below, (may.targets k below).1, may.pages.1)

  pub some_applied : AreApplied from count was words
  some_applied = (i, within, so_far)

  -- the lines of all words that the pairs name are written back
  pub all_back : (told : Option History) → ((k : ℕ) → k < count → WrittenBack told (slice_index words (from + 2 * k) / 8)) → (word : ℕ) → Named (pairs_at from count was) word → WrittenBack told (word / 8)
  all_back told back word named =
      let at = named_at from count was word named in
      subst (λ (w : ℕ). WrittenBack told (w / 8)) (pair_word at.0 at.1 ∙ sym at.2) (back at.0 at.1)

  module _ (below : i < count) where
    pub one_more : (new : List ℕ) → new ≡ set words (slice_index words (from + 2 * i)) (slice_index words (from + 2 * i + 1)) → Applied from (i + 1) was new
    one_more new is =
        let more : i + 1 ≡ suc i = omega arith in
        is
        ∙ ap₂ (λ (w v : ℕ). set words w v) (pair_word i below) (pair_value i below)
        ∙ ap (λ (l : List ℕ). set l (slice_index was (from + 2 * i)) (slice_index was (from + 2 * i + 1))) so_far
        ∙ ap (λ (n : ℕ). with_pairs (pairs_at from n was) was) (sym more)

    names : Named (pairs_at from count was) (slice_index words (from + 2 * i))
    names = subst (Named (pairs_at from count was)) (sym (pair_word i below)) (named_here from count i was below)

    pub quiet_more : {old mid new : Option History} → QuietOff (Named (pairs_at from count was)) old mid → QuietOff (λ word. word ≡ slice_index words (from + 2 * i)) mid new → QuietOff (Named (pairs_at from count was)) old new
    quiet_more run more = quiet_then (Named (pairs_at from count was)) (λ word is. subst (Named (pairs_at from count was)) (sym is) names) run more

    gives_it : Gives (pairs_at from count was) (slice_index words (from + 2 * i)) (slice_index words (from + 2 * i + 1))
    gives_it = subst (λ (w : ℕ). Gives (pairs_at from count was) w (slice_index words (from + 2 * i + 1))) (sym (pair_word i below))
        (subst (λ (v : ℕ). Gives (pairs_at from count was) (slice_index was (from + 2 * i)) v) (sym (pair_value i below)) (gives_here from count i was below))

    pub makes_more : {old mid new : Option History} → MakesOnly (Gives (pairs_at from count was)) old mid
        → MakesOnly (λ word value. (word ≡ slice_index words (from + 2 * i)) × (value ≡ slice_index words (from + 2 * i + 1))) mid new → MakesOnly (Gives (pairs_at from count was)) old new
    makes_more made more =
        makes_then made (makes_weaker (Gives (pairs_at from count was)) (λ word value is.
        subst (λ (w : ℕ). Gives (pairs_at from count was) w value) (sym is.0) (subst (λ (v : ℕ). Gives (pairs_at from count was) (slice_index words (from + 2 * i)) v) (sym is.1) gives_it)) more)

-- the line of a pair is flushed
pub line_back : {T E : Type 0} (r : Result T E) (Shares : Type 0) {mid new : Option History} (line : ℕ) → AddsStep r (Flush line) mid new → OnOk r (Shares ⊎ WrittenBack new line)
line_back (Ok done) Shares line adds = inr (back_flushed adds)
line_back (Err error) Shares line adds = tt

-- the lines of one pair more are written back
pub lines_more : (mid new : Option History) (from i : ℕ) (was words : List ℕ) → words ≡ was → ((k : ℕ) → k < i → WrittenBack mid (slice_index was (from + 2 * k) / 8)) → ((line : ℕ) → WrittenBack mid line → WrittenBack new line)
    → SharesLine from i words ⊎ WrittenBack new (slice_index words (from + 2 * i) / 8) → (k : ℕ) → k < i + 1 → WrittenBack new (slice_index was (from + 2 * k) / 8)
lines_more mid new from i was words same back still here k below = elim (cases_eq k i) [
  | inl is ↦
      let newest : WrittenBack new (slice_index words (from + 2 * i) / 8) = elim here [
        | inl shares ↦
            subst (WrittenBack new) shares.2
            (still (slice_index words (from + 2 * shares.0) / 8) (subst (λ (l : List ℕ). WrittenBack mid (slice_index l (from + 2 * shares.0) / 8)) (sym same) (back shares.0 shares.1)))
        | inr done ↦ done
      ] in
      subst (λ (j : ℕ). WrittenBack new (slice_index was (from + 2 * j) / 8)) (sym is) (subst (λ (l : List ℕ). WrittenBack new (slice_index l (from + 2 * i) / 8)) same newest)
  | inr ne ↦ still (slice_index was (from + 2 * k) / 8) (back k (omega arith))
]

-- the first j of the pairs are all but the newest few
pub first_pairs : (from n j : ℕ) (words : List ℕ) → j ≤ n → (k : ℕ) × (drop k (pairs_at from n words) ≡ pairs_at from j words)
first_pairs from zero j words within = let none : j ≡ 0 = omega arith in (0, ap (λ (m : ℕ). pairs_at from m words) (sym none))
first_pairs from (suc n) j words within = elim (cases_eq j (suc n)) [
  | inl is ↦ (0, ap (λ (m : ℕ). pairs_at from m words) (sym is))
  | inr ne ↦ let rest = first_pairs from n j words (omega arith) in (suc rest.0, rest.1)
]

pub place_short : (words : List ℕ) → IsRecord words → slice_index words 512 ≡ 0 → IsPlace 520 (slice_index words 527) words
place_short words is closed = record {
  inside = omega (arith, is.short);
  pairs = ap (λ (n : ℕ). pairs_behind n (slice_index words 527) words) (sym closed);
  targets = is.short_targets;
}

behind_long : (long short : ℕ) (words : List ℕ) → 0 < long → pairs_at 528 long words ≡ pairs_behind long short words
behind_long zero short words some = absurd (omega arith)
behind_long (suc n) short words some = refl

pub place_long : (words : List ℕ) → IsRecord words → 0 < slice_index words 512 → IsPlace 528 (slice_index words 512) words
place_long words is some = record {
  inside = omega (arith, is.long);
  pairs = behind_long (slice_index words 512) (slice_index words 527) words some;
  targets = is.long_targets;
}

pub gives_named : (pairs : List Pair) (word value : ℕ) → Gives pairs word value → Named pairs word
gives_named [] word value none = absurd none
gives_named (pair ∷ pairs) word value (inl is) = inl is.0
gives_named (pair ∷ pairs) word value (inr later) = inr (gives_named pairs word value later)

module _ {from count : ℕ} {words : List ℕ} (place : IsPlace from count words) (is : IsRecord words) where
  open_quiet : {old new : Option History} → QuietOff (Named (pairs_at from count words)) old new → QuietOff (Named (open_pairs words)) old new
  open_quiet {old = old} {new = new} run = subst (λ (ps : List Pair). QuietOff (Named ps) old new) place.pairs run

  pub applying_settles : {old new : Option History} → Replays old words → NothingPending old → QuietOff (Named (pairs_at from count words)) old new → LeavesOnly old new (SettlesTo words)
  applying_settles replays settled run = weaker (SettlesTo words) (λ image same. settles_moved image words is same) (quiet_settled replays settled (open_quiet run))

  pub open_made : {old new : Option History} → MakesOnly (Gives (pairs_at from count words)) old new → MakesOnly (Gives (open_pairs words)) old new
  open_made {old = old} {new = new} made = subst (λ (ps : List Pair). MakesOnly (Gives ps) old new) place.pairs made

  -- no word of the record is stored to
  pub apply_line : {old new : Option History} → MakesOnly (Gives (pairs_at from count words)) old new → MakesOnly StaysInLine old new
  apply_line made =
      makes_weaker StaysInLine (λ word value gives inside.
      absurd (omega (arith, inside.1, (named_target from count words word place.targets (gives_named (pairs_at from count words) word value gives)).0))) made

  pub applied_some : (new : List ℕ) → AreApplied from count words new → (k : ℕ) × (new ≡ with_pairs (drop k (open_pairs words)) words)
  applied_some new some =
      let first = first_pairs from count some.0 words some.1 in
      (first.0, some.2 ∙ ap (λ (ps : List Pair). with_pairs ps words) (sym first.1) ∙ ap (λ (ps : List Pair). with_pairs (drop first.0 ps) words) place.pairs)

  pub applying_lawful : {old new : Option History} → Replays old words → NothingPending old → QuietOff (Named (pairs_at from count words)) old new → LeavesOnly old new (HasFewPairs (slice_index words 512))
  applying_lawful replays settled run = weaker (HasFewPairs (slice_index words 512)) (λ image same. moved_few words image is same) (quiet_settled replays settled (open_quiet run))

  -- what was applied so far moved what the pairs name
  some_moved : (new : List ℕ) → AreApplied from count words new → SameOff (Named (open_pairs words)) new words
  some_moved new some =
      let first = pairs_at from some.0 words in
      same_wider (λ word named. subst (λ (ps : List Pair). Named ps word) place.pairs (named_more from count some.0 words word some.1 named))
      (subst (λ (l : List ℕ). SameOff (Named first) l words) (sym some.2) (pairs_same first words))

  -- so it settles as before
  pub some_settles : (new : List ℕ) → AreApplied from count words new → SettlesTo words new
  some_settles new some = settles_moved new words is (some_moved new some)

  pub applying_opens : {old new : Option History} → Replays old words → NothingPending old → QuietOff (Named (pairs_at from count words)) old new → LeavesOnly old new (OpensOnly (open_pairs words))
  applying_opens replays settled run = weaker (OpensOnly (open_pairs words)) (λ image same. moved_opens words image is same) (quiet_settled replays settled (open_quiet run))

  pub some_opens : (new : List ℕ) → AreApplied from count words new → OpensOnly (open_pairs words) new
  some_opens new some = moved_opens words new is (some_moved new some)

  pub some_lawful : (new : List ℕ) → AreApplied from count words new → HasFewPairs (slice_index words 512) new
  some_lawful new some = moved_few words new is (some_moved new some)

  pub applied_fenced : {T E : Type 0} {r : Result T E} {old mid new : Option History} (now : List ℕ) → Replays old words → NothingPending old → QuietOff (Named (pairs_at from count words)) old mid
      → now ≡ with_pairs (pairs_at from count words) words → Replays mid now → ((word : ℕ) → Named (pairs_at from count words) word → WrittenBack mid (word / 8)) → AddsStep r Fence mid new → OnOk r (NothingPending new)
  applied_fenced now replays settled run all shows back adds =
      settled_by_fence (is_named (pairs_at from count words)) (quiet_settled replays settled run)
      (subst (λ (l : List ℕ). SameOff (Named (pairs_at from count words)) l words) (sym all) (pairs_same (pairs_at from count words) words)) shows back adds

-- after the pairs the record is still open, and they stand
module _ {words : List ℕ} (is : IsRecord words) (pages : HasPages words) where
  off : (word : ℕ) → word < 16896 → slice_index (with_pairs (open_pairs words) words) word ≡ slice_index words word
  off word below = with_pairs_off (open_pairs words) words word (λ named. let target = open_target words word is named in omega (arith, target.0))

  pub applied_pairs : open_pairs (with_pairs (open_pairs words) words) ≡ open_pairs words
  applied_pairs = open_alike (with_pairs (open_pairs words) words) words is (λ word inside. off word (omega (arith, inside.1)))

  pub applied_stand : Stand (with_pairs (open_pairs words) words)
  applied_stand = ap (λ (ps : List Pair). with_pairs ps (with_pairs (open_pairs words) words)) applied_pairs ∙ with_pairs_twice (open_pairs words) words

  pub applied_pages : HasPages (with_pairs (open_pairs words) words)
  applied_pages = let two = off 2 (omega arith) in (omega (arith, two, pages.0), omega (arith, two, pages.1, length-with_pairs (open_pairs words) words))

  pub applied_gates : (slice_index (with_pairs (open_pairs words) words) 512 ≡ slice_index words 512) × (slice_index (with_pairs (open_pairs words) words) 527 ≡ slice_index words 527)
  applied_gates = (off 512 (omega arith), off 527 (omega arith))

  pub applied_record : IsRecord (with_pairs (open_pairs words) words)
  applied_record = (few_alike words (with_pairs (open_pairs words) words) is off).lawful

  pub applied_still : IsOpen words → IsOpen (with_pairs (open_pairs words) words)
  applied_still opened = omega (arith, opened, applied_gates.0, applied_gates.1)

  pub applied_same : SettlesTo words (with_pairs (open_pairs words) words)
  applied_same = settles_moved (with_pairs (open_pairs words) words) words is (pairs_same (open_pairs words) words)
