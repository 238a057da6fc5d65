-- Pairs behind closed gates.
use Rattle.std.proofs.Common.{◌≡◌, ℕ, ◌+◌, ◌*◌, ◌<◌, ◌≤◌, zero, suc, List, ◌∷◌, Option, Result, Ok, Err, refl, sym, ◌∙◌, ap, ap₂, subst, inl, inr, arith}
use Rattle.std.specs.Prelude.{slice_index, OnOk, OnErr}
use Rattle.ct_pm.specs.Images.{History}
use Rattle.ct_pm.specs.Device.{EachNow, LeavesOnly, MakesOnly, SameOff, QuietOff, IsIn}
use Rattle.ct_pm.proofs.Made.{makes_weaker}
use Rattle.ct_pm.proofs.Told.{weaker}
use Rattle.ct_base.specs.Settled.{HasPages, Pair, pairs_at, IsTarget, HaveTargets, IsShut, Named}
use Rattle.ct_record.specs.Record.{InRecord, InLine, SettlesTo, StaysInLine, IsTouched, place_of}
use Rattle.ct_image.proofs.Pairs.{pairs_at_alike, named_here, named_target}
use Rattle.ct_record.proofs.Settles.{same_sym, same_then, same_wider, settles_shut}
use Rattle.ct_record.proofs.Moments.{quiet_keeps, now_of}

pub place_short : (count : ℕ) → count ≤ 3 → place_of count ≡ 520
unfolding place_of
place_short zero few = refl
place_short (suc zero) few = refl
place_short (suc (suc zero)) few = refl
place_short (suc (suc (suc zero))) few = refl
place_short (suc (suc (suc (suc n)))) few = absurd (omega arith)

pub place_long : (count : ℕ) → 3 < count → place_of count ≡ 528
unfolding place_of
place_long zero many = absurd (omega arith)
place_long (suc zero) many = absurd (omega arith)
place_long (suc (suc zero)) many = absurd (omega arith)
place_long (suc (suc (suc zero))) many = absurd (omega arith)
place_long (suc (suc (suc (suc n)))) many = refl

pub place_few : (count : ℕ) → place_of count ≤ 528
unfolding place_of
place_few zero = omega arith
place_few (suc zero) = omega arith
place_few (suc (suc zero)) = omega arith
place_few (suc (suc (suc zero))) = omega arith
place_few (suc (suc (suc (suc n)))) = omega arith

-- a pair was stored behind so many
pub record StoresPair (from count named put : ℕ) (was new : List ℕ) : Type 0 where
  pub same : SameOff (IsIn (from + 2 * count) 2) new was
  pub word : slice_index new (from + 2 * count) ≡ named
  pub value : slice_index new (from + 2 * count + 1) ≡ put

pub stores_pairs : (from count more word value : ℕ) (was new : List ℕ) → more ≡ suc count → StoresPair from count word value was new → pairs_at from more new ≡ record { word = word; value = value } ∷ pairs_at from count was
stores_pairs from count more word value was new is stores =
    ap (λ (n : ℕ). pairs_at from n new) is
    ∙ ap₂ (λ (p : Pair) (ps : List Pair). p ∷ ps) (ap₂ (λ (w v : ℕ). record { word = w; value = v }) stores.word stores.value)
    (pairs_at_alike from count new was (λ word low high. stores.same.others word (λ is. omega (arith, is.0))))

-- a pair behind fewer than three
pub short_added : {T E : Type 0} (r : Result T E) (count word value : ℕ) (was new : List ℕ) → count < 3 → SameOff (IsIn (520 + 2 * count) 2) new was → OnOk r (slice_index new (520 + 2 * count) ≡ word) → OnOk r (slice_index new (520 + 2 * count + 1) ≡ value)
    → OnOk r (pairs_at (place_of (count + 1)) (count + 1) new ≡ record { word = word; value = value } ∷ pairs_at (place_of count) count was)
short_added (Ok done) count word value was new few same named put =
    ap (λ (p : ℕ). pairs_at p (count + 1) new) (place_short (count + 1) (omega arith))
    ∙ stores_pairs 520 count (count + 1) word value was new (omega arith) (record { same = same; word = named; value = put })
    ∙ ap (λ (p : ℕ). record { word = word; value = value } ∷ pairs_at p count was) (sym (place_short count (omega arith)))
short_added (Err error) count word value was new few same named put = tt

pub short_kept : (count : ℕ) (was new : List ℕ) → count ≤ 3 → ((word : ℕ) → 520 ≤ word → word < 520 + 2 * count → slice_index new word ≡ slice_index was word) → pairs_at (place_of count) count new ≡ pairs_at (place_of count) count was
short_kept count was new few same =
    subst (λ (p : ℕ). pairs_at p count new ≡ pairs_at p count was) (sym (place_short count few)) (pairs_at_alike 520 count new was (λ word low high. same word low high))

-- the fourth
pub fourth_added : {T E : Type 0} (r : Result T E) (count : ℕ) (pair : Pair) (was new : List ℕ) → count ≡ 3 → OnOk r (pairs_at 528 4 new ≡ pair ∷ pairs_at 520 3 was)
    → OnOk r (pairs_at (place_of (count + 1)) (count + 1) new ≡ pair ∷ pairs_at (place_of count) count was)
unfolding place_of
fourth_added r count pair was new is added = subst (λ (n : ℕ). OnOk r (pairs_at (place_of (n + 1)) (n + 1) new ≡ pair ∷ pairs_at (place_of n) n was)) (sym is) added

-- a pair behind more than three
pub long_added : {T E : Type 0} (r : Result T E) (count word value : ℕ) (was new : List ℕ) → 3 < count → SameOff (IsIn (528 + 2 * count) 2) new was → OnOk r (slice_index new (528 + 2 * count) ≡ word) → OnOk r (slice_index new (528 + 2 * count + 1) ≡ value)
    → OnOk r (pairs_at (place_of (count + 1)) (count + 1) new ≡ record { word = word; value = value } ∷ pairs_at (place_of count) count was)
long_added (Ok done) count word value was new many same named put =
    ap (λ (p : ℕ). pairs_at p (count + 1) new) (place_long (count + 1) (omega arith))
    ∙ stores_pairs 528 count (count + 1) word value was new (omega arith) (record { same = same; word = named; value = put })
    ∙ ap (λ (p : ℕ). record { word = word; value = value } ∷ pairs_at p count was) (sym (place_long count many))
long_added (Err error) count word value was new many same named put = tt

pub long_kept : (count : ℕ) (was new : List ℕ) → 3 < count → SameOff (IsIn (528 + 2 * count) 2) new was → pairs_at (place_of count) count new ≡ pairs_at (place_of count) count was
long_kept count was new many same =
    subst (λ (p : ℕ). pairs_at p count new ≡ pairs_at p count was) (sym (place_long count many))
    (pairs_at_alike 528 count new was (λ word low high. same.others word (λ is. omega (arith, is.0))))

-- the targets of the pairs, where they stand again, and with one more
pub targets_kept : (from count : ℕ) (was new : List ℕ) → pairs_at from count new ≡ pairs_at from count was → slice_index new 2 ≡ slice_index was 2 → HaveTargets from count was → HaveTargets from count new
targets_kept from count was new same pages targets k below =
    let word = slice_index new (from + 2 * k) in
    let target = named_target from count was word targets (subst (λ (ps : List Pair). Named ps word) same (named_here from count k new below)) in
    (omega (arith, target.0), omega (arith, target.1))

pub targets_more : (at more from count : ℕ) (pair : Pair) (was new : List ℕ) → pairs_at at more new ≡ pair ∷ pairs_at from count was → slice_index new 2 ≡ slice_index was 2 → IsTarget was pair.word → HaveTargets from count was
    → HaveTargets at more new
targets_more at more from count pair was new added pages here targets k below =
    let word = slice_index new (at + 2 * k) in
    let target : IsTarget was word = elim (subst (λ (ps : List Pair). Named ps word) added (named_here at more k new below)) [
      | inl is ↦ subst (IsTarget was) (sym is) here
      | inr named ↦ named_target from count was word targets named
    ] in
    (omega (arith, target.0), omega (arith, target.1))

pub touched_record : (end word : ℕ) → end ≤ 16896 → IsTouched end word → InRecord word
touched_record end word high is = (omega (arith, is.0), omega (arith, is.1))

-- where no fourth pair was begun, it is a word of the line
touched_line : (end word : ℕ) → end ≡ 528 → IsTouched end word → InLine word
touched_line end word short is = inl (is.0, omega (arith, is.1, is.2, is.3))

pub touched_in_line : {old new : Option History} (end : ℕ) → end ≡ 528 → MakesOnly (λ word value. IsTouched end word) old new → MakesOnly StaysInLine old new
touched_in_line end short made = makes_weaker StaysInLine (λ word value is inside. touched_line end word short is) made

pub shut_touched : (end : ℕ) (words image : List ℕ) → IsShut words → SameOff (IsTouched end) words image → IsShut image
shut_touched end words image shut same =
    (sym (same.others 512 (λ is. omega (arith, is.0))) ∙ shut.0, sym (same.others 527 (λ is. is.3 refl)) ∙ shut.1)

pub settles_touched : (end : ℕ) (words image : List ℕ) → end ≤ 16896 → IsShut words → SameOff (IsTouched end) words image → SettlesTo words image
settles_touched end words image high shut same =
    settles_shut image words (shut_touched end words image shut same) shut (same_wider (λ word is. touched_record end word high is) (same_sym same))

pub touched_more : (told : Option History) (end more : ℕ) (words : List ℕ) → end ≤ more → EachNow told (SameOff (IsTouched end) words) → EachNow told (SameOff (IsTouched more) words)
touched_more told end more words le now =
    now_of told (SameOff (IsTouched more) words) (SameOff (IsTouched end) words) (λ image same. same_wider (λ word is. (is.0, omega (arith, is.1), is.2, is.3)) same) now

-- while pairs are stored behind the closed gates
pub draft_settles : {old new : Option History} (end : ℕ) (was : List ℕ) → end ≤ 16896 → IsShut was → EachNow old (SameOff (IsTouched end) was) → QuietOff (IsTouched end) old new → LeavesOnly old new (SettlesTo was)
draft_settles end was high shut now run =
    weaker (SettlesTo was) (λ image same. settles_touched end was image high shut same)
    (quiet_keeps (SameOff (IsTouched end) was) (λ image base moved is. same_then is (same_sym moved)) now run)

pub draft_shut : {old new : Option History} (end : ℕ) (was : List ℕ) → IsShut was → EachNow old (SameOff (IsTouched end) was) → QuietOff (IsTouched end) old new → LeavesOnly old new IsShut
draft_shut end was shut now run =
    weaker IsShut (λ image same. shut_touched end was image shut same)
    (quiet_keeps (SameOff (IsTouched end) was) (λ image base moved is. same_then is (same_sym moved)) now run)

pub same_two : (end : ℕ) (was new : List ℕ) → SameOff (IsTouched end) new was → slice_index new 2 ≡ slice_index was 2
same_two end was new same = same.others 2 (λ is. omega (arith, is.0))

pub same_pages : (end : ℕ) (was new : List ℕ) → SameOff (IsTouched end) new was → HasPages was → HasPages new
same_pages end was new same pages = let is = same_two end was new same in (omega (arith, pages.0), omega (arith, pages.1, same.size))

pub err_of : {T E : Type 0} {P : Type 0} (r : Result T E) → P → OnErr r P
err_of (Ok done) p = tt
err_of (Err error) p = p

pub ok_of : {T E : Type 0} {P : Type 0} (r : Result T E) → P → OnOk r P
ok_of (Ok done) p = p
ok_of (Err error) p = tt

pub ok_map : {T E : Type 0} {P Q : Type 0} (r : Result T E) → (P → Q) → OnOk r P → OnOk r Q
ok_map (Ok done) step p = step p
ok_map (Err error) step p = tt
