-- A record from its begin to its end.
use Rattle.std.proofs.Common.{◌≡◌, ℕ, ◌≤◌, List, Option, sym, ◌∙◌, ap, subst, inl, inr}
use Rattle.ct_pm.specs.Images.{History}
use Rattle.ct_pm.specs.Device.{EachNow, LeavesOnly, SameOff}
use Rattle.ct_pm.proofs.Made.{makes_none}
use Rattle.ct_pm.proofs.Told.{started, and_then, weaker}
use Rattle.ct_base.specs.Settled.{Pair, with_pairs, pairs_at, open_pairs, HaveTargets, IsShut}
use Rattle.ct_record.specs.Record.{InRecord, SettlesTo, SettlesToEither, AreApart, IsDrafted, IsTouched, IsNoneOrAll, StaysInRecord, place_of}
use Rattle.ct_image.proofs.Pairs.{named_target}
use Rattle.ct_record.proofs.Lawful.{pairs_shut}
use Rattle.ct_record.proofs.Settles.{same_refl, same_then, same_wider, settles_shut, applied_alike}
use Rattle.ct_record.proofs.Moments.{now_of}
use Rattle.ct_record.proofs.Drafts.{settles_touched, shut_touched}

pub apart_at : (count : ℕ) (words : List ℕ) → HaveTargets (place_of count) count words → AreApart (pairs_at (place_of count) count words)
apart_at count words targets word named = (named_target (place_of count) count words word targets named).0

module _ {was words : List ℕ} {start mid : Option History} (drafted : IsDrafted was words start mid) (pairs : List Pair) (apart : AreApart pairs) where
  pub all_settles : SettlesTo (with_pairs pairs was) (with_pairs pairs words)
  all_settles =
      settles_shut (with_pairs pairs words) (with_pairs pairs was) (pairs_shut pairs words apart drafted.shut) (pairs_shut pairs was apart drafted.was_shut)
      (applied_alike pairs words was (same_wider (λ word inside. inl inside) drafted.same))

  none_settles : SettlesTo was words
  none_settles = settles_shut words was drafted.shut drafted.was_shut drafted.same

  pub either_of : (image : List ℕ) → IsNoneOrAll pairs words image → SettlesToEither pairs was image
  either_of image (inl none) = inl (same_then none.1 none_settles)
  either_of image (inr all) = inr (same_then all.1 all_settles)

  pub either_drafted : LeavesOnly start mid (SettlesToEither pairs was)
  either_drafted = weaker (SettlesToEither pairs was) (λ image settles. inl settles) drafted.moments

  -- since begin, after arm
  pub either_armed : {told : Option History} → LeavesOnly mid told (IsNoneOrAll pairs words) → LeavesOnly start told (SettlesToEither pairs was)
  either_armed moments = and_then either_drafted (weaker (SettlesToEither pairs was) either_of moments)

  -- and after what keeps to the second
  pub either_later : {last told : Option History} (now : List ℕ) → SettlesTo (with_pairs pairs words) now → LeavesOnly start last (SettlesToEither pairs was) → LeavesOnly last told (SettlesTo now) → LeavesOnly start told (SettlesToEither pairs was)
  either_later now all moments more = and_then moments (weaker (SettlesToEither pairs was) (λ image settles. inr (same_then settles (same_then all all_settles))) more)

  -- the words at the end
  pub words_at_end : (armed applied done : List ℕ) → SameOff InRecord armed words → open_pairs armed ≡ pairs → applied ≡ with_pairs (open_pairs armed) armed → SameOff InRecord done applied → SameOff InRecord done (with_pairs pairs was)
  words_at_end armed applied done same opened is last =
      same_then last (subst (λ (l : List ℕ). SameOff InRecord l (with_pairs pairs was)) (sym (is ∙ ap (λ (ps : List Pair). with_pairs ps armed) opened))
      (applied_alike pairs armed was (same_wider (λ word inside. inl inside) (same_then same drafted.same))))

-- a draft as it is now
pub drafted_here : (told : Option History) (end : ℕ) (words : List ℕ) → end ≤ 16896 → IsShut words → EachNow told (SameOff (IsTouched end) words) → IsDrafted words words told told
drafted_here told end words high shut images = record {
  was_shut = shut;
  shut = shut;
  same = same_refl words;
  moments = started told (SettlesTo words) (now_of told (SettlesTo words) (SameOff (IsTouched end) words) (λ image same. settles_touched end words image high shut same) images);
  each_shut = started told IsShut (now_of told IsShut (SameOff (IsTouched end) words) (λ image same. shut_touched end words image shut same) images);
  made = makes_none StaysInRecord told;
}

-- a whole record behind what was drafted
pub either_then : {was words : List ℕ} {start mid told : Option History} (drafted : IsDrafted was words start mid) (pairs : List Pair) (apart : AreApart pairs)
    → LeavesOnly mid told (SettlesToEither pairs words) → LeavesOnly start told (SettlesToEither pairs was)
either_then {was = was} {words = words} drafted pairs apart moments =
    and_then (either_drafted drafted pairs apart) (weaker (SettlesToEither pairs was) (λ image either. elim either [
      | inl none ↦ inl (same_then none (settles_shut words was drafted.shut drafted.was_shut drafted.same))
      | inr all ↦ inr (same_then all (all_settles drafted pairs apart))
    ]) moments)

pub words_then : {was words : List ℕ} {start mid : Option History} (drafted : IsDrafted was words start mid) (pairs : List Pair) (done : List ℕ) → SameOff InRecord done (with_pairs pairs words) → SameOff InRecord done (with_pairs pairs was)
words_then {was = was} {words = words} drafted pairs done same = same_then same (applied_alike pairs words was (same_wider (λ word inside. inl inside) drafted.same))

-- one more stretch of drafting
pub moments_then : {old mid new : Option History} (was words : List ℕ) → IsShut was → IsShut words → SameOff InRecord words was → LeavesOnly old mid (SettlesTo was) → LeavesOnly mid new (SettlesTo words) → LeavesOnly old new (SettlesTo was)
moments_then was words shut_was shut same run more = and_then run (weaker (SettlesTo was) (λ image settles. same_then settles (settles_shut words was shut shut_was same)) more)
