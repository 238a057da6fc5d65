-- A record from its begin to its end, or to its drop.
use Rattle.std.proofs.Common.{◌≡◌, ℕ, ◌≤◌, List, Option, Result, Ok, Err, subst, sym, inl, inr}
use Rattle.std.specs.Prelude.{OnErr, OnOk}
use Rattle.ct_base.specs.Settled.{HasFewPairs, Pair, with_pairs}
use Rattle.ct_pm.specs.Images.{History}
use Rattle.ct_pm.specs.Device.{SameOff}
use Rattle.ct_pm.proofs.Made.{makes_then, makes_weaker}
use Rattle.ct_pm.proofs.Told.{and_then, weaker}
use Rattle.ct_record.specs.declared.draft.Draft.{Draft}
use Rattle.ct_record.specs.Record.{AreApart, Concluded, InRecord, IsDrafted, OpensOnly, SettlesToEither, StaysOrGives}
use Rattle.ct_record.specs.Seen.{Drafts, count_of, draft_dev, pairs_of, told_under, words_under}
use Rattle.ct_record.proofs.Chain.{apart_of}
use Rattle.ct_record.proofs.Lawful.{few_more, shut_few}
use Rattle.ct_record.proofs.Opens.{shut_opens}
use Rattle.ct_record.proofs.Settles.{same_then, settles_shut}
use Rattle.ct_record.proofs.Whole.{all_settles, either_then, words_then}

-- ---- answers

pub ok_then : {T E : Type 0} (P : Type 0) {Q : Type 0} (r : Result T E) → (P → Q) → OnOk r P → OnOk r Q
ok_then P (Ok x) step p = step p
ok_then P (Err e) step p = tt

pub ok_both : {T E : Type 0} (P Q : Type 0) (r : Result T E) → OnOk r P → OnOk r Q → OnOk r (P × Q)
ok_both P Q (Ok x) p q = (p, q)
ok_both P Q (Err e) p q = tt

-- what holds where the pairs were drafted holds where the record was concluded
pub ok_drafted : {S F T E : Type 0} (P : Type 0) (drafted : Result S F) (r : Result T E) → OnOk r (OnErr drafted ⊥) → OnOk drafted P → OnOk r P
ok_drafted P (Ok x) (Ok y) done p = p
ok_drafted P (Err e) (Ok y) done p = absurd done
ok_drafted P drafted (Err e) done p = tt

-- where they were drafted
pub is_ok : {T E : Type 0} (P : Type 0) {r : Result T E} {x : T} → r ≡ Ok x → OnOk r P → P
is_ok P is has = subst (λ a. OnOk a P) is has

-- ---- a draft

-- since its begin
pub drafted_since : {D : Type 0} {bound : _} (dev : D) (first last : Draft D bound) → draft_dev first ≡ dev → Drafts first last → IsDrafted (bound.words dev) (words_under last) (bound.told dev) (told_under last)
drafted_since {bound = bound} dev first last is drafts = subst (λ d. IsDrafted (bound.words d) (words_under last) (bound.told d) (told_under last)) is (record {
  was_shut = first.shut;
  shut = last.shut;
  same = drafts.same;
  moments = drafts.moments;
  each_shut = drafts.shut;
  made = drafts.made;
})

module _ {was words : List ℕ} {start mid : Option History} (o : IsDrafted was words start mid) (pairs : List Pair) (most : ℕ) where
  -- it is dropped
  pub dropped_ends : {T E : Type 0} (result : Result T E) → OnOk result ⊥ → Concluded was start pairs most words mid result
  dropped_ends result none = record {
    words = ok_then ⊥ result (λ f. absurd f) none;
    shut = ok_then ⊥ result (λ f. absurd f) none;
    settled = ok_then ⊥ result (λ f. absurd f) none;
    pages = ok_then ⊥ result (λ f. absurd f) none;
    any_moment = weaker (SettlesToEither pairs was) (λ image settles. inl settles) o.moments;
    reads = inl (settles_shut words was o.shut o.was_shut o.same);
    lawful = weaker (HasFewPairs most) (λ image shut. shut_few most image shut) o.each_shut;
    reads_lawful = shut_few most words o.shut;
    opens = weaker (OpensOnly pairs) (λ image shut. shut_opens pairs image shut) o.each_shut;
    reads_opens = shut_opens pairs words o.shut;
    made = makes_weaker (StaysOrGives pairs) (λ word value inside. inl inside) o.made;
  }

  -- it is completed
  pub whole_ends : {T E : Type 0} {count : ℕ} {now : List ℕ} {told : Option History} (result : Result T E) → AreApart pairs → count ≤ most → Concluded words mid pairs count now told result → Concluded was start pairs most now told result
  whole_ends {now = now} result apart le c = record {
    words = ok_then (SameOff InRecord now (with_pairs pairs words)) result (λ same. words_then o pairs now same) c.words;
    shut = c.shut;
    settled = c.settled;
    pages = c.pages;
    any_moment = either_then o pairs apart c.any_moment;
    reads = elim c.reads [
      | inl none ↦ inl (same_then none (settles_shut words was o.shut o.was_shut o.same))
      | inr all ↦ inr (same_then all (all_settles o pairs apart))
    ];
    lawful = and_then (weaker (HasFewPairs most) (λ image shut. shut_few most image shut) o.each_shut) (weaker (HasFewPairs most) (λ image few. few_more image le few) c.lawful);
    reads_lawful = few_more now le c.reads_lawful;
    opens = and_then (weaker (OpensOnly pairs) (λ image shut. shut_opens pairs image shut) o.each_shut) c.opens;
    reads_opens = c.reads_opens;
    made = makes_then (makes_weaker (StaysOrGives pairs) (λ word value inside. inl inside) o.made) c.made;
  }

-- the device behind either
pub dropped_device : {D T E : Type 0} {bound : _} (draft : Draft D bound) (end : D) (was : List ℕ) (start : Option History) (pairs : List Pair) (most : ℕ) (result : Result T E) → end ≡ draft_dev draft → OnOk result ⊥ → IsDrafted was (words_under draft) start (told_under draft)
    → Concluded was start pairs most (bound.words end) (bound.told end) result
dropped_device {bound = bound} draft end was start pairs most result is none o =
    subst (λ d. Concluded was start pairs most (bound.words d) (bound.told d) result) (sym is) (dropped_ends o pairs most result none)

pub whole_device : {D T E : Type 0} {bound : _} (draft : Draft D bound) (last end : D) (was : List ℕ) (start : Option History) (pairs : List Pair) (most : ℕ) (result : Result T E) → end ≡ last → IsDrafted was (words_under draft) start (told_under draft)
    → (pairs_of draft ≡ pairs) × (count_of draft ≤ most) → Concluded (words_under draft) (told_under draft) (pairs_of draft) (count_of draft) (bound.words last) (bound.told last) result
    → Concluded was start pairs most (bound.words end) (bound.told end) result
whole_device {bound = bound} draft last end was start pairs most result is o drafted c =
    subst (λ d. Concluded was start pairs most (bound.words d) (bound.told d) result) (sym is)
    (subst (λ (ps : List Pair). Concluded was start ps most (bound.words last) (bound.told last) result) drafted.0 (whole_ends o (pairs_of draft) most result (apart_of draft) drafted.1 c))
