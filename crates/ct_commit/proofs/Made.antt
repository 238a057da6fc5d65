-- A record from its begin to its end or to its drop: what it made, and what a crash leaves meanwhile.
use Rattle.std.proofs.Common.{◌≡◌, ◌⊎◌, ℕ, ◌≤◌, List, [], Option, Result, Ok, Err, refl, subst, inl, inr}
use Rattle.std.specs.Prelude.{OnErr, OnOk}
use Rattle.ct_base.specs.Settled.{HasFewPairs, IsRecord, IsShut, Named, Pair, with_pairs}
use Rattle.ct_base.specs.Spares.{SparesFiles}
use Rattle.ct_base.specs.State.{SameState}
use Rattle.ct_pm.specs.Device.{LeavesOnly, MakesOnly, SameOff}
use Rattle.ct_pm.specs.Images.{History}
use Rattle.ct_pm.specs.Phase.{Crash, Phase}
use Rattle.ct_pm.proofs.Made.{makes_weaker}
use Rattle.ct_pm.proofs.Over.{stores_over}
use Rattle.ct_pm.proofs.Told.{both, weaker}
use Rattle.ct_record.specs.declared.draft.Draft.{Draft}
use Rattle.ct_record.specs.Record.{Concluded, InRecord, OpensOnly, SettlesTo, SettlesToEither}
use Rattle.ct_record.specs.Seen.{count_of, drafted, pairs_of, words_under}
use Rattle.ct_record.proofs.Applying.{gives_named}
use Rattle.ct_record.proofs.Chain.{apart_of}
use Rattle.ct_record.proofs.Ended.{drafted_since, ok_both, ok_drafted, ok_then}
use Rattle.ct_record.proofs.Lawful.{pairs_shut}
use Rattle.ct_record.proofs.Settles.{same_refl, same_sym, same_then, settles_shut}
use Rattle.ct_record.proofs.Whole.{words_then}
use Rattle.ct_commit.specs.Closed.{IsStateOr}
use Rattle.ct_commit.specs.Made.{Concludes, Drafted, IsStable, Made, Settles, Spares}
use Rattle.ct_commit.proofs.Pages.{record_off, settles_page}
use Rattle.ct_commit.proofs.States.{settles_state}

-- ---- what is made

module _ {R : List ℕ → List ℕ → Type 0} {N : List ℕ → ℕ → Type 0} {most : ℕ} {D T E : Type 0} {bound : _} {result : Result T E} {dev : D} {first last : Draft D bound} (d : Drafted R N most result dev first last) (stable : IsStable R) where
  -- the pairs of a draft
  pub made_of : (pairs : List Pair) × (Made (bound.words dev) pairs (R (bound.words dev)) (N (bound.words dev)) × OnOk result ((pairs_of last ≡ pairs) × (count_of last ≤ most)))
  made_of = go result d.makes d.named d.few
    where
      shut : IsShut (bound.words dev)
      shut = (drafted_since dev first last d.is d.drafts).was_shut

      go : (r : Result T E) → OnOk r (R (words_under first) (drafted last)) → OnOk r ((w : ℕ) → Named (pairs_of last) w → N (words_under first) w) → OnOk r (count_of last ≤ most)
          → (pairs : List Pair) × (Made (bound.words dev) pairs (R (bound.words dev)) (N (bound.words dev)) × OnOk r ((pairs_of last ≡ pairs) × (count_of last ≤ most)))
      go (Ok x) makes named few = (
        pairs_of last,
        (
          record {
            shut = shut;
            apart = apart_of last;
            named = λ w is. subst (λ e. N (bound.words e) w) d.is (named w is);
            makes = inr (stable (bound.words dev) (drafted last) (with_pairs (pairs_of last) (bound.words dev)) (subst (λ e. R (bound.words e) (drafted last)) d.is makes)
                (same_sym (words_then (drafted_since dev first last d.is d.drafts) (pairs_of last) (drafted last) (same_refl (drafted last)))));
          },
          (refl, few),
        ),
      )
      go (Err e) makes named few = ([], (record { shut = shut; apart = λ w is. absurd is; named = λ w is. absurd is; makes = inl refl }, tt))

  -- what stands once the record is complete
  pub made_done : {S F : Type 0} (end : Result S F) (done : List ℕ) → OnOk end (OnErr result ⊥) → OnOk end (SameOff InRecord done (drafted last)) → OnOk end (R (bound.words dev) done)
  made_done end done ok same =
      let all = R (words_under first) (drafted last) in
      ok_then (all × SameOff InRecord done (drafted last)) end (λ has. stable (bound.words dev) (drafted last) done (subst (λ e. R (bound.words e) (drafted last)) d.is has.0) has.1)
      (ok_both all (SameOff InRecord done (drafted last)) end (ok_drafted all result end ok d.makes) same)

  -- and what is known of it all the way
  pub made_ends : {S F : Type 0} {end : Result S F} {now : List ℕ} {told : Option History} → Concludes last result now told end → Concluded (bound.words dev) (bound.told dev) (made_of).0 most now told end
  made_ends concludes = concludes (bound.words dev) (bound.told dev) (made_of).0 most (drafted_since dev first last d.is d.drafts) (made_of).1.1

-- ---- what a crash leaves

-- off pages 1 to 32 only words with N are stored to
pub made_stores : {T E : Type 0} {was : List ℕ} {pairs : List Pair} {R : List ℕ → Type 0} {N : ℕ → Type 0} {most : ℕ} {start told : Option History} {now : List ℕ} {result : Result T E} → Made was pairs R N → Concluded was start pairs most now told result
    → MakesOnly (λ w value. InRecord w ⊎ N w) start told
made_stores {pairs = pairs} {N = N} m c = makes_weaker (λ w value. InRecord w ⊎ N w) (λ w value stored. elim stored [ inl inside ↦ inl inside | inr gives ↦ inr (m.named w (gives_named pairs w value gives)) ]) c.made

module _ {was : List ℕ} {pairs : List Pair} {R : List ℕ → Type 0} {N : ℕ → Type 0} (m : Made was pairs R N) (s : Spares was R N) where
  -- an image that settles to the words with the pairs settles to what was made, or to the words
  made_or : {P : Type 0} (image : List ℕ) → (SettlesTo was image → P) → ((new : List ℕ) → R new → IsShut new → ((w : ℕ) → Named pairs w → N w) → SettlesTo new image → P) → SettlesToEither pairs was image → P
  made_or image before after (inl none) = before none
  made_or image before after (inr all) = elim m.makes [
    | inl nothing ↦ before (subst (λ (ps : List Pair). SettlesTo (with_pairs ps was) image) nothing all)
    | inr makes ↦ after (with_pairs pairs was) makes (pairs_shut pairs was m.apart m.shut) m.named all
  ]

  named_spares : (image : List ℕ) (w value : ℕ) → SettlesToEither pairs was image → Named pairs w → SparesFiles image w value
  named_spares image w value either named is = made_or image
      (λ settles. s.off w (m.named w named) (settles_page image s.before settles is))
      (λ new makes shut names settles. s.off_after new makes shut w (names w named) (settles_page image (s.after new makes shut) settles is)) either

  inside_spares : (image : List ℕ) (w value : ℕ) → SettlesToEither pairs was image → InRecord w → SparesFiles image w value
  inside_spares image w value either inside is = made_or image
      (λ settles. record_off w s.before inside (settles_page image s.before settles is))
      (λ new makes shut names settles. record_off w (s.after new makes shut) inside (settles_page image (s.after new makes shut) settles is)) either

  module _ {Q : List ℕ → Type 0} (q : Settles was R Q) where
    lands : (image : List ℕ) → IsRecord image → SettlesToEither pairs was image → Q image
    lands image lawful either = made_or image
        (λ settles. q.before image (settles_state s.before.shut s.before.whole lawful settles))
        (λ new makes shut names settles. q.after new makes shut image (settles_state shut (s.after new makes shut).whole lawful settles)) either

    module _ {T E : Type 0} {most : ℕ} {start told : Option History} {now : List ℕ} {result : Result T E} (c : Concluded was start pairs most now told result) where
      crash : (image : List ℕ) → HasFewPairs most image → OpensOnly pairs image → SettlesToEither pairs was image → Crash Q most image
      crash image few opens either = record {
        has = lands image few.lawful either;
        few = few;
        spares = λ w named. elim opens [
          | inl none ↦ absurd (subst (λ (ps : List Pair). Named ps w) none named)
          | inr these ↦ named_spares image w 0 either (subst (λ (ps : List Pair). Named ps w) these named)
        ];
      }

      pub made_phase : Phase Q most start told now
      made_phase = record {
        moments = weaker (Crash Q most) (λ image has. crash image has.0 has.1.0 has.1.1) (both c.lawful (both c.opens c.any_moment));
        stores = stores_over SparesFiles (λ image w value settles stored. elim stored [
          | inl inside ↦ inside_spares image w value settles inside
          | inr gives ↦ named_spares image w value settles (gives_named pairs w value gives)
        ]) c.any_moment c.made;
        reads = crash now c.reads_lawful c.reads_opens c.reads;
      }

      -- once it is done, the state after is that of the words as they read
      pub made_last : OnOk result (R now) → OnOk result (LeavesOnly start told (λ image. SameState was image ⊎ SameState now image))
      made_last does = ok_then (R now × (SameOff InRecord now (with_pairs pairs was) × IsShut now)) result (λ has.
          let reads : SettlesTo (with_pairs pairs was) now = settles_shut now (with_pairs pairs was) has.1.1 (pairs_shut pairs was m.apart m.shut) has.1.0 in
          let closed = s.after now has.0 has.1.1 in
          weaker (λ image. SameState was image ⊎ SameState now image) (λ image either. elim either.1 [
            | inl none ↦ inl (settles_state s.before.shut s.before.whole either.0.lawful none)
            | inr all ↦ inr (settles_state closed.shut closed.whole either.0.lawful (same_then all (same_sym reads)))
          ]) (both c.lawful c.any_moment))
          (ok_both (R now) (SameOff InRecord now (with_pairs pairs was) × IsShut now) result does (ok_both (SameOff InRecord now (with_pairs pairs was)) (IsShut now) result c.words c.shut))

-- the state before, or one of which R holds
pub state_or : {was : List ℕ} {R : List ℕ → Type 0} {N : ℕ → Type 0} → Spares was R N → Settles was R (IsStateOr was R)
state_or s = record {
  before = λ image same. inl same;
  after = λ new makes shut image same. inr (record { after = new; done = makes; shut = shut; whole = (s.after new makes shut).whole; state = same });
}
