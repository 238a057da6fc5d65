-- What has grown keeps growing: stretches of work put together.
use Rattle.std.proofs.Common.{◌≡◌, ◌≢◌, ℕ, suc, ◌+◌, ◌*◌, ◌/◌, List, refl, sym, ap, subst, ◌∙◌, inl, inr, arith}
use Rattle.std.specs.Prelude.{Contains, Option, Some, None}
use Rattle.std.proofs.lemmas.Bool.{cases_eq}
use Rattle.ct_base.specs.Walk.{word, next, named_page, page_count, page_at, AreTables}
use Rattle.ct_image.proofs.Steps.{page_at-entry, next-at, named_page-zero}
use Rattle.ct_base.specs.Wants.{Want}
use Rattle.ct_frames.specs.Free.{FreePages}
use Rattle.ct_frames.specs.Agrees.{Agrees}
use Rattle.ct_pm.specs.Images.{History}
use Rattle.ct_pm.specs.Device.{LeavesOnly, NothingPending}
use Rattle.ct_pm.proofs.Told.{started, and_then, weaker}
use Rattle.ct_pm.proofs.Made.{makes_none, makes_then, makes_weaker}
use Rattle.ct_pm.proofs.OneWord.{Replays}
use Rattle.ct_walk.specs.Growth.{IsTaken, IsGap, Grown, MayGrow, Extends, IsDone}

pub taken_later : {before mid after : FreePages} {page : ℕ} → ((q : ℕ) → Contains after.free q → Contains mid.free q) → IsTaken before mid page → IsTaken before after page
taken_later {page = page} left t = record { was = t.was; gone = λ c. t.gone (left page c) }

pub taken_earlier : {before mid after : FreePages} {page : ℕ} → ((q : ℕ) → Contains mid.free q → Contains before.free q) → IsTaken mid after page → IsTaken before after page
taken_earlier {page = page} left t = record { was = left page t.was; gone = t.gone }

pub grown_none : (img : List ℕ) (wants : List Want) (frames : FreePages) → AreTables img → Grown img img wants frames frames
grown_none img wants frames tables =
    record {
      tables = tables;
      walks = λ d x le ne. refl;
      cells = λ d x le not. refl;
      fresh = λ d x le none ne. absurd (ne none);
      bytes = λ v lt. refl;
      low = λ w lt. refl;
      rest = λ w nt ng. refl;
      size = refl;
    }

pub grown_later : {a b : List ℕ} {wants : List Want} {before mid after : FreePages} → ((q : ℕ) → Contains after.free q → Contains mid.free q) → Grown a b wants before mid → Grown a b wants before after
grown_later left p =
    record {
      tables = p.tables;
      walks = p.walks;
      cells = p.cells;
      fresh = λ d x le none ne. taken_later left (p.fresh d x le none ne);
      bytes = p.bytes;
      low = p.low;
      rest = λ w nt ng. p.rest w (λ t. nt (taken_later left t)) ng;
      size = p.size;
    }

-- an entry that is 0 after a stretch was 0 before it, or lies on a page that was taken in it
pub gap_earlier : {a b : List ℕ} {wants : List Want} {before mid : FreePages} (w : ℕ) → Grown a b wants before mid → IsGap b wants w
    → (IsTaken before mid (w / 512) → ⊥) → (IsGap a wants w → ⊥) → ⊥
gap_earlier {a} {b} {wants} {before} {mid} w p gap not_taken not_gap =
    elim (cases_eq (page_at a gap.depth gap.number) 0) [
      | inl absent ↦
          let page : w / 512 ≡ page_at b gap.depth gap.number = omega (arith, gap.is, gap.small) in
          let few = gap.few in
          not_taken (subst (λ (q : ℕ). IsTaken before mid q) (sym page) (p.fresh gap.depth gap.number (omega arith) absent gap.there))
      | inr there ↦
          let few = gap.few in
          not_gap (record {
            depth = gap.depth;
            number = gap.number;
            index = gap.index;
            few = gap.few;
            small = gap.small;
            there = there;
            wanted = gap.wanted;
            is = gap.is ∙ ap (λ q. q * 512 + gap.index) (p.walks gap.depth gap.number (omega arith) there);
            none = sym (p.rest w not_taken not_gap) ∙ gap.none;
          })
    ]

pub grown_then : {a b c : List ℕ} {wants : List Want} {before mid after : FreePages} → ((q : ℕ) → Contains mid.free q → Contains before.free q) → ((q : ℕ) → Contains after.free q → Contains mid.free q)
    → Grown a b wants before mid → Grown b c wants mid after → Grown a c wants before after
grown_then {a} {b} {c} {wants} {before} {mid} {after} left more p q =
    record {
      tables = q.tables;
      walks = λ d x le ne. q.walks d x le (λ none. ne (sym (p.walks d x le ne) ∙ none)) ∙ p.walks d x le ne;
      cells = λ d x le not. q.cells d x le not ∙ p.cells d x le not;
      fresh = λ d x le none ne. elim (cases_eq (page_at b d x) 0) [
        | inl absent ↦ taken_earlier left (q.fresh d x le absent ne)
        | inr there ↦ subst (λ (k : ℕ). IsTaken before after k) (sym (q.walks d x le there)) (taken_later more (p.fresh d x le none there))
      ];
      bytes = λ v lt. q.bytes v lt ∙ p.bytes v lt;
      low = λ w lt. q.low w lt ∙ p.low w lt;
      rest = λ w nt ng.
          let was = λ (t : IsTaken before mid (w / 512)). nt (taken_later more t) in
          q.rest w (λ t. nt (taken_earlier left t)) (λ gap. gap_earlier w p gap was ng) ∙ p.rest w was ng;
      size = q.size ∙ p.size;
    }

-- both out of the same pages
pub grown_both : {a b c : List ℕ} {wants : List Want} {before after : FreePages} → Grown a b wants before after → Grown b c wants before after → Grown a c wants before after
grown_both {a} {b} {c} {wants} {before} {after} p q =
    record {
      tables = q.tables;
      walks = λ d x le ne. q.walks d x le (λ none. ne (sym (p.walks d x le ne) ∙ none)) ∙ p.walks d x le ne;
      cells = λ d x le not. q.cells d x le not ∙ p.cells d x le not;
      fresh = λ d x le none ne. elim (cases_eq (page_at b d x) 0) [
        | inl absent ↦ q.fresh d x le absent ne
        | inr there ↦ subst (λ (k : ℕ). IsTaken before after k) (sym (q.walks d x le there)) (p.fresh d x le none there)
      ];
      bytes = λ v lt. q.bytes v lt ∙ p.bytes v lt;
      low = λ w lt. q.low w lt ∙ p.low w lt;
      rest = λ w nt ng. q.rest w nt (λ gap. gap_earlier w p gap nt ng) ∙ p.rest w nt ng;
      size = q.size ∙ p.size;
    }

may_later : {a : List ℕ} {wants : List Want} {before mid after : FreePages} (w : ℕ) → ((q : ℕ) → Contains after.free q → Contains mid.free q) → MayGrow a wants before mid w → MayGrow a wants before after w
may_later w left (inl t) = inl (taken_later left t)
may_later w left (inr gap) = inr gap

-- an entry that is 0 after a stretch was 0 before it
was_none : {a b : List ℕ} {wants : List Want} {before mid : FreePages} (w : ℕ) → AreTables a → Grown a b wants before mid → (gap : IsGap b wants w) → page_at a gap.depth gap.number ≢ 0 → word a w ≡ 0
was_none {a} {b} w tables p gap there =
    let d = gap.depth in
    let x = gap.number in
    let i = gap.index in
    let few = gap.few in
    let table : page_at b d x ≡ page_at a d x = p.walks d x (omega arith) there in
    let at : w ≡ page_at a d x * 512 + i = gap.is ∙ ap (λ q. q * 512 + i) table in
    elim (cases_eq (word a w) 0) [
      | inl none ↦ none
      | inr ne ↦
          let named : next a (page_at a d x) i ≢ 0 = λ none. ne (ap (word a) at ∙ tables.entries d x i few gap.small there none) in
          let cell : page_at a (suc d) (x * 512 + i) ≢ 0 = λ none. named (sym (page_at-entry a d x i gap.small) ∙ none) in
          let still : next b (page_at b d x) i ≢ 0 = λ none. cell (sym (p.walks (suc d) (x * 512 + i) (omega arith) cell) ∙ page_at-entry b d x i gap.small ∙ none) in
          absurd (still (next-at b (page_at b d x) i gap.there ∙ ap (λ k. named_page (page_count b) k) (ap (word b) (sym gap.is) ∙ gap.none) ∙ named_page-zero (page_count b)))
    ]

may_earlier : {a b : List ℕ} {wants : List Want} {before mid after : FreePages} (w : ℕ) → AreTables a → ((q : ℕ) → Contains mid.free q → Contains before.free q) → ((q : ℕ) → Contains after.free q → Contains mid.free q)
    → Grown a b wants before mid → MayGrow b wants mid after w → MayGrow a wants before after w
may_earlier w tables left more p (inl t) = inl (taken_earlier left t)
may_earlier {a} {b} {wants} {before} {mid} {after} w tables left more p (inr gap) =
    elim (cases_eq (page_at a gap.depth gap.number) 0) [
      | inl absent ↦
          let page : w / 512 ≡ page_at b gap.depth gap.number = omega (arith, gap.is, gap.small) in
          let few = gap.few in
          inl (subst (λ (q : ℕ). IsTaken before after q) (sym page) (taken_later more (p.fresh gap.depth gap.number (omega arith) absent gap.there)))
      | inr there ↦
          let few = gap.few in
          inr (record {
            depth = gap.depth;
            number = gap.number;
            index = gap.index;
            few = gap.few;
            small = gap.small;
            there = there;
            wanted = gap.wanted;
            is = gap.is ∙ ap (λ q. q * 512 + gap.index) (p.walks gap.depth gap.number (omega arith) there);
            none = was_none w tables p gap there;
          })
    ]

pub only_words : (told : Option History) (words : List ℕ) → Replays told words → NothingPending told → LeavesOnly told told (λ image. image ≡ words)
only_words None words replays settled = started None (λ image. image ≡ words) tt
only_words (Some h) words replays settled = started (Some h) (λ image. image ≡ words) (λ image allowed. settled image allowed ∙ sym replays)

pub extends_none : (wants : List Want) (img : List ℕ) (told : Option History) (frames : FreePages) → AreTables img → Replays told img → Extends wants img img told told frames frames
extends_none wants img told frames tables replays =
    record {
      grown = grown_none img wants frames tables;
      images = λ settled. weaker (λ image. Grown img image wants frames frames)
          (λ image is. subst (λ (l : List ℕ). Grown img l wants frames frames) (sym is) (grown_none img wants frames tables)) (only_words told img replays settled);
      made = makes_none (λ at put. MayGrow img wants frames frames at) told;
      left = λ q c. c;
    }

-- one stretch after another, where the first left nothing pending
pub extends_then : {wants : List Want} {a b c : List ℕ} {told mid now : Option History} {before then after : FreePages} → AreTables a → Extends wants a b told mid before then → (NothingPending told → NothingPending mid)
    → Extends wants b c mid now then after → Extends wants a c told now before after
extends_then {wants} {a} {b} {c} {told} {mid} {now} {before} {then} {after} tables p settled q =
    record {
      grown = grown_then p.left q.left p.grown q.grown;
      images = λ quiet. and_then
          (weaker (λ image. Grown a image wants before after) (λ image g. grown_later q.left g) (p.images quiet))
          (weaker (λ image. Grown a image wants before after) (λ image g. grown_then p.left q.left p.grown g) (q.images (settled quiet)));
      made = makes_then
          (makes_weaker (λ at put. MayGrow a wants before after at) (λ w value m. may_later w q.left m) p.made)
          (makes_weaker (λ at put. MayGrow a wants before after at) (λ w value m. may_earlier w tables p.left q.left p.grown m) q.made);
      left = λ x in_after. p.left x (q.left x in_after);
    }

pub done_none : (wants : List Want) (img : List ℕ) (told : Option History) (frames : FreePages) → Agrees img frames → IsDone wants img img told told frames frames
done_none wants img told frames agrees = record { agrees = agrees; taken = refl; settled = λ s. s }

pub done_then : {wants : List Want} {a b c : List ℕ} {told mid now : Option History} {before then after : FreePages} → IsDone wants a b told mid before then → IsDone wants b c mid now then after
    → IsDone wants a c told now before after
done_then p q = record { agrees = q.agrees; taken = omega (arith, p.taken, q.taken); settled = λ s. q.settled (p.settled s) }
