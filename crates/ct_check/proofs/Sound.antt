-- What the four levels say of the rules.
use Rattle.std.proofs.Common.{◌≡◌, ◌≢◌, ℕ, zero, suc, ◌+◌, ◌-◌, ◌*◌, ◌/◌, ◌%◌, ◌^◌, ◌<◌, ◌≤◌, Bool, true, false, List, length, refl, sym, ap, ◌∙◌, subst, inl, inr, arith}
use Rattle.std.specs.Prelude.{Contains, ◌↔◌}
use Rattle.std.proofs.lemmas.Bool.{cases_Bool, cases_lt, both_ways}
use Rattle.ct_base.specs.Free.{IsFreePage}
use Rattle.ct_base.specs.Rules.{entries, once, HoldsAt, FailsFirst, IsSeen}
use Rattle.ct_base.specs.Walk.{word, page_count, page_at, next, AreTables, IsFresh}
use Rattle.ct_frames.specs.Agrees.{Agrees}
use Rattle.ct_frames.specs.Free.{FreePages}
use Rattle.ct_image.proofs.Steps.{page_at-entry, next-bounds}
use Rattle.ct_state.proofs.Whole.{seen_from, down, cell_seen}
use Rattle.ct_marks.specs.Marks.{is_marked}
use Rattle.ct_check.specs.Reading.{slot_of, IsTwice, IsBad, Walked}
use Rattle.ct_check.specs.Rules.{HasNoStaging, HoldBelow}
use Rattle.ct_check.proofs.Order.{below_first, below_more}
use Rattle.ct_placing.proofs.Collecting.{parent_there}

-- all levels were read
module _ {img pages : List ℕ} {twice : Bool} (w : Walked img 4 0 pages twice) where
  pub entries_all : (d x i : ℕ) → d ≤ 3 → i < 512 → page_at img d x ≢ 0 → next img (page_at img d x) i ≡ 0 → word img (page_at img d x * 512 + i) ≡ 0
  entries_all d x i deep low there none =
      let q : (x * 512 + i) / 512 ≡ x = omega arith in
      let r : (x * 512 + i) % 512 ≡ i = omega arith in
      let at : slot_of img d (x * 512 + i) ≡ page_at img d x * 512 + i = ap (λ k. page_at img d k * 512 + (x * 512 + i) % 512) q ∙ ap (λ k. page_at img d x * 512 + k) r in
      ap (word img) (sym at)
      ∙ w.good d (x * 512 + i) (inl (omega arith)) (λ gone. there (ap (page_at img d) (sym q) ∙ gone)) (page_at-entry img d x i low ∙ none)

  pub marked_all : (d x : ℕ) → d ≤ 3 → page_at img (suc d) x ≢ 0 → is_marked pages (page_at img (suc d) x) ≡ true
  marked_all d x deep there = w.all d x (inl (omega arith)) there

-- no page was met twice
module _ {img pages : List ℕ} (w : Walked img 4 0 pages false) where
  pub once_all : (d x e y : ℕ) → d ≤ 4 → e ≤ 4 → page_at img d x ≢ 0 → page_at img d x ≡ page_at img e y → (d ≡ e) × (x ≡ y)
  unfolding page_at
  once_all zero zero zero zero dl el there same = (refl, refl)
  once_all zero zero zero (suc y) dl el there same = absurd (omega (arith, same))
  once_all zero zero (suc e) y dl el there same = absurd (omega (arith, same, next-bounds img (page_at img e (y / 512)) (y % 512) (λ none. omega (arith, same, none))))
  once_all zero (suc x) e y dl el there same = absurd (there refl)
  once_all (suc d) x zero zero dl el there same = absurd (omega (arith, same, next-bounds img (page_at img d (x / 512)) (x % 512) there))
  once_all (suc d) x zero (suc y) dl el there same = absurd (there same)
  once_all (suc d) x (suc e) y dl el there same =
      let both = w.once refl d x e y (inl (omega arith)) (inl (omega arith)) there same in
      let table : page_at img d (x / 512) ≡ page_at img e (y / 512) = omega (arith, both.1) in
      let up = once_all d (x / 512) e (y / 512) (omega arith) (omega arith) (parent_there img d x there) table in
      (omega (arith, both.0), omega (arith, both.1, table, up.1))

  pub tables_all : 34 ≤ page_count img → 512 * page_count img ≤ length img → AreTables img
  tables_all some fits = record { some = some; there = fits; entries = entries_all w; once = once_all }

-- a page without a mark has no cell
fresh_all : {img pages : List ℕ} {twice : Bool} → Walked img 4 0 pages twice → (q : ℕ) → (34 ≤ q) × (q < page_count img) × (is_marked pages q ≡ false) → IsFresh img q
unfolding page_at
fresh_all {img} {pages} w q is zero zero few at = omega (arith, is.0, at)
fresh_all {img} {pages} w q is zero (suc x) few at = omega (arith, is.0, at)
fresh_all {img} {pages} w q is (suc d) x few at = both_ways _ is.2 (ap (is_marked pages) (sym at) ∙ marked_all w d x (omega arith) (λ none. omega (arith, is.0, at, none)))

-- the free pages are those without a mark
pub frames_all : {img pages : List ℕ} {twice : Bool} (frames : FreePages) → Walked img 4 0 pages twice → frames.pages ≡ page_count img
    → ((q : ℕ) → Contains frames.free q ↔ ((34 ≤ q) × (q < page_count img) × (is_marked pages q ≡ false))) → Agrees img frames
frames_all {img} {pages} frames w size free = record {
  pages = size;
  free = λ q has. fresh_all w q ((free q).0 has);
  all = λ q low high. elim (cases_Bool (is_marked pages q)) [
    | inl on ↦ let m = w.from q on in inr (record { depth = suc m.depth; number = m.cell; few = elim m.read [ inl above ↦ omega arith | inr here ↦ absurd (omega (arith, here.1)) ]; is = m.is })
    | inr off ↦ inl ((free q).1 (low, high, off))
  ];
}

-- and they are those that may be taken
pub frames_free : {img pages : List ℕ} {twice : Bool} (frames : FreePages) → Walked img 4 0 pages twice → HasNoStaging img
    → ((q : ℕ) → Contains frames.free q ↔ ((34 ≤ q) × (q < page_count img) × (is_marked pages q ≡ false))) → (q : ℕ) → Contains frames.free q ↔ IsFreePage img q
frames_free {img} {pages} frames w none free q = (
  λ has. let is = (free q).0 has in record { from = is.0; to = is.1; free = λ used. fresh_all w q is used.depth used.number used.to used.is },
  λ f. (free q).1 (
    f.from,
    f.to,
    elim (cases_Bool (is_marked pages q)) [
      | inl on ↦
          let m = w.from q on in
          let few : suc m.depth ≤ 4 = elim m.read [ inl above ↦ omega arith | inr here ↦ absurd (omega (arith, here.1)) ] in
          absurd (f.free (record {
            depth = suc m.depth;
            number = m.cell;
            from = omega arith;
            to = few;
            seen = cell_seen img none (suc m.depth) m.cell few (λ z. m.there (sym m.is ∙ z));
            is = m.is;
          }))
      | inr off ↦ off
    ],
  ),
)

-- the rules
pub entries_hold : (img : List ℕ) → {pages : List ℕ} {twice : Bool} → Walked img 4 0 pages twice → HoldsAt img entries
entries_hold img w = λ d x i deep low seen there none. entries_all w d x i deep low there none

module _ (img : List ℕ) (none : HasNoStaging img) where
  -- what is met does not lie in staging
  entry_seen : (d x i : ℕ) → d ≤ 3 → i < 512 → page_at img d x ≢ 0 → word img (page_at img d x * 512 + i) ≢ 0 → IsSeen (suc d) (x * 512 + i)
  unfolding page_at
  entry_seen zero zero i deep low there set = seen_from ((0 * 512 + i) * (4096 * 512 ^ 3)) (omega arith) (elim (cases_lt i 2) [
    | inl one ↦ inl (omega arith)
    | inr two ↦ elim (cases_lt i 10) [
      | inl staged ↦ absurd (set (ap (word img) (omega arith) ∙ none (i - 2) (omega arith)))
      | inr ten ↦ inr (omega arith)
    ]
  ])
  entry_seen zero (suc x) i deep low there set = absurd (there refl)
  entry_seen (suc d) x i deep low there set =
      let up : (x * 512 + i) / 512 ≡ x = omega arith in
      down (suc d) (x * 512 + i) (omega arith) deep (subst (IsSeen (suc d)) (sym up) (cell_seen img none (suc d) x (omega arith) there))

  pub bad_fails : IsBad img → FailsFirst img entries
  bad_fails b = record {
    fails = λ holds. b.set (holds b.depth b.cell b.entry b.deep b.low (entry_seen b.depth b.cell b.entry b.deep b.low b.there b.set) b.there b.none);
    before = below_first img;
  }

  pub twice_fails : HoldsAt img entries → IsTwice img → FailsFirst img once
  twice_fails stands t = record {
    fails = λ holds.
        let same = holds t.depth t.cell t.depth_too t.cell_too t.deep t.deep_too (cell_seen img none t.depth t.cell t.deep t.there)
        (cell_seen img none t.depth_too t.cell_too t.deep_too (λ gone. t.there (t.same ∙ gone))) t.there t.same in
        t.apart same.0 same.1;
    before = below_more img entries refl (below_first img) stands;
  }

-- where neither fails
pub both_hold : {img : List ℕ} → AreTables img → HoldBelow img 10
both_hold {img} tables = below_more img once refl
    (below_more img entries refl (below_first img) (λ d x i deep low seen there none. tables.entries d x i deep low there none))
    (λ d x e y deep deep_too seen seen_too there same. tables.once d x e y deep deep_too there same)
