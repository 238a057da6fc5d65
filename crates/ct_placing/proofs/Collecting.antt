-- Partitions collected by rising number of their inodes, put in order, and what is mapped beside them.
use Rattle.std.proofs.Common.{◌≡◌, ◌≢◌, ℕ, zero, suc, ◌+◌, ◌-◌, ◌*◌, ◌/◌, ◌%◌, ◌^◌, ◌<◌, ◌≤◌, List, [], ◌∷◌, ◌++◌, length, get_or, length-append, refl, sym, ap, ◌∙◌, inl, inr, arith}
use Rattle.std.proofs.Math.Nat.{one-le-pow}
use Rattle.std.specs.List.Sorted.{IsNonDecreasingBy, IsPermutation}
use Rattle.std.proofs.lemmas.Bool.{cases_eq, cases_lt, ne_eqb, eqb-false}
use Rattle.std.proofs.lemmas.List.{get_or_append_left, get_or_push, get_or_default}
use Rattle.std.proofs.lemmas.List.Elements.{All-push, All-weaker, Contains-push, Contains-append_left, at_from_Contains}
use Rattle.std.proofs.lemmas.List.Sorted.{All-permutation, Contains-permutation}
use Rattle.std.proofs.lemmas.Map.Keys.{IsDistinct-from_apart, IsDistinct-IsPermutation, apart_from_distinct}
use Rattle.ct_base.specs.Inode.{inode, part_bytes, part_end, IsIn}
use Rattle.ct_base.specs.Rules.{ArePartsApart, ArePlaced, HasRoom, IsMappedInParts, Owns, part_of}
use Rattle.ct_base.specs.Walk.{next, page_at}
use Rattle.ct_image.proofs.Steps.{next-zero, page_at-next}
use Rattle.ct_dir.proofs.Held.{part_bounds}
use Rattle.ct_placing.specs.declared.extent.Extent.{Extent}
use Rattle.ct_placing.specs.Extents.{AreExtents, AreInOrder, Collects, IsExtent, same_inode}

-- a cell with a page has a table above it
pub parent_there : (img : List ℕ) (e y : ℕ) → page_at img (suc e) y ≢ 0 → page_at img e (y / 512) ≢ 0
parent_there img e y ne none = ne (page_at-next img e y ∙ ap (λ t. next img t (y % 512)) none ∙ next-zero img (y % 512))

pub collect_push : {b : ℕ → ℕ} {count n : ℕ} {xs : List Extent} → Collects b count n xs → (e : Extent) → IsExtent b count e → e.inode ≡ n → Collects b count (n + 1) (xs ++ e ∷ [])
collect_push {b} {count} {n} {xs} c e x is = record {
  each = All-push (IsExtent b count) xs e c.each x;
  low = All-push (λ f. f.inode < n + 1) xs e (All-weaker (λ f. f.inode < n) (λ f. f.inode < n + 1) (λ f lt. omega arith) xs c.low) (omega arith);
  all = λ i owns lt. elim (cases_eq i n) [
    | inl same ↦ record { extent = e; has = Contains-push xs e; is = is ∙ sym same }
    | inr other ↦ let h = c.all i owns (omega arith) in record { extent = h.extent; has = Contains-append_left xs (e ∷ []) h.extent h.has; is = h.is }
  ];
  rises = λ i j d lt below.
      let size = length-append xs (e ∷ []) in
      elim (cases_lt j (length xs)) [
        | inl inside ↦
            let p = ap (λ (f : Extent). f.inode) (get_or_append_left xs (e ∷ []) d i (omega arith)) in
            let q = ap (λ (f : Extent). f.inode) (get_or_append_left xs (e ∷ []) d j inside) in
            omega (arith, p, q, c.rises i j d lt inside)
        | inr past ↦
            let p = ap (λ (f : Extent). f.inode) (get_or_append_left xs (e ∷ []) d i (omega (arith, size, below))) in
            let q = ap (λ (f : Extent). f.inode) (get_or_push xs e d j (omega (arith, size, below))) in
            omega (arith, p, q, is, c.low i d (omega (arith, size, below)))
      ];
}

pub collect_all : {b : ℕ → ℕ} {count n : ℕ} {xs : List Extent} → Collects b count n xs → n ≡ count + 1 → AreExtents b count xs
collect_all {b} {count} {n} {xs} c end = record {
  each = c.each;
  all = λ i owns. c.all i owns (omega (arith, end, owns.live.number.to));
  once = IsDistinct-from_apart same_inode xs (λ i j d lt below. ne_eqb _ _ (λ same. omega (arith, same, c.rises i j d lt below)));
}

flips : (x y : Extent) → same_inode x y ≡ same_inode y x
flips x y = elim (cases_eq x.inode y.inode) [
  | inl same ↦ ap (λ k. same_inode (record x { inode = k }) y) same ∙ sym (ap (λ k. same_inode y (record x { inode = k })) same)
  | inr other ↦ ne_eqb _ _ other ∙ sym (ne_eqb _ _ (λ e. other (sym e)))
]

-- the order does not matter
pub extents_moved : {b : ℕ → ℕ} {count : ℕ} (xs ys : List Extent) → IsPermutation xs ys → AreExtents b count xs → AreExtents b count ys
extents_moved {b} {count} xs ys moved es = record {
  each = All-permutation (IsExtent b count) xs ys moved es.each;
  all = λ i owns. let h = es.all i owns in record { extent = h.extent; has = Contains-permutation xs ys h.extent moved h.has; is = h.is };
  once = IsDistinct-IsPermutation same_inode flips xs ys moved es.once;
}

bytes_some : (level : ℕ) → 4096 ≤ part_bytes level
bytes_some level = let one = one-le-pow level 8 (omega arith) in omega arith

module _ {b : ℕ → ℕ} {count : ℕ} {xs : List Extent} (es : AreExtents b count xs) where
  extent_some : (k : ℕ) (d : Extent) → k < length xs → (get_or xs k d).base < (get_or xs k d).end
  extent_some k d lt =
      let e = es.each k d lt in
      let some = bytes_some (inode b (get_or xs k d).inode).level in
      omega (arith, e.base, e.end)

  -- an extent ends where any later one begins, or before
  ends_before : AreInOrder xs → (gap k : ℕ) (d : Extent) → k + suc gap < length xs → (get_or xs k d).end ≤ (get_or xs (k + suc gap) d).base
  ends_before order zero k d lt = order k d lt
  ends_before order (suc gap) k d lt =
      let first = ends_before order gap k d (omega arith) in
      let some = extent_some (k + suc gap) d (omega arith) in
      let next = order (k + suc gap) d (omega arith) in
      let at : k + suc gap + 1 ≡ k + suc (suc gap) = omega arith in
      let same = ap (λ j. (get_or xs j d).base) at in
      omega (arith, first, some, next, same)

  pub before : AreInOrder xs → (j k : ℕ) (d : Extent) → j < k → k < length xs → (get_or xs j d).end ≤ (get_or xs k d).base
  before order j k d lt below =
      let at : j + suc (k - suc j) ≡ k = omega arith in
      let first = ends_before order (k - suc j) j d (omega arith) in
      let same = ap (λ i. (get_or xs i d).base) at in
      omega (arith, first, same)

  -- the extent of an inode has a place in the list
  record IsPlace (i : ℕ) : Type 0 where
    index : ℕ
    low : index < length xs
    is : (d : Extent) → (get_or xs index d).inode ≡ i
    base : (d : Extent) → (get_or xs index d).base ≡ (part_of b i).base
    end : (d : Extent) → (get_or xs index d).end ≡ part_end (part_of b i)

  place : (i : ℕ) → Owns b count i → IsPlace i
  place i owns =
      let h = es.all i owns in
      let p = at_from_Contains xs h.extent h.has in
      let is : (d : Extent) → (get_or xs p.0 d).inode ≡ i = λ d. ap (λ (e : Extent). e.inode) (p.2 d) ∙ h.is in
      record {
        index = p.0;
        low = p.1;
        is = is;
        base = λ d. (es.each p.0 d p.1).base ∙ ap (λ k. (inode b k).base) (is d);
        end = λ d. (es.each p.0 d p.1).end ∙ ap (λ k. part_end (part_of b k)) (is d);
      }

  pub in_order_apart : AreInOrder xs → ArePartsApart b count
  in_order_apart order i j oi oj ne =
      let p = place i oi in
      let q = place j oj in
      let d : Extent = record { base = 0; end = 0; inode = 0 } in
      elim (cases_lt p.index q.index) [
        | inl lt ↦ inl (omega (arith, before order p.index q.index d lt q.low, p.end d, q.base d))
        | inr ge ↦ elim (cases_eq p.index q.index) [
          | inl same ↦ absurd (ne (sym (p.is d) ∙ ap (λ k. (get_or xs k d).inode) same ∙ q.is d))
          | inr other ↦ inr (omega (arith, before order q.index p.index d (omega arith) p.low, q.end d, p.base d))
        ]
      ]

  pub apart_in_order : IsNonDecreasingBy (λ e. e.base) xs → ArePartsApart b count → AreInOrder xs
  apart_in_order sorted apart k d lt =
      let x = get_or xs k d in
      let y = get_or xs (k + 1) d in
      let ex = es.each k d (omega arith) in
      let ey = es.each (k + 1) d lt in
      let up = sorted k (k + 1) d (omega arith) lt in
      let ne : x.inode ≢ y.inode = eqb-false _ _ (apart_from_distinct same_inode xs k (k + 1) d es.once (omega arith) lt) in
      elim (apart x.inode y.inode ex.owns ey.owns ne) [
        | inl first ↦ omega (arith, first, ex.end, ey.base)
        | inr second ↦ let some = bytes_some (inode b y.inode).level in absurd (omega (arith, second, some, up, ex.base, ey.base, ey.end))
      ]

-- a page lies in the range of its number
pub cell_low : (img : List ℕ) (d x : ℕ) → page_at img d x ≢ 0 → x < 512 ^ d
unfolding page_at
cell_low img zero zero there = omega arith
cell_low img zero (suc x) there = absurd (there refl)
cell_low img (suc d) x there = let up = cell_low img d (x / 512) (parent_there img d x there) in omega arith

pub room_of : {b : ℕ → ℕ} {count i : ℕ} → ArePlaced b count → Owns b count i → HasRoom (inode b i)
room_of {b} {count} {i} placed owns = elim (placed i owns.live).place [
  | inl none ↦ absurd (omega (arith, none.level, owns.level))
  | inr room ↦ room
]

-- the first k extents were passed, and the virtual pages up to one
pub record Passes (img : List ℕ) (b : ℕ → ℕ) (count : ℕ) (xs : List Extent) (k page : ℕ) : Type 0 where
  pub low : 1342177280 ≤ page
  pub done : (p : ℕ) → 1342177280 ≤ p → p < page → ((i : ℕ) → Owns b count i → IsIn (part_of b i) (p * 4096) → ⊥) → page_at img 4 p ≡ 0
  pub behind : (j : ℕ) (d : Extent) → j < k → j < length xs → (get_or xs j d).end ≤ page * 4096
  pub ahead : (j : ℕ) (d : Extent) → k ≤ j → j < length xs → page * 4096 ≤ (get_or xs j d).base

module _ (img : List ℕ) {b : ℕ → ℕ} {count : ℕ} {xs : List Extent} (es : AreExtents b count xs) (placed : ArePlaced b count) where
  -- where an extent lies
  record IsWhole (e : Extent) : Type 0 where
    low : 5497558138880 ≤ e.base
    base : e.base % 4096 ≡ 0
    end : e.end % 4096 ≡ 0
    some : e.base < e.end
    high : e.end ≤ 281474976710656

  whole : (k : ℕ) (d : Extent) → k < length xs → IsWhole (get_or xs k d)
  whole k d lt =
      let e = es.each k d lt in
      let f = inode b (get_or xs k d).inode in
      let room = room_of placed e.owns in
      let bounds = part_bounds f.level f.base room.part.level room.part.aligned room.part.high in
      let some = bytes_some f.level in
      record {
        low = omega (arith, e.base, room.part.low);
        base = omega (arith, e.base, bounds.0);
        end = omega (arith, e.end, bounds.0);
        some = omega (arith, e.base, e.end, some);
        high = omega (arith, e.end, bounds.1);
      }

  pub pass_more : AreInOrder xs → (k : ℕ) (d : Extent) → k < length xs → {page : ℕ} → Passes img b count xs k page
      → ((p : ℕ) → page ≤ p → p < (get_or xs k d).base / 4096 → page_at img 4 p ≡ 0) → Passes img b count xs (k + 1) ((get_or xs k d).end / 4096)
  pass_more order k d lt {page} p absent =
      let w = whole k d lt in
      let e = es.each k d lt in
      let here = p.ahead k d (omega arith) lt in
      record {
        low = omega (arith, p.low, here, w.some, w.end);
        done = λ q from to none. elim (cases_lt q page) [
          | inl old ↦ p.done q from old none
          | inr new ↦ elim (cases_lt q ((get_or xs k d).base / 4096)) [
            | inl gap ↦ absent q new gap
            | inr inside ↦ absurd (none (get_or xs k d).inode e.owns (record { from = omega (arith, w.base, e.base); to = omega (arith, w.end, e.end) }))
          ]
        ];
        behind = λ j f below low. elim (cases_eq j k) [
          | inl same ↦
              let at = ap (λ i. (get_or xs i f).end) same in
              let wf = whole k f lt in
              let ef = same_extent k f d lt in
              omega (arith, at, ef, w.end)
          | inr other ↦ omega (arith, p.behind j f (omega arith) low, here, w.some, w.end)
        ];
        ahead = λ j f le low. let first = before es order k j f (omega arith) low in let ef = same_extent k f d lt in omega (arith, first, ef, w.end);
      }
    where
      same_extent : (k : ℕ) (f d : Extent) → k < length xs → (get_or xs k f).end ≡ (get_or xs k d).end
      same_extent k f d lt = ap (λ (e : Extent). e.end) (get_or_default xs k f d lt)

  -- what is mapped in a gap is not mapped in a partition
  pub gap_absent : {k page : ℕ} → Passes img b count xs k page → (bound : ℕ) → ((j : ℕ) (d : Extent) → k ≤ j → j < length xs → bound * 4096 ≤ (get_or xs j d).base)
      → IsMappedInParts img b count → (p : ℕ) → page ≤ p → p < bound → page_at img 4 p ≡ 0
  gap_absent {k} {page} ps bound later mapped p from to = mapped p (omega (arith, ps.low)) (λ i owns inside.
      let q = place es i owns in
      let d : Extent = record { base = 0; end = 0; inode = 0 } in
      elim (cases_lt q.index k) [
        | inl old ↦ omega (arith, ps.behind q.index d old q.low, q.end d, inside.to)
        | inr new ↦ omega (arith, later q.index d new q.low, q.base d, inside.from)
      ])

  -- up to the base of an extent, and past the last one
  pub gap_before : AreInOrder xs → {k page : ℕ} → Passes img b count xs k page → (d : Extent) → k < length xs → IsMappedInParts img b count
      → (p : ℕ) → page ≤ p → p < (get_or xs k d).base / 4096 → page_at img 4 p ≡ 0
  gap_before order {k} {page} ps d lt mapped p from to = gap_absent ps ((get_or xs k d).base / 4096) (λ j f le low. elim (cases_eq j k) [
    | inl same ↦ let at = ap (λ (e : Extent). e.base) (ap (λ i. get_or xs i f) same ∙ get_or_default xs k f d lt) in omega (arith, at)
    | inr other ↦ let first = before es order k j d (omega arith) low in let at = ap (λ (e : Extent). e.base) (get_or_default xs j f d low) in omega (arith, at, first, (whole k d lt).some)
  ]) mapped p from to

  pub gap_after : {k page : ℕ} → Passes img b count xs k page → length xs ≤ k → IsMappedInParts img b count → (p : ℕ) → page ≤ p → p < 68719476736 → page_at img 4 p ≡ 0
  gap_after ps all mapped p from to = gap_absent ps 68719476736 (λ j d le low. absurd (omega arith)) mapped p from to

  pub pass_end : {k page : ℕ} → Passes img b count xs k page → ((p : ℕ) → page ≤ p → p < 68719476736 → page_at img 4 p ≡ 0) → IsMappedInParts img b count
  pass_end {k} {page} ps absent p from none = elim (cases_lt p page) [
    | inl old ↦ ps.done p from old none
    | inr new ↦ elim (cases_lt p 68719476736) [
      | inl low ↦ absent p new low
      | inr high ↦ elim (cases_eq (page_at img 4 p) 0) [
        | inl gone ↦ gone
        | inr there ↦ absurd (omega (arith, cell_low img 4 p there))
      ]
    ]
  ]
