-- The lowest free pages are linked to the cells that are missing at a depth, one after another under one fence.
use Rattle.std.proofs.Common.{◌≡◌, ◌≢◌, ℕ, suc, ◌+◌, ◌-◌, ◌*◌, ◌/◌, ◌%◌, ◌^◌, ◌<◌, ◌≤◌, true, List, ◌∷◌, length, set, drop, refl, sym, ap, subst, ◌∙◌, ◌⊎◌, inl, inr, arith}
use Rattle.std.specs.Prelude.{Contains, Option, Result, Ok, OnOk}
use Rattle.std.proofs.lemmas.Bool.{cases_eq, cases_lt, cases_Bool, both_ways, and_left, and_right, ne_eqb}
use Rattle.std.proofs.lemmas.List.{get_or-set_same, get_or-set_other, length-set, length-drop}
use Rattle.ct_base.specs.Walk.{word, page_at, page_count, next, IsFresh, IsReached, AreTables}
use Rattle.ct_base.specs.Wants.{Want, is_wanted, missing_at, missing}
use Rattle.ct_image.proofs.Steps.{page_at-next, page_at-low, page_at-high}
use Rattle.ct_image.proofs.Link.{Links, link_at, linked, stays, tables_new, view_stays, fresh_stays}
use Rattle.ct_image.proofs.MissingLess.{count_below-none, missing_less, missing_link}
use Rattle.ct_frames.specs.Free.{FreePages, from_on}
use Rattle.ct_frames.specs.Agrees.{Agrees}
use Rattle.ct_pm.specs.declared.step.Step.TheVariants.{Store, Flush, Fence}
use Rattle.ct_pm.specs.Images.{History}
use Rattle.ct_pm.specs.Device.{AddsStep, LeavesOnly, MakesOnly, NothingPending, WrittenBack, SameOff}
use Rattle.ct_pm.proofs.Fence.{settled_by_fence}
use Rattle.ct_pm.proofs.Made.{makes_none, makes_step, makes_weaker}
use Rattle.ct_pm.proofs.OneWord.{Replays, on_device}
use Rattle.ct_pm.proofs.Quiet.{back_store, back_flush, back_flushed}
use Rattle.ct_pm.proofs.Told.{stored, flushed, weaker}
use Rattle.ct_walk.specs.Growth.{IsTaken, IsGap, Grown, MayGrow, Extends, IsDone}
use Rattle.ct_walk.specs.Depths.{without_lowest, AreZeros, HaveTables}
use Rattle.ct_walk.specs.Runs.{IsMissing, NoneMissing}
use Rattle.ct_walk.proofs.Grows.{grown_both, only_words}
use Rattle.ct_walk.proofs.Lowest.{Reach, reach_start, reach_next, number_next, page_left, left_parts, left_other, page_taken, dropped_less}
use Rattle.ct_walk.proofs.Zeros.{on_ok_if}

-- Of the missing cells of depth d + 1 some are linked, all of them linked as the words read now. The pages left are still to be linked.
pub record Partly (old now image : List ℕ) (wants : List Want) (before after : FreePages) (d : ℕ) (left : List ℕ) : Type 0 where
  pub grown : Grown old image wants before after
  pub fewer : (y : ℕ) → page_at now (suc d) y ≡ 0 → page_at image (suc d) y ≡ 0
  pub fresh : (q : ℕ) → Contains left q → IsFresh image q
  pub zeros : AreZeros image before after
  pub same : (w : ℕ) → word now w ≡ word old w → word image w ≡ word old w

-- Cell x is the next one that is missing, w the word of its entry, and p the next page.
pub record Joins (old now : List ℕ) (wants : List Want) (before after : FreePages) (d : ℕ) (left rest : List ℕ) (x w p : ℕ) : Type 0 where
  pub tables : AreTables old
  pub whole : Partly old now now wants before after d left
  pub deep : d ≤ 3
  pub table : page_at old d (x / 512) ≢ 0
  pub wanted : is_wanted wants (suc d) x ≡ true
  pub absent : page_at now (suc d) x ≡ 0
  pub word_is : w ≡ page_at now d (x / 512) * 512 + x % 512
  pub taken : IsTaken before after p
  pub low : 34 ≤ p
  pub high : p < page_count old
  pub mine : Contains left p
  pub others : (q : ℕ) → Contains rest q → Contains left q × (q ≢ p)
  pub unused : (q : ℕ) → IsTaken before after q → IsFresh old q

module _ {old now : List ℕ} {wants : List Want} {before after : FreePages} {d : ℕ} {left rest : List ℕ} {x w p : ℕ} (j : Joins old now wants before after d left rest x w p) where
  cell_is : x / 512 * 512 + x % 512 ≡ x
  cell_is = omega arith

  table_in : (image : List ℕ) → Partly old now image wants before after d left → page_at image d (x / 512) ≡ page_at old d (x / 512)
  table_in image part = let deep = j.deep in part.grown.walks d (x / 512) (omega arith) j.table

  word_old : w ≡ page_at old d (x / 512) * 512 + x % 512
  word_old = j.word_is ∙ ap (λ t. t * 512 + x % 512) (table_in now j.whole)

  absent_old : page_at old (suc d) x ≡ 0
  absent_old = elim (cases_eq (page_at old (suc d) x) 0) [
    | inl none ↦ none
    | inr there ↦ let deep = j.deep in absurd (there (sym (j.whole.grown.walks (suc d) x (omega arith) there) ∙ j.absent))
  ]

  none_old : word old w ≡ 0
  none_old = ap (word old) word_old ∙ j.tables.entries d (x / 512) (x % 512) j.deep (omega arith) j.table (sym (page_at-next old d x) ∙ absent_old)

  pub gap : IsGap old wants w
  gap = record {
    depth = d;
    number = x / 512;
    index = x % 512;
    few = j.deep;
    small = omega arith;
    there = j.table;
    wanted = ap (is_wanted wants (suc d)) cell_is ∙ j.wanted;
    is = word_old;
    none = none_old;
  }

  -- the entry lies on no page that was taken
  off_taken : (v : ℕ) → IsTaken before after (v / 512) → v ≢ w
  off_taken v t is =
      let deep = j.deep in
      let page : page_at old d (x / 512) ≡ v / 512 = omega (arith, is, word_old) in
      j.unused (v / 512) t d (x / 512) (omega arith) page

  pub fits : w < length now
  fits =
      let tables = j.whole.grown.tables in
      omega (arith, j.word_is, page_at-high now d (x / 512) tables.some, tables.there)

  links : (image : List ℕ) → Partly old now image wants before after d left → Links image (set image w (p * 4096 + 1)) d (x / 512) (x % 512) p
  links image part =
      let value = p * 4096 + 1 in
      let table = table_in image part in
      let at : w ≡ page_at image d (x / 512) * 512 + x % 512 = word_old ∙ ap (λ t. t * 512 + x % 512) (sym table) in
      record {
        tables = part.grown.tables;
        depth = j.deep;
        index = omega arith;
        table = λ none. j.table (sym table ∙ none);
        absent = ap (page_at image (suc d)) cell_is ∙ part.fewer x j.absent;
        low = j.low;
        high = omega (arith, j.high, part.grown.low 2 (omega arith));
        fresh = part.fresh p j.mine;
        zeros = λ k lt. part.zeros (p * 512 + k) (let here : p ≡ (p * 512 + k) / 512 = omega arith in subst (λ (q : ℕ). IsTaken before after q) here j.taken);
        entry = ap (word (set image w value)) (sym at) ∙ get_or-set_same image w value 0 (omega (arith, fits, part.grown.size, j.whole.grown.size));
        others = λ k ne. get_or-set_other image w k value 0 (λ here. ne (here ∙ at));
        size = length-set image w value;
      }

  pub new_cell : page_at (set now w (p * 4096 + 1)) (suc d) x ≡ p
  new_cell = ap (page_at (set now w (p * 4096 + 1)) (suc d)) (sym cell_is) ∙ linked (links now j.whole)

  pub new_stays : (e y : ℕ) → e ≤ 4 → page_at now e y ≢ 0 → page_at (set now w (p * 4096 + 1)) e y ≡ page_at now e y
  new_stays e y le there = stays (links now j.whole) e y le there

  grown_link : (image : List ℕ) → (part : Partly old now image wants before after d left) → Grown image (set image w (p * 4096 + 1)) wants before after
  grown_link image part =
      let l = links image part in
      let at : w ≡ page_at image d (x / 512) * 512 + x % 512 = word_old ∙ ap (λ t. t * 512 + x % 512) (sym (table_in image part)) in
      record {
        tables = tables_new l;
        walks = stays l;
        cells = λ e y le not. elim (link_at l e y le) [
          | inl kept ↦ kept
          | inr cell ↦
              let it : is_wanted wants e y ≡ true = ap (λ k. is_wanted wants k y) cell.0 ∙ ap (is_wanted wants (suc d)) (cell.1 ∙ cell_is) ∙ j.wanted in
              absurd (both_ways _ not it)
        ];
        fresh = λ e y le none ne. elim (link_at l e y le) [
          | inl kept ↦ absurd (ne (kept ∙ none))
          | inr cell ↦ subst (λ (q : ℕ). IsTaken before after q) (sym cell.3) j.taken
        ];
        bytes = view_stays l;
        low = λ k lt. l.others k (λ here. omega (arith, here, page_at-low image d (x / 512) l.table));
        rest = λ k nt ng. l.others k (λ here. ng (gap_in image part k (here ∙ sym at)));
        size = l.size;
      }
    where
      word_now : word now w ≡ 0
      word_now =
          let table = table_in now j.whole in
          ap (word now) j.word_is ∙ j.whole.grown.tables.entries d (x / 512) (x % 512) j.deep (omega arith) (λ none. j.table (sym table ∙ none)) (sym (page_at-next now d x) ∙ j.absent)

      gap_in : (image : List ℕ) → (part : Partly old now image wants before after d left) → (k : ℕ) → k ≡ w → IsGap image wants k
      gap_in image part k here = record {
        depth = d;
        number = x / 512;
        index = x % 512;
        few = j.deep;
        small = omega arith;
        there = λ none. j.table (sym (table_in image part) ∙ none);
        wanted = ap (is_wanted wants (suc d)) cell_is ∙ j.wanted;
        is = here ∙ word_old ∙ ap (λ t. t * 512 + x % 512) (sym (table_in image part));
        none = ap (word image) here ∙ part.same w (word_now ∙ sym none_old) ∙ none_old;
      }

  -- what is not as it was is not the entry
  apart : (v : ℕ) → word (set now w (p * 4096 + 1)) v ≡ word old v → v ≢ w
  apart v is here =
      let one : word (set now w (p * 4096 + 1)) w ≡ p * 4096 + 1 = get_or-set_same now w (p * 4096 + 1) 0 fits in
      omega (arith, one, ap (word (set now w (p * 4096 + 1))) (sym here) ∙ is ∙ ap (word old) here ∙ none_old)

  was_same : (v : ℕ) → word (set now w (p * 4096 + 1)) v ≡ word old v → word now v ≡ word old v
  was_same v is = sym (get_or-set_other now w v (p * 4096 + 1) 0 (apart v is)) ∙ is

  was_absent : (y : ℕ) → page_at (set now w (p * 4096 + 1)) (suc d) y ≡ 0 → (page_at now (suc d) y ≡ 0) × (y ≢ x)
  was_absent y none =
      let deep = j.deep in (
        elim (cases_eq (page_at now (suc d) y) 0) [
          | inl was ↦ was
          | inr there ↦ absurd (there (sym (new_stays (suc d) y (omega arith) there) ∙ none))
        ],
        λ here. omega (arith, j.low, sym new_cell ∙ ap (page_at (set now w (p * 4096 + 1)) (suc d)) (sym here) ∙ none),
      )

  pub partly_kept : (image : List ℕ) → Partly old now image wants before after d left → Partly old (set now w (p * 4096 + 1)) image wants before after d rest
  partly_kept image part = record {
    grown = part.grown;
    fewer = λ y none. part.fewer y (was_absent y none).0;
    fresh = λ q c. part.fresh q (j.others q c).0;
    zeros = part.zeros;
    same = λ v is. part.same v (was_same v is);
  }

  pub partly_linked : (image : List ℕ) → Partly old now image wants before after d left → Partly old (set now w (p * 4096 + 1)) (set image w (p * 4096 + 1)) wants before after d rest
  partly_linked image part =
      let l = links image part in
      let deep = j.deep in
      record {
        grown = grown_both part.grown (grown_link image part);
        fewer = λ y none.
            let was = was_absent y none in
            elim (link_at l (suc d) y (omega arith)) [
              | inl kept ↦ kept ∙ part.fewer y was.0
              | inr cell ↦ absurd (was.1 (cell.1 ∙ cell_is))
            ];
        fresh = λ q c. fresh_stays l q (j.others q c).1 (part.fresh q (j.others q c).0);
        zeros = λ v t. get_or-set_other image w v (p * 4096 + 1) 0 (off_taken v t) ∙ part.zeros v t;
        same = λ v is. get_or-set_other image w v (p * 4096 + 1) 0 (apart v is) ∙ part.same v (was_same v is);
      }

  pub missing_at_linked : missing_at (set now w (p * 4096 + 1)) wants (suc d) + 1 ≡ missing_at now wants (suc d)
  missing_at_linked = missing_less (links now j.whole) wants (ap (is_wanted wants (suc d)) cell_is ∙ j.wanted)

  pub missing_linked : missing (set now w (p * 4096 + 1)) wants + 1 ≡ missing now wants
  missing_linked = missing_link (links now j.whole) wants (ap (is_wanted wants (suc d)) cell_is ∙ j.wanted)

-- k of the missing cells are linked.
pub record Linking (f : FreePages) (k n from cell : ℕ) (old now : List ℕ) (wants : List Want) (d : ℕ) (told then : Option History) (faults later : ℕ) : Type 0 where
  pub reach : Reach f k from
  pub passed : NoneMissing now wants (suc d) 0 cell
  pub within : cell ≤ 512 ^ suc d
  pub whole : Partly old now now wants f (without_lowest n f) d (drop k f.free)
  pub images : NothingPending told → LeavesOnly told then (λ image. Partly old now image wants f (without_lowest n f) d (drop k f.free))
  pub back : (w : ℕ) → word now w ≢ word old w → WrittenBack then (w / 8)
  pub made : MakesOnly (λ at put. IsGap old wants at) told then
  pub reached : (q : ℕ) → 34 ≤ q → Contains f.free q → Contains (drop k f.free) q ⊎ IsReached now q
  pub left_at : missing_at now wants (suc d) + k ≡ missing_at old wants (suc d)
  pub left : missing now wants + k ≡ missing old wants
  pub calm : faults ≤ later

-- before the first link
pub record Ready (f : FreePages) (n : ℕ) (old : List ℕ) (wants : List Want) (d : ℕ) : Type 0 where
  pub tables : AreTables old
  pub agrees : Agrees old f
  pub deep : d ≤ 3
  pub above : (x : ℕ) → x < 512 ^ suc d → is_wanted wants (suc d) x ≡ true → page_at old d (x / 512) ≢ 0
  pub count : n ≡ missing_at old wants (suc d)
  pub room : n ≤ length f.free
  pub zeros : AreZeros old f (without_lowest n f)

pub linking_start : (f : FreePages) (n : ℕ) (old : List ℕ) (wants : List Want) (d : ℕ) (told : Option History) (faults : ℕ) → Ready f n old wants d → Replays told old → Linking f 0 n 0 0 old old wants d told told faults faults
linking_start f n old wants d told faults r replays =
    let start : Partly old old old wants f (without_lowest n f) d f.free = record {
      grown = grown_here (without_lowest n f);
      fewer = λ y none. none;
      fresh = λ q c. r.agrees.free q c;
      zeros = r.zeros;
      same = λ w is. refl;
    } in
    record {
      reach = reach_start f;
      passed = λ x low high missing. absurd (omega arith);
      within = omega arith;
      whole = start;
      images = λ settled. weaker (λ image. Partly old old image wants f (without_lowest n f) d f.free) (λ image is. subst (λ (l : List ℕ). Partly old old l wants f (without_lowest n f) d f.free) (sym is) start) (only_words told old replays settled);
      back = λ w ne. absurd (ne refl);
      made = makes_none (λ at put. IsGap old wants at) told;
      reached = λ q low c. inl c;
      left_at = omega arith;
      left = omega arith;
      calm = omega arith;
    }
  where
    grown_here : (after : FreePages) → Grown old old wants f after
    grown_here after = record {
      tables = r.tables;
      walks = λ e y le ne. refl;
      cells = λ e y le not. refl;
      fresh = λ e y le none ne. absurd (ne none);
      bytes = λ v lt. refl;
      low = λ w lt. refl;
      rest = λ w nt ng. refl;
      size = refl;
    }

-- where no cell of a depth is missing, they count none
missing_at_all : (img : List ℕ) (wants : List Want) (d : ℕ) → NoneMissing img wants d 0 (512 ^ d) → missing_at img wants d ≡ 0
unfolding missing_at
missing_at_all img wants d none = count_below-none _ (512 ^ d) (λ x lt. elim (cases_Bool (is_wanted wants d x)) [
  | inr not ↦ and_left _ _ not
  | inl wanted ↦ and_right _ _ (ne_eqb _ 0 (λ absent. none x (omega arith) lt (record { wanted = wanted; absent = absent })))
])

-- there is a cell left
pub linking_some : {f : FreePages} {k n from cell : ℕ} {old now : List ℕ} {wants : List Want} {d : ℕ} {told then : Option History} {faults later : ℕ} → Linking f k n from cell old now wants d told then faults later → n ≡ missing_at old wants (suc d)
    → k < n → NoneMissing now wants (suc d) cell (512 ^ suc d) → ⊥
linking_some {cell = cell} {now = now} {wants = wants} {d = d} so_far count lt none =
    let all : missing_at now wants (suc d) ≡ 0 = missing_at_all now wants (suc d) (λ x from_x within missing. elim (cases_lt x cell) [
      | inl before ↦ so_far.passed x (omega arith) before missing
      | inr from_cell ↦ none x from_cell within missing
    ]) in
    omega (arith, so_far.left_at, all, count)

-- the next cell and the next page are joined
pub joins : {f : FreePages} {k n from cell : ℕ} {old now : List ℕ} {wants : List Want} {d : ℕ} {told then : Option History} {faults later : ℕ} → Ready f n old wants d → (so_far : Linking f k n from cell old now wants d told then faults later) → k < n
    → (x w page : ℕ) → x < 512 ^ suc d → IsMissing now wants (suc d) x → w ≡ page_at now d (x / 512) * 512 + x % 512
    → from_on from f.free ≡ page ∷ from_on (page + 1) f.free → ((q : ℕ) → Contains f.free q → (34 ≤ q) × (q < f.pages))
    → Joins old now wants f (without_lowest n f) d (drop k f.free) (drop (k + 1) f.free) x w page
joins {f = f} {k = k} {n = n} r so_far lt x w page within missing word_is next range = record {
  tables = r.tables;
  whole = so_far.whole;
  deep = r.deep;
  table = r.above x within missing.wanted;
  wanted = missing.wanted;
  absent = missing.absent;
  word_is = word_is;
  taken = page_taken so_far.reach next n lt;
  low = (range page (dropped_less 0 k page f.free (omega arith) (page_left so_far.reach next))).0;
  high = omega (arith, (range page (dropped_less 0 k page f.free (omega arith) (page_left so_far.reach next))).1, r.agrees.pages);
  mine = page_left so_far.reach next;
  others = λ q c. (dropped_less k (k + 1) q f.free (omega arith) c, left_other so_far.reach next q c);
  unused = λ q t. r.agrees.free q t.was;
}

-- the images and the stores of a link
module _ {f : FreePages} {k n from cell : ℕ} {old now : List ℕ} {wants : List Want} {d : ℕ} {told then : Option History} {faults later : ℕ} (so_far : Linking f k n from cell old now wants d told then faults later) {x w page : ℕ}
    (j : Joins old now wants f (without_lowest n f) d (drop k f.free) (drop (k + 1) f.free) x w page) (replays : Replays then now) where
  pub images_stored : {T E : Type 0} (r : Result T E) {put : Option History} → AddsStep r (Store w (page * 4096 + 1)) then put
      → NothingPending told → LeavesOnly told put (λ image. Partly old (set now w (page * 4096 + 1)) image wants f (without_lowest n f) d (drop (k + 1) f.free))
  images_stored r adds settled =
      stored (λ image. Partly old (set now w (page * 4096 + 1)) image wants f (without_lowest n f) d (drop (k + 1) f.free)) (so_far.images settled) adds (on_device then now w replays (fits j))
      (λ base part. (partly_kept j base part, partly_linked j base part))

  pub made_stored : {T E : Type 0} (r : Result T E) {put : Option History} → AddsStep r (Store w (page * 4096 + 1)) then put → MakesOnly (λ at put. IsGap old wants at) told put
  made_stored r adds = makes_step r so_far.made adds (gap j)

  pub linking_step : {T E U V : Type 0} (r : Result T E) {done : U} {put new : Option History} {after : List ℕ} {last : ℕ} → AddsStep r (Store w (page * 4096 + 1)) then put → AddsStep {T = U} {E = V} (Ok done) (Flush (w / 8)) put new
      → after ≡ set now w (page * 4096 + 1) → from_on from f.free ≡ page ∷ from_on (page + 1) f.free → cell ≤ x → x < 512 ^ suc d → NoneMissing now wants (suc d) cell x → later ≤ last
      → Linking f (k + 1) n (page + 1) (x + 1) old after wants d told new faults last
  linking_step r {done = done} {put = put} {new = new} {after = after} {last = last} stores flushes is next low within first calm =
      subst (λ (l : List ℕ). Linking f (k + 1) n (page + 1) (x + 1) old l wants d told new faults last) (sym is) (record {
        reach = reach_next so_far.reach next;
        passed = λ y from_y to missing. elim (cases_eq y x) [
          | inl here ↦ omega (arith, j.low, sym (new_cell j) ∙ ap (page_at (set now w (page * 4096 + 1)) (suc d)) (sym here) ∙ missing.absent)
          | inr other ↦ elim (cases_eq (page_at now (suc d) y) 0) [
            | inr there ↦ let deep = j.deep in there (sym (new_stays j (suc d) y (omega arith) there) ∙ missing.absent)
            | inl none ↦
                let was : IsMissing now wants (suc d) y = record { wanted = missing.wanted; absent = none } in
                elim (cases_lt y cell) [
                  | inl before ↦ so_far.passed y (omega arith) before was
                  | inr from_cell ↦ first y from_cell (omega (arith, other)) was
                ]
          ]
        ];
        within = omega arith;
        whole = partly_linked j now so_far.whole;
        images = λ settled. flushed (images_stored r stores settled) flushes;
        back = λ v ne. elim (cases_eq (w / 8) (v / 8)) [
          | inl line ↦ subst (λ (m : ℕ). WrittenBack new m) line (back_flushed flushes)
          | inr apart ↦
              let other : v ≢ w = λ here. apart (ap (λ (m : ℕ). m / 8) (sym here)) in
              let was : word now v ≢ word old v = λ same. ne (get_or-set_other now w v (page * 4096 + 1) 0 other ∙ same) in
              back_flush (Ok done) (v / 8) flushes (back_store r (v / 8) stores apart (so_far.back v was))
        ];
        made = makes_step (Ok done) (made_stored r stores) flushes tt;
        reached = λ q low_q c. elim (so_far.reached q low_q c) [
          | inl still ↦ elim (left_parts so_far.reach next q still) [
            | inl here ↦ let deep = j.deep in inr (record { depth = suc d; number = x; few = omega arith; is = new_cell j ∙ sym here })
            | inr rest ↦ inl rest
          ]
          | inr there ↦ inr (record { depth = there.depth; number = there.number; few = there.few; is = new_stays j there.depth there.number there.few (λ none. omega (arith, there.is, none, low_q)) ∙ there.is })
        ];
        left_at = omega (arith, so_far.left_at, missing_at_linked j);
        left = omega (arith, so_far.left, missing_linked j);
        calm = omega (arith, so_far.calm, calm);
      })

-- what a stretch leaves whose images are partly linked
pub linking_extends : (f : FreePages) (n : ℕ) {old with new : List ℕ} {wants : List Want} {d : ℕ} {told last : Option History} {left : List ℕ} → Grown old new wants f (without_lowest n f)
    → (NothingPending told → LeavesOnly told last (λ image. Partly old with image wants f (without_lowest n f) d left)) → MakesOnly (λ at put. IsGap old wants at) told last
    → Extends wants old new told last f (without_lowest n f)
linking_extends f n {old} {with} {new} {wants} {d} {told} {last} {left} grown images made = record {
  grown = grown;
  images = λ settled. weaker (λ image. Grown old image wants f (without_lowest n f)) (λ image (part : Partly old with image wants f (without_lowest n f) d left). part.grown) (images settled);
  made = makes_weaker (λ at put. MayGrow old wants f (without_lowest n f) at) (λ at put gap. inr gap) made;
  left = λ q c. dropped_less 0 n q f.free (omega arith) c;
}

-- all of them are linked
module _ {f : FreePages} {k n from cell : ℕ} {old now : List ℕ} {wants : List Want} {d : ℕ} {told then : Option History} {faults later : ℕ} (so_far : Linking f k n from cell old now wants d told then faults later) where
  off_moved : (image : List ℕ) → Partly old now image wants f (without_lowest n f) d (drop k f.free) → SameOff (λ w. word now w ≢ word old w) image old
  off_moved image part = record {
    size = part.grown.size;
    others = λ w off. elim (cases_eq (word now w) (word old w)) [ inl same ↦ part.same w same | inr ne ↦ absurd (off ne) ];
  }

  moved_or : (w : ℕ) → (word now w ≢ word old w) ⊎ ((word now w ≢ word old w) → ⊥)
  moved_or w = elim (cases_eq (word now w) (word old w)) [ inl same ↦ inr (λ ne. ne same) | inr ne ↦ inl ne ]

  pub linking_settled : {T E : Type 0} (r : Result T E) {new : Option History} → Replays then now → AddsStep r Fence then new → OnOk r (NothingPending told → NothingPending new)
  linking_settled r {new = new} replays adds =
      on_ok_if (NothingPending told) (NothingPending new) r (λ settled.
      settled_by_fence moved_or (weaker (λ image. SameOff (λ w. word now w ≢ word old w) image old) off_moved (so_far.images settled)) (off_moved now so_far.whole) replays so_far.back adds)

  pub linking_none : Ready f n old wants d → k ≡ n → missing_at now wants (suc d) ≡ 0
  linking_none r all = omega (arith, so_far.left_at, r.count, all)

  linking_agrees : Ready f n old wants d → k ≡ n → Agrees now (without_lowest n f)
  linking_agrees r all =
      let grown = so_far.whole.grown in
      let count : page_count now ≡ page_count old = grown.low 2 (omega arith) in
      record {
        pages = r.agrees.pages ∙ sym count;
        free = λ q c. so_far.whole.fresh q (subst (λ (m : ℕ). Contains (drop m f.free) q) (sym all) c);
        all = λ q low high. elim (r.agrees.all q low (omega (arith, high, count))) [
          | inl free ↦ elim (so_far.reached q low free) [
            | inl still ↦ inl (subst (λ (m : ℕ). Contains (drop m f.free) q) all still)
            | inr reached ↦ inr reached
          ]
          | inr reached ↦ inr (record {
            depth = reached.depth;
            number = reached.number;
            few = reached.few;
            is = grown.walks reached.depth reached.number reached.few (λ none. omega (arith, reached.is, none, low)) ∙ reached.is;
          })
        ];
      }

  pub linking_done : {new : List ℕ} {last : Option History} → new ≡ now → Ready f n old wants d → k ≡ n → (NothingPending told → NothingPending last) → IsDone wants old new told last f (without_lowest n f)
  linking_done {new} {last} is r all settled =
      let room = r.room in
      subst (λ (l : List ℕ). IsDone wants old l told last f (without_lowest n f)) (sym is) (record {
        agrees = linking_agrees r all;
        taken = omega (arith, length-drop n f.free, so_far.left, all);
        settled = settled;
      })

-- ---- as the function states it

-- the depth that the function counts is one more than that of the tables
pub depth_up : (e : ℕ) → 1 ≤ e → e ≡ suc (e - 1)
depth_up e le = omega arith

pub at_depth : (P : ℕ → Type 0) (e : ℕ) → 1 ≤ e → P e → P (suc (e - 1))
at_depth P e le p = subst P (depth_up e le) p

pub ready : (f : FreePages) (n : ℕ) (old : List ℕ) (wants : List Want) (e : ℕ) → 1 ≤ e → e ≤ 4 → AreTables old → Agrees old f → HaveTables old wants e → n ≡ missing_at old wants e → n ≤ length f.free
    → AreZeros old f (without_lowest n f) → Ready f n old wants (e - 1)
ready f n old wants e from to tables agrees above count room zeros = record {
  tables = tables;
  agrees = agrees;
  deep = omega arith;
  above = λ x lt wanted. above x (subst (λ (m : ℕ). x < 512 ^ m) (sym (depth_up e from)) lt) (subst (λ (m : ℕ). is_wanted wants m x ≡ true) (sym (depth_up e from)) wanted);
  count = at_depth (λ m. n ≡ missing_at old wants m) e from count;
  room = room;
  zeros = zeros;
}

-- the cell and the page as the function finds them
pub joins_at : {f : FreePages} {k n from cell : ℕ} {old now : List ℕ} {wants : List Want} {told then : Option History} {faults later : ℕ} (e : ℕ) → 1 ≤ e → Ready f n old wants (e - 1) → (so_far : Linking f k n from cell old now wants (e - 1) told then faults later) → k < n
    → (x w number page : ℕ) → x < 512 ^ e → IsMissing now wants e x → w ≡ page_at now (e - 1) (x / 512) * 512 + x % 512
    → number ≡ page → from_on from f.free ≡ page ∷ from_on (page + 1) f.free → ((q : ℕ) → Contains f.free q → (34 ≤ q) × (q < f.pages))
    → Joins old now wants f (without_lowest n f) (e - 1) (drop k f.free) (drop (k + 1) f.free) x w number
joins_at {f = f} {from = from} {now = now} {wants = wants} e low r so_far lt x w number page within missing word_is is next range =
    joins r so_far lt x w number (at_depth (λ m. x < 512 ^ m) e low within) (at_depth (λ m. IsMissing now wants m x) e low missing) word_is (number_next f.free from number page is next) range
