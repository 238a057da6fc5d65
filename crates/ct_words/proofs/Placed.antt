-- A pair that names a word of a mapped page.
use Rattle.std.proofs.Common.{◌≡◌, ◌≢◌, ℕ, ◌+◌, ◌*◌, ◌/◌, ◌%◌, ◌<◌, ◌≤◌, List, length, set, refl, sym, ap, ◌∙◌, Some, None, ◌∷◌, arith}
use Rattle.std.proofs.lemmas.List.{get_or-set_same, get_or-set_other, length-set}
use Rattle.ct_base.specs.Settled.{Pair, with_pairs}
use Rattle.ct_base.specs.Walk.{word, page_at, page_count, walk, AreTables}
use Rattle.ct_base.specs.Words.{word_at, place_at, Writes}
use Rattle.ct_image.proofs.Beside.{Beside, beside_count, beside_cells, beside_tables, beside_words}
use Rattle.ct_image.proofs.Steps.{page_at-high, walk-cell, page_at-root, page_at-low}
use Rattle.ct_image.proofs.Write.{at_here, at_others, cells, same_count, tables_new}
use Rattle.ct_pm.specs.Device.{SameOff}
use Rattle.ct_image.proofs.Pairs.{length-with_pairs, with_pairs_alike}
use Rattle.ct_record.specs.Record.{InRecord}
use Rattle.ct_record.proofs.Under.{under_beside}
use Rattle.ct_walk.specs.Pages.{some_page}
use Rattle.ct_walk.proofs.Entries.{some_page-is, some_page-none}
use Rattle.ct_words.specs.Drafted.{MapsAlike}

-- what a walk that answered says
pub walk_some : (img : List ℕ) (v page : ℕ) → v < 281474976710656 → AreTables img → Some page ≡ some_page (walk img v)
    → (page ≡ page_at img 4 (v / 4096)) × (34 ≤ page) × (page < page_count img)
walk_some img v page lt tables e =
    let s = some_page-is page (walk img v) e in
    let cell = walk-cell img v lt in
    let same : page ≡ page_at img 4 (v / 4096) = sym s.0 ∙ cell in
    let there : page_at img 4 (v / 4096) ≢ 0 = λ z. s.1 (cell ∙ z) in
    let low = page_at-low img 4 (v / 4096) there in
    let high = page_at-high img 4 (v / 4096) tables.some in
    let no_root : page_at img 4 (v / 4096) ≢ 33 = λ is. omega (arith, (tables.once 4 (v / 4096) 0 0 (omega arith) (omega arith) there (is ∙ sym (page_at-root img))).0) in
    (same, omega arith, omega arith)

pub walk_none : (img : List ℕ) (v : ℕ) → v < 281474976710656 → None ≡ some_page (walk img v) → page_at img 4 (v / 4096) ≡ 0
walk_none img v lt e = sym (walk-cell img v lt) ∙ some_page-none (walk img v) e

-- words of the record change, and the pairs stay
pub record_beside : (old new : List ℕ) (ps : List Pair) → SameOff InRecord new old → Beside (with_pairs ps old) (with_pairs ps new)
record_beside old new ps same =
    record {
      size = length-with_pairs ps new ∙ same.size ∙ sym (length-with_pairs ps old);
      front = λ w lt. with_pairs_alike ps new old w same.size (λ _. same.others w (λ is. omega (arith, is.0)));
      back = λ w le. with_pairs_alike ps new old w same.size (λ _. same.others w (λ is. omega (arith, is.1)));
    }

-- the page of an address
pub same_page : (a : ℕ) {img changed : List ℕ} → MapsAlike (a / 549755813888) img changed → page_at changed 4 (a / 4096) ≡ page_at img 4 (a / 4096)
same_page a m = m.same (a / 4096) (omega arith)

-- A pair for the word at an address was added.
pub record Adds (img now : List ℕ) (ps qs : List Pair) (a v : ℕ) : Type 0 where
  pub same : SameOff InRecord now img
  pub is : qs ≡ record { word = place_at img a; value = v } ∷ ps
  pub maps : MapsAlike (a / 549755813888) img (with_pairs ps img)
  pub high : a < 281474976710656
  pub there : page_at img 4 (a / 4096) ≢ 0

module _ {img now : List ℕ} {ps qs : List Pair} {a v : ℕ} (s : Adds img now ps qs a v) where
  mid : List ℕ
  mid = with_pairs ps now

  beside : Beside (with_pairs ps img) mid
  unfolding mid
  beside = record_beside img now ps s.same

  page_is : page_at mid 4 (a / 4096) ≡ page_at img 4 (a / 4096)
  page_is = beside_cells beside 4 (a / 4096) ∙ s.maps.same (a / 4096) (omega arith)

  writes : Writes mid (with_pairs qs now) (a / 4096) (a % 4096 / 8) v
  unfolding mid
  writes =
      let tables = beside_tables beside s.maps.after in
      let high = page_at-high mid 4 (a / 4096) tables.some in
      let place = place_at img a in
      let at : place ≡ page_at mid 4 (a / 4096) * 512 + a % 4096 / 8 = ap (λ p. p * 512 + a % 4096 / 8) (sym page_is) in
      let on : place < length mid = omega (arith, at, high, tables.there) in
      let after : with_pairs qs now ≡ set mid place v = ap (λ (x : List Pair). with_pairs x now) s.is in
      record {
        tables = tables;
        there = λ z. s.there (sym page_is ∙ z);
        index = omega arith;
        value = ap (word (with_pairs qs now)) (sym at) ∙ ap (λ img. word img place) after ∙ get_or-set_same mid place v 0 on;
        others = λ w ne. ap (λ img. word img w) after ∙ get_or-set_other mid place w v 0 (λ e. ne (e ∙ at));
        size = ap length after ∙ length-set mid place v;
      }

  pub adds_written : word_at (with_pairs qs now) a ≡ v
  adds_written = at_here writes a refl refl

  pub adds_others : (b : ℕ) → (b / 4096 ≡ a / 4096 → b % 4096 / 8 ≢ a % 4096 / 8) → word_at (with_pairs qs now) b ≡ word_at (with_pairs ps img) b
  adds_others b off = at_others writes b off ∙ beside_words beside b

  pub adds_cells : (d y : ℕ) → d ≤ 4 → page_at (with_pairs qs now) d y ≡ page_at (with_pairs ps img) d y
  adds_cells d y le = cells writes d y le ∙ beside_cells beside d y

  pub adds_maps : (slot : ℕ) → MapsAlike slot img (with_pairs ps img) → MapsAlike slot now (with_pairs qs now)
  adds_maps slot m =
      let under = under_beside img now s.same in
      record {
        tables = beside_tables under m.tables;
        after = tables_new writes;
        count = same_count writes ∙ beside_count beside ∙ m.count ∙ sym (beside_count under);
        same = λ n in_slot. adds_cells 4 n (omega arith) ∙ m.same n in_slot ∙ sym (beside_cells under 4 n);
      }
