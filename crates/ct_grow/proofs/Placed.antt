-- The headers and the place of an inode are drafted.
use Rattle.std.proofs.Common.{◌≡◌, ◌≢◌, ℕ, zero, suc, ◌+◌, ◌-◌, ◌*◌, ◌/◌, ◌%◌, ◌^◌, ◌<◌, ◌≤◌, true, List, [], ◌∷◌, ◌++◌, length, sym, ap, subst, ◌∙◌, inl, inr, arith}
use Rattle.ct_base.specs.declared.inode.Inode.{Inode}
use Rattle.ct_base.specs.Headers.{StandFor, is_one}
use Rattle.ct_base.specs.Inode.{Partition, part, number_of, is_free}
use Rattle.ct_base.specs.Settled.{Pair, Named, with_pairs}
use Rattle.ct_base.specs.View.{view}
use Rattle.ct_base.specs.Walk.{word, page_at, AreTables}
use Rattle.ct_base.specs.Words.{word_at, place_at, pairs_to, Rewrites}
use Rattle.ct_image.proofs.Beside.{Beside, beside_cells, beside_tables}
use Rattle.ct_image.proofs.Pairs.{length-with_pairs, with_pairs_off}
use Rattle.ct_pm.specs.Device.{SameOff}
use Rattle.ct_record.specs.Record.{AreApart, InRecord}
use Rattle.ct_record.proofs.Settles.{same_then}
use Rattle.ct_record.proofs.Under.{under_beside}
use Rattle.ct_swap.specs.Swap.{LeaveTables}
use Rattle.ct_swap.proofs.Pairing.{exchanged_beside}
use Rattle.ct_inode.proofs.Rewritten.{word_inside, view_outside}
use Rattle.ct_state.proofs.Settle.{AgreeOffRecord, bytes_off}
use Rattle.ct_grow.specs.Drafted.{CanMove, HasOld, Moves, IsOnPaths, IsWritten, NamePlaces, Places, parts_after}
use Rattle.ct_grow.proofs.Listed.{stand_same}
use Rattle.ct_grow.specs.Moments.{IsSpare}
use Rattle.ct_grow.proofs.Spared.{names_spare, spare_back, written_low}
use Rattle.ct_grow.proofs.Placing.{names_append, names_beside, names_bytes, names_leave, names_run, names_superblock, names_tables, names_wider}

-- Pairs for the headers were drafted over mid, and then those for the inode over new.
pub record Wrote (old mid new : List ℕ) (ps qs : List Pair) (i : ℕ) (f : Inode) (p : Partition) : Type 0 where
  pub tables : AreTables old
  pub first : SameOff InRecord mid old
  pub second : SameOff InRecord new mid
  pub can : CanMove old i f p
  pub named : NamePlaces old (IsOnPaths f p) ps
  pub stand : (parts : List Partition) → StandFor (view old) parts → is_free parts p ≡ true → (f.level ≢ 15 → is_one parts f.level (number_of (part f)) ≡ true) → StandFor (view (with_pairs ps mid)) (parts_after f p parts)
  pub at : ℕ
  pub values : List ℕ
  pub at_is : at ≡ 64 * i + 16
  pub values_are : values ≡ p.base ∷ p.level ∷ []
  pub added : qs ≡ pairs_to (place_at mid at) values (length values) ++ ps
  pub rewrites : Rewrites (with_pairs ps mid) (with_pairs qs new) at values

module _ {old mid new : List ℕ} {ps qs : List Pair} {i : ℕ} {f : Inode} {p : Partition} (s : Wrote old mid new ps qs i f p) where
  beside : Beside old mid
  beside = under_beside old mid s.first

  beside_all : Beside old new
  beside_all = under_beside old new (same_then s.second s.first)

  -- each pair names a place
  names : NamePlaces mid (IsWritten i f p) qs
  names =
      let to = s.can.to in
      let page : s.at / 4096 ≡ 64 * i / 4096 = omega (arith, s.at_is) in
      let there : page_at mid 4 (s.at / 4096) ≢ 0 = λ none. s.can.inode_there (sym (beside_cells beside 4 (64 * i / 4096)) ∙ sym (ap (page_at mid 4) page) ∙ none) in
      let count : length s.values ≡ 2 = ap length s.values_are in
      let inside : s.at % 4096 + 8 * length s.values ≤ 4096 = omega (arith, count, s.at_is) in
      names_append s.added
      (names_run mid (IsWritten i f p) s.at s.values (length s.values) (omega (arith, s.at_is)) inside there (λ k lt. on k (omega (arith, lt, count))))
      (names_wider (λ a on. inl on) (names_beside beside s.named))
    where
      on : (k : ℕ) → k < 2 → IsWritten i f p (s.at + 8 * k)
      on zero lt = inr (inl (omega (arith, s.at_is)))
      on (suc zero) lt = inr (inr (omega (arith, s.at_is)))
      on (suc (suc k)) lt = absurd (omega arith)

  mid_new : Beside mid new
  mid_new = under_beside mid new s.second

  names_new : NamePlaces new (IsWritten i f p) qs
  names_new = names_beside mid_new names

  tables_new : AreTables new
  tables_new = beside_tables beside_all s.tables

  pub wrote_spare : (w : ℕ) → Named qs w → IsSpare old w
  wrote_spare w named = spare_back beside_all w (names_spare tables_new names_new (written_low s.can) w named)

  pub wrote_leave : LeaveTables new qs
  wrote_leave = names_leave tables_new names_new

  aligned : s.at % 8 ≡ 0
  aligned = omega (arith, s.at_is)

  off : AgreeOffRecord old new
  off = record { words = λ w out. elim out [ inl low ↦ beside_all.front w low | inr high ↦ beside_all.back w (omega (arith, high)) ]; size = beside_all.size }

  pub wrote_places : Places old (with_pairs qs new) i f p
  wrote_places =
      let all = names_tables tables_new names_new in
      let count : length s.values ≡ 2 = ap length s.values_are in
      let first = word_inside s.rewrites aligned 0 (omega (arith, count)) in
      let second = word_inside s.rewrites aligned 1 (omega (arith, count)) in
      record {
        stand = λ parts stands free one. stand_same (with_pairs ps mid) (with_pairs qs new) (parts_after f p parts)
            (λ v low high. view_outside s.rewrites aligned v (inr (omega (arith, count, s.at_is, s.can.to))))
            (s.stand parts stands free one);
        base = ap (word_at (with_pairs qs new)) (omega (arith, s.at_is)) ∙ first ∙ ap (λ (l : List ℕ). Rattle.std.specs.Prelude.slice_index l 0) s.values_are;
        level = ap (word_at (with_pairs qs new)) (omega (arith, s.at_is)) ∙ second ∙ ap (λ (l : List ℕ). Rattle.std.specs.Prelude.slice_index l 1) s.values_are;
        tables = all.same;
        cells = λ d x le. all.pages d x le ∙ beside_cells beside_all d x;
        bytes = λ v lt away. names_bytes tables_new names_new v lt away ∙ bytes_off off v lt;
        superblock = λ w lt. names_superblock tables_new names_new w lt ∙ beside_all.front w lt;
        size = length-with_pairs qs new ∙ beside_all.size;
      }

-- what the move of the old partition asks for is there also where words of the record differ
pub old_beside : {img now : List ℕ} {f : Inode} {p : Partition} → Beside img now → HasOld img f p → HasOld now f p
old_beside {img} {now} {f} {p} s o = record {
  own = o.own;
  smaller = o.smaller;
  apart = o.apart;
  there = λ a on none. o.there a on (sym (beside_cells s 4 (a / 4096)) ∙ none);
  first = λ none. o.first (sym (beside_cells s (3 - f.level / 3) (f.base / 4096 / 512 ^ (f.level / 3 + 1))) ∙ none);
  second = λ none. o.second (sym (beside_cells s (3 - f.level / 3) (p.base / 4096 / 512 ^ (f.level / 3 + 1))) ∙ none);
}

-- the move, once its record is complete
pub moves_done : {img start changed done : List ℕ} {i : ℕ} {f : Inode} {p : Partition} → start ≡ img → Moves start changed i f p → SameOff InRecord done changed → Moves img done i f p
moves_done {done = done} {i = i} {f = f} {p = p} is m same =
    let beside = under_beside _ _ same in
    subst (λ (x : List ℕ). Moves x done i f p) is (record {
      middle = m.middle;
      places = m.places;
      exchanged = exchanged_beside m.exchanged beside;
      superblock = λ w lt. beside.front w lt ∙ m.superblock w lt;
    })

-- no draft names a word of the superblock
pub drafted_superblock : (pairs : List Pair) (old now : List ℕ) → AreApart pairs → SameOff InRecord now old → (w : ℕ) → w < 512 → word (with_pairs pairs now) w ≡ word old w
drafted_superblock pairs old now apart same w lt =
    with_pairs_off pairs now w (λ named. let low = apart w named in omega arith) ∙ same.others w (λ is. omega (arith, is.0))
