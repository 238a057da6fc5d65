-- Words of one page that get values, one after the other.
use Rattle.std.proofs.Common.{◌≡◌, ◌≢◌, ◌⊎◌, ℕ, zero, suc, ◌+◌, ◌-◌, ◌*◌, ◌/◌, ◌%◌, ◌<◌, ◌≤◌, false, List, [], ◌∷◌, ◌++◌, length, set, refl, sym, ap, subst, ◌∙◌, inl, inr, arith}
use Rattle.std.specs.Prelude.{nat_le, nat_lt, ◌&&◌, if◌then◌else◌, slice_index}
use Rattle.std.proofs.lemmas.Bool.{cases_eq, cases_lt, le-leb, lt-leb, lt-ltb, le-ltb, and_from, and_left, and_right}
use Rattle.std.proofs.lemmas.List.{get_or-set_same, get_or-set_other, length-set, set-get_or}
use Rattle.ct_base.specs.Settled.{Named, Pair, with_pairs}
use Rattle.ct_base.specs.Walk.{word, page_at, AreTables}
use Rattle.ct_base.specs.Words.{word_at, place_at, pairs_to, with_words, Rewrites, Writes}
use Rattle.ct_image.proofs.Beside.{Beside, beside_count, beside_cells, beside_tables, beside_words}
use Rattle.ct_image.proofs.Pairs.{with_pairs_alike}
use Rattle.ct_image.proofs.Steps.{page_at-high}
use Rattle.ct_image.proofs.Write.{at_here, at_others, cells, tables_new, page_low}
use Rattle.ct_pm.specs.Device.{IsIn, SameOff}
use Rattle.ct_record.specs.Record.{InRecord}
use Rattle.ct_words.specs.Drafted.{MapsAlike, PutFirst}
use Rattle.ct_record.proofs.Under.{under_beside}
use Rattle.ct_words.proofs.Placed.{record_beside, same_page}

-- pairs that were added are applied after those that were there
pub with_pairs_append : (ps qs : List Pair) (words : List ℕ) → with_pairs (ps ++ qs) words ≡ with_pairs ps (with_pairs qs words)
with_pairs_append [] qs words = refl
with_pairs_append (p ∷ ps) qs words = ap (λ w. set w p.word p.value) (with_pairs_append ps qs words)

next : (n : ℕ) → suc n ≡ n + 1
next n = omega arith

-- one more of the values, where a pair for it was added, or where its word has it already
module _ {place n : ℕ} {values img : List ℕ} {old mid : List Pair} (puts : PutFirst place values n img old mid) where
  later : (w : ℕ) → Named mid w → IsIn place (n + 1) w ⊎ Named old w
  later w named = elim (puts.names w named) [ inl is ↦ inl (is.0, omega (arith, is.1)) | inr was ↦ inr was ]

  pub put_more : PutFirst place values (n + 1) img old (record { word = place + n; value = slice_index values n } ∷ mid)
  put_more = record {
    does = λ words same. ap (λ x. set x (place + n) (slice_index values n)) (puts.does words same) ∙ ap (λ k. with_pairs (pairs_to place values k ++ old) words) (next n);
    names = λ w named. elim named [ inl is ↦ inl (omega (arith, is), omega (arith, is)) | inr was ↦ later w was ];
  }

  pub put_kept : (now : List ℕ) → SameOff InRecord now img → 16896 ≤ place + n → slice_index (with_pairs mid now) (place + n) ≡ slice_index values n
      → PutFirst place values (n + 1) img old mid
  put_kept now under low is = record {
    does = λ words same.
        let alike : slice_index (with_pairs mid words) (place + n) ≡ slice_index (with_pairs mid now) (place + n) =
        with_pairs_alike mid words now (place + n) (same.size ∙ sym under.size)
        (λ _. same.others (place + n) (λ z. omega (arith, low, z.1)) ∙ sym (under.others (place + n) (λ z. omega (arith, low, z.1)))) in
        sym (set-get_or (with_pairs mid words) (place + n) 0) ∙ ap (set (with_pairs mid words) (place + n)) (alike ∙ is)
        ∙ ap (λ x. set x (place + n) (slice_index values n)) (puts.does words same) ∙ ap (λ k. with_pairs (pairs_to place values k ++ old) words) (next n);
    names = later;
  }

-- the words by address, where the first n of the values stand
abbrev upto : (ℕ → ℕ) → ℕ → List ℕ → ℕ → ℕ → ℕ
upto words at values n a = if nat_le at a && nat_lt a (at + 8 * n) then slice_index values ((a - at) / 8) else words a

upto-in : (words : ℕ → ℕ) (at : ℕ) (values : List ℕ) (n a : ℕ) → at ≤ a → a < at + 8 * n → upto words at values n a ≡ slice_index values ((a - at) / 8)
upto-in words at values n a low high = rw (and_from (nat_le at a) (nat_lt a (at + 8 * n)) (le-leb at a low) (lt-ltb a (at + 8 * n) high)) refl

is_out : (at n a : ℕ) → (at ≤ a → at + 8 * n ≤ a) → (nat_le at a && nat_lt a (at + 8 * n)) ≡ false
is_out at n a out =
    elim (cases_lt a at) [
      | inl lt ↦ and_left _ _ (lt-leb at a lt)
      | inr ge ↦ and_right _ _ (le-ltb a (at + 8 * n) (out ge))
    ]

upto-out : (words : ℕ → ℕ) (at : ℕ) (values : List ℕ) (n a : ℕ) → (at ≤ a → at + 8 * n ≤ a) → upto words at values n a ≡ words a
upto-out words at values n a out = rw (is_out at n a out) refl

record Run (old new : List ℕ) (at : ℕ) (values : List ℕ) (n : ℕ) : Type 0 where
  tables : AreTables new
  cells : (d x : ℕ) → d ≤ 4 → page_at new d x ≡ page_at old d x
  words : (a : ℕ) → word_at new a ≡ upto (word_at old) at values n a
  head : (w : ℕ) → w < 512 → word new w ≡ word old w
  size : length new ≡ length old

-- the run of words lies in one page that is there
record Fits (old : List ℕ) (at n : ℕ) : Type 0 where
  tables : AreTables old
  aligned : at % 8 ≡ 0
  inside : at % 4096 + 8 * n ≤ 4096
  there : page_at old 4 (at / 4096) ≢ 0

module _ {old mid : List ℕ} {at : ℕ} {values : List ℕ} {n m : ℕ} (f : Fits old at m) (r : Run old mid at values n) (more : n < m) where
  abbrev o : ℕ
  o = at % 4096 / 8 + n

  abbrev place : ℕ
  place = page_at old 4 (at / 4096) * 512 + at % 4096 / 8 + n

  abbrev new : List ℕ
  new = set mid place (slice_index values n)

  page_is : page_at mid 4 (at / 4096) ≡ page_at old 4 (at / 4096)
  page_is = r.cells 4 (at / 4096) (omega arith)

  place_is : place ≡ page_at mid 4 (at / 4096) * 512 + o
  place_is = omega (arith, page_is)

  writes : Writes mid new (at / 4096) o (slice_index values n)
  writes =
      let high = page_at-high mid 4 (at / 4096) r.tables.some in
      let index : o < 512 = omega (arith, f.inside, f.aligned, more) in
      let on : place < length mid = omega (arith, place_is, high, index, r.tables.there) in
      record {
        tables = r.tables;
        there = λ z. f.there (sym page_is ∙ z);
        index = index;
        value = ap (word new) (sym place_is) ∙ get_or-set_same mid place (slice_index values n) 0 on;
        others = λ w ne. get_or-set_other mid place w (slice_index values n) 0 (λ e. ne (e ∙ place_is));
        size = length-set mid place (slice_index values n);
      }

  here : (a : ℕ) → a / 4096 ≡ at / 4096 → a % 4096 / 8 ≡ o → word_at new a ≡ upto (word_at old) at values (suc n) a
  here a page word_is =
      let low : at + 8 * n ≤ a = omega (arith, f.aligned, f.inside) in
      let high : a < at + 8 * suc n = omega (arith, f.aligned, f.inside) in
      let index : n ≡ (a - at) / 8 = omega (arith, f.aligned) in
      at_here writes a page word_is ∙ ap (slice_index values) index ∙ sym (upto-in (word_at old) at values (suc n) a (omega arith) high)

  away : (a : ℕ) → (a / 4096 ≡ at / 4096 → a % 4096 / 8 ≡ o → ⊥) → upto (word_at old) at values n a ≡ upto (word_at old) at values (suc n) a
  away a off =
      elim (cases_lt a (at + 8 * suc n)) [
        | inr past ↦ upto-out (word_at old) at values n a (λ le. omega arith) ∙ sym (upto-out (word_at old) at values (suc n) a (λ le. past))
        | inl below ↦ elim (cases_lt a at) [
          | inl before ↦ upto-out (word_at old) at values n a (λ le. absurd (omega arith)) ∙ sym (upto-out (word_at old) at values (suc n) a (λ le. absurd (omega arith)))
          | inr from ↦ elim (cases_lt a (at + 8 * n)) [
            | inl inside ↦ upto-in (word_at old) at values n a from inside ∙ sym (upto-in (word_at old) at values (suc n) a from below)
            | inr last ↦ absurd (off (omega (arith, f.inside, more)) (omega (arith, f.inside, f.aligned, more)))
          ]
        ]
      ]

  word_now : (a : ℕ) → word_at new a ≡ upto (word_at old) at values (suc n) a
  word_now a =
      elim (cases_eq (a / 4096) (at / 4096)) [
        | inr other ↦ at_others writes a (λ page word_is. other page) ∙ r.words a ∙ away a (λ page word_is. other page)
        | inl page ↦ elim (cases_eq (a % 4096 / 8) o) [
          | inl word_is ↦ here a page word_is
          | inr other ↦ at_others writes a (λ page word_is. other word_is) ∙ r.words a ∙ away a (λ page word_is. other word_is)
        ]
      ]

  run_step : Run old new at values (suc n)
  run_step = record {
    tables = tables_new writes;
    cells = λ d x le. cells writes d x le ∙ r.cells d x le;
    words = word_now;
    head = λ w lt. get_or-set_other mid place w (slice_index values n) 0 (λ e. omega (arith, e, place_is, lt, page_low writes)) ∙ r.head w lt;
    size = length-set mid place (slice_index values n) ∙ r.size;
  }

run_all : (old : List ℕ) (at : ℕ) (values : List ℕ) (n m : ℕ) → Fits old at m → n ≤ m → Run old (with_pairs (pairs_to (place_at old at) values n) old) at values n
run_all old at values zero m f le = record {
  tables = f.tables;
  cells = λ d x lt. refl;
  words = λ a. sym (upto-out (word_at old) at values 0 a (λ low. omega arith));
  head = λ w lt. refl;
  size = refl;
}
run_all old at values (suc n) m f le = run_step f (run_all old at values n m f (omega arith)) (omega arith)

-- The pairs of a run of words were added to those of a draft.
pub record Puts (img now : List ℕ) (ps qs : List Pair) (at : ℕ) (values : List ℕ) : Type 0 where
  pub same : SameOff InRecord now img
  pub is : with_pairs qs now ≡ with_pairs (pairs_to (place_at img at) values (length values) ++ ps) now
  pub aligned : at % 8 ≡ 0
  pub inside : at % 4096 + 8 * length values ≤ 4096
  pub high : at < 281474976710656
  pub there : page_at img 4 (at / 4096) ≢ 0

module _ {img now : List ℕ} {ps qs : List Pair} {at : ℕ} {values : List ℕ} (s : Puts img now ps qs at values) where
  abbrev middle : List ℕ
  middle = with_pairs ps now

  beside : Beside (with_pairs ps img) middle
  beside = record_beside img now ps s.same

  module _ (maps : MapsAlike (at / 549755813888) img (with_pairs ps img)) where
    page_stays : page_at middle 4 (at / 4096) ≡ page_at img 4 (at / 4096)
    page_stays = beside_cells beside 4 (at / 4096) ∙ same_page at maps

    run : Run middle (with_pairs qs now) at values (length values)
    run =
        let fits : Fits middle at (length values) = record { tables = beside_tables beside maps.after; aligned = s.aligned; inside = s.inside; there = λ z. s.there (sym page_stays ∙ z) } in
        let place : place_at middle at ≡ place_at img at = ap (λ p. p * 512 + at % 4096 / 8) page_stays in
        let words : with_pairs (pairs_to (place_at middle at) values (length values)) middle ≡ with_pairs qs now =
        ap (λ p. with_pairs (pairs_to p values (length values)) middle) place ∙ sym (with_pairs_append (pairs_to (place_at img at) values (length values)) ps now) ∙ sym s.is in
        subst (λ (x : List ℕ). Run middle x at values (length values)) words (run_all middle at values (length values) (length values) fits (omega arith))

    pub puts_rewrites : Rewrites (with_pairs ps img) (with_pairs qs now) at values
    puts_rewrites = record {
      tables = run.tables;
      cells = λ d x le. run.cells d x le ∙ beside_cells beside d x;
      words = λ a. run.words a ∙ ap (λ w. with_words w at values a) (λ i b. beside_words beside b i);
      head = λ w lt. run.head w lt ∙ beside.front w lt;
      size = run.size ∙ beside.size;
    }

  -- the tables of every root slot whose pages the pairs so far left are those under the draft
  pub puts_maps : MapsAlike (at / 549755813888) img (with_pairs ps img) → (slot : ℕ) → MapsAlike slot img (with_pairs ps img) → MapsAlike slot now (with_pairs qs now)
  puts_maps own slot maps =
      let under = under_beside img now s.same in
      let r = puts_rewrites own in
      record {
        tables = beside_tables under maps.tables;
        after = r.tables;
        count = r.head 2 (omega arith) ∙ maps.count ∙ sym (beside_count under);
        same = λ n in_slot. r.cells 4 n (omega arith) ∙ maps.same n in_slot ∙ sym (beside_cells under 4 n);
      }
