-- Pairs that are added to those of a draft, whatever they did to other pages.
use Rattle.std.proofs.Common.{◌≡◌, ◌≢◌, ℕ, ◌+◌, ◌*◌, ◌/◌, ◌%◌, ◌<◌, ◌≤◌, List, [], ◌++◌, length, refl, sym, ap, subst, ◌∙◌, inl, inr}
use Rattle.std.specs.Prelude.{nat_le, nat_lt, ◌&&◌}
use Rattle.std.proofs.lemmas.Bool.{cases_Bool}
use Rattle.ct_base.specs.Settled.{Pair, with_pairs}
use Rattle.ct_base.specs.Walk.{page_at, AreTables}
use Rattle.ct_base.specs.Words.{Rewrites, pairs_to, place_at, with_words, word_at}
use Rattle.ct_image.proofs.Beside.{Beside, beside_cells, beside_tables, beside_words}
use Rattle.ct_pm.specs.Device.{SameOff}
use Rattle.ct_record.specs.Record.{InRecord}
use Rattle.ct_words.proofs.Placed.{record_beside}
use Rattle.ct_words.proofs.Runs.{Puts, puts_rewrites, with_pairs_append}

-- a run of words was added, in a page that is where it was
pub record Added (img now : List ℕ) (ps qs : List Pair) (at : ℕ) (values : List ℕ) : Type 0 where
  pub same : SameOff InRecord now img
  pub is : with_pairs qs now ≡ with_pairs (pairs_to (place_at img at) values (length values) ++ ps) now
  pub aligned : at % 8 ≡ 0
  pub inside : at % 4096 + 8 * length values ≤ 4096
  pub high : at < 281474976710656
  pub there : page_at img 4 (at / 4096) ≢ 0
  pub tables : AreTables (with_pairs ps img)
  pub page : page_at (with_pairs ps img) 4 (at / 4096) ≡ page_at img 4 (at / 4096)

module _ {img now : List ℕ} {ps qs : List Pair} {at : ℕ} {values : List ℕ} (s : Added img now ps qs at values) where
  abbrev middle : List ℕ
  middle = with_pairs ps now

  beside : Beside (with_pairs ps img) middle
  beside = record_beside img now ps s.same

  page_stays : page_at middle 4 (at / 4096) ≡ page_at img 4 (at / 4096)
  page_stays = beside_cells beside 4 (at / 4096) ∙ s.page

  puts : Puts middle middle [] (pairs_to (place_at middle at) values (length values) ++ []) at values
  puts = record {
    same = record { others = λ w out. refl; size = refl };
    is = refl;
    aligned = s.aligned;
    inside = s.inside;
    high = s.high;
    there = λ z. s.there (sym page_stays ∙ z);
  }

  words : with_pairs (pairs_to (place_at middle at) values (length values) ++ []) middle ≡ with_pairs qs now
  words =
      let place : place_at middle at ≡ place_at img at = ap (λ p. p * 512 + at % 4096 / 8) page_stays in
      with_pairs_append (pairs_to (place_at middle at) values (length values)) [] middle
      ∙ ap (λ p. with_pairs (pairs_to p values (length values)) middle) place
      ∙ sym (with_pairs_append (pairs_to (place_at img at) values (length values)) ps now) ∙ sym s.is

  after : Rewrites middle (with_pairs qs now) at values
  after = subst (λ (x : List ℕ). Rewrites middle x at values) words (puts_rewrites puts (record {
    tables = beside_tables beside s.tables;
    after = beside_tables beside s.tables;
    count = refl;
    same = λ n is. refl;
  }))

  pub added_rewrites : Rewrites (with_pairs ps img) (with_pairs qs now) at values
  added_rewrites = record {
    tables = after.tables;
    cells = λ d x le. after.cells d x le ∙ beside_cells beside d x;
    words = λ a. after.words a ∙ ap (λ w. with_words w at values a) (λ i b. beside_words beside b i);
    head = λ w lt. after.head w lt ∙ beside.front w lt;
    size = after.size ∙ beside.size;
  }

-- where the words of a run may become some values or others, they go from the first to the others
pub rewrites_over : {old middle new : List ℕ} {at : ℕ} {xs ys : List ℕ} → Rewrites old middle at xs → Rewrites old new at ys → length xs ≡ length ys → Rewrites middle new at ys
rewrites_over {old} {middle} {new} {at} {xs} {ys} first second size = record {
  tables = second.tables;
  cells = λ d x le. second.cells d x le ∙ sym (first.cells d x le);
  words = λ a. second.words a ∙ over a;
  head = λ w lt. second.head w lt ∙ sym (first.head w lt);
  size = second.size ∙ sym first.size;
} where
  over : (a : ℕ) → with_words (word_at old) at ys a ≡ with_words (word_at middle) at ys a
  over a = elim (cases_Bool (nat_le at a && nat_lt a (at + 8 * length ys))) [
    | inl inside ↦ rw inside refl
    | inr outside ↦ rw outside (sym (first.words a ∙ rw (ap (λ n. nat_le at a && nat_lt a (at + 8 * n)) size ∙ outside) refl))
  ]
