-- Pairs that name words of mapped pages alone: the tables stay, and so does each byte at another address.
use Rattle.std.proofs.Common.{◌≡◌, ◌≢◌, ℕ, zero, suc, ◌+◌, ◌*◌, ◌/◌, ◌%◌, ◌^◌, ◌<◌, ◌≤◌, List, [], ◌∷◌, ◌++◌, sym, ap, subst, ◌∙◌, ◌⊎◌, inl, inr, arith}
use Rattle.std.specs.Prelude.{All}
use Rattle.std.proofs.lemmas.List.Elements.{All-head, All-tail}
use Rattle.ct_base.specs.Settled.{Pair, Named, with_pairs}
use Rattle.ct_base.specs.Walk.{word, byte, byte_in, page_at, AreTables}
use Rattle.ct_base.specs.Words.{place_at, pairs_to}
use Rattle.ct_header.specs.Drafted.{AddsPairs}
use Rattle.ct_image.proofs.Beside.{Beside, beside_cells}
use Rattle.ct_image.proofs.Pairs.{with_pairs_off}
use Rattle.ct_image.proofs.Steps.{walk-cell, byte_in-same, page_at-low, page_at-root}
use Rattle.ct_swap.specs.Swap.{LeaveTables}
use Rattle.ct_swap.proofs.Pairing.{leave_same}
use Rattle.ct_words.specs.Drafted.{MapsAlike}
use Rattle.ct_grow.specs.Drafted.{NamesPlace, NamePlaces}
use Rattle.ct_swap.proofs.Goes.{SameTables}

module _ {img : List ℕ} {On : ℕ → Type 0} {pairs : List Pair} (tables : AreTables img) (names : NamePlaces img On pairs) where
  -- a page of data is no table
  place_low : (w : ℕ) → NamesPlace img On w → 17408 ≤ w
  place_low w n =
      let low = page_at-low img 4 (n.address / 4096) n.there in
      let not_root : page_at img 4 (n.address / 4096) ≢ 33 = λ is. omega (arith, (tables.once 4 (n.address / 4096) 0 0 (omega arith) (omega arith) n.there (is ∙ sym (page_at-root img))).0) in
      omega (arith, n.is, low, not_root)

  pub names_low : (w : ℕ) → Named pairs w → 16896 ≤ w
  names_low w named = omega (arith, place_low w (names.each w named))

  pub names_leave : LeaveTables img pairs
  names_leave w named entry =
      let n = names.each w named in
      let same : page_at img entry.depth entry.number ≡ page_at img 4 (n.address / 4096) = omega (arith, entry.is, n.is, entry.small) in
      let few = entry.few in
      let cell = tables.once entry.depth entry.number 4 (n.address / 4096) (omega arith) (omega arith) entry.there same in
      omega (arith, cell.0, few)

  pub names_tables : SameTables img (with_pairs pairs img)
  names_tables = leave_same img pairs tables names_leave names_low

  -- a byte at another address stays
  pub names_bytes : (v : ℕ) → v < 2 ^ 48 → ((a : ℕ) → On a → v / 8 ≢ a / 8) → byte (with_pairs pairs img) v ≡ byte img v
  names_bytes v lt off =
      let new = with_pairs pairs img in
      ap (λ t. byte_in new t (v % 4096)) (walk-cell new v lt ∙ names_tables.pages 4 (v / 4096) (omega arith))
      ∙ byte_in-same img new (page_at img 4 (v / 4096)) (v % 4096) (λ there. with_pairs_off pairs img _ (λ named.
      let n = names.each _ named in
      let aligned = n.aligned in
      let same : page_at img 4 (v / 4096) ≡ page_at img 4 (n.address / 4096) = omega (arith, n.is) in
      let cell = tables.once 4 (v / 4096) 4 (n.address / 4096) (omega arith) (omega arith) there same in
      off n.address n.on (omega (arith, n.is, same, cell.1))))
      ∙ sym (ap (λ t. byte_in img t (v % 4096)) (walk-cell img v lt))

  pub names_superblock : (w : ℕ) → w < 512 → word (with_pairs pairs img) w ≡ word img w
  names_superblock w lt = with_pairs_off pairs img w (λ named. omega (arith, names_low w named))

-- ---- where the pairs come from

pub names_none : (img : List ℕ) (On : ℕ → Type 0) (pairs : List Pair) → pairs ≡ [] → NamePlaces img On pairs
names_none img On pairs none = record { each = λ w named. absurd (subst (λ (ps : List Pair). Named ps w) none named) }

pub names_wider : {img : List ℕ} {On More : ℕ → Type 0} {pairs : List Pair} → ((a : ℕ) → On a → More a) → NamePlaces img On pairs → NamePlaces img More pairs
names_wider wider names = record {
  each = λ w named.
      let n = names.each w named in
      record { address = n.address; on = wider n.address n.on; aligned = n.aligned; there = n.there; is = n.is };
}

-- the places are the same where words of the record differ
pub names_beside : {img now : List ℕ} {On : ℕ → Type 0} {pairs : List Pair} → Beside img now → NamePlaces img On pairs → NamePlaces now On pairs
names_beside {img} {now} s names = record {
  each = λ w named.
      let n = names.each w named in
      let same = beside_cells s 4 (n.address / 4096) in
      record {
        address = n.address;
        on = n.on;
        aligned = n.aligned;
        there = λ none. n.there (sym same ∙ none);
        is = n.is ∙ ap (λ p. p * 512 + n.address % 4096 / 8) (sym same);
      };
}

named_append : (ps qs : List Pair) (w : ℕ) → Named (ps ++ qs) w → Named ps w ⊎ Named qs w
named_append [] qs w named = inr named
named_append (p ∷ ps) qs w (inl here) = inl (inl here)
named_append (p ∷ ps) qs w (inr later) = elim (named_append ps qs w later) [ inl first ↦ inl (inr first) | inr second ↦ inr second ]

pub names_append : {img : List ℕ} {On : ℕ → Type 0} {ps qs rs : List Pair} → rs ≡ ps ++ qs → NamePlaces img On ps → NamePlaces img On qs → NamePlaces img On rs
names_append {ps = ps} {qs = qs} is first second = record {
  each = λ w named. elim (named_append ps qs w (subst (λ (l : List Pair). Named l w) is named)) [ inl one ↦ first.each w one | inr two ↦ second.each w two ];
}

all_named : (Names : ℕ → Type 0) (ps : List Pair) → All (λ (pair : Pair). Names pair.word) ps → (w : ℕ) → Named ps w → Names w
all_named Names [] all w named = absurd named
all_named Names (p ∷ ps) all w (inl here) = subst Names (sym here) (All-head (λ (pair : Pair). Names pair.word) p ps all)
all_named Names (p ∷ ps) all w (inr later) = all_named Names ps (All-tail (λ (pair : Pair). Names pair.word) p ps all) w later

-- pairs of which each names such a word were added
pub names_added : {img : List ℕ} {On : ℕ → Type 0} {ps qs : List Pair} {Names : ℕ → Type 0} → ((w : ℕ) → Names w → NamesPlace img On w) → AddsPairs Names ps qs → NamePlaces img On ps → NamePlaces img On qs
names_added {img} {On} {Names = Names} gives added old = names_append added.goes_on (record { each = λ w named. gives w (all_named Names added.added added.each w named) }) old

-- a run of words in a page
pub names_run : (img : List ℕ) (On : ℕ → Type 0) (at : ℕ) (values : List ℕ) (n : ℕ) → at % 8 ≡ 0 → at % 4096 + 8 * n ≤ 4096 → page_at img 4 (at / 4096) ≢ 0 → ((k : ℕ) → k < n → On (at + 8 * k)) → NamePlaces img On (pairs_to (place_at img at) values n)
names_run img On at values n aligned inside there on = record { each = λ w named. go n w inside on named }
  where
    go : (n w : ℕ) → at % 4096 + 8 * n ≤ 4096 → ((k : ℕ) → k < n → On (at + 8 * k)) → Named (pairs_to (place_at img at) values n) w → NamesPlace img On w
    go zero w inside on named = absurd named
    go (suc n) w inside on (inl here) =
        let page : (at + 8 * n) / 4096 ≡ at / 4096 = omega arith in
        let same : page_at img 4 ((at + 8 * n) / 4096) ≡ page_at img 4 (at / 4096) = ap (page_at img 4) page in
        let index : (at + 8 * n) % 4096 / 8 ≡ at % 4096 / 8 + n = omega arith in
        record { address = at + 8 * n; on = on n (omega arith); aligned = omega arith; there = λ none. there (sym same ∙ none); is = omega (arith, here, same, index) }
    go (suc n) w inside on (inr later) = go n w (omega arith) (λ k lt. on k (omega arith)) later

-- the pages of each root slot are the same
pub names_maps : {img : List ℕ} (pairs : List Pair) → SameTables img (with_pairs pairs img) → (slot : ℕ) → MapsAlike slot img (with_pairs pairs img)
names_maps pairs s slot = record { tables = s.tables; after = s.same; count = s.count; same = λ n in_slot. s.pages 4 n (omega arith) }
