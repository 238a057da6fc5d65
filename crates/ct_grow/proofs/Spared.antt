-- Words that lie on no page from root slot 10 on.
use Rattle.std.proofs.Common.{◌≡◌, ◌≢◌, ℕ, ◌+◌, ◌-◌, ◌/◌, ◌%◌, ◌^◌, ◌<◌, List, [], ◌∷◌, ◌++◌, ◌∙◌, ◌⊎◌, inl, inr, arith}
use Rattle.std.specs.Prelude.{All}
use Rattle.std.proofs.lemmas.List.Elements.{All-head, All-tail}
use Rattle.ct_base.specs.declared.inode.Inode.{Inode}
use Rattle.ct_base.specs.Exchange.{HasTables}
use Rattle.ct_base.specs.Inode.{Partition, part}
use Rattle.ct_base.specs.Settled.{Pair, Named}
use Rattle.ct_base.specs.Walk.{page_at, AreTables}
use Rattle.ct_image.proofs.Beside.{Beside, beside_cells}
use Rattle.ct_swap.specs.Swap.{IsEntry, swap_pairs, first_pair, second_pair}
use Rattle.ct_grow.specs.Drafted.{IsWritten, NamesPlace, NamePlaces, CanMove}
use Rattle.ct_grow.specs.Moments.{IsSpare}
use Rattle.ct_grow.proofs.Heads.{path_bounds}

-- an entry of a table
pub entry_spare : (img : List ℕ) (w : ℕ) → AreTables img → IsEntry img w → IsSpare img w
entry_spare img w tables e q high is =
    let same : page_at img e.depth e.number ≡ page_at img 4 q = omega (arith, e.is, e.small, is) in
    let few = e.few in
    omega (arith, (tables.once e.depth e.number 4 q (omega arith) (omega arith) e.there same).0, few)

-- a word of data below root slot 10
pub place_spare : {img : List ℕ} {On : ℕ → Type 0} (w : ℕ) → AreTables img → NamesPlace img On w → ((a : ℕ) → On a → a < 2 ^ 40) → IsSpare img w
place_spare {img} w tables n low q high is =
    let same : page_at img 4 (n.address / 4096) ≡ page_at img 4 q = omega (arith, n.is, is) in
    let cell = tables.once 4 (n.address / 4096) 4 q (omega arith) (omega arith) n.there same in
    let below = low n.address n.on in
    omega (arith, cell.1)

pub written_low : {img : List ℕ} {i : ℕ} {f : Inode} {p : Partition} → CanMove img i f p → (a : ℕ) → IsWritten i f p a → a < 2 ^ 40
written_low {p = p} c a (inl (inl on)) = (path_bounds p c.new a on).1
written_low {f = f} c a (inl (inr (some, on))) = (path_bounds (part f) (c.has some).own a on).1
written_low c a (inr (inl is)) = let few = c.to in omega arith
written_low c a (inr (inr is)) = let few = c.to in omega arith

pub named_append : (ps qs : List Pair) (w : ℕ) → Named (ps ++ qs) w → Named ps w ⊎ Named qs w
named_append [] qs w named = inr named
named_append (p ∷ ps) qs w (inl here) = inl (inl here)
named_append (p ∷ ps) qs w (inr later) = elim (named_append ps qs w later) [ inl first ↦ inl (inr first) | inr second ↦ inr second ]

-- the words of an exchange are entries
pub swap_entries : (img : List ℕ) (a b : ℕ) (ps : List (ℕ × ℕ)) → All (HasTables img a b) ps → (w : ℕ) → Named (swap_pairs img a b ps) w → IsEntry img w
swap_entries img a b [] there w named = absurd named
swap_entries img a b (piece ∷ ps) there w named =
    let here = All-head (HasTables img a b) piece ps there in
    let k = piece.1 in
    elim (named_append (swap_pairs img a b ps) (second_pair img (a + piece.0) (b + piece.0) k ∷ first_pair img (a + piece.0) (b + piece.0) k ∷ []) w named) [
      | inl rest ↦ swap_entries img a b ps (All-tail (HasTables img a b) piece ps there) w rest
      | inr two ↦ elim two [
        | inl second ↦ record { depth = 3 - k; number = (b + piece.0) / 512 ^ (k + 1); index = (b + piece.0) / 512 ^ k % 512; few = omega arith; small = Rattle.std.proofs.Math.Nat.mod-lt ((b + piece.0) / 512 ^ k) (omega arith); there = here.1; is = second }
        | inr more ↦ elim more [
          | inl first ↦ record { depth = 3 - k; number = (a + piece.0) / 512 ^ (k + 1); index = (a + piece.0) / 512 ^ k % 512; few = omega arith; small = Rattle.std.proofs.Math.Nat.mod-lt ((a + piece.0) / 512 ^ k) (omega arith); there = here.0; is = first }
          | inr none ↦ absurd none
        ]
      ]
    ]

pub swaps_spare : (img : List ℕ) (a b : ℕ) (ps : List (ℕ × ℕ)) → AreTables img → All (HasTables img a b) ps → (w : ℕ) → Named (swap_pairs img a b ps) w → IsSpare img w
swaps_spare img a b ps tables there w named = entry_spare img w tables (swap_entries img a b ps there w named)

pub names_spare : {img : List ℕ} {On : ℕ → Type 0} {pairs : List Pair} → AreTables img → NamePlaces img On pairs → ((a : ℕ) → On a → a < 2 ^ 40) → (w : ℕ) → Named pairs w → IsSpare img w
names_spare tables names low w named = place_spare w tables (names.each w named) low

-- the same where words of the record differ
pub spare_back : {img now : List ℕ} → Beside img now → (w : ℕ) → IsSpare now w → IsSpare img w
spare_back s w spare q high is = spare q high (beside_cells s 4 q ∙ is)
