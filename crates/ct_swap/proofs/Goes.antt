-- The loop over the pieces.
use Rattle.std.proofs.Common.{◌≡◌, ◌≢◌, ℕ, ◌+◌, ◌-◌, ◌*◌, ◌/◌, ◌%◌, ◌^◌, ◌<◌, ◌≤◌, List, [], ◌∷◌, length, set, refl, sym, ap, subst, ◌∙◌, inl, inr, arith}
use Rattle.std.specs.Prelude.{All}
use Rattle.std.proofs.lemmas.Bool.{cases_eq, cases_lt}
use Rattle.std.proofs.lemmas.List.{get_or-set_same, get_or-set_other, length-set}
use Rattle.std.proofs.lemmas.List.Elements.{All-head, All-tail}
use Rattle.std.proofs.lemmas.Nat.{le-div, pow-add}
use Rattle.std.proofs.Math.Nat.{div-add-mod, div-div-eq-div-mul, div-mul-le_self, mod_self, mul-add-mod_self_left, mul-le-mul_left, mul-mod_left, mul_assoc, pow-suc, zero-mod}
use Rattle.ct_base.specs.Walk.{word, page_at, page_count, AreTables}
use Rattle.ct_image.proofs.Steps.{page_at-low, page_at-high}
use Rattle.ct_image.proofs.Swap.{Swaps}
use Rattle.ct_base.specs.Pieces.{pieces_from, pieces, height_at, IsBlock}
use Rattle.ct_pieces.proofs.Steps.{pieces_from-past, pieces_from-step, width_pos}
use Rattle.ct_pieces.proofs.Least.{height_block, height_greatest}
use Rattle.ct_base.specs.Exchange.{Apart, Outside, Exchanged, HasTables, entry_at}
use Rattle.ct_image.proofs.Exchanging.{exchanged_none, exchanged-step}

-- the tables after the pairs are those of the device
pub record SameTables (device drafted : List ℕ) : Type 0 where
  pub tables : AreTables device
  pub pages : (e x : ℕ) → e ≤ 4 → page_at drafted e x ≡ page_at device e x
  pub same : AreTables drafted
  pub count : page_count drafted ≡ page_count device
  pub size : length drafted ≡ length device

-- two words change places
unfoldable pub with_swap : List ℕ → ℕ → ℕ → List ℕ
with_swap img w1 w2 = set (set img w1 (word img w2)) w2 (word img w1)

-- where all begins at multiples of 512 ^ j pages and a lower piece has begun so many, n lies among them: each piece is as
-- high as can be
pub record Begun (a b n at : ℕ) : Type 0 where
  pub last : (j : ℕ) → j ≤ 3 → a % 512 ^ j ≡ 0 → b % 512 ^ j ≡ 0 → at % 512 ^ j ≢ 0 → n / 512 ^ j ≤ at / 512 ^ j

-- Of the pieces from offset at on these are left, and those before are exchanged.
pub record Goes (device old now : List ℕ) (a b n at : ℕ) (left : List (ℕ × ℕ)) : Type 0 where
  pub in_range : at ≤ n
  pub left_is : left ≡ pieces_from (n - at) a b n at
  pub exchanged : Exchanged old now a b at
  pub begun : Begun a b n at
  pub there : All (HasTables device a b) left

pub goes_start : (device old : List ℕ) (a b n : ℕ) → SameTables device old → All (HasTables device a b) (pieces a b n) → Goes device old old a b n 0 (pieces a b n)
goes_start device old a b n same there =
    record {
      in_range = omega arith;
      left_is = ap (λ k. pieces_from k a b n 0) (omega arith);
      exchanged = exchanged_none old a b same.same;
      begun = record { last = λ j le first second inner. absurd (inner (zero-mod (512 ^ j))) };
      there = there;
    }

pub goes_end : (device old now : List ℕ) (a b n at : ℕ) → Goes device old now a b n at [] → Exchanged old now a b n
goes_end device old now a b n at goes =
    elim (cases_lt at n) [
      | inl lt ↦ cc (goes.left_is, pieces_from-step a b n at (height_at a b n at) (at + 512 ^ height_at a b n at) lt refl refl)
      | inr past ↦ subst (λ (k : ℕ). Exchanged old now a b k) (omega (arith, goes.in_range)) goes.exchanged
    ]

-- number p / 512 ^ h by its table and its entry
pub digits : (p h : ℕ) → p / 512 ^ (h + 1) * 512 + p / 512 ^ h % 512 ≡ p / 512 ^ h
digits p h =
    let up : p / 512 ^ h / 512 ≡ p / 512 ^ (h + 1) = div-div-eq-div-mul p (512 ^ h) 512 ∙ ap (λ w. p / w) (sym (pow-suc 512 h) ∙ ap (λ k. 512 ^ k) (omega arith)) in
    omega (arith, up)

-- what is aligned is its quotient times the width
pub aligned : (p w : ℕ) → p % w ≡ 0 → p / w * w ≡ p
aligned p w e = omega (arith, div-add-mod p w, e)

-- ---- blocks that were begun

-- a multiple of 512 ^ h is one of each lower power
lower : (j h x : ℕ) → j ≤ h → x % 512 ^ h ≡ 0 → x % 512 ^ j ≡ 0
lower j h x le e =
    let width : 512 ^ (h - j) * 512 ^ j ≡ 512 ^ h = sym (pow-add 512 (h - j) j) ∙ ap (λ k. 512 ^ k) (omega arith) in
    let times : x / 512 ^ h * 512 ^ (h - j) * 512 ^ j ≡ x = mul_assoc (x / 512 ^ h) (512 ^ (h - j)) (512 ^ j) ∙ ap (λ w. x / 512 ^ h * w) width ∙ aligned x (512 ^ h) e in
    ap (λ y. y % 512 ^ j) (sym times) ∙ mul-mod_left (x / 512 ^ h * 512 ^ (h - j)) (512 ^ j)

multiple_more : (w x y : ℕ) → x % w ≡ 0 → (x + y) % w ≡ y % w
multiple_more w x y e =
    let whole : w * (x / w) ≡ x = omega (arith, div-add-mod x w, e) in
    ap (λ z. (z + y) % w) (sym whole) ∙ mul-add-mod_self_left w (x / w) y

div_mono : (w x y : ℕ) → 0 < w → x ≤ y → x / w ≤ y / w
div_mono w x y pos le = le-div (x / w) y w pos (omega (arith, div-mul-le_self x w))

-- a block of a height above that of the piece at its begin, or behind it, is the last one
last_block : (a b n o j : ℕ) → o < n → j ≤ 3 → height_at a b n o < j → a % 512 ^ j ≡ 0 → b % 512 ^ j ≡ 0 → Begun a b n o → n / 512 ^ j ≤ o / 512 ^ j
last_block a b n o j lt le higher first second begun =
    let w = 512 ^ j in
    elim (cases_eq (o % w) 0) [
      | inr inner ↦ begun.last j le first second inner
      | inl whole ↦ elim (cases_lt (o / w) (n / w)) [
        | inr last ↦ last
        | inl more ↦
            let up : w * (o / w + 1) ≤ w * (n / w) = mul-le-mul_left w (omega (arith, more)) in
            let inside : o + w ≤ n = omega (arith, up, div-add-mod o w, div-add-mod n w, whole) in
            let block : IsBlock a b n (o, j) = record { height = le; first = multiple_more w a o first ∙ whole; second = multiple_more w b o second ∙ whole; inside = inside } in
            absurd (omega (arith, higher, height_greatest a b n o j block))
      ]
    ]

-- so where blocks end with a piece, they are no longer than it
pub greedy : (a b n o j h : ℕ) → o < n → h ≡ height_at a b n o → o + 512 ^ h ≤ n → Begun a b n o → j ≤ 3 → a % 512 ^ j ≡ 0 → b % 512 ^ j ≡ 0 → (o + 512 ^ h) % 512 ^ j ≡ 0 → j ≤ h
greedy a b n o j h lt highest inside begun le first second whole =
    let w = 512 ^ j in
    let end = o + 512 ^ h in
    elim (cases_lt h j) [
      | inr low ↦ low
      | inl higher ↦
          let last = last_block a b n o j lt le (omega (arith, higher, highest)) first second begun in
          let still : w * (end / w) ≤ w * (o / w) = mul-le-mul_left w (omega (arith, div_mono w end n (width_pos j) inside, last)) in
          absurd (omega (arith, still, div-add-mod end w, div-add-mod o w, whole, width_pos h))
    ]

-- and the next piece finds as much
pub begun_step : (a b n o h : ℕ) → o < n → h ≡ height_at a b n o → (a + o) % 512 ^ h ≡ 0 → Begun a b n o → Begun a b n (o + 512 ^ h)
begun_step a b n o h lt highest aligned_o begun = record {
  last = λ j le first second inner.
      let w = 512 ^ j in
      elim (cases_lt h j) [
        | inl higher ↦
            omega (arith, last_block a b n o j lt le (omega (arith, higher, highest)) first second begun, div_mono w o (o + 512 ^ h) (width_pos j) (omega arith))
        | inr low ↦
            let whole : o % w ≡ 0 = sym (multiple_more w a o first) ∙ lower j h (a + o) low aligned_o in
            absurd (inner (multiple_more w o (512 ^ h) whole ∙ lower j h (512 ^ h) low (mod_self (512 ^ h))))
      ];
}

-- two entries change places, by two writes
swaps_by_sets : (mid : List ℕ) (d x ix z iz w1 w2 : ℕ) → AreTables mid → d ≤ 3 → ix < 512 → iz < 512 → page_at mid d x ≢ 0 → page_at mid d z ≢ 0
    → w1 ≡ page_at mid d x * 512 + ix → w2 ≡ page_at mid d z * 512 + iz → w1 ≢ w2
    → Swaps mid (set (set mid w1 (word mid w2)) w2 (word mid w1)) d x ix z iz
swaps_by_sets mid d x ix z iz w1 w2 tables depth lx lz tx tz e1 e2 apart =
    let in1 : w1 < length mid = omega (arith, page_at-high mid d x tables.some, tables.there, e1) in
    let in2 : w2 < length mid = omega (arith, page_at-high mid d z tables.some, tables.there, e2) in
    let size1 = length-set mid w1 (word mid w2) in
    let new = set (set mid w1 (word mid w2)) w2 (word mid w1) in
    let first : word new w1 ≡ word mid w2 = get_or-set_other (set mid w1 (word mid w2)) w2 w1 (word mid w1) 0 apart ∙ get_or-set_same mid w1 (word mid w2) 0 in1 in
    let second : word new w2 ≡ word mid w1 = get_or-set_same (set mid w1 (word mid w2)) w2 (word mid w1) 0 (omega (arith, size1, in2)) in
    record {
      tables = tables;
      depth = depth;
      index_i = lx;
      index_j = lz;
      table_x = tx;
      table_z = tz;
      first = ap (word new) (sym e1) ∙ first ∙ ap (word mid) e2;
      second = ap (word new) (sym e2) ∙ second ∙ ap (word mid) e1;
      others = λ w not1 not2. get_or-set_other _ w2 w _ 0 (λ is. not2 (is ∙ e2)) ∙ get_or-set_other mid w1 w _ 0 (λ is. not1 (is ∙ e1));
      size = length-set (set mid w1 (word mid w2)) w2 (word mid w1) ∙ size1;
    }

-- an entry of a table that is there is on the device
pub entry_there : (device : List ℕ) (p h : ℕ) → AreTables device → page_at device (3 - h) (p / 512 ^ (h + 1)) ≢ 0
    → (16896 ≤ entry_at device p h) × (entry_at device p h < 512 * page_count device)
entry_there device p h tables there =
    let low = page_at-low device (3 - h) (p / 512 ^ (h + 1)) there in
    let high = page_at-high device (3 - h) (p / 512 ^ (h + 1)) tables.some in
    (omega (arith, low), omega (arith, high))

-- what is known of the first piece that is left
pub record Head (device : List ℕ) (a b n at o h : ℕ) (rest : List (ℕ × ℕ)) : Type 0 where
  pub at_is : at ≡ o
  pub low : h ≤ 3
  pub highest : h ≡ height_at a b n o
  pub inside : o + 512 ^ h ≤ n
  pub first_there : page_at device (3 - h) ((a + o) / 512 ^ (h + 1)) ≢ 0
  pub second_there : page_at device (3 - h) ((b + o) / 512 ^ (h + 1)) ≢ 0
  pub first : (a + o) % 512 ^ h ≡ 0
  pub second : (b + o) % 512 ^ h ≡ 0
  pub rest_is : rest ≡ pieces_from (n - (o + 512 ^ h)) a b n (o + 512 ^ h)

-- the first piece that is left is a block, and the others follow it
pub record Block (a b n at o h : ℕ) (rest : List (ℕ × ℕ)) : Type 0 where
  pub at_is : at ≡ o
  pub highest : h ≡ height_at a b n o
  pub block : IsBlock a b n (o, h)
  pub rest_is : rest ≡ pieces_from (n - (o + 512 ^ h)) a b n (o + 512 ^ h)

pub block_of : (a b n at o h : ℕ) (rest : List (ℕ × ℕ)) → (o, h) ∷ rest ≡ pieces_from (n - at) a b n at → Block a b n at o h rest
block_of a b n at o h rest left_is =
    elim (cases_lt at n) [
      | inr past ↦ cc (left_is, pieces_from-past (n - at) a b n at past)
      | inl lt ↦
          let k = height_at a b n at in
          let step = left_is ∙ pieces_from-step a b n at k (at + 512 ^ k) lt refl refl in
          let P : Type 0 = ℕ × ℕ in
          let first : P = (o, h) in
          let here : P = (at, k) in
          let pair : first ≡ here = cc in
          let o_is : at ≡ o = ap (λ (x : ℕ × ℕ). x.0) (sym pair) in
          let h_is : k ≡ h = ap (λ (x : ℕ × ℕ). x.1) (sym pair) in
          let rest_at : rest ≡ pieces_from (n - (at + 512 ^ k)) a b n (at + 512 ^ k) = cc in
          let j : at + 512 ^ k ≡ o + 512 ^ h = ap (λ x. x + 512 ^ k) o_is ∙ ap (λ x. o + 512 ^ x) h_is in
          record {
            at_is = o_is;
            highest = sym h_is ∙ ap (height_at a b n) o_is;
            block = subst (λ (x : ℕ). IsBlock a b n (x, h)) o_is (subst (λ (x : ℕ). IsBlock a b n (at, x)) h_is (height_block a b n at lt));
            rest_is = rest_at ∙ ap (λ x. pieces_from (n - x) a b n x) j;
          }
    ]

pub head_of : (device : List ℕ) (a b n at o h : ℕ) (rest : List (ℕ × ℕ)) → at ≤ n → (o, h) ∷ rest ≡ pieces_from (n - at) a b n at → All (HasTables device a b) ((o, h) ∷ rest) → Head device a b n at o h rest
head_of device a b n at o h rest in_range left_is all =
    let it = block_of a b n at o h rest left_is in
    let there : HasTables device a b (o, h) = All-head (HasTables device a b) (o, h) rest all in
    record {
      at_is = it.at_is;
      low = it.block.height;
      highest = it.highest;
      inside = it.block.inside;
      first_there = there.0;
      second_there = there.1;
      first = it.block.first;
      second = it.block.second;
      rest_is = it.rest_is;
    }

pub head_is : (device old mid : List ℕ) (a b n at o h : ℕ) (rest : List (ℕ × ℕ)) → Goes device old mid a b n at ((o, h) ∷ rest) → Head device a b n at o h rest
head_is device old mid a b n at o h rest goes = head_of device a b n at o h rest goes.in_range goes.left_is goes.there

-- one piece further
pub goes_step : (device old mid : List ℕ) (a b n at o h : ℕ) (rest : List (ℕ × ℕ)) → Goes device old mid a b n at ((o, h) ∷ rest) → SameTables device old → Apart a b n
    → Goes device old (with_swap mid (entry_at device (a + o) h) (entry_at device (b + o) h)) a b n (o + 512 ^ h) rest
unfolding with_swap
goes_step device old mid a b n at o h rest goes same apart =
    let head = head_is device old mid a b n at o h rest goes in
    let d = 3 - h in
    let p = a + o in
    let q = b + o in
    let x = p / 512 ^ (h + 1) in
    let z = q / 512 ^ (h + 1) in
    let w = 512 ^ h in
    let pos = width_pos h in
    let up : 4 - d ≡ h + 1 = omega (arith, head.low) in
    let now : Exchanged old mid a b o = subst (λ (k : ℕ). Exchanged old mid a b k) head.at_is goes.exchanged in
    let in_range : o < n = omega (arith, head.inside, pos) in
    let out_p : Outside a b o p = record { first = λ le. omega arith; second = λ le. elim apart [ inl l ↦ absurd (omega arith) | inr l ↦ omega arith ] } in
    let out_q : Outside a b o q = record { first = λ le. elim apart [ inl l ↦ omega arith | inr l ↦ absurd (omega arith) ]; second = λ le. omega arith } in
    let same_x : page_at mid d x ≡ page_at device d x =
    ap (λ k. page_at mid d (p / 512 ^ k)) (sym up) ∙ now.cells d p (omega arith) out_p ∙ ap (λ k. page_at old d (p / 512 ^ k)) up ∙ same.pages d x (omega arith) in
    let same_z : page_at mid d z ≡ page_at device d z =
    ap (λ k. page_at mid d (q / 512 ^ k)) (sym up) ∙ now.cells d q (omega arith) out_q ∙ ap (λ k. page_at old d (q / 512 ^ k)) up ∙ same.pages d z (omega arith) in
    let there_x : page_at mid d x ≢ 0 = λ none. head.first_there (sym same_x ∙ none) in
    let there_z : page_at mid d z ≢ 0 = λ none. head.second_there (sym same_z ∙ none) in
    let ix = p / w % 512 in
    let iz = q / w % 512 in
    let w1 = entry_at device p h in
    let w2 = entry_at device q h in
    let e1 : w1 ≡ page_at mid d x * 512 + ix = ap (λ k. k * 512 + ix) (sym same_x) in
    let e2 : w2 ≡ page_at mid d z * 512 + iz = ap (λ k. k * 512 + iz) (sym same_z) in
    let at_a : (x * 512 + ix) * w ≡ a + o = ap (λ k. k * w) (digits p h) ∙ aligned p w head.first in
    let at_b : (z * 512 + iz) * w ≡ b + o = ap (λ k. k * w) (digits q h) ∙ aligned q w head.second in
    let differ : w1 ≢ w2 = λ is.
    let tables : page_at mid d x ≡ page_at mid d z = omega (arith, e1, e2, is) in
    let cells = (now.tables.once d x d z (omega arith) (omega arith) there_x tables).1 in
    let entries : ix ≡ iz = omega (arith, e1, e2, is, tables) in
    let both : a + o ≡ b + o = sym at_a ∙ ap (λ k. (k * 512 + ix) * w) cells ∙ ap (λ k. (z * 512 + k) * w) entries ∙ at_b in
    elim apart [ inl l ↦ omega arith | inr l ↦ omega arith ] in
    let begun : Begun a b n o = subst (Begun a b n) head.at_is goes.begun in
    let swaps = swaps_by_sets mid d x ix z iz w1 w2 now.tables (omega arith) (omega arith) (omega arith) there_x there_z e1 e2 differ in
    record {
      in_range = head.inside;
      left_is = head.rest_is;
      exchanged = exchanged-step {n = n} h now swaps (omega (arith, head.low)) at_a at_b head.inside apart
          (λ j le first second whole. greedy a b n o j h in_range head.highest head.inside begun le first second whole);
      begun = begun_step a b n o h in_range head.highest head.first begun;
      there = All-tail (HasTables device a b) (o, h) rest goes.there;
    }

-- the entries of two pieces that are not the same block are two words
pub entry_apart : (device : List ℕ) (p h q k : ℕ) → AreTables device → h ≤ 3 → k ≤ 3 → page_at device (3 - h) (p / 512 ^ (h + 1)) ≢ 0 → page_at device (3 - k) (q / 512 ^ (k + 1)) ≢ 0
    → entry_at device p h ≡ entry_at device q k → (h ≡ k) × (p / 512 ^ h ≡ q / 512 ^ k)
entry_apart device p h q k tables low low' there there' same =
    let table : page_at device (3 - h) (p / 512 ^ (h + 1)) ≡ page_at device (3 - k) (q / 512 ^ (k + 1)) = omega (arith, same) in
    let entry : p / 512 ^ h % 512 ≡ q / 512 ^ k % 512 = omega (arith, same, table) in
    let cell = tables.once (3 - h) (p / 512 ^ (h + 1)) (3 - k) (q / 512 ^ (k + 1)) (omega arith) (omega arith) there table in
    (omega (arith, cell.0), omega (arith, digits p h, digits q k, cell.1, entry))
