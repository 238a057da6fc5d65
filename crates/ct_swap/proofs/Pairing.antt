-- The pairs of pieces, and the tables once they are applied.
use Rattle.std.proofs.Common.{◌≡◌, ◌≢◌, ℕ, zero, suc, ◌+◌, ◌-◌, ◌*◌, ◌/◌, ◌%◌, ◌^◌, ◌<◌, ◌≤◌, List, [], ◌∷◌, ◌++◌, length, set, refl, sym, ap, ap₂, subst, ◌∙◌, ◌⊎◌, inl, inr, append_assoc, arith}
use Rattle.std.specs.Prelude.{All}
use Rattle.std.proofs.lemmas.Bool.{cases_eq}
use Rattle.std.proofs.lemmas.List.{append-nil}
use Rattle.std.proofs.lemmas.List.Elements.{All-tail}
use Rattle.ct_base.specs.Walk.{word, page_at, page_count, next, AreTables}
use Rattle.ct_base.specs.Exchange.{Apart, Outside, Exchanged, HasTables, entry_at}
use Rattle.ct_base.specs.Pieces.{pieces_from, pieces}
use Rattle.ct_base.specs.Settled.{Pair, with_pairs, Named}
use Rattle.ct_image.proofs.Steps.{page_at-same_root, page_at-next, page_at-entry, page_at-low, next-same, next-at, named_page-bounds}
use Rattle.ct_image.proofs.Pairs.{length-with_pairs, with_pairs_off, with_pairs_alike}
use Rattle.ct_image.proofs.Beside.{Beside, beside_cells, beside_tables, beside_count}
use Rattle.ct_pieces.proofs.Steps.{width_pos}
use Rattle.ct_pm.specs.Device.{SameOff}
use Rattle.ct_record.specs.Record.{InRecord}
use Rattle.ct_swap.specs.Swap.{LeaveTables, first_pair, second_pair, swap_pairs, AreDistinct}
use Rattle.ct_swap.proofs.Goes.{Goes, Head, head_of, head_is, goes_start, goes_step, goes_end, digits, aligned, entry_apart, SameTables, with_swap}

-- ---- pairs that leave the tables

module _ (img : List ℕ) (pairs : List Pair) (tables : AreTables img) (leave : LeaveTables img pairs) (apart : (w : ℕ) → Named pairs w → 16896 ≤ w) where
  mid : List ℕ
  mid = with_pairs pairs img

  size_same : length mid ≡ length img
  unfolding mid
  size_same = length-with_pairs pairs img

  count_same : page_count mid ≡ page_count img
  unfolding mid
  count_same = with_pairs_off pairs img 2 (λ named. let low = apart 2 named in omega arith)

  word_same : (d x i : ℕ) → d ≤ 3 → i < 512 → page_at img d x ≢ 0 → word mid (page_at img d x * 512 + i) ≡ word img (page_at img d x * 512 + i)
  unfolding mid
  word_same d x i le lt there =
      with_pairs_off pairs img (page_at img d x * 512 + i) (λ named. leave _ named (record { depth = d; number = x; index = i; few = le; small = lt; there = there; is = refl }))

  cells_same : (d x : ℕ) → d ≤ 4 → page_at mid d x ≡ page_at img d x
  cells_same zero x le = page_at-same_root img mid x
  cells_same (suc d) x le =
      page_at-next mid d x ∙ ap (λ t. next mid t (x % 512)) (cells_same d (x / 512) (omega arith))
      ∙ next-same img mid _ (x % 512) count_same (λ there. word_same d (x / 512) (x % 512) (omega arith) (omega arith) there) ∙ sym (page_at-next img d x)

  same_tables : SameTables img mid
  same_tables = record {
    tables = tables;
    pages = cells_same;
    same = record {
      some = omega (arith, count_same, tables.some);
      there = omega (arith, count_same, size_same, tables.there);
      entries = λ d x i le lt ne none.
          let same = cells_same d x (omega arith) in
          let there : page_at img d x ≢ 0 = λ z. ne (same ∙ z) in
          let stays = word_same d x i le lt there in
          ap (λ p. word mid (p * 512 + i)) same ∙ stays
          ∙ tables.entries d x i le lt there (sym (next-same img mid _ i count_same (λ _. stays)) ∙ ap (λ p. next mid p i) (sym same) ∙ none);
      once = λ d x e y le lf ne is.
          tables.once d x e y le lf (λ none. ne (cells_same d x le ∙ none)) (sym (cells_same d x le) ∙ is ∙ cells_same e y lf);
    };
    count = count_same;
    size = size_same;
  }

  pub leave_same : SameTables img (with_pairs pairs img)
  unfolding mid
  leave_same = same_tables

-- ---- entries that are not exchanged yet

-- two images with the same cell and its table have the same entry
same_entry : (f g : List ℕ) (d x i : ℕ) → AreTables f → AreTables g → d ≤ 3 → i < 512 → page_at f d x ≢ 0 → page_at g d x ≡ page_at f d x → page_at g (suc d) (x * 512 + i) ≡ page_at f (suc d) (x * 512 + i)
    → word g (page_at f d x * 512 + i) ≡ word f (page_at f d x * 512 + i)
same_entry f g d x i tf tg le lt there table cell =
    let t = page_at f d x in
    let there_g : page_at g d x ≢ 0 = λ none. there (sym table ∙ none) in
    let nf : page_at f (suc d) (x * 512 + i) ≡ next f t i = page_at-entry f d x i lt in
    let ng : page_at g (suc d) (x * 512 + i) ≡ next g t i = page_at-entry g d x i lt ∙ ap (λ p. next g p i) table in
    let same : next g t i ≡ next f t i = sym ng ∙ cell ∙ nf in
    elim (cases_eq (next f t i) 0) [
      | inl none ↦
          let zero_f = tf.entries d x i le lt there none in
          let zero_g = tg.entries d x i le lt there_g (ap (λ p. next g p i) table ∙ same ∙ none) in
          ap (λ p. word g (p * 512 + i)) (sym table) ∙ zero_g ∙ sym zero_f
      | inr some ↦
          let at_f = next-at f t i there in
          let at_g = next-at g t i there in
          let bf = named_page-bounds (page_count f) (word f (t * 512 + i)) (λ none. some (at_f ∙ none)) in
          let bg = named_page-bounds (page_count g) (word g (t * 512 + i)) (λ none. some (sym same ∙ at_g ∙ none)) in
          omega (arith, bf.2, bg.2, at_f, at_g, same)
    ]

entry_same : (img old mid : List ℕ) (a b o p h : ℕ) → SameTables img old → Exchanged old mid a b o → Outside a b o p → h ≤ 3 → page_at img (3 - h) (p / 512 ^ (h + 1)) ≢ 0
    → word mid (entry_at img p h) ≡ word img (entry_at img p h)
entry_same img old mid a b o p h same now out low there =
    let d = 3 - h in
    let x = p / 512 ^ (h + 1) in
    let i = p / 512 ^ h % 512 in
    let up : 4 - d ≡ h + 1 = omega (arith, low) in
    let down : 4 - suc d ≡ h = omega (arith, low) in
    let table : page_at mid d x ≡ page_at img d x =
    ap (λ k. page_at mid d (p / 512 ^ k)) (sym up) ∙ now.cells d p (omega arith) out ∙ ap (λ k. page_at old d (p / 512 ^ k)) up ∙ same.pages d x (omega arith) in
    let number : p / 512 ^ (4 - suc d) ≡ x * 512 + i = ap (λ k. p / 512 ^ k) down ∙ sym (digits p h) in
    let cell : page_at mid (suc d) (x * 512 + i) ≡ page_at img (suc d) (x * 512 + i) =
    ap (page_at mid (suc d)) (sym number) ∙ now.cells (suc d) p (omega arith) out ∙ ap (page_at old (suc d)) number ∙ same.pages (suc d) (x * 512 + i) (omega arith) in
    same_entry img mid d x i same.tables now.tables (omega arith) (omega arith) there table cell

-- ---- all pieces

listed-step : (img : List ℕ) (a b o h : ℕ) (rest : List (ℕ × ℕ)) (pairs : List Pair) → swap_pairs img a b ((o, h) ∷ rest) ++ pairs
    ≡ swap_pairs img a b rest ++ second_pair img (a + o) (b + o) h ∷ first_pair img (a + o) (b + o) h ∷ pairs
listed-step img a b o h rest pairs = append_assoc (swap_pairs img a b rest) (second_pair img (a + o) (b + o) h ∷ first_pair img (a + o) (b + o) h ∷ []) pairs

pub swap_exchanges : (img : List ℕ) (ps qs : List Pair) (a b n at : ℕ) (left : List (ℕ × ℕ)) → SameTables img (with_pairs ps img) → Apart a b n → Goes img (with_pairs ps img) (with_pairs qs img) a b n at left
    → Exchanged (with_pairs ps img) (with_pairs (swap_pairs img a b left ++ qs) img) a b n
unfolding with_swap
swap_exchanges img ps qs a b n at [] same apart goes = goes_end img (with_pairs ps img) (with_pairs qs img) a b n at goes
swap_exchanges img ps qs a b n at ((o, h) ∷ rest) same apart goes =
    let old = with_pairs ps img in
    let mid = with_pairs qs img in
    let head = head_is img old mid a b n at o h rest goes in
    let w1 = entry_at img (a + o) h in
    let w2 = entry_at img (b + o) h in
    let more = second_pair img (a + o) (b + o) h ∷ first_pair img (a + o) (b + o) h ∷ qs in
    let now : Exchanged old mid a b o = subst (λ (k : ℕ). Exchanged old mid a b k) head.at_is goes.exchanged in
    let in_range : o < n = omega (arith, head.inside, width_pos h) in
    let out_p : Outside a b o (a + o) = record { first = λ le. omega arith; second = λ le. elim apart [ inl l ↦ absurd (omega arith) | inr l ↦ omega arith ] } in
    let out_q : Outside a b o (b + o) = record { first = λ le. elim apart [ inl l ↦ omega arith | inr l ↦ absurd (omega arith) ]; second = λ le. omega arith } in
    let one = entry_same img old mid a b o (a + o) h same now out_p head.low head.first_there in
    let two = entry_same img old mid a b o (b + o) h same now out_q head.low head.second_there in
    let swapped : with_pairs more img ≡ with_swap mid w1 w2 = ap₂ (λ (u v : ℕ). set (set mid w1 u) w2 v) (sym two) (sym one) in
    let step = goes_step img old mid a b n at o h rest goes same apart in
    let rest_is = swap_exchanges img ps more a b n (o + 512 ^ h) rest same apart (subst (λ (l : List ℕ). Goes img old l a b n (o + 512 ^ h) rest) (sym swapped) step) in
    subst (λ (l : List Pair). Exchanged old (with_pairs l img) a b n) (sym (listed-step img a b o h rest qs)) rest_is

-- what an exchange says holds also where words of the record differ
pub exchanged_beside : {old mid new : List ℕ} {a b n : ℕ} → Exchanged old mid a b n → Beside mid new → Exchanged old new a b n
exchanged_beside {old} {mid} {new} e s = record {
  tables = beside_tables s e.tables;
  pages = λ p. beside_cells s 4 p ∙ e.pages p;
  cells = λ d p le out. beside_cells s d (p / 512 ^ (4 - d)) ∙ e.cells d p le out;
  contents = λ p o lt ne. s.back _ (omega (arith, page_at-low old 4 p ne)) ∙ e.contents p o lt ne;
  within = λ k c le first second whole. beside_cells s (4 - k) c ∙ e.within k c le first second whole;
  above = λ k c le less. beside_cells s (4 - k) c ∙ e.above k c le less;
  fresh = λ q f d x le is. e.fresh q f d x le (sym (beside_cells s d x) ∙ is);
  reached = λ q f. e.reached q (λ d x le is. f d x le (beside_cells s d x ∙ is));
  count = beside_count s ∙ e.count;
  size = s.size ∙ e.size;
}

-- ---- distinct words

-- the word is that of a piece before an offset
pub record Earlier (img : List ℕ) (a b at w : ℕ) : Type 0 where
  pub offset : ℕ
  pub height : ℕ
  pub low : height ≤ 3
  pub before : offset + 512 ^ height ≤ at
  pub first : (a + offset) % 512 ^ height ≡ 0
  pub second : (b + offset) % 512 ^ height ≡ 0
  pub first_there : page_at img (3 - height) ((a + offset) / 512 ^ (height + 1)) ≢ 0
  pub second_there : page_at img (3 - height) ((b + offset) / 512 ^ (height + 1)) ≢ 0
  pub is : (w ≡ entry_at img (a + offset) height) ⊎ (w ≡ entry_at img (b + offset) height)

-- one entry is that of one block
one_block : (img : List ℕ) (p h q k : ℕ) → AreTables img → h ≤ 3 → k ≤ 3 → page_at img (3 - h) (p / 512 ^ (h + 1)) ≢ 0 → page_at img (3 - k) (q / 512 ^ (k + 1)) ≢ 0
    → p % 512 ^ h ≡ 0 → q % 512 ^ k ≡ 0 → entry_at img p h ≡ entry_at img q k → p ≡ q
one_block img p h q k tables low low' there there' first second is =
    let same = entry_apart img p h q k tables low low' there there' is in
    sym (aligned p (512 ^ h) first) ∙ ap (λ x. x * 512 ^ h) same.1 ∙ ap (λ x. q / 512 ^ k * 512 ^ x) same.0 ∙ aligned q (512 ^ k) second

not_earlier : (img : List ℕ) (a b n at o h : ℕ) (rest : List (ℕ × ℕ)) → AreTables img → Apart a b n → Head img a b n at o h rest → (w : ℕ) → (w ≡ entry_at img (a + o) h) ⊎ (w ≡ entry_at img (b + o) h) → Earlier img a b at w → ⊥
not_earlier img a b n at o h rest tables apart head w (inl here) e =
    let pos = width_pos e.height in
    let at_is = head.at_is in
    let small : o < n = omega (arith, head.inside, width_pos h) in
    elim e.is [
      | inl first ↦ omega (arith, one_block img (a + o) h (a + e.offset) e.height tables head.low e.low head.first_there e.first_there head.first e.first (sym here ∙ first), e.before)
      | inr second ↦
          let same = one_block img (a + o) h (b + e.offset) e.height tables head.low e.low head.first_there e.second_there head.first e.second (sym here ∙ second) in
          elim apart [ inl l ↦ omega (arith, same) | inr l ↦ omega (arith, same, e.before) ]
    ]
not_earlier img a b n at o h rest tables apart head w (inr here) e =
    let pos = width_pos e.height in
    let at_is = head.at_is in
    let small : o < n = omega (arith, head.inside, width_pos h) in
    elim e.is [
      | inl first ↦
          let same = one_block img (b + o) h (a + e.offset) e.height tables head.low e.low head.second_there e.first_there head.second e.first (sym here ∙ first) in
          elim apart [ inl l ↦ omega (arith, same, e.before) | inr l ↦ omega (arith, same) ]
      | inr second ↦ omega (arith, one_block img (b + o) h (b + e.offset) e.height tables head.low e.low head.second_there e.second_there head.second e.second (sym here ∙ second), e.before)
    ]

pub distinct_from : (img : List ℕ) (qs : List Pair) (a b n at : ℕ) (left : List (ℕ × ℕ)) → AreTables img → Apart a b n → at ≤ n → left ≡ pieces_from (n - at) a b n at → All (HasTables img a b) left
    → AreDistinct qs → ((w : ℕ) → Named qs w → Earlier img a b at w) → AreDistinct (swap_pairs img a b left ++ qs)
distinct_from img qs a b n at [] tables apart in_range left_is there distinct earlier = distinct
distinct_from img qs a b n at ((o, h) ∷ rest) tables apart in_range left_is there distinct earlier =
    let head = head_of img a b n at o h rest in_range left_is there in
    let pos = width_pos h in
    let small : o < n = omega (arith, head.inside, pos) in
    let more = second_pair img (a + o) (b + o) h ∷ first_pair img (a + o) (b + o) h ∷ qs in
    let one : Named qs (entry_at img (a + o) h) → ⊥ = λ named. not_earlier img a b n at o h rest tables apart head _ (inl refl) (earlier _ named) in
    let two : Named (first_pair img (a + o) (b + o) h ∷ qs) (entry_at img (b + o) h) → ⊥ = λ named. elim named [
      | inl is ↦
          let same = one_block img (b + o) h (a + o) h tables head.low head.low head.second_there head.first_there head.second head.first is in
          elim apart [ inl l ↦ omega (arith, same) | inr l ↦ omega (arith, same) ]
      | inr later ↦ not_earlier img a b n at o h rest tables apart head _ (inr refl) (earlier _ later)
    ] in
    let here = λ (w : ℕ) (is : (w ≡ entry_at img (a + o) h) ⊎ (w ≡ entry_at img (b + o) h)).
    let it : Earlier img a b (o + 512 ^ h) w = record {
      offset = o;
      height = h;
      low = head.low;
      before = omega arith;
      first = head.first;
      second = head.second;
      first_there = head.first_there;
      second_there = head.second_there;
      is = is;
    } in it in
    let still = λ (w : ℕ) (e : Earlier img a b at w).
    let it : Earlier img a b (o + 512 ^ h) w = record {
      offset = e.offset;
      height = e.height;
      low = e.low;
      before = omega (arith, e.before, head.at_is);
      first = e.first;
      second = e.second;
      first_there = e.first_there;
      second_there = e.second_there;
      is = e.is;
    } in it in
    let all : (w : ℕ) → Named more w → Earlier img a b (o + 512 ^ h) w = λ w named. elim named [
      | inl is ↦ here w (inr is)
      | inr later ↦ elim later [ inl is ↦ here w (inl is) | inr was ↦ still w (earlier w was) ]
    ] in
    subst AreDistinct (sym (listed-step img a b o h rest qs))
    (distinct_from img more a b n (o + 512 ^ h) rest tables apart head.inside head.rest_is (All-tail (HasTables img a b) (o, h) rest there) (two, (one, distinct)) all)

-- ---- the loop

-- The pieces from offset at on are left, and the pairs of those before were added.
pub record Swapping (img : List ℕ) (ps qs : List Pair) (a b n was count : ℕ) (left : List (ℕ × ℕ)) : Type 0 where
  pub at : ℕ
  pub in_range : at ≤ n
  pub left_is : left ≡ pieces_from (n - at) a b n at
  pub there : All (HasTables img a b) left
  pub listed : swap_pairs img a b left ++ qs ≡ swap_pairs img a b (pieces a b n) ++ ps
  pub counted : count + 2 * length left ≡ was + 2 * length (pieces a b n)

pub swapping_start : (img : List ℕ) (ps : List Pair) (a b n was : ℕ) (left : List (ℕ × ℕ)) → left ≡ pieces a b n → All (HasTables img a b) (pieces a b n) → Swapping img ps ps a b n was was left
swapping_start img ps a b n was left all there = record {
  at = 0;
  in_range = omega arith;
  left_is = all ∙ ap (λ k. pieces_from k a b n 0) (omega arith);
  there = subst (All (HasTables img a b)) (sym all) there;
  listed = ap (λ (l : List (ℕ × ℕ)). swap_pairs img a b l ++ ps) all;
  counted = ap (λ (l : List (ℕ × ℕ)). was + 2 * length l) all;
}

pub swapping_head : {img : List ℕ} {ps qs : List Pair} {a b n was count : ℕ} {left : List (ℕ × ℕ)} (o h : ℕ) (rest : List (ℕ × ℕ)) → (s : Swapping img ps qs a b n was count left) → left ≡ (o, h) ∷ rest → Head img a b n s.at o h rest
swapping_head {img} {a = a} {b = b} {n = n} o h rest s is = head_of img a b n s.at o h rest s.in_range (sym is ∙ s.left_is) (subst (All (HasTables img a b)) is s.there)

-- the pairs of a piece are the same where words of the record differ
pub pairs_beside : (img now : List ℕ) (p q h : ℕ) → Beside img now → page_at img (3 - h) (p / 512 ^ (h + 1)) ≢ 0 → page_at img (3 - h) (q / 512 ^ (h + 1)) ≢ 0
    → (first_pair now p q h ≡ first_pair img p q h) × (second_pair now p q h ≡ second_pair img p q h)
pairs_beside img now p q h s first second =
    let w1 : entry_at now p h ≡ entry_at img p h = ap (λ t. t * 512 + p / 512 ^ h % 512) (beside_cells s (3 - h) (p / 512 ^ (h + 1))) in
    let w2 : entry_at now q h ≡ entry_at img q h = ap (λ t. t * 512 + q / 512 ^ h % 512) (beside_cells s (3 - h) (q / 512 ^ (h + 1))) in
    let v1 : word now (entry_at now p h) ≡ word img (entry_at img p h) = ap (word now) w1 ∙ s.back (entry_at img p h) (omega (arith, page_at-low img (3 - h) (p / 512 ^ (h + 1)) first)) in
    let v2 : word now (entry_at now q h) ≡ word img (entry_at img q h) = ap (word now) w2 ∙ s.back (entry_at img q h) (omega (arith, page_at-low img (3 - h) (q / 512 ^ (h + 1)) second)) in
    let pair : ℕ → ℕ → Pair = λ w v. record { word = w; value = v } in
    (ap₂ pair w1 v2, ap₂ pair w2 v1)

pub swapping_step : {img now : List ℕ} {ps qs rs : List Pair} {a b n was count more : ℕ} {left : List (ℕ × ℕ)} (o h : ℕ) (rest : List (ℕ × ℕ)) → (s : Swapping img ps qs a b n was count left) → left ≡ (o, h) ∷ rest → Beside img now
    → rs ≡ second_pair now (a + o) (b + o) h ∷ first_pair now (a + o) (b + o) h ∷ qs → more ≡ count + 2 → Swapping img ps rs a b n was more rest
swapping_step {img} {now} {ps} {qs} {rs} {a} {b} {n} {was} {count} {more} {left} o h rest s is beside added counted =
    let head = swapping_head o h rest s is in
    let same = pairs_beside img now (a + o) (b + o) h beside head.first_there head.second_there in
    let added_is : rs ≡ second_pair img (a + o) (b + o) h ∷ first_pair img (a + o) (b + o) h ∷ qs = added ∙ ap₂ (λ (x y : Pair). x ∷ y ∷ qs) same.1 same.0 in
    record {
      at = o + 512 ^ h;
      in_range = head.inside;
      left_is = head.rest_is;
      there = All-tail (HasTables img a b) (o, h) rest (subst (All (HasTables img a b)) is s.there);
      listed = ap (λ (l : List Pair). swap_pairs img a b rest ++ l) added_is ∙ sym (listed-step img a b o h rest qs) ∙ ap (λ (l : List (ℕ × ℕ)). swap_pairs img a b l ++ qs) (sym is) ∙ s.listed;
      counted = omega (arith, s.counted, ap length is, counted);
    }

pub swapping_end : {img : List ℕ} {ps qs : List Pair} {a b n was count : ℕ} {left : List (ℕ × ℕ)} → Swapping img ps qs a b n was count left → left ≡ []
    → (qs ≡ swap_pairs img a b (pieces a b n) ++ ps) × (count ≡ was + 2 * length (pieces a b n))
swapping_end {img} {qs = qs} {a = a} {b = b} s done = (
  ap (λ (l : List (ℕ × ℕ)). swap_pairs img a b l ++ qs) (sym done) ∙ s.listed,
  omega (arith, s.counted, ap length done),
)

-- ---- as the function states it

pub pswap_exchanged : (img now : List ℕ) (ps qs : List Pair) (a b n : ℕ) → AreTables img → LeaveTables img ps → ((w : ℕ) → Named ps w → 16896 ≤ w) → Apart a b n → All (HasTables img a b) (pieces a b n)
    → SameOff InRecord now img → qs ≡ swap_pairs img a b (pieces a b n) ++ ps → Exchanged (with_pairs ps img) (with_pairs qs now) a b n
pswap_exchanged img now ps qs a b n tables leave low apart there same is =
    let still = leave_same img ps tables leave low in
    let done = swap_exchanges img ps ps a b n 0 (pieces a b n) still apart (goes_start img (with_pairs ps img) a b n still there) in
    let exchanged : Exchanged (with_pairs ps img) (with_pairs qs img) a b n = subst (λ (l : List Pair). Exchanged (with_pairs ps img) (with_pairs l img) a b n) (sym is) done in
    let beside : Beside (with_pairs qs img) (with_pairs qs now) = record {
      size = length-with_pairs qs now ∙ same.size ∙ sym (length-with_pairs qs img);
      front = λ w lt. with_pairs_alike qs now img w same.size (λ off. same.others w (λ is. omega (arith, is.0)));
      back = λ w le. with_pairs_alike qs now img w same.size (λ off. same.others w (λ is. omega (arith, is.1)));
    } in
    exchanged_beside exchanged beside

pub pswap_distinct : (img : List ℕ) (a b n : ℕ) → AreTables img → Apart a b n → All (HasTables img a b) (pieces a b n) → AreDistinct (swap_pairs img a b (pieces a b n))
pswap_distinct img a b n tables apart there =
    subst AreDistinct (append-nil (swap_pairs img a b (pieces a b n)))
    (distinct_from img [] a b n 0 (pieces a b n) tables apart (omega arith) (ap (λ k. pieces_from k a b n 0) (omega arith)) there tt (λ w none. absurd none))
