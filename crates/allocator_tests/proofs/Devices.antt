-- What a device has after each step of a try.
use Rattle.std.proofs.Common.{◌≡◌, ◌≢◌, ℕ, ◌+◌, ◌*◌, ◌/◌, ◌%◌, ◌<◌, ◌≤◌, List, [], ◌∷◌, length, set, get_or, subst, ◌-◌, ◌^◌, zero, suc, refl, sym, ap, ◌∙◌, inl, inr, arith}
use Rattle.std.proofs.lemmas.Bool.{cases_eq}
use Rattle.std.proofs.lemmas.List.{get_or-set_same, get_or-set_other, length-set}
use Rattle.ct_base.specs.Walk.{word, page_at, page_count, AreTables}
use Rattle.ct_base.specs.Words.{Writes}
use Rattle.ct_frames.specs.Free.{FreePages}
use Rattle.ct_image.proofs.Steps.{page_at-high}
use Rattle.std.specs.Prelude.{nat_lt, nat_le, ◌&&◌, true}
use Rattle.std.proofs.lemmas.Bool.{cases_Bool, or_cases, and_parts, ltb-true}
use Rattle.ct_base.specs.Headers.{StandFor, is_one}
use Rattle.ct_base.specs.Inode.{Partition, is_free, nth, free_from, free_parts}
use Rattle.ct_base.specs.Settled.{Pair, with_pairs}
use Rattle.ct_base.specs.View.{is_seen, view}
use Rattle.ct_base.specs.Walk.{byte}
use Rattle.ct_base.specs.declared.layout.TheConstants.{ROOT_WORD, STAGING_SLOT}
use Rattle.ct_frames.specs.Agrees.{Agrees}
use Rattle.ct_words.specs.Shown.{shown_word}
use Rattle.ct_record.proofs.Under.{under_beside}
use Rattle.ct_words.proofs.Placed.{record_beside}
use Rattle.ct_words.proofs.Shown.{byte-shown}
use Rattle.ct_image.proofs.Beside.{Beside, beside_count, beside_cells, beside_tables, beside_words}
use Rattle.ct_pm.specs.Device.{SameOff}
use Rattle.ct_record.specs.Record.{InRecord}
use Rattle.std.specs.Int.{w64, from_le_bytes}
use Rattle.std.proofs.lemmas.Bool.{cases_lt}
use Rattle.std.proofs.lemmas.List.{get_or_past, get_or-replicate, length-replicate}
use Rattle.std.proofs.Common.{replicate}
use Rattle.ct_base.specs.Ranges.{header_at, Headers}
use Rattle.ct_base.specs.Settled.{IsShut}
use Rattle.ct_words.proofs.Shown.{little-shown}
use Rattle.ct_header.proofs.Shown.{headers_view, seen-low}
use Rattle.ct_image.proofs.Write.{IsBlank, blank_tables, blank_words, at_here, at_others, cells, same_count, tables_new, page_low}
use Rattle.ct_parts.proofs.Change.{eight-same}
use Rattle.ct_parts.proofs.Local.{headers_empty}
use Rattle.ct_parts.proofs.Path.{header_at_more}
use Rattle.ct_parts.proofs.Stand.{little-eight}
use Rattle.allocator_tests.specs.Ready.{HasPages, IsApplied, IsEmpty, IsReady}

-- one more page
pub pages_more : (old mid new : List ℕ) (before after : FreePages) (items : List ℕ) (n address : ℕ) → address ≡ get_or items n 0
    → HasPages old mid before (λ a. (k : ℕ) × (k < n) × (get_or items k 0 ≡ a)) → HasPages mid new after (λ a. a ≡ address)
    → HasPages old new after (λ a. (k : ℕ) × (k < n + 1) × (get_or items k 0 ≡ a))
pages_more old mid new before after items n address at s e =
    record {
      tables = e.tables;
      agrees = e.agrees;
      bytes = λ v lt. e.bytes v lt ∙ s.bytes v lt;
      low = λ w lt. e.low w lt ∙ s.low w lt;
      kept = λ p there. e.kept p (s.kept p there);
      there = λ a made. elim (cases_eq made.0 n) [
        | inl last ↦ e.there a (sym made.2 ∙ ap (λ k. get_or items k 0) last ∙ sym at)
        | inr other ↦ e.kept (a / 4096) (s.there a (made.0, omega (arith, made.1, other), made.2))
      ];
    }

-- a word of a mapped page was stored
pub stored : (old new : List ℕ) (n o v place : ℕ) → AreTables old → page_at old 4 n ≢ 0 → o < 512 → place ≡ page_at old 4 n * 512 + o → new ≡ set old place v → Writes old new n o v
stored old new n o v place tables there lt at is =
    let high = page_at-high old 4 n tables.some in
    let on : place < length old = omega (arith, at, high, tables.there) in
    record {
      tables = tables;
      there = there;
      index = lt;
      value = ap (word new) (sym at) ∙ ap (λ img. word img place) is ∙ get_or-set_same old place v 0 on;
      others = λ w ne. ap (λ img. word img w) is ∙ get_or-set_other old place w v 0 (λ e. ne (e ∙ at));
      size = ap length is ∙ length-set old place v;
    }

-- ---- a record that was applied

beside_then : {a b c : List ℕ} → Beside a b → Beside b c → Beside a c
beside_then p q = record { size = q.size ∙ p.size; front = λ w lt. q.front w lt ∙ p.front w lt; back = λ w le. q.back w le ∙ p.back w le }

pub applied_beside : (under armed applied idle final : List ℕ) (pairs open_ : List Pair) → SameOff InRecord armed under → open_ ≡ pairs → applied ≡ with_pairs open_ armed
    → SameOff InRecord idle applied → final ≡ idle → Beside (with_pairs pairs under) final
applied_beside under armed applied idle final pairs open_ same is words after end =
    let one = record_beside under armed pairs same in
    let two : with_pairs pairs armed ≡ applied = ap (λ ps. with_pairs ps armed) (sym is) ∙ sym words in
    let three : SameOff InRecord final applied = subst (λ (x : List ℕ). SameOff InRecord x applied) (sym end) after in
    beside_then (subst (λ (x : List ℕ). Beside (with_pairs pairs under) x) two one) (under_beside applied final three)

-- ---- what is looked at

seen-below : (v : ℕ) → is_seen v ≡ true → v < 281474976710656
seen-below v is =
    elim (or_cases (nat_lt v 1099511627776) (nat_le 5497558138880 v && nat_lt v 281474976710656) is) [
      | inl low ↦ omega (arith, ltb-true v 1099511627776 low)
      | inr high ↦ ltb-true v 281474976710656 (and_parts (nat_le 5497558138880 v) (nat_lt v 281474976710656) high).1
    ]

pub view_bytes : (old new : List ℕ) → ((v : ℕ) → v < 281474976710656 → byte new v ≡ byte old v) → (v : ℕ) → view new v ≡ view old v
unfolding view
view_bytes old new same v =
    elim (cases_Bool (is_seen v)) [ inl t ↦ rw t (same v (seen-below v t)) | inr f ↦ rw f refl ]

pub view_beside : (old new : List ℕ) → Beside old new → (v : ℕ) → view new v ≡ view old v
unfolding view
view_beside old new b v =
    elim (cases_Bool (is_seen v)) [
      | inl t ↦ rw t (byte-shown new v t ∙ ap (λ w. w % 18446744073709551616 / 256 ^ (v % 8) % 256) (beside_words b (8 * (v / 8))) ∙ sym (byte-shown old v t))
      | inr f ↦ rw f refl
    ]

pub stand_view : (b c : ℕ → ℕ) (ps : List Partition) → ((v : ℕ) → c v ≡ b v) → StandFor b ps → StandFor c ps
stand_view b c ps same s =
    record { apart = s.apart; stand = record { bytes = λ n j le lt. same _ ∙ s.stand.bytes n j le lt; rest = λ v low high off. same v ∙ s.stand.rest v low high off } }

-- ---- ready again

agrees_cells : (old new : List ℕ) (f : FreePages) → page_count new ≡ page_count old → ((d x : ℕ) → d ≤ 4 → page_at new d x ≡ page_at old d x) → Agrees old f → Agrees new f
agrees_cells old new f count cells a =
    record {
      pages = a.pages ∙ sym count;
      free = λ q in_ d x le is. a.free q in_ d x le (sym (cells d x le) ∙ is);
      all = λ q low high. elim (a.all q low (omega (arith, count))) [
        | inl free ↦ inl free
        | inr r ↦ inr (record { depth = r.depth; number = r.number; few = r.few; is = cells r.depth r.number r.few ∙ r.is })
      ];
    }

-- A draft over img was applied.
pub record Ends (img start changed final : List ℕ) (frames : FreePages) : Type 0 where
  pub is : start ≡ img
  pub agrees : Agrees img frames
  pub tables : AreTables changed
  pub count : page_count changed ≡ page_count img
  pub cells : (d y : ℕ) → d ≤ 4 → page_at changed d y ≡ page_at start d y
  pub applied : IsApplied changed final

module _ {img start changed final : List ℕ} {frames : FreePages} (e : Ends img start changed final frames) where
  pub ends_stand : (qs : List Partition) → StandFor (view changed) qs → StandFor (view final) qs
  ends_stand qs s = stand_view (view changed) (view final) qs (view_beside changed final e.applied.beside) s

  pub ends_ready : (qs : List Partition) → StandFor (view changed) qs → IsReady final frames
  ends_ready qs s =
      let b = e.applied.beside in
      record {
        tables = beside_tables b e.tables;
        agrees = agrees_cells img final frames (beside_count b ∙ e.count) (λ d x le. beside_cells b d x ∙ e.cells d x le ∙ ap (λ i. page_at i d x) e.is) e.agrees;
        shut = e.applied.shut;
        stand = (qs, ends_stand qs s);
      }

-- the headers before the draft
pub stand_start : (was img start : List ℕ) (ps : List Partition) → start ≡ img → ((v : ℕ) → v < 281474976710656 → byte img v ≡ byte was v) → StandFor (view was) ps → StandFor (view start) ps
stand_start was img start ps is bytes s =
    subst (λ (x : List ℕ). StandFor (view x) ps) (sym is) (stand_view (view was) (view img) ps (view_bytes was img bytes) s)

-- ---- the first free partition

free_head : (ps : List Partition) (n from count : ℕ) (p : Partition) (rest : List Partition) → free_from ps n from count ≡ p ∷ rest → (is_free ps p ≡ true) × (p.level ≡ n)
unfolding free_from
free_head ps n from zero p rest is = absurd (cc)
free_head ps n from (suc count) p rest is =
    elim (cases_Bool (is_free ps (nth n from))) [
      | inl t ↦
          let eq : nth n from ∷ free_from ps n (from + 1) count ≡ p ∷ rest = rw t at is in
          let same : nth n from ≡ p = cc in
          (ap (is_free ps) (sym same) ∙ t, ap (λ (x : Partition). x.level) (sym same))
      | inr f ↦ free_head ps n (from + 1) count p rest (rw f at is)
    ]

pub first_free : (ps : List Partition) (n : ℕ) (p : Partition) (rest : List Partition) → free_parts ps n ≡ p ∷ rest → (is_free ps p ≡ true) × (p.level ≡ n)
first_free ps n p rest is = free_head ps n (10 * 8 ^ (9 - n)) (502 * 8 ^ (9 - n)) p rest is

pub first_is : (ps : List Partition) (n : ℕ) (p : Partition) (rest : List Partition) (base : ℕ) → free_parts ps n ≡ p ∷ rest → base ≡ p.base → p ≡ record { base = base; level = n }
first_is ps n p rest base is base_is =
    let f : ℕ → ℕ → Partition = λ b l. record { base = b; level = l } in
    ap (λ b. f b p.level) (sym base_is) ∙ ap (f base) (first_free ps n p rest is).1

-- ---- the headers of a device with no partition

word-zeros : (n k : ℕ) → word (replicate n 0) k ≡ 0
word-zeros n k = elim (cases_lt k n) [
  | inl lt ↦ get_or-replicate n k 0 0 lt
  | inr past ↦ get_or_past (replicate n 0) k 0 (omega (arith, length-replicate {A = ℕ} n 0))
]

-- zeros whose page count was set
pub empty_device : (words zeros : List ℕ) (pages : ℕ) → 34 ≤ pages → zeros ≡ replicate (512 * pages) 0 → words ≡ set zeros 2 pages → IsEmpty words
empty_device words zeros pages least none is =
    let size : length zeros ≡ 512 * pages = ap length none ∙ length-replicate {A = ℕ} (512 * pages) 0 in
    let count : page_count words ≡ pages = ap (λ (l : List ℕ). word l 2) is ∙ get_or-set_same zeros 2 pages 0 (omega (arith, size)) in
    record {
      some = omega (arith, count, least);
      there = omega (arith, count, size, ap length is, length-set zeros 2 pages);
      zeros = λ w ne. ap (λ (l : List ℕ). word l w) is ∙ get_or-set_other zeros 2 w pages 0 ne ∙ ap (λ (l : List ℕ). word l w) none ∙ word-zeros (512 * pages) w;
    }

blank : {img : List ℕ} → IsEmpty img → IsBlank img
blank e = record { some = e.some; there = e.there; root = λ i lt. e.zeros (33 * 512 + i) (λ is. omega (arith, is)) }

pub empty_tables : {img : List ℕ} → IsEmpty img → AreTables img
empty_tables e = blank_tables (blank e)

-- nothing is staged
pub empty_staging : {img : List ℕ} → IsEmpty img → word img (ROOT_WORD + STAGING_SLOT) ≡ 0
empty_staging e = e.zeros (ROOT_WORD + STAGING_SLOT) (λ is. omega (arith, is))

-- nothing is to be seen, and pages that are made show nothing
pub view_zero : (old new : List ℕ) → IsEmpty old → ((v : ℕ) → v < 281474976710656 → byte new v ≡ byte old v) → (v : ℕ) → view new v ≡ 0
unfolding view
view_zero old new e same v =
    elim (cases_Bool (is_seen v)) [
      | inl t ↦
          rw t (same v (seen-below v t) ∙ byte-shown old v t ∙ ap (λ w. w % 18446744073709551616 / 256 ^ (v % 8) % 256) (blank_words (blank e) (8 * (v / 8)))
          ∙ ap (λ q. q % 256) (Rattle.std.proofs.Math.Nat.zero-div (256 ^ (v % 8))))
      | inr f ↦ rw f refl
    ]

pub shown_zero : (img : List ℕ) (a : ℕ) → ((v : ℕ) → view img v ≡ 0) → a % 8 ≡ 0 → a < 1099511627776 → shown_word img a ≡ 0
shown_zero img a none aligned high =
    sym (little-shown img a aligned (seen-low a high)) ∙ little-eight (view img) a ∙ ap (from_le_bytes w64) (eight-same (λ t. view img (a + t)) (λ t. 0) (λ t lt. none (a + t)))

-- Two words were stored in a page of the headers.
pub record Marked (img one two : List ℕ) : Type 0 where
  pub none : (v : ℕ) → view img v ≡ 0
  pub first : Writes img one (687194767360 / 4096) (687194767360 % 4096 / 8) 0x3030303030303030
  pub second : Writes one two (687194767368 / 4096) (687194767368 % 4096 / 8) 0x3030

module _ {img one two : List ℕ} (m : Marked img one two) where
  at10 : (j : ℕ) → header_at 10 j ≡ 687194767360 + 8 * j
  at10 j = omega (arith, header_at_more 10 j (omega arith))

  pub marked_stand : StandFor (view two) []
  marked_stand =
      let h : Headers (is_one []) (shown_word two) = headers_empty (shown_word two)
      (ap (shown_word two) (at10 0) ∙ ap (λ w. w % 18446744073709551616) (at_others m.second 687194767360 (λ page index. omega (arith, index)) ∙ at_here m.first 687194767360 refl refl))
      (ap (shown_word two) (at10 1) ∙ ap (λ w. w % 18446744073709551616) (at_here m.second 687194767368 refl refl))
      (λ a slot aligned off_first off_second.
      ap (λ w. w % 18446744073709551616) (at_others m.second a (λ page index. off_second (away a aligned 1 page index)) ∙ at_others m.first a (λ page index. off_first (away a aligned 0 page index)))
      ∙ shown_zero img a m.none aligned (omega arith)) in
      record { apart = tt; stand = headers_view two [] h }
    where
      away : (a : ℕ) → a % 8 ≡ 0 → (j : ℕ) → a / 4096 ≡ (687194767360 + 8 * j) / 4096 → a % 4096 / 8 ≡ (687194767360 + 8 * j) % 4096 / 8 → a ≡ header_at 10 j
      away a aligned j page index = omega (arith, at10 j)

  pub marked_ready : (frames : FreePages) → Agrees img frames → IsShut img → IsReady two frames
  marked_ready frames agrees shut =
      record {
        tables = tables_new m.second;
        agrees = agrees_cells one two frames (same_count m.second) (cells m.second) (agrees_cells img one frames (same_count m.first) (cells m.first) agrees);
        shut = (stays 512 (omega arith) ∙ shut.0, stays 527 (omega arith) ∙ shut.1);
        stand = ([], marked_stand);
      }
    where
      stays : (w : ℕ) → w < 1000 → word two w ≡ word img w
      stays w lt =
          m.second.others w (λ is. omega (arith, is, page_low m.second))
          ∙ m.first.others w (λ is. omega (arith, is, page_low m.first))
