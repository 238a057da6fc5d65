-- A partition is given up by pairs: what the words are after them.
use Rattle.std.proofs.Common.{◌≡◌, ◌≢◌, ◌⊎◌, ℕ, ◌+◌, ◌-◌, ◌*◌, ◌/◌, ◌%◌, ◌^◌, ◌<◌, ◌≤◌, List, [], ◌∷◌, ◌++◌, refl, sym, ap, ap₂, subst, ◌∙◌, inl, inr, arith}
use Rattle.std.specs.Prelude.{All, Contains}
use Rattle.std.proofs.lemmas.Bool.{cases_Bool, cases_lt}
use Rattle.std.proofs.lemmas.List.Elements.{All-head, All-tail}
use Rattle.ct_base.specs.declared.inode.Inode.{Inode}
use Rattle.ct_base.specs.Exchange.{Exchanged, HasTables, Outside, partner}
use Rattle.ct_base.specs.Headers.{StandFor, is_one, without}
use Rattle.ct_base.specs.Inode.{IsIn, Partition, number_of, part}
use Rattle.ct_base.specs.Plan.{stage}
use Rattle.ct_base.specs.Published.{header_words}
use Rattle.ct_base.specs.Settled.{Named, Pair, with_pairs}
use Rattle.ct_base.specs.View.{is_seen, view}
use Rattle.ct_base.specs.Walk.{byte, page_at, AreTables}
use Rattle.ct_commit.proofs.States.{off_record}
use Rattle.ct_grow.proofs.Heads.{header_place, path_bounds, unmapped}
use Rattle.ct_grow.proofs.Listed.{stand_same}
use Rattle.ct_grow.proofs.Placed.{drafted_superblock}
use Rattle.ct_grow.proofs.Placing.{names_bytes, names_leave}
use Rattle.ct_grow.proofs.Spared.{named_append}
use Rattle.ct_grow.proofs.Spans.{all_of}
use Rattle.ct_grow.specs.Drafted.{NamePlaces}
use Rattle.ct_header.specs.Drafted.{AddsPairs, IsInHeader, KeepsOtherBytes, LeavesLive, NamesHeader}
use Rattle.ct_image.proofs.Beside.{Beside, beside_cells, beside_tables}
use Rattle.ct_image.proofs.Pairs.{length-with_pairs, with_pairs_alike}
use Rattle.ct_image.proofs.Partner.{partner-first, partner-other}
use Rattle.ct_pm.specs.Device.{SameOff}
use Rattle.ct_record.specs.Record.{AreApart, InRecord}
use Rattle.ct_record.proofs.Settles.{same_refl, same_then}
use Rattle.ct_record.proofs.Under.{under_beside}
use Rattle.ct_state.proofs.Carry.{view-seen, view-other}
use Rattle.ct_state.proofs.Commit.{outside_byte}
use Rattle.ct_state.proofs.Neutral.{seen-bounds}
use Rattle.ct_state.proofs.Settle.{bytes_off}
use Rattle.ct_swap.specs.Swap.{IsEntry, LeaveTables, swap_pairs}
use Rattle.ct_swap.proofs.Goes.{SameTables}
use Rattle.ct_swap.proofs.Pairing.{leave_same, pairs_beside}
use Rattle.ct_words.proofs.Runs.{with_pairs_append}
use Rattle.ct_words.specs.Drafted.{KeepsCells}
use Rattle.ct_write.specs.Recorded.{IsBare}
use Rattle.ct_write.proofs.Sizing.{bare_back, entry_bare, swap_entries}
use Rattle.ct_cut.specs.GivenUp.{AddsGiveUp, CanGiveUp, GivesUp, whole_pieces}
use Rattle.ct_cut.proofs.Parts.{WholeSpot, address_in, in_address, in_page, page_in, whole_spot}

-- ---- pairs that name no table

-- an entry is one where words of the record differ
entry_back : {img now : List ℕ} → Beside img now → (w : ℕ) → IsEntry now w → IsEntry img w
entry_back s w e = record {
  depth = e.depth;
  number = e.number;
  index = e.index;
  few = e.few;
  small = e.small;
  there = λ none. e.there (beside_cells s e.depth e.number ∙ none);
  is = e.is ∙ ap (λ t. t * 512 + e.index) (beside_cells s e.depth e.number);
}

pub tables_beside : {img now : List ℕ} → Beside img now → (a b : ℕ) (ps : List (ℕ × ℕ)) → All (HasTables img a b) ps → All (HasTables now a b) ps
tables_beside {img} {now} s a b ps there =
    all_of (HasTables img a b) (HasTables now a b) (λ piece has. (
      λ none. has.0 (sym (beside_cells s (3 - piece.1) ((a + piece.0) / 512 ^ (piece.1 + 1))) ∙ none),
      λ none. has.1 (sym (beside_cells s (3 - piece.1) ((b + piece.0) / 512 ^ (piece.1 + 1))) ∙ none),
    )) ps there

all_named : (Names : ℕ → Type 0) (ps : List Pair) → All (λ (pair : Pair). Names pair.word) ps → (w : ℕ) → Named ps w → Names w
all_named Names [] all w named = absurd named
all_named Names (p ∷ ps) all w (inl here) = subst Names (sym here) (All-head (λ (pair : Pair). Names pair.word) p ps all)
all_named Names (p ∷ ps) all w (inr later) = all_named Names ps (All-tail (λ (pair : Pair). Names pair.word) p ps all) w later

-- the pairs of an exchange are the same where words of the record differ
swaps_beside : (img now : List ℕ) (a b : ℕ) (ps : List (ℕ × ℕ)) → Beside img now → All (HasTables img a b) ps → swap_pairs now a b ps ≡ swap_pairs img a b ps
swaps_beside img now a b [] s there = refl
swaps_beside img now a b (piece ∷ ps) s there =
    let here = All-head (HasTables img a b) piece ps there in
    let two = pairs_beside img now (a + piece.0) (b + piece.0) piece.1 s here.0 here.1 in
    let rest = swaps_beside img now a b ps s (All-tail (HasTables img a b) piece ps there) in
    ap₂ (λ (l m : List Pair). l ++ m) rest (ap₂ (λ (p q : Pair). p ∷ q ∷ []) two.1 two.0)

-- The pairs of a release were drafted over img, and those of an exchange over mid; new is what is under the draft then.
pub record GivingUp (img mid new : List ℕ) (ps qs rs : List Pair) (f : Inode) (P : Partition) : Type 0 where
  pub tables : AreTables img
  pub can : CanGiveUp img f
  pub same : P ≡ part f
  pub leave : LeaveTables img ps
  pub apart : AreApart ps
  pub apart_all : AreApart rs
  pub first : SameOff InRecord mid img
  pub second : SameOff InRecord new mid
  pub added : AddsPairs (NamesHeader img P) ps qs
  pub stand : LeavesLive P (with_pairs ps img) (with_pairs qs mid)
  pub bytes : KeepsOtherBytes P (with_pairs ps img) (with_pairs qs mid)
  pub cells : KeepsCells (with_pairs ps img) (with_pairs qs mid)
  pub exchanged : Exchanged (with_pairs qs mid) (with_pairs rs new) (f.base / 4096) (stage f.base / 4096) (8 ^ f.level)
  pub pairs : rs ≡ swap_pairs mid (f.base / 4096) (stage f.base / 4096) (whole_pieces f) ++ qs

-- what is so of the pairs of the release alone
module _ {img mid : List ℕ} {ps qs : List Pair} {f : Inode} {P : Partition} (tables : AreTables img) (can : CanGiveUp img f) (same : P ≡ part f) (first : SameOff InRecord mid img) (added : AddsPairs (NamesHeader img P) ps qs) where
  abbrev Path : ℕ → Type 0
  Path a = Contains (header_words (part f)) a

  pub header_names : NamePlaces img Path added.added
  header_names = record { each = λ w named. header_place img Path P (part f) same can.placed can.headers (λ a on. on) w (all_named (NamesHeader img P) added.added added.each w named) }

  pub release_leaves : LeaveTables img ps → LeaveTables mid qs
  release_leaves leave w named entry =
      let was = entry_back (under_beside img mid first) w entry in
      elim (named_append added.added ps w (subst (λ (l : List Pair). Named l w) added.goes_on named)) [
        | inl header ↦ names_leave tables header_names w header was
        | inr old ↦ leave w old was
      ]

  pub release_bare : (w : ℕ) → Named qs w → Named ps w ⊎ IsBare img w
  release_bare w named = elim (named_append added.added ps w (subst (λ (l : List Pair). Named l w) added.goes_on named)) [
    | inr old ↦ inl old
    | inl header ↦ inr (λ q high is.
        let n = header_names.each w header in
        let there : page_at img 4 (n.address / 4096) ≡ page_at img 4 q = omega (arith, n.is, is) in
        omega (arith, (tables.once 4 (n.address / 4096) 4 q (omega arith) (omega arith) n.there there).1, (path_bounds (part f) can.placed n.address n.on).1))
  ]

module _ {img mid new : List ℕ} {ps qs rs : List Pair} {f : Inode} {P : Partition} (x : GivingUp img mid new ps qs rs f P) where
  abbrev a : ℕ
  a = f.base / 4096

  abbrev b : ℕ
  b = stage f.base / 4096

  abbrev n : ℕ
  n = 8 ^ f.level

  abbrev x0 : List ℕ
  x0 = with_pairs ps img

  abbrev x1 : List ℕ
  x1 = with_pairs qs mid

  abbrev x2 : List ℕ
  x2 = with_pairs rs new

  e : Exchanged x1 x2 a b n
  e = x.exchanged

  at : WholeSpot f
  at = whole_spot f x.can.placed

  start : SameTables img x0
  start = leave_same img ps x.tables x.leave x.apart

  beside : Beside img mid
  beside = under_beside img mid x.first

  now_page : (q : ℕ) → page_at x2 4 q ≡ page_at x0 4 (partner a b n q)
  now_page q = e.pages q ∙ x.cells 4 (partner a b n q) (omega arith)

  -- nothing is mapped under the partition
  given_page : (q : ℕ) → a ≤ q → q < a + n → page_at x2 4 q ≡ 0
  given_page q from to =
      let p = q - f.base / 4096 + stage f.base / 4096 in
      let slot : (q - f.base / 4096 + stage f.base / 4096) / 2 ^ 27 ≡ 2 = omega (arith, from, to, at.second_from, at.second_to) in
      now_page q ∙ ap (page_at x0 4) (partner-first a b n q from to) ∙ start.pages 4 (q - f.base / 4096 + stage f.base / 4096) (omega arith) ∙ x.can.unmapped (q - f.base / 4096 + stage f.base / 4096) slot

  out : (q : ℕ) → q / 2 ^ 27 ≢ 2 → (IsIn (part f) (q * 4096) → ⊥) → Outside a b n q
  out q away off = record {
    first = λ le. elim (cases_lt q (a + n)) [ inl lt ↦ absurd (off (in_page at q le lt)) | inr past ↦ past ];
    second = λ le. elim (cases_lt q (3 * 2 ^ 27)) [ inl low ↦ absurd (away (omega (arith, low, le, at.second_from))) | inr high ↦ omega (arith, high, at.second_to) ];
  }

  -- the exchange alone
  out_byte : (v : ℕ) → v < 2 ^ 48 → v / 2 ^ 39 ≢ 2 → (IsIn (part f) v → ⊥) → byte x2 v ≡ byte x1 v
  out_byte v small away off =
      outside_byte e v small (record {
        first = λ le. elim (cases_lt (v / 4096) (a + n)) [ inl lt ↦ absurd (off (address_in at v le lt)) | inr past ↦ past ];
        second = λ le. elim (cases_lt (v / 4096) (3 * 2 ^ 27)) [ inl low ↦ absurd (away (omega (arith, low, le, at.second_from))) | inr high ↦ omega (arith, high, at.second_to) ];
      })

  out_view : (v : ℕ) → (IsIn (part f) v → ⊥) → view x2 v ≡ view x1 v
  out_view v off = elim (cases_Bool (is_seen v)) [
    | inl seen ↦
        let bounds = seen-bounds v seen in
        view-seen x2 v seen ∙ out_byte v bounds.0 (λ slot. elim bounds.1 [ inl l ↦ omega (arith, l, slot) | inr r ↦ omega (arith, r, slot) ]) off ∙ sym (view-seen x1 v seen)
    | inr other ↦ view-other x2 v other ∙ sym (view-other x1 v other)
  ]

  -- the release alone: bytes that it does not name
  abbrev middle : List ℕ
  middle = with_pairs ps mid

  mid_same : SameOff InRecord middle x0
  mid_same = record {
    size = length-with_pairs ps mid ∙ x.first.size ∙ sym (length-with_pairs ps img);
    others = λ w off. with_pairs_alike ps mid img w x.first.size (λ not_named. x.first.others w off);
  }

  mid_beside : Beside x0 middle
  mid_beside = under_beside x0 middle mid_same

  mid_cells : (d q : ℕ) → d ≤ 4 → page_at middle d q ≡ page_at img d q
  mid_cells d q le = beside_cells mid_beside d q ∙ start.pages d q le

  names : NamePlaces img (λ v. Contains (header_words (part f)) v) x.added.added
  names = header_names x.tables x.can x.same x.first x.added

  mid_names : NamePlaces middle (λ v. Contains (header_words (part f)) v) x.added.added
  mid_names = record {
    each = λ w named.
        let m = names.each w named in
        let cell = mid_cells 4 (m.address / 4096) (omega arith) in
        record { address = m.address; on = m.on; aligned = m.aligned; there = λ none. m.there (sym cell ∙ none); is = m.is ∙ ap (λ t. t * 512 + m.address % 4096 / 8) (sym cell) };
  }

  release_byte : (v : ℕ) → v < 2 ^ 48 → ((h : ℕ) → Contains (header_words (part f)) h → v / 8 ≢ h / 8) → byte x1 v ≡ byte x0 v
  release_byte v lt off =
      ap (λ (l : List ℕ). byte l v) (ap (λ (l : List Pair). with_pairs l mid) x.added.goes_on ∙ with_pairs_append x.added.added ps mid)
      ∙ names_bytes (beside_tables mid_beside start.same) mid_names v lt off ∙ bytes_off (off_record mid_same) v lt

  root_stays : (k : ℕ) → 3 ≤ k → k < 10 → page_at x2 1 k ≡ page_at x1 1 k
  root_stays k from to =
      let part_low = x.can.placed.low in
      let table : k * 2 ^ 27 / 512 ^ (4 - 1) ≡ k = omega arith in
      let beyond : Outside a b n (k * 2 ^ 27) = record { first = λ le. absurd (omega (arith, le, to, part_low)); second = λ le. omega (arith, from, at.second_to) } in
      ap (page_at x2 1) (sym table) ∙ e.cells 1 (k * 2 ^ 27) (omega arith) beyond ∙ ap (page_at x1 1) table

  pub gives : GivesUp x0 x2 (part f)
  gives = record {
    gone = λ v inside. let page = page_in at (v / 4096) (in_address at v inside) in unmapped x2 v (given_page (v / 4096) page.0 page.1);
    stand = λ parts stands one. stand_same x1 x2 (without (part f) parts)
        (λ v low high. out_view v (λ inside. omega (arith, inside.from, x.can.placed.low, high)))
        (subst (λ (q : Partition). StandFor (view x1) (without q parts)) x.same (x.stand parts stands (ap (λ (q : Partition). is_one parts q.level (number_of q)) x.same ∙ one)));
    others = λ v off_header off. out_view v off ∙ x.bytes v (λ header. off_header (subst (λ (q : Partition). IsInHeader q v) x.same header));
    unmapped = λ q inside. let page = page_in at q inside in given_page q page.0 page.1;
    pages = λ q away off. now_page q ∙ ap (page_at x0 4) (partner-other a b n q (out q away off));
    staged = λ v from to.
        out_byte v (omega (arith, to)) (λ slot. omega (arith, slot, from)) (λ inside. omega (arith, inside.from, x.can.placed.low, to))
        ∙ release_byte v (omega (arith, to)) (λ h on is. omega (arith, is, from, (path_bounds (part f) x.can.placed h on).1));
    roots = λ k from to. root_stays k from to ∙ x.cells 1 k (omega arith);
    fresh = λ q f'. e.fresh q (λ d y le is. f' d y le (sym (x.cells d y le) ∙ is));
    reached = λ q f' d y le is. e.reached q f' d y le (x.cells d y le ∙ is);
    tables = e.tables;
    head = λ w lt. drafted_superblock rs img new x.apart_all (same_then x.second x.first) w lt ∙ sym (drafted_superblock ps img img x.apart (same_refl img) w lt);
    size = length-with_pairs rs new ∙ x.second.size ∙ x.first.size ∙ sym (length-with_pairs ps img);
  }

  -- ---- the pairs

  pub adds : AddsGiveUp img f ps rs
  adds = record {
    released = x.added.added;
    goes_on = x.pairs ∙ ap₂ (λ (l m : List Pair). l ++ m) (swaps_beside img mid a b (whole_pieces f) beside x.can.tables) x.added.goes_on;
    each = subst (λ (q : Partition). All (λ (pair : Pair). NamesHeader img q pair.word) x.added.added) x.same x.added.each;
  }

  pub bare : (w : ℕ) → Named rs w → Named ps w ⊎ IsBare img w
  bare w named = elim (named_append (swap_pairs mid a b (whole_pieces f)) qs w (subst (λ (l : List Pair). Named l w) x.pairs named)) [
    | inr release ↦ release_bare x.tables x.can x.same x.first x.added w release
    | inl swap ↦ inr (bare_back beside w (entry_bare mid w (beside_tables beside x.tables) (swap_entries mid a b (whole_pieces f) (tables_beside beside a b (whole_pieces f) x.can.tables) w swap)))
  ]
