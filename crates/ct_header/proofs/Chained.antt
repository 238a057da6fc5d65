-- The header words on a path, one after the other.
use Rattle.std.proofs.Common.{◌≡◌, ◌≢◌, ℕ, zero, suc, ◌+◌, ◌-◌, ◌*◌, ◌/◌, ◌%◌, ◌^◌, ◌<◌, ◌≤◌, Bool, true, List, [], ◌∷◌, refl, sym, ap, subst, ◌∙◌, inl, inr, arith}
use Rattle.std.specs.Prelude.{Contains}
use Rattle.std.proofs.lemmas.Bool.{cases_Bool}
use Rattle.std.proofs.lemmas.List.Elements.{All-nil, All-cons}
use Rattle.ct_base.specs.Headers.{is_one, AreDisjoint, StandFor, without}
use Rattle.ct_base.specs.Inode.{Partition, number_of, nth, is_free}
use Rattle.ct_base.specs.Published.{words_above, header_words}
use Rattle.ct_base.specs.Ranges.{header_at, Headers, Changes, IsPartition}
use Rattle.ct_base.specs.Settled.{Pair}
use Rattle.ct_base.specs.View.{is_seen, view}
use Rattle.ct_base.specs.Walk.{page_at}
use Rattle.ct_base.specs.Words.{place_at}
use Rattle.ct_image.proofs.Beside.{beside_cells}
use Rattle.ct_parts.proofs.Bytes.{up-up, up-down}
use Rattle.ct_parts.proofs.Lists.{number-nth, partition_part, join, leave, without-disjoint}
use Rattle.ct_pm.specs.Device.{SameOff}
use Rattle.ct_record.specs.Record.{InRecord}
use Rattle.ct_header.specs.Drafted.{AddsPairs, AreThere, IsInHeader, NamesHeader}
use Rattle.ct_words.specs.Shown.{shown_word}
use Rattle.ct_record.proofs.Under.{under_beside}
use Rattle.ct_words.proofs.Shown.{byte-shown}
use Rattle.ct_header.proofs.Shown.{view_headers, headers_view}
use Rattle.ct_parts.proofs.Path.{OnWay}

-- ---- addresses

-- two aligned addresses with one place are one
pub places_apart : (a b : ℕ) → a % 8 ≡ 0 → b % 8 ≡ 0 → a ≢ b → a / 4096 ≡ b / 4096 → a % 4096 / 8 ≢ b % 4096 / 8
places_apart a b ea eb ne page word = ne (omega arith)

words_above-contains : (count n j d : ℕ) → d < count → Contains (words_above n j count) (header_at (n + d + 1) (j / 8 ^ suc d))
unfolding words_above
words_above-contains zero n j d lt = absurd (omega arith)
words_above-contains (suc count) n j zero lt =
    let level : n + 1 ≡ n + 0 + 1 = omega arith in
    (0, omega arith, ap (λ k. header_at k (j / 8)) level)
words_above-contains (suc count) n j (suc d) lt =
    let level : n + 1 + d + 1 ≡ n + suc d + 1 = omega arith in
    let rest = words_above-contains count (n + 1) (j / 8) d (omega arith) in
    let same : header_at (n + 1 + d + 1) (j / 8 / 8 ^ suc d) ≡ header_at (n + suc d + 1) (j / 8 ^ suc (suc d)) =
    ap (λ k. header_at k (j / 8 / 8 ^ suc d)) level ∙ ap (header_at (n + suc d + 1)) (up-down j (suc d)) in
    subst (λ (x : ℕ). Contains (header_at (n + 1) (j / 8) ∷ words_above (n + 1) (j / 8) count) x) same (suc rest.0, omega (arith, rest.1), rest.2)

pub on_header : (n j d : ℕ) → n + d ≤ 9 → Contains (header_words (nth n j)) (header_at (n + d + 1) (j / 8 ^ suc d))
on_header n j d le =
    let number : j ≡ number_of (nth n j) = sym (number-nth n j (omega arith)) in
    subst (λ (x : ℕ). Contains (words_above n x (10 - n)) (header_at (n + d + 1) (j / 8 ^ suc d))) number (words_above-contains (10 - n) n j d (omega arith))

-- the header that the loop is at
pub header_now : (m p first at j b : ℕ) (before now : ℕ → ℕ) → OnWay m p first before now (at - m) j b → m ≤ at → at ≤ 9
    → header_at (m + (at - m) + 1) (p / 8 ^ suc (at - m)) ≡ header_at (at + 1) (j / 8)
header_now m p first at j b before now g low high =
    let d = at - m in
    let e : m + d ≡ at = omega arith in
    let number : p / 8 ^ suc d ≡ j / 8 = sym (ap (λ x. x / 8) g.number ∙ up-up p d) in
    ap (λ n. header_at (n + 1) (p / 8 ^ suc d)) e ∙ ap (header_at (at + 1)) number

pub on_path_now : (m p first at j b : ℕ) (before now : ℕ → ℕ) → OnWay m p first before now (at - m) j b → m ≤ at → at ≤ 9 → Contains (header_words (nth m p)) (header_at (at + 1) (j / 8))
on_path_now m p first at j b before now g low high =
    subst (λ (a : ℕ). Contains (header_words (nth m p)) a) (header_now m p first at j b before now g low high) (on_header m p (at - m) (omega arith))

-- the page of the next header
pub there_now : (img img' : List ℕ) (m p first at j b : ℕ) (before now : ℕ → ℕ) → AreThere img (nth m p) → SameOff InRecord img' img → OnWay m p first before now (at - m) j b → m ≤ at → at ≤ 9
    → page_at img' 4 (header_at (at + 1) (j / 8) / 4096) ≢ 0
there_now img img' m p first at j b before now there same g low high none =
    there (header_at (at + 1) (j / 8)) (on_path_now m p first at j b before now g low high)
    (sym (beside_cells (under_beside img img' same) 4 (header_at (at + 1) (j / 8) / 4096)) ∙ none)

-- ---- pairs

pub adds_none : (Names : ℕ → Type 0) (ps : List Pair) → AddsPairs Names ps ps
adds_none Names ps = record { added = []; goes_on = refl; each = All-nil (λ (pair : Pair). Names pair.word) }

pub adds_same : (Names : ℕ → Type 0) (ps qs rs : List Pair) → AddsPairs Names ps qs → rs ≡ qs → AddsPairs Names ps rs
adds_same Names ps qs rs a is = record { added = a.added; goes_on = is ∙ a.goes_on; each = a.each }

pub adds_header : (img img' : List ℕ) (P : Partition) (ps qs rs : List Pair) (a value : ℕ) → SameOff InRecord img' img → Contains (header_words P) a → AddsPairs (NamesHeader img P) ps qs
    → rs ≡ record { word = place_at img' a; value = value } ∷ qs → AddsPairs (NamesHeader img P) ps rs
adds_header img img' P ps qs rs a value same on s is =
    let pair : Pair = record { word = place_at img' a; value = value } in
    record {
      added = pair ∷ s.added;
      goes_on = is ∙ ap (λ (x : List Pair). pair ∷ x) s.goes_on;
      each = All-cons (λ (q : Pair). NamesHeader img P q.word) pair s.added
          (record { address = a; on_path = on; is = ap (λ p. p * 512 + a % 4096 / 8) (beside_cells (under_beside img img' same) 4 (a / 4096)) })
          s.each;
    }

-- ---- bytes

-- off the path each byte stays
pub bytes_stay : (old new : List ℕ) (n j : ℕ) → n ≤ 9
    → ((a : ℕ) → a % 8 ≡ 0 → ((e : ℕ) → e < 10 - n → a ≢ header_at (n + e + 1) (j / 8 ^ suc e)) → shown_word new a ≡ shown_word old a)
    → (v : ℕ) → (IsInHeader (nth n j) v → ⊥) → view new v ≡ view old v
unfolding view
bytes_stay old new n j le others v off =
    elim (cases_Bool (is_seen v)) [
      | inl t ↦ rw t (byte-shown new v t ∙ ap (λ w. w / 256 ^ (v % 8) % 256) same ∙ sym (byte-shown old v t))
      | inr f ↦ rw f refl
    ]
  where
    a : ℕ
    a = 8 * (v / 8)

    same : shown_word new (8 * (v / 8)) ≡ shown_word old (8 * (v / 8))
    same = others (8 * (v / 8)) (omega arith) (λ e lt is.
        off (record { address = header_at (n + e + 1) (j / 8 ^ suc e); on_path = on_header n j e (omega arith); from = omega (arith, is); to = omega (arith, is) }))

-- ---- what the path says of a partition that joins the list, and of one that leaves it

take_nth : (ps : List Partition) (n j : ℕ) (old new : List ℕ) → IsPartition n j
    → ((f g : ℕ → ℕ → Bool) → Headers f (shown_word old) → Changes f g n j 16 → Headers g (shown_word new))
    → StandFor (view old) ps → is_free ps (nth n j) ≡ true → StandFor (view new) (nth n j ∷ ps)
take_nth ps n j old new part path s free =
    let apart : AreDisjoint (nth n j ∷ ps) = (partition_part n j part, free, s.apart) in
    let changes : Changes (is_one ps) (is_one (nth n j ∷ ps)) n j 16 =
    subst (λ (x : ℕ). Changes (is_one ps) (is_one (nth n j ∷ ps)) n x 16) (number-nth n j part.level) (join ps (nth n j) apart) in
    record { apart = apart; stand = headers_view new (nth n j ∷ ps) (path (is_one ps) (is_one (nth n j ∷ ps)) (view_headers old ps s.stand) changes) }

pub take_stands : (ps : List Partition) (q : Partition) (n j : ℕ) (old new : List ℕ) → q ≡ nth n j → IsPartition n j
    → ((f g : ℕ → ℕ → Bool) → Headers f (shown_word old) → Changes f g n j 16 → Headers g (shown_word new))
    → StandFor (view old) ps → is_free ps q ≡ true → StandFor (view new) (q ∷ ps)
take_stands ps q n j old new is part path s free =
    subst (λ (x : Partition). StandFor (view new) (x ∷ ps)) (sym is) (take_nth ps n j old new part path s (ap (is_free ps) (sym is) ∙ free))

release_nth : (ps : List Partition) (n j : ℕ) (old new : List ℕ) → IsPartition n j
    → ((f g : ℕ → ℕ → Bool) → Headers f (shown_word old) → Changes f g n j 0 → Headers g (shown_word new))
    → StandFor (view old) ps → is_one ps n (number_of (nth n j)) ≡ true → StandFor (view new) (without (nth n j) ps)
release_nth ps n j old new part path s one =
    let rest = without (nth n j) ps in
    let changes : Changes (is_one ps) (is_one (without (nth n j) ps)) n j 0 =
    subst (λ (x : ℕ). Changes (is_one ps) (is_one (without (nth n j) ps)) n x 0) (number-nth n j part.level) (leave ps (nth n j) (partition_part n j part) s.apart one) in
    record { apart = without-disjoint (nth n j) ps s.apart; stand = headers_view new (without (nth n j) ps) (path (is_one ps) (is_one (without (nth n j) ps)) (view_headers old ps s.stand) changes) }

pub release_stands : (ps : List Partition) (q : Partition) (n j : ℕ) (old new : List ℕ) → q ≡ nth n j → IsPartition n j
    → ((f g : ℕ → ℕ → Bool) → Headers f (shown_word old) → Changes f g n j 0 → Headers g (shown_word new))
    → StandFor (view old) ps → is_one ps q.level (number_of q) ≡ true → StandFor (view new) (without q ps)
release_stands ps q n j old new is part path s one =
    subst (λ (x : Partition). StandFor (view new) (without x ps)) (sym is)
    (release_nth ps n j old new part path s (subst (λ (x : Partition). is_one ps x.level (number_of x) ≡ true) is one))
