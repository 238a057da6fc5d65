-- The header words on the path of a partition, and the list that they stand for.
use Rattle.std.proofs.Common.{◌≡◌, ◌≢◌, ℕ, zero, suc, ◌+◌, ◌-◌, ◌/◌, ◌%◌, ◌^◌, ◌<◌, ◌≤◌, true, List, [], ◌∷◌, sym, ap, subst, ◌∙◌, inl, inr, arith}
use Rattle.std.specs.Prelude.{Contains}
use Rattle.std.proofs.lemmas.Bool.{cases_Bool, eq-eqb, ne_eqb}
use Rattle.ct_base.specs.declared.inode.Inode.{Inode}
use Rattle.ct_base.specs.Headers.{byte_place, ranges, StandFor, is_one, without}
use Rattle.ct_base.specs.Inode.{Partition, IsPart, part, number_of, is_free}
use Rattle.ct_base.specs.Published.{words_above, header_words}
use Rattle.ct_base.specs.Ranges.{header_at, byte, IsPartition}
use Rattle.ct_base.specs.Settled.{Pair}
use Rattle.ct_base.specs.View.{view}
use Rattle.ct_base.specs.Walk.{byte_in, page_at}
use Rattle.ct_header.specs.Drafted.{AddsPairs, NamesHeader, JoinsLive, LeavesLive}
use Rattle.ct_parts.proofs.Bytes.{up-up, up-down, byte-live}
use Rattle.ct_parts.proofs.Lists.{part_partition, is_one-rest}
use Rattle.ct_parts.proofs.Says.{holds-some}
use Rattle.ct_parts.proofs.Stand.{place-word, ranges-is}
use Rattle.ct_parts.proofs.Path.{shown-on, header_at-bounds, partition_up, partition_words}
use Rattle.ct_grow.specs.Drafted.{IsOnPaths, NamesPlace, NamePlaces, parts_after}
use Rattle.ct_base.specs.View.{is_seen}
use Rattle.ct_image.proofs.Steps.{walk-cell}
use Rattle.ct_state.proofs.Carry.{view-seen, view-other}
use Rattle.ct_state.proofs.Neutral.{seen-bounds}
use Rattle.ct_grow.proofs.Placing.{names_none, names_added}

-- ---- which words are on a path

-- the word above range (n + d, j / 8 ^ d)
pub record OnPath (n j a : ℕ) : Type 0 where
  pub up : ℕ
  pub low : n + up ≤ 9
  pub is : a ≡ header_at (n + up + 1) (j / 8 ^ suc up)

words_on : (count n j a : ℕ) → n + count ≤ 10 → Contains (words_above n j count) a → OnPath n j a
unfolding words_above
words_on zero n j a le (k, lt, is) = absurd (omega arith)
words_on (suc count) n j a le (zero, lt, is) =
    let level : n + 1 ≡ n + 0 + 1 = omega arith in
    record { up = 0; low = omega arith; is = sym is ∙ ap (λ m. header_at m (j / 8)) level }
words_on (suc count) n j a le (suc k, lt, is) =
    let rest = words_on count (n + 1) (j / 8) a (omega arith) (k, omega arith, is) in
    let level : n + 1 + rest.up + 1 ≡ n + suc rest.up + 1 = omega arith in
    record {
      up = suc rest.up;
      low = omega (arith, rest.low);
      is = rest.is ∙ ap (λ m. header_at m (j / 8 / 8 ^ suc rest.up)) level ∙ ap (header_at (n + suc rest.up + 1)) (up-down j (suc rest.up));
    }

pub on_path : (p : Partition) → IsPart p → (a : ℕ) → Contains (header_words p) a → OnPath p.level (number_of p) a
on_path p part a on = words_on (10 - p.level) p.level (number_of p) a (omega (arith, part.level)) on

pub is_up : (d n j : ℕ) → n + d ≤ 9 → IsPartition n j → IsPartition (n + d) (j / 8 ^ d)
is_up zero n j le part =
    let level : n ≡ n + 0 = omega arith in
    let number : j ≡ j / 8 ^ 0 = omega arith in
    subst (λ (m : ℕ). IsPartition m (j / 8 ^ 0)) level (subst (IsPartition n) number part)
is_up (suc d) n j le part =
    let level : n + d + 1 ≡ n + suc d = omega arith in
    subst (λ (m : ℕ). IsPartition m (j / 8 ^ suc d)) level (subst (IsPartition (n + d + 1)) (up-up j d) (partition_up (n + d) (j / 8 ^ d) (omega arith) (is_up d n j (omega arith) part)))

-- where such a word lies
pub path_bounds : (p : Partition) → IsPart p → (a : ℕ) → Contains (header_words p) a → (549755813888 ≤ a) × (a < 1099511627776) × (a % 8 ≡ 0)
path_bounds p part a on =
    let o = on_path p part a on in
    let small = partition_words (p.level + o.up) (number_of p / 8 ^ o.up) (is_up o.up p.level (number_of p) o.low (part_partition p part)) in
    let b = header_at-bounds (p.level + o.up) (number_of p / 8 ^ suc o.up) o.low (omega (arith, small, up-up (number_of p) o.up)) in
    (omega (arith, b.0, o.is), omega (arith, b.1, o.is), ap (λ x. x % 8) o.is ∙ b.2)

-- its place is one of a mapped page
pub header_place : (img : List ℕ) (On : ℕ → Type 0) (P p : Partition) → P ≡ p → IsPart p → ((a : ℕ) → Contains (header_words p) a → page_at img 4 (a / 4096) ≢ 0) → ((a : ℕ) → Contains (header_words p) a → On a)
    → (w : ℕ) → NamesHeader img P w → NamesPlace img On w
header_place img On P p same part there on w n =
    let path : Contains (header_words p) n.address = subst (λ (x : Partition). Contains (header_words x) n.address) same n.on_path in
    record { address = n.address; on = on n.address path; aligned = (path_bounds p part n.address path).2; there = there n.address path; is = n.is }

pub taken_names : (img : List ℕ) (f : Inode) (p P : Partition) (ps qs : List Pair) → P ≡ p → IsPart p → ((a : ℕ) → Contains (header_words p) a → page_at img 4 (a / 4096) ≢ 0) → ps ≡ [] → AddsPairs (NamesHeader img P) ps qs
    → NamePlaces img (IsOnPaths f p) qs
taken_names img f p P ps qs same part there none added =
    names_added (header_place img (IsOnPaths f p) P p same part there (λ a on. inl on)) added (names_none img (IsOnPaths f p) ps none)

-- nothing is to be seen where no page is
pub unmapped : (img : List ℕ) (v : ℕ) → page_at img 4 (v / 4096) ≡ 0 → view img v ≡ 0
unmapped img v none = elim (cases_Bool (is_seen v)) [
  | inl seen ↦ view-seen img v seen ∙ ap (λ t. byte_in img t (v % 4096)) (walk-cell img v (seen-bounds v seen).0 ∙ none)
  | inr other ↦ view-other img v other
]

-- ---- the list

pub headers_join : (img x0 x1 : List ℕ) (f : Inode) (p P : Partition) → x0 ≡ img → P ≡ p → f.level ≡ 15 → JoinsLive P x0 x1 → (ps : List Partition) → StandFor (view img) ps → is_free ps p ≡ true
    → StandFor (view x1) (parts_after f p ps)
headers_join img x0 x1 f p P start same none join ps stand free =
    let more : StandFor (view x1) (P ∷ ps) = join ps (subst (λ (x : List ℕ). StandFor (view x) ps) (sym start) stand) (ap (is_free ps) same ∙ free) in
    rw (eq-eqb f.level 15 none) (subst (λ (x : Partition). StandFor (view x1) (x ∷ ps)) same more)

pub headers_both : (img x0 x1 x2 : List ℕ) (f : Inode) (p P Q : Partition) → x0 ≡ img → P ≡ p → Q ≡ part f → f.level ≢ 15 → JoinsLive P x0 x1 → LeavesLive Q x1 x2 → (ps : List Partition) → StandFor (view img) ps
    → is_free ps p ≡ true → (f.level ≢ 15 → is_one ps f.level (number_of (part f)) ≡ true) → StandFor (view x2) (parts_after f p ps)
headers_both img x0 x1 x2 f p P Q start same own some join leave ps stand free one =
    let more : StandFor (view x1) (P ∷ ps) = join ps (subst (λ (x : List ℕ). StandFor (view x) ps) (sym start) stand) (ap (is_free ps) same ∙ free) in
    let here : is_one (P ∷ ps) Q.level (number_of Q) ≡ true = ap (λ q. is_one (P ∷ ps) q.level (number_of q)) own ∙ is_one-rest P ps f.level (number_of (part f)) (one some) in
    let less : StandFor (view x2) (without Q (P ∷ ps)) = leave (P ∷ ps) more here in
    rw (ne_eqb f.level 15 some) (subst (λ (x : Partition). StandFor (view x2) (without (part f) (x ∷ ps))) same (subst (λ (q : Partition). StandFor (view x2) (without q (P ∷ ps))) own less))

-- the header words of a live partition are not 0, so their pages are there
pub live_headers : (img : List ℕ) (ps : List Partition) (q : Partition) → StandFor (view img) ps → IsPart q → is_one ps q.level (number_of q) ≡ true → (a : ℕ) → Contains (header_words q) a → page_at img 4 (a / 4096) ≢ 0
live_headers img ps q stand part one a on none =
    let o = on_path q part a on in
    let j = number_of q in
    let n = q.level + o.up in
    let c = number_of q / 8 ^ o.up in
    let partition = part_partition q part in
    let up = is_up o.up q.level j o.low partition in
    let high = up.high in
    let small : c < ranges n = omega (arith, ranges-is n o.low) in
    let place : byte_place n c ≡ a + c % 8 = place-word n c ∙ ap (λ x. x + c % 8) (ap (header_at (n + 1)) (up-up j o.up) ∙ sym o.is) in
    let zero_byte : view img (a + c % 8) ≡ 0 = unmapped img (a + c % 8) (ap (page_at img 4) (omega (arith, (path_bounds q part a on).2)) ∙ none) in
    let says : byte (is_one ps) n c ≡ 0 = sym (shown-on (is_one ps) q.level j o.up o.low partition) ∙ sym (stand.stand.bytes n c o.low small) ∙ ap (view img) place ∙ zero_byte in
    not_zero o.up says
  where
    not_zero : (d : ℕ) → byte (is_one ps) (q.level + d) (number_of q / 8 ^ d) ≡ 0 → ⊥
    not_zero zero is =
        let level : q.level + 0 ≡ q.level = omega arith in
        let number : number_of q / 8 ^ 0 ≡ number_of q = omega arith in
        omega (arith, ap (λ l. byte (is_one ps) l (number_of q)) level, ap (byte (is_one ps) (q.level + 0)) number, is, byte-live (is_one ps) q.level (number_of q) one)
    not_zero (suc d) is =
        let width : q.level + suc d - q.level ≡ suc d = omega arith in
        holds-some (is_one ps) (q.level + suc d) (number_of q / 8 ^ suc d) (record { level = q.level; number = number_of q; lower = omega arith; inside = ap (λ w. number_of q / 8 ^ w) width; is = one }) is
