-- The words of an inode on a device.
use Rattle.std.proofs.Common.{◌≡◌, ◌≢◌, ℕ, ◌+◌, ◌-◌, ◌*◌, ◌/◌, ◌%◌, ◌^◌, ◌<◌, ◌≤◌, true, List, [], length, Some, None, refl, sym, subst, ap, ◌∙◌, arith}
use Rattle.std.proofs.lemmas.Bool.{lt-ltb, or_left}
use Rattle.ct_base.specs.Inode.{inode, inode_word}
use Rattle.ct_base.specs.Settled.{Pair, with_pairs}
use Rattle.ct_base.specs.View.{is_seen, view}
use Rattle.ct_base.specs.Walk.{word, word_in, page_at, page_count, walk, AreTables}
use Rattle.ct_base.specs.Words.{word_at}
use Rattle.ct_image.proofs.Write.{word_at-there}
use Rattle.ct_walk.specs.Pages.{some_page}
use Rattle.ct_words.specs.Drafted.{MapsAlike}
use Rattle.ct_words.specs.Shown.{shown_word}
use Rattle.ct_words.proofs.Placed.{walk_some, walk_none}
use Rattle.ct_words.proofs.Shown.{little-shown, shown-fits}

-- the inodes are looked at
pub seen_inode : (n k : ℕ) → n ≤ 1048576 → k < 8 → is_seen (64 * n + 8 * k) ≡ true
seen_inode n k few lt = or_left _ _ (lt-ltb (64 * n + 8 * k) 1099511627776 (omega arith))

-- a word of an inode, as a number
pub word_shown : (img : List ℕ) (n k : ℕ) → n ≤ 1048576 → k < 8 → inode_word (view img) n k ≡ shown_word img (64 * n + 8 * k)
word_shown img n k few lt = little-shown img (64 * n + 8 * k) (omega arith) (seen_inode n k few lt)

pub inode_shown : (img : List ℕ) (n a b c d : ℕ) → n ≤ 1048576 → a ≡ shown_word img (64 * n + 8 * 0) → b ≡ shown_word img (64 * n + 8 * 1) → c ≡ shown_word img (64 * n + 8 * 2)
    → d ≡ shown_word img (64 * n + 8 * 3) → record { kind = a; size = b; base = c; level = d } ≡ inode (view img) n
inode_shown img n a b c d few p q r s =
    let kind = p ∙ sym (word_shown img n 0 few (omega arith)) in
    let size = q ∙ sym (word_shown img n 1 few (omega arith)) in
    let base = r ∙ sym (word_shown img n 2 few (omega arith)) in
    let level = s ∙ sym (word_shown img n 3 few (omega arith)) in
    λ i. record { kind = kind i; size = size i; base = base i; level = level i }

-- The page of inode n is there.
pub record IsThere (img : List ℕ) (n v page : ℕ) : Type 0 where
  pub tables : AreTables img
  pub few : n ≤ 1048576
  pub at : v ≡ 64 * n
  pub walked : Some page ≡ some_page (walk img v)

module _ {img : List ℕ} {n v page : ℕ} (t : IsThere img n v page) where
  walked_to : (page ≡ page_at img 4 (v / 4096)) × (34 ≤ page) × (page < page_count img)
  walked_to = walk_some img v page (omega (arith, t.at, t.few)) t.tables t.walked

  pub there_words : (k : ℕ) → n % 64 * 8 + k < 512 → word img (page * 512 + n % 64 * 8 + k) ≡ word_at img (64 * n + 8 * k)
  there_words k lt =
      let to = walked_to in
      let same : (64 * n + 8 * k) / 4096 ≡ v / 4096 = omega (arith, t.at) in
      let index : (64 * n + 8 * k) % 4096 / 8 ≡ n % 64 * 8 + k = omega arith in
      let there : page_at img 4 ((64 * n + 8 * k) / 4096) ≡ page = ap (page_at img 4) same ∙ sym to.0 in
      let ne : page_at img 4 ((64 * n + 8 * k) / 4096) ≢ 0 = λ z. omega (arith, there, z, to.1) in
      let place : page_at img 4 ((64 * n + 8 * k) / 4096) * 512 + (64 * n + 8 * k) % 4096 / 8 ≡ page * 512 + n % 64 * 8 + k = omega (arith, there, index) in
      ap (word img) (sym place) ∙ sym (word_at-there img (64 * n + 8 * k) ne)

  pub there_on : (k : ℕ) → n % 64 * 8 + k < 512 → page * 512 + n % 64 * 8 + k < length img
  there_on k lt = omega (arith, walked_to.2, t.tables.there)

-- a word that was loaded
pub load_shown : (img : List ℕ) (n k from value : ℕ) → value < 2 ^ 64 → value ≡ word img (from + k) → word img (from + k) ≡ word_at img (64 * n + 8 * k) → value ≡ shown_word img (64 * n + 8 * k)
load_shown img n k from value fits is at = shown-fits img (64 * n + 8 * k) value fits (is ∙ at)

-- the kind, by the word that was loaded
pub kind_shown : (img : List ℕ) (n value : ℕ) → n ≤ 1048576 → value < 2 ^ 64 → value ≡ word_at img (64 * n) → (inode (view img) n).kind ≡ value
kind_shown img n value few fits is =
    let at : 64 * n + 8 * 0 ≡ 64 * n = omega arith in
    word_shown img n 0 few (omega arith) ∙ ap (shown_word img) at ∙ sym (shown-fits img (64 * n) value fits is)

-- the kind of a later inode in a page
pub kind_in_page : (img : List ℕ) (from n w value : ℕ) → from ≤ n → n ≤ 1048576 → n < from / 64 * 64 + 64 → value < 2 ^ 64 → value ≡ word img (w + 8 * (n - from))
    → ((k : ℕ) → from % 64 * 8 + k < 512 → word img (w + k) ≡ word_at img (64 * from + 8 * k)) → (inode (view img) n).kind ≡ value
kind_in_page img from n w value low few page fits is shown =
    let at : 64 * from + 8 * (8 * (n - from)) ≡ 64 * n = omega arith in
    kind_shown img n value few fits (is ∙ shown (8 * (n - from)) (omega arith) ∙ ap (word_at img) at)

-- an inode whose page is not there
pub none_shown : (img : List ℕ) (n k : ℕ) → page_at img 4 (n / 64) ≡ 0 → k < 8 → 0 ≡ shown_word img (64 * n + 8 * k)
unfolding word_at
none_shown img n k none lt =
    let page : (64 * n + 8 * k) / 4096 ≡ n / 64 = omega arith in
    sym (ap (λ p. word_in img p ((64 * n + 8 * k) % 4096 / 8) % 18446744073709551616) (ap (page_at img 4) page ∙ none))

pub kind_none : (img : List ℕ) (n : ℕ) → n ≤ 1048576 → page_at img 4 (n / 64) ≡ 0 → (inode (view img) n).kind ≡ 0
kind_none img n few none = word_shown img n 0 few (omega arith) ∙ sym (none_shown img n 0 none (omega arith))

pub none_walked : (img : List ℕ) (n v : ℕ) → v ≡ 64 * n → n ≤ 1048576 → None ≡ some_page (walk img v) → page_at img 4 (n / 64) ≡ 0
none_walked img n v at few none = ap (page_at img 4) (omega (arith, at)) ∙ walk_none img v (omega (arith, at, few)) none

-- no pairs change nothing
pub alike_start : (slot : ℕ) (img : List ℕ) (pairs : List Pair) → pairs ≡ [] → AreTables img → MapsAlike slot img (with_pairs pairs img)
alike_start slot img pairs none tables =
    subst (λ (ps : List Pair). MapsAlike slot img (with_pairs ps img)) (sym none) (record { tables = tables; after = tables; count = refl; same = λ n in_slot. refl })
