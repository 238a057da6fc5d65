-- Words that follow each other in a page, or in none, and their bytes.
use Rattle.std.proofs.Common.{◌≡◌, ◌≢◌, ℕ, zero, suc, ◌+◌, ◌-◌, ◌*◌, ◌/◌, ◌%◌, ◌^◌, ◌<◌, ◌≤◌, true, List, sym, ap, ◌∙◌, inl, inr, arith}
use Rattle.std.proofs.lemmas.Bool.{cases_lt, lt-ltb, or_left}
use Rattle.ct_base.specs.Inode.{little, part_bytes}
use Rattle.ct_base.specs.declared.inode.Inode.{Inode}
use Rattle.ct_base.specs.Rules.{HasRoom, IsRestZero}
use Rattle.ct_base.specs.View.{is_seen, view}
use Rattle.ct_base.specs.Walk.{byte, word, word_in, next, page_at, page_count}
use Rattle.ct_base.specs.Words.{word_at, place_at}
use Rattle.ct_image.proofs.Steps.{named_page-bounds, next-at, next-zero, page_at-next}
use Rattle.ct_image.proofs.Write.{word_at-there}
use Rattle.ct_state.proofs.Bytes.{little-zero, little-none}
use Rattle.ct_state.proofs.Carry.{view-seen}
use Rattle.ct_state.proofs.Whole.{seen_from}
use Rattle.ct_words.proofs.Shown.{little-shown}
use Rattle.ct_words.specs.Shown.{shown_word}
use Rattle.ct_placing.specs.Zeros.{AreZero, IsTailZero}

pub shown_none : (img : List ℕ) (x : ℕ) → page_at img 4 (x / 4096) ≡ 0 → shown_word img x ≡ 0
unfolding word_at
shown_none img x none = ap (λ p. word_in img p (x % 4096 / 8) % 2 ^ 64) none

pub shown_there : (img : List ℕ) → ((w : ℕ) → word img w < 2 ^ 64) → (x : ℕ) → page_at img 4 (x / 4096) ≢ 0 → shown_word img x ≡ word img (place_at img x)
shown_there img fit x there = let same = word_at-there img x there in omega (arith, same, fit (place_at img x))

-- an entry of 64 bits names a page below 2^52
pub page_small : (img : List ℕ) → ((w : ℕ) → word img w < 2 ^ 64) → (n : ℕ) → page_at img 4 n ≢ 0 → page_at img 4 n < 2 ^ 52
page_small img fit n there =
    let t = page_at img 3 (n / 512) in
    let step = page_at-next img 3 n in
    let table : t ≢ 0 = λ none. there (step ∙ ap (λ k. next img k (n % 512)) none ∙ next-zero img (n % 512)) in
    let named = next-at img t (n % 512) table in
    let bounds = named_page-bounds (page_count img) (word img (t * 512 + n % 512)) (λ none. there (step ∙ named ∙ none)) in
    omega (arith, step, named, bounds.2, fit (t * 512 + n % 512))

-- from address a on, in one page
module _ (img : List ℕ) (fit : (w : ℕ) → word img w < 2 ^ 64) (a e : ℕ) (aligned : a % 8 ≡ 0) (end : e % 8 ≡ 0) (page : e ≤ (a / 4096 + 1) * 4096) (there : page_at img 4 (a / 4096) ≢ 0) where
  place_in : (x : ℕ) → a ≤ x → x < e → x % 8 ≡ 0 → shown_word img x ≡ word img (place_at img a + (x - a) / 8)
  place_in x from to even =
      let same : x / 4096 ≡ a / 4096 = omega arith in
      let o : x % 4096 / 8 ≡ a % 4096 / 8 + (x - a) / 8 = omega arith in
      shown_there img fit x (λ none. there (ap (page_at img 4) (sym same) ∙ none))
      ∙ ap (word img) (ap (λ p. page_at img 4 p * 512 + x % 4096 / 8) same ∙ ap (λ k. page_at img 4 (a / 4096) * 512 + k) o ∙ omega arith)

  -- the words of the device are 0 where the words by address are
  pub zero_shown : ((w : ℕ) → place_at img a ≤ w → w < place_at img a + (e - a) / 8 → word img w ≡ 0) → AreZero img a e
  zero_shown zeros x from to even = place_in x from to even ∙ zeros (place_at img a + (x - a) / 8) (omega arith) (omega arith)

  pub shown_zero : AreZero img a e → (w : ℕ) → place_at img a ≤ w → w < place_at img a + (e - a) / 8 → word img w ≡ 0
  shown_zero zeros w from to =
      let x = a + 8 * (w - place_at img a) in
      let at : place_at img a + (x - a) / 8 ≡ w = omega arith in
      ap (word img) (sym at) ∙ sym (place_in x (omega arith) (omega arith) (omega arith)) ∙ zeros x (omega arith) (omega arith) (omega arith)

-- bytes and words
abbrev AllSeen : ℕ → ℕ → Type 0
AllSeen from to = (v : ℕ) → from ≤ v → v < to → is_seen v ≡ true

bytes_zero : (img : List ℕ) (from to : ℕ) → from % 8 ≡ 0 → to % 8 ≡ 0 → AllSeen from to → AreZero img from to → (v : ℕ) → from ≤ v → v < to → view img v ≡ 0
bytes_zero img from to aligned end seen zeros v above below =
    let a = v / 8 * 8 in
    let at : a + (v - a) ≡ v = omega arith in
    let none : little (view img) a 8 ≡ 0 = little-shown img a (omega arith) (seen a (omega arith) (omega arith)) ∙ zeros a (omega arith) (omega arith) (omega arith) in
    ap (view img) (sym at) ∙ little-none (view img) a 8 (v - a) none (omega arith)

words_zero : (img : List ℕ) (from to : ℕ) → to % 8 ≡ 0 → AllSeen from to → ((v : ℕ) → from ≤ v → v < to → view img v ≡ 0) → AreZero img from to
words_zero img from to end seen zeros x above below even =
    sym (little-shown img x even (seen x above below)) ∙ little-zero (view img) x 8 (λ k lt. zeros (x + k) (omega arith) (omega arith))

low_seen : (from to : ℕ) → to ≤ 2 ^ 40 → AllSeen from to
low_seen from to low v above below = or_left _ _ (lt-ltb v 1099511627776 (omega arith))

pub rest_zero : (img : List ℕ) (count : ℕ) → AreZero img 0 64 → AreZero img (64 * (count + 1)) 549755813888 → IsRestZero (view img) count
rest_zero img count head rest v low (inl before) = bytes_zero img 0 64 (omega arith) (omega arith) (low_seen 0 64 (omega arith)) head v (omega arith) before
rest_zero img count head rest v low (inr behind) = bytes_zero img (64 * (count + 1)) 549755813888 (omega arith) (omega arith) (low_seen (64 * (count + 1)) 549755813888 (omega arith)) rest v behind (omega arith)

pub zero_rest : (img : List ℕ) (count : ℕ) → IsRestZero (view img) count → AreZero img 0 64 × AreZero img (64 * (count + 1)) 549755813888
zero_rest img count rest = (
  words_zero img 0 64 (omega arith) (low_seen 0 64 (omega arith)) (λ v above below. rest v (omega arith) (inl below)),
  words_zero img (64 * (count + 1)) 549755813888 (omega arith) (low_seen (64 * (count + 1)) 549755813888 (omega arith)) (λ v above below. rest v (omega arith) (inr above)),
)

-- a partition ends at 2^48 at the latest
part_end_most : (base level : ℕ) → level ≤ 9 → base % part_bytes level ≡ 0 → base < 2 ^ 48 → base + part_bytes level ≤ 2 ^ 48
part_end_most base zero le aligned high = omega arith
part_end_most base (suc zero) le aligned high = omega arith
part_end_most base (suc (suc zero)) le aligned high = omega arith
part_end_most base (suc (suc (suc zero))) le aligned high = omega arith
part_end_most base (suc (suc (suc (suc zero)))) le aligned high = omega arith
part_end_most base (suc (suc (suc (suc (suc zero))))) le aligned high = omega arith
part_end_most base (suc (suc (suc (suc (suc (suc zero)))))) le aligned high = omega arith
part_end_most base (suc (suc (suc (suc (suc (suc (suc zero))))))) le aligned high = omega arith
part_end_most base (suc (suc (suc (suc (suc (suc (suc (suc zero)))))))) le aligned high = omega arith
part_end_most base (suc (suc (suc (suc (suc (suc (suc (suc (suc zero))))))))) le aligned high = omega arith
part_end_most base (suc (suc (suc (suc (suc (suc (suc (suc (suc (suc level)))))))))) le aligned high = absurd (omega arith)

part_end_even : (base level : ℕ) → level ≤ 9 → base % part_bytes level ≡ 0 → (base + part_bytes level) % 8 ≡ 0
part_end_even base zero le aligned = omega arith
part_end_even base (suc zero) le aligned = omega arith
part_end_even base (suc (suc zero)) le aligned = omega arith
part_end_even base (suc (suc (suc zero))) le aligned = omega arith
part_end_even base (suc (suc (suc (suc zero)))) le aligned = omega arith
part_end_even base (suc (suc (suc (suc (suc zero))))) le aligned = omega arith
part_end_even base (suc (suc (suc (suc (suc (suc zero)))))) le aligned = omega arith
part_end_even base (suc (suc (suc (suc (suc (suc (suc zero))))))) le aligned = omega arith
part_end_even base (suc (suc (suc (suc (suc (suc (suc (suc zero)))))))) le aligned = omega arith
part_end_even base (suc (suc (suc (suc (suc (suc (suc (suc (suc zero))))))))) le aligned = omega arith
part_end_even base (suc (suc (suc (suc (suc (suc (suc (suc (suc (suc level)))))))))) le aligned = absurd (omega arith)

pub part_even : (f : Inode) → HasRoom f → (f.base + part_bytes f.level) % 8 ≡ 0
part_even f room = part_end_even f.base f.level room.part.level room.part.aligned

pub part_high : (f : Inode) → HasRoom f → f.base + part_bytes f.level ≤ 2 ^ 48
part_high f room = part_end_most f.base f.level room.part.level room.part.aligned room.part.high

part_end_high : (f : Inode) → HasRoom f → (v : ℕ) → v < f.base + part_bytes f.level → v < 2 ^ 48
part_end_high f room v lt = let most = part_high f room in omega (arith, most)

-- the bytes of a partition past a size: those up to the next word, and the words from there on
module _ (img : List ℕ) (f : Inode) (room : HasRoom f) where
  tail_seen : (from to : ℕ) → f.base ≤ from → to ≤ f.base + part_bytes f.level → AllSeen from to
  tail_seen from to above below v low high = seen_from v (part_end_high f room v (omega arith)) (inr (omega (arith, room.part.low)))

  pub tail_zero : (up : ℕ) → up % 8 ≡ 0 → f.base + f.size ≤ up → up ≤ f.base + part_bytes f.level → (f.base + part_bytes f.level) % 8 ≡ 0
      → ((v : ℕ) → f.base + f.size ≤ v → v < up → byte img v ≡ 0) → AreZero img up (f.base + part_bytes f.level) → IsTailZero (view img) f
  tail_zero up aligned from to end head rest k low high = elim (cases_lt (f.base + k) up) [
    | inl before ↦ view-seen img (f.base + k) (tail_seen f.base (f.base + part_bytes f.level) (omega arith) (omega arith) (f.base + k) (omega arith) (omega arith)) ∙ head (f.base + k) (omega arith) before
    | inr behind ↦ bytes_zero img up (f.base + part_bytes f.level) aligned end (tail_seen up (f.base + part_bytes f.level) (omega arith) (omega arith)) rest (f.base + k) behind (omega arith)
  ]

  pub zero_tail : (up : ℕ) → f.base + f.size ≤ up → up ≤ f.base + part_bytes f.level → (f.base + part_bytes f.level) % 8 ≡ 0 → IsTailZero (view img) f
      → ((v : ℕ) → f.base + f.size ≤ v → v < up → byte img v ≡ 0) × AreZero img up (f.base + part_bytes f.level)
  zero_tail up from to end tail = (
    λ v low high. sym (view-seen img v (tail_seen f.base (f.base + part_bytes f.level) (omega arith) (omega arith) v (omega arith) (omega arith))) ∙ all v low (omega arith),
    words_zero img up (f.base + part_bytes f.level) end (tail_seen up (f.base + part_bytes f.level) (omega arith) (omega arith)) (λ v low high. all v (omega arith) high),
  )
    where
      all : (v : ℕ) → f.base + f.size ≤ v → v < f.base + part_bytes f.level → view img v ≡ 0
      all v low high = let at : f.base + (v - f.base) ≡ v = omega arith in ap (view img) (sym at) ∙ tail (v - f.base) (omega arith) (omega arith)
