-- Headers that stand are right in each place, and show the live partitions.
use Rattle.std.proofs.Common.{◌≡◌, ◌≢◌, ℕ, suc, ◌+◌, ◌-◌, ◌*◌, ◌/◌, ◌^◌, ◌<◌, ◌≤◌, Bool, true, false, List, refl, sym, ap, subst, ◌∙◌, inl, inr, arith}
use Rattle.std.proofs.Math.Nat.{pow-suc}
use Rattle.std.specs.Prelude.{nat_lt, ◌&&◌, ◌==◌}
use Rattle.std.proofs.lemmas.Bool.{cases_Bool, cases_lt, cond-true, cond-false}
use Rattle.ct_base.specs.Headers.{AreDisjoint, HeadersStand, is_one}
use Rattle.ct_base.specs.Inode.{Partition, little}
use Rattle.ct_base.specs.Published.{IsLocal, IsRightWord, shows_live}
use Rattle.ct_base.specs.Ranges.{byte, header_at, shown}
use Rattle.ct_parts.proofs.Lists.{live_set}
use Rattle.ct_parts.proofs.Local.{headers-local, headers_same, local-from_words, local-headers, shows-parts}
use Rattle.ct_parts.proofs.Descent.{shown_is}
use Rattle.ct_parts.proofs.Says.{determined, live_by_byte}
use Rattle.ct_parts.proofs.Stand.{bytes-words, words-bytes}
use Rattle.ct_state.proofs.Bytes.{little-below}
use Rattle.ct_placing.specs.Heading.{LooksRight}

pub both_or_none : (x y : Bool) → (x ≡ true → y ≡ true) → (y ≡ true → x ≡ true) → x ≡ y
both_or_none true y f g = sym (f refl)
both_or_none false true f g = g refl
both_or_none false false f g = refl

live_from_shown : (live : ℕ → ℕ → Bool) (n j : ℕ) → shown live n j ≡ 16 → live n j ≡ true
live_from_shown live n j is = elim (cases_Bool ((n == 9) && nat_lt j 10)) [
  | inl slot ↦ let fixed : shown live n j ≡ 48 = cond-true _ _ _ slot in absurd (omega (arith, fixed, is))
  | inr plain ↦ let same : shown live n j ≡ byte live n j = cond-false _ _ _ plain in live_by_byte live n j (sym same ∙ is)
]

module _ (b : ℕ → ℕ) (ps : List Partition) (small : (v : ℕ) → b v < 256) (apart : AreDisjoint ps) where
  small_words : (a : ℕ) → little b a 8 < 2 ^ 64
  small_words a = little-below b a 8 (λ k lt. small (a + k))

  pub stand_local : HeadersStand b ps → IsLocal (λ a. little b a 8)
  stand_local stand = headers-local (live_set ps apart) (bytes-words b ps stand) small_words

  pub stand_shown : HeadersStand b ps → (n j : ℕ) → shows_live (λ a. little b a 8) n j ≡ is_one ps n j
  stand_shown stand n j =
      let w : ℕ → ℕ = λ a. little b a 8 in
      let h = bytes-words b ps stand in
      both_or_none (shows_live w n j) (is_one ps n j)
      (λ on. let parts = shows-parts w n j on in live_from_shown (is_one ps) n j (sym (shown_is (is_one ps) w n j h parts.0 parts.1) ∙ parts.2))
      (λ on. determined (is_one ps) (shows_live w) w (live_set ps apart) h (local-headers (stand_local stand)) n j on)

  pub local_stand : IsLocal (λ a. little b a 8) → ((n j : ℕ) → shows_live (λ a. little b a 8) n j ≡ is_one ps n j) → HeadersStand b ps
  local_stand local same = words-bytes b ps small (headers_same (shows_live (λ a. little b a 8)) (is_one ps) (λ a. little b a 8) (λ n j. sym (same n j)) (local-headers local))

-- headers that are right in each place are right at each word that is not 0
module _ {word_at : ℕ → ℕ} (l : IsLocal word_at) where
  up_range : (n j : ℕ) → n ≤ 8 → j < 64 * 8 ^ (9 - n) → j < 512 * 8 ^ (8 - n)
  up_range n j le lt = let e : 9 - n ≡ suc (8 - n) = omega arith in omega (arith, lt, ap (λ k. 8 ^ k) e ∙ pow-suc 8 (8 - n))

  down_range : (k c j : ℕ) → k ≤ 8 → c / 8 ≡ j → j < 64 * 8 ^ (9 - suc k) → c < 512 * 8 ^ (8 - k)
  down_range k c j le at lt = let e : 9 - suc k ≡ 8 - k = omega arith in omega (arith, lt, at, ap (λ i. 8 ^ i) e)

  pub right_word : (n j : ℕ) → n ≤ 9 → j < 64 * 8 ^ (9 - n) → word_at (header_at (n + 1) j) ≢ 0 → IsRightWord word_at n j
  right_word n j le lt some = record {
    slot = λ eight. elim (cases_lt j 10) [
      | inl low ↦
          let at : n + 1 ≡ 9 = omega arith in
          absurd (some (ap (λ k. word_at (header_at k j)) at ∙ l.below j low))
      | inr high ↦ high
    ];
    above = λ few. l.others n j few (up_range n j few lt) (λ live. some (l.itself n j few (up_range n j few lt) live)) (λ eight. elim (cases_lt j 10) [
      | inl low ↦
          let at : n + 1 ≡ 9 = omega arith in
          absurd (some (ap (λ k. word_at (header_at k j)) at ∙ l.below j low))
      | inr high ↦ high
    ]);
    lowest = λ c zero_n at ne.
        let e : 9 - n ≡ 9 = omega arith in
        let range = ap (λ k. 8 ^ k) e in
        l.lowest c (omega (arith, lt, at, range)) ne;
    itself = λ k c is at live.
        let lt_k = subst (λ m. j < 64 * 8 ^ (9 - m)) is lt in
        l.itself k c (omega arith) (down_range k c j (omega arith) at lt_k) live;
    others = λ k c is at ne slot.
        let lt_k = subst (λ m. j < 64 * 8 ^ (9 - m)) is lt in
        l.others k c (omega arith) (down_range k c j (omega arith) at lt_k) ne slot;
  }

  pub local_looks : LooksRight word_at
  local_looks = record { right = right_word; slots = l.slots; rest = l.rest }

pub looks_local : {word_at : ℕ → ℕ} → ((a : ℕ) → word_at a < 2 ^ 64) → LooksRight word_at → IsLocal word_at
looks_local small look = local-from_words look.right look.slots small look.rest
