-- Where the rules on partitions and headers hold, the headers stand for the partitions of the live inodes.
use Rattle.std.proofs.Common.{◌≡◌, ℕ, zero, suc, ◌<◌, ◌≤◌, true, refl, inl, inr, arith}
use Rattle.std.specs.Prelude.{◌==◌, nat_le, not}
use Rattle.std.proofs.lemmas.Bool.{cases_Bool, and_parts, and_from, both_ways, eq-eqb, leb-true, not-true, not_from_false}
use Rattle.ct_base.specs.Headers.{AreDisjoint, StandFor}
use Rattle.ct_base.specs.Inode.{inode, IsPart, part, has_part, live_parts, is_free, meets}
use Rattle.ct_base.specs.Rules.{ArePlaced, ArePartsApart, AreHeaders, Owns}
use Rattle.ct_parts.proofs.Lists.{apart-meets}

-- an inode in range that names a partition owns it
owns : (b : ℕ → ℕ) (count i : ℕ) → 1 ≤ i → i ≤ count → has_part (inode b i) ≡ true → Owns b count i
owns b count i from to has =
    let both = and_parts (not ((inode b i).kind == 0)) (nat_le (inode b i).level 9) has in
    record {
      live = record { number = record { from = from; to = to }; used = λ z. both_ways _ (not-true _ both.0) (eq-eqb (inode b i).kind 0 z) };
      level = leb-true _ _ both.1;
    }

owned_part : (b : ℕ → ℕ) (count i : ℕ) → ArePlaced b count → Owns b count i → IsPart (part (inode b i))
owned_part b count i placed o =
    elim (placed i o.live).place [ inl none ↦ absurd (omega (arith, none.level, o.level)) | inr room ↦ room.part ]

-- it meets none of those of the inodes before
free_before : (b : ℕ → ℕ) (count i m : ℕ) → ArePartsApart b count → Owns b count i → m < i → m ≤ count → is_free (live_parts b m) (part (inode b i)) ≡ true
unfolding live_parts
free_before b count i zero apart o lt le = refl
free_before b count i (suc m) apart o lt le =
    let rest = free_before b count i m apart o (omega arith) (omega arith) in
    elim (cases_Bool (has_part (inode b (suc m)))) [
      | inl has ↦
          let off = apart-meets (part (inode b i)) (part (inode b (suc m))) (apart i (suc m) o (owns b count (suc m) (omega arith) le has) (λ is. omega (arith, is))) in
          rw has (and_from (not (meets (part (inode b i)) (part (inode b (suc m))))) (is_free (live_parts b m) (part (inode b i))) (not_from_false _ off) rest)
      | inr none ↦ rw none rest
    ]

pub live_disjoint : (b : ℕ → ℕ) (count m : ℕ) → m ≤ count → ArePlaced b count → ArePartsApart b count → AreDisjoint (live_parts b m)
unfolding live_parts
live_disjoint b count zero le placed apart = tt
live_disjoint b count (suc m) le placed apart =
    let rest = live_disjoint b count m (omega arith) placed apart in
    elim (cases_Bool (has_part (inode b (suc m)))) [
      | inl has ↦ let o = owns b count (suc m) (omega arith) le has in rw has (owned_part b count (suc m) placed o, free_before b count (suc m) m apart o (omega arith) (omega arith), rest)
      | inr none ↦ rw none rest
    ]

pub live_stand : (b : ℕ → ℕ) (count : ℕ) → ArePlaced b count → ArePartsApart b count → AreHeaders b count → StandFor b (live_parts b count)
live_stand b count placed apart headers = record { apart = live_disjoint b count count (omega arith) placed apart; stand = headers }
