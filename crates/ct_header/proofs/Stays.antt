-- Where the byte of a range on the path stays, all bytes above it stay.
use Rattle.std.proofs.Common.{◌≡◌, ℕ, zero, suc, ◌+◌, ◌-◌, ◌*◌, ◌/◌, ◌%◌, ◌^◌, ◌≤◌, Bool, get_or, set, refl, sym, ap, subst, ◌∙◌, arith}
use Rattle.std.specs.Int.{w64, from_le_bytes, to_le_bytes}
use Rattle.std.proofs.lemmas.List.{set-get_or}
use Rattle.ct_base.specs.Ranges.{Changes, Headers, byte, byte_shown, bytes_below, header, header_at, shown, summary}
use Rattle.ct_parts.proofs.Bytes.{get-eight}
use Rattle.ct_parts.proofs.Change.{Differ, bytes-back, bytes-on}
use Rattle.ct_parts.proofs.Path.{Between, OnWay, between_end, between_step, byte_up, on_path, shown-on}

-- a byte of a header
shown_below : (live : ℕ → ℕ → Bool) (n x : ℕ) → get_or (bytes_below live n (x / 8)) (x % 8) 0 ≡ shown live n x
shown_below live n x =
    let whole : 8 * (x / 8) + x % 8 ≡ x = omega arith in
    get-eight (λ i. shown live n (8 * (x / 8) + i)) (x % 8) (omega arith) ∙ ap (shown live n) whole

header-bytes : (live : ℕ → ℕ → Bool) (n j : ℕ) → header live n j ≡ from_le_bytes w64 (bytes_below live n j)
unfolding header
header-bytes live n j = refl

module _ {old new : ℕ → ℕ → Bool} {m p b : ℕ} (c : Changes old new m p b) where
  -- the old set beside itself
  still : Changes old old m p (byte old m p)
  still = record {
    off = λ n j away. refl;
    partition = c.partition;
    above = λ d le. sym (c.off (m + suc d) (p / 8 ^ suc d) (λ level _. omega (arith, level))) ∙ c.above d le;
    is = refl;
  }

  -- the bytes beside it stay with it
  same_bytes : (d : ℕ) → m + d ≤ 9 → byte old (m + d) (p / 8 ^ d) ≡ byte new (m + d) (p / 8 ^ d) → bytes_below new (m + d) (p / 8 ^ d / 8) ≡ bytes_below old (m + d) (p / 8 ^ d / 8)
  same_bytes d le same =
      let x = p / 8 ^ d in
      let bytes = bytes_below old (m + d) (x / 8) in
      let differ : Differ old new m p = record { off = c.off } in
      let is : shown new (m + d) x ≡ get_or bytes (x % 8) 0 =
      shown-on new m p d le c.partition ∙ sym same ∙ sym (shown-on old m p d le c.partition) ∙ sym (shown_below old (m + d) x) in
      bytes-on differ d ∙ ap (set bytes (x % 8)) is ∙ set-get_or bytes (x % 8) 0

  -- and so does the byte above
  same_above : (d : ℕ) → m + suc d ≤ 9 → byte old (m + d) (p / 8 ^ d) ≡ byte new (m + d) (p / 8 ^ d) → byte old (m + suc d) (p / 8 ^ suc d) ≡ byte new (m + suc d) (p / 8 ^ suc d)
  same_above d le same =
      sym (byte_up still d (omega arith)) ∙ ap (summary (m + d)) (sym (same_bytes d (omega arith) same)) ∙ byte_up c d (omega arith)

  -- so the headers that are left are those of the new set
  all_stay : (k d : ℕ) (before now : ℕ → ℕ) → m + d + k ≡ 10 → Between old new m p before now d → (m + d ≤ 9 → byte old (m + d) (p / 8 ^ d) ≡ byte new (m + d) (p / 8 ^ d)) → Headers new now
  all_stay zero d before now end g same = between_end c before now d (omega (arith, end)) g
  all_stay (suc k) d before now end g same =
      let le : m + d ≤ 9 = omega (arith, end) in
      let x = p / 8 ^ d in
      let written : now (header_at (m + d + 1) (x / 8)) ≡ from_le_bytes w64 (bytes_below new (m + d) (x / 8)) =
      g.higher (m + d) (x / 8) (omega arith) le (on_path c d le) ∙ header-bytes old (m + d) (x / 8) ∙ ap (from_le_bytes w64) (sym (same_bytes d le (same le))) in
      all_stay k (suc d) before now (omega (arith, end)) (between_step c before now now d le g written (λ a eight off. refl)) (λ low. same_above d low (same le))

  -- the byte of the next range as the headers show it is the old one
  shows_old : (before now : ℕ → ℕ) (d : ℕ) → m + d ≤ 9 → Between old new m p before now d → byte_shown now (m + d) (p / 8 ^ d) ≡ byte old (m + d) (p / 8 ^ d)
  shows_old before now d le g =
      let x = p / 8 ^ d in
      ap (λ w. get_or (to_le_bytes w64 w) (x % 8) 0) (g.higher (m + d) (x / 8) (omega arith) le (on_path c d le))
      ∙ ap (λ bytes. get_or bytes (x % 8) 0) (bytes-back old (m + d) (x / 8) le) ∙ shown_below old (m + d) x ∙ shown-on old m p d le c.partition

-- The loop over the path has come to a byte that stays.
pub stays : (m p first : ℕ) (before now : ℕ → ℕ) (at j b there : ℕ) → OnWay m p first before now (at - m) j b → m ≤ at → at ≤ 9 → there ≡ byte_shown now at j → there ≡ b
    → (old new : ℕ → ℕ → Bool) → Headers old before → Changes old new m p first → Headers new now
stays m p first before now at j b there g low high is same old new h c =
    let d = at - m in
    let level : m + d ≡ at = omega arith in
    let g' = g.words old new h c in
    let le : m + d ≤ 9 = omega arith in
    let byte_is : byte old (m + d) (p / 8 ^ d) ≡ byte new (m + d) (p / 8 ^ d) =
    sym (shows_old c before now d le g'.0) ∙ ap (byte_shown now (m + d)) (sym g.number) ∙ ap (λ n. byte_shown now n j) level ∙ sym is ∙ same ∙ g'.1 le ∙ ap (byte new (m + d)) g.number in
    all_stay c (10 - (m + d)) d before now (omega arith) g'.0 (λ _. byte_is)
