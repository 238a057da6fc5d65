-- A whole partition and its staging range.
use Rattle.std.proofs.Common.{◌≡◌, ℕ, zero, suc, ◌+◌, ◌-◌, ◌*◌, ◌/◌, ◌%◌, ◌^◌, ◌<◌, ◌≤◌, [], length, refl, sym, ap, subst, ◌∙◌, inl, inr, arith}
use Rattle.std.proofs.lemmas.Bool.{cases_eq}
use Rattle.ct_base.specs.declared.inode.Inode.{Inode}
use Rattle.ct_base.specs.Exchange.{Apart}
use Rattle.ct_base.specs.Inode.{IsIn, IsPart, part}
use Rattle.ct_base.specs.Pieces.{height_at, pieces, pieces_from}
use Rattle.ct_base.specs.Plan.{stage, touched}
use Rattle.ct_grow.proofs.Spans.{Blocks, Heights, count_even, first_page, heights}
use Rattle.ct_pieces.proofs.Least.{height_block, height_greatest}
use Rattle.ct_pieces.proofs.Steps.{pieces_from-past, pieces_from-step}
use Rattle.ct_cut.specs.GivenUp.{whole_pieces}
use Rattle.ct_write.proofs.Spots.{Spot, spot}

pub record WholeSpot (f : Inode) : Type 0 where
  pub start : f.base ≡ f.base / 4096 * 4096
  pub first_from : 10 * 2 ^ 27 ≤ f.base / 4096
  pub first_to : f.base / 4096 + 8 ^ f.level ≤ 2 ^ 36
  pub second_from : 2 * 2 ^ 27 ≤ stage f.base / 4096
  pub second_to : stage f.base / 4096 + 8 ^ f.level ≤ 3 * 2 ^ 27
  pub alike : f.base / 4096 % 2 ^ 27 ≡ stage f.base / 4096 % 2 ^ 27
  pub slot : f.base / 4096 % 2 ^ 27 + 8 ^ f.level ≤ 2 ^ 27
  pub some : 1 ≤ 8 ^ f.level

pub whole_spot : (f : Inode) → IsPart (part f) → WholeSpot f
whole_spot f p =
    let some = Rattle.std.proofs.Math.Nat.one-le-pow f.level 8 (omega arith) in
    let s : Spot f 0 (4096 * 8 ^ f.level) = spot f 0 (4096 * 8 ^ f.level) p (omega (arith, some)) (omega arith) in
    let count : touched 0 (4096 * 8 ^ f.level) ≡ 8 ^ f.level = omega (arith, some) in
    let first : (f.base + 0) / 4096 ≡ f.base / 4096 = ap (λ k. k / 4096) (omega arith) in
    let second : stage (f.base + 0) / 4096 ≡ stage f.base / 4096 = ap (λ k. stage k / 4096) (omega arith) in
    record {
      start = omega (arith, s.start);
      first_from = omega (arith, s.first_from, first);
      first_to = omega (arith, s.first_to, first, count);
      second_from = omega (arith, s.second_from, second);
      second_to = omega (arith, s.second_to, second, count);
      alike = sym (ap (λ k. k % 2 ^ 27) first) ∙ s.alike ∙ ap (λ k. k % 2 ^ 27) second;
      slot = omega (arith, s.slot, first, count);
      some = some;
    }

module _ {f : Inode} (s : WholeSpot f) where
  pub whole_apart : Apart (f.base / 4096) (stage f.base / 4096) (8 ^ f.level)
  whole_apart = inr (omega (arith, s.second_to, s.first_from))

  -- pages of the partition
  pub page_in : (q : ℕ) → IsIn (part f) (q * 4096) → (f.base / 4096 ≤ q) × (q < f.base / 4096 + 8 ^ f.level)
  page_in q inside = (omega (arith, inside.from, s.start), omega (arith, inside.to, s.start))

  pub in_page : (q : ℕ) → f.base / 4096 ≤ q → q < f.base / 4096 + 8 ^ f.level → IsIn (part f) (q * 4096)
  in_page q from to = record { from = omega (arith, from, s.start); to = omega (arith, to, s.start) }

  pub address_in : (v : ℕ) → f.base / 4096 ≤ v / 4096 → v / 4096 < f.base / 4096 + 8 ^ f.level → IsIn (part f) v
  address_in v from to = record { from = omega (arith, from, s.start); to = omega (arith, to, s.start) }

  pub in_address : (v : ℕ) → IsIn (part f) v → IsIn (part f) (v / 4096 * 4096)
  in_address v inside = record { from = omega (arith, inside.from, s.start); to = omega (arith, inside.to, s.start) }

-- ---- the pieces

pub stage_aligned : (l base : ℕ) → l ≤ 8 → base % (4096 * 8 ^ l) ≡ 0 → stage base % (4096 * 8 ^ l) ≡ 0
stage_aligned zero base le whole = omega arith
stage_aligned (suc zero) base le whole = omega arith
stage_aligned (suc (suc zero)) base le whole = omega arith
stage_aligned (suc (suc (suc zero))) base le whole = omega arith
stage_aligned (suc (suc (suc (suc zero)))) base le whole = omega arith
stage_aligned (suc (suc (suc (suc (suc zero))))) base le whole = omega arith
stage_aligned (suc (suc (suc (suc (suc (suc zero)))))) base le whole = omega arith
stage_aligned (suc (suc (suc (suc (suc (suc (suc zero))))))) base le whole = omega arith
stage_aligned (suc (suc (suc (suc (suc (suc (suc (suc zero)))))))) base le whole = omega arith
stage_aligned (suc (suc (suc (suc (suc (suc (suc (suc (suc l))))))))) base le whole = absurd (omega arith)

-- a whole root slot is one piece
pieces_top : (a b n : ℕ) → n ≡ 512 ^ 3 → a % 512 ^ 3 ≡ 0 → b % 512 ^ 3 ≡ 0 → length (pieces a b n) ≤ 64
pieces_top a b n count first second =
    let h = height_at a b n 0 in
    let block = height_block a b n 0 (omega (arith, count)) in
    let most = height_greatest a b n 0 3 (record { height = omega arith; first = omega (arith, first); second = omega (arith, second); inside = omega (arith, count) }) in
    let three : height_at a b n 0 ≡ 3 = omega (arith, block.height, most) in
    let end : 0 + 512 ^ height_at a b n 0 ≡ n = ap (λ k. 0 + 512 ^ k) three ∙ omega (arith, count) in
    let whole : pieces a b n ≡ pieces_from (n - 0) a b n 0 = ap (λ k. pieces_from k a b n 0) (omega arith) in
    let step = whole ∙ pieces_from-step a b n 0 h n (omega (arith, count)) refl end in
    let rest : pieces_from (n - n) a b n n ≡ [] = pieces_from-past (n - n) a b n n (omega arith) in
    omega (arith, ap length step, ap length rest)

pub few_whole : (f : Inode) → IsPart (part f) → length (whole_pieces f) ≤ 64
few_whole f p = elim (cases_eq f.level 9) [
  | inl top ↦
      let s = whole_spot f p in
      let count : 8 ^ f.level ≡ 512 ^ 3 = ap (λ k. 8 ^ k) top ∙ omega arith in
      let slot = s.slot in
      let alike = s.alike in
      pieces_top (f.base / 4096) (stage f.base / 4096) (8 ^ f.level) count (omega (arith, slot, count)) (omega (arith, slot, count, alike))
  | inr other ↦
      let low : f.level ≤ 8 = omega (arith, other, p.level) in
      let span : Heights f.level = heights f.level low in
      let first = first_page f.level f.base low p.aligned in
      let second = first_page f.level (stage f.base) low (stage_aligned f.level f.base low p.aligned) in
      let blocks : Blocks (f.base / 4096) (stage f.base / 4096) (8 ^ f.level) (f.level / 3) = record {
        low = span.height;
        first = span.aligned (f.base / 4096) first.page;
        second = span.aligned (stage f.base / 4096) second.page;
        whole = span.blocks;
        short = span.shorter;
      } in
      span.few (length (whole_pieces f)) (count_even blocks)
]

-- ---- the partition and its staging range, as a function calls them

pub record CalledSo (f : Inode) (a b n : ℕ) : Type 0 where
  pub first : a ≡ f.base / 4096
  pub second : b ≡ stage f.base / 4096
  pub count : n ≡ 8 ^ f.level

pub called_so : {f file : Inode} {a b n : ℕ} → file ≡ f → a ≡ file.base / 4096 → b ≡ stage file.base / 4096 → n ≡ 8 ^ file.level → CalledSo f a b n
called_so {f} {file} is a b n =
    record { first = a ∙ ap (λ (x : Inode). x.base / 4096) is; second = b ∙ ap (λ (x : Inode). stage x.base / 4096) is; count = n ∙ ap (λ (x : Inode). 8 ^ x.level) is }

module _ {f : Inode} {a b n : ℕ} (s : CalledSo f a b n) where
  pub at_pages : (P : ℕ → ℕ → ℕ → Type 0) → P (f.base / 4096) (stage f.base / 4096) (8 ^ f.level) → P a b n
  at_pages P h = subst (λ x. P x b n) (sym s.first) (subst (λ y. P (f.base / 4096) y n) (sym s.second) (subst (λ z. P (f.base / 4096) (stage f.base / 4096) z) (sym s.count) h))

  pub from_pages : (P : ℕ → ℕ → ℕ → Type 0) → P a b n → P (f.base / 4096) (stage f.base / 4096) (8 ^ f.level)
  from_pages P h = subst (λ z. P (f.base / 4096) (stage f.base / 4096) z) s.count (subst (λ y. P (f.base / 4096) y n) s.second (subst (λ x. P x b n) s.first h))

  pub few_called : IsPart (part f) → length (pieces a b n) ≤ 64
  few_called p = at_pages (λ x y z. length (pieces x y z) ≤ 64) (few_whole f p)
