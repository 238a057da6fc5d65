-- Where a write lies.
use Rattle.std.proofs.Common.{◌≡◌, ℕ, zero, suc, ◌+◌, ◌-◌, ◌*◌, ◌/◌, ◌%◌, ◌^◌, ◌<◌, ◌≤◌, length, refl, ap, ◌∙◌, arith}
use Rattle.ct_base.specs.declared.inode.Inode.{Inode}
use Rattle.ct_base.specs.Inode.{IsPart, part, part_bytes, part_end}
use Rattle.ct_base.specs.Pieces.{AlignedAlike, height_at, pieces, pieces_from}
use Rattle.ct_base.specs.Plan.{stage, touched}
use Rattle.ct_grow.proofs.Spans.{part_high}
use Rattle.ct_pieces.proofs.Few.{few}
use Rattle.ct_pieces.proofs.Steps.{pieces_from-step}
use Rattle.ct_write.specs.Written.{side_page, stage_page}

pub record Spot (f : Inode) (off len : ℕ) : Type 0 where
  pub start : f.base % 4096 ≡ 0
  pub first_from : 10 * 2 ^ 27 ≤ side_page f off
  pub first_to : side_page f off + touched off len ≤ 2 ^ 36
  pub from : f.base ≤ side_page f off * 4096
  pub to : (side_page f off + touched off len) * 4096 ≤ part_end (part f)
  pub second_from : 2 * 2 ^ 27 ≤ stage_page f off
  pub second_to : stage_page f off + touched off len ≤ 3 * 2 ^ 27
  pub alike : side_page f off % 2 ^ 27 ≡ stage_page f off % 2 ^ 27
  pub slot : side_page f off % 2 ^ 27 + touched off len ≤ 2 ^ 27
  pub range_from : side_page f off * 4096 ≤ f.base + off
  pub range_to : f.base + off + len ≤ (side_page f off + touched off len) * 4096
  pub high : part_end (part f) ≤ 2 ^ 48

slot_fits : (l base : ℕ) → l ≤ 9 → base % (4096 * 8 ^ l) ≡ 0 → (base % 2 ^ 39 + 4096 * 8 ^ l ≤ 2 ^ 39) × (base % 4096 ≡ 0)
slot_fits zero base le whole = (omega arith, omega arith)
slot_fits (suc zero) base le whole = (omega arith, omega arith)
slot_fits (suc (suc zero)) base le whole = (omega arith, omega arith)
slot_fits (suc (suc (suc zero))) base le whole = (omega arith, omega arith)
slot_fits (suc (suc (suc (suc zero)))) base le whole = (omega arith, omega arith)
slot_fits (suc (suc (suc (suc (suc zero))))) base le whole = (omega arith, omega arith)
slot_fits (suc (suc (suc (suc (suc (suc zero)))))) base le whole = (omega arith, omega arith)
slot_fits (suc (suc (suc (suc (suc (suc (suc zero))))))) base le whole = (omega arith, omega arith)
slot_fits (suc (suc (suc (suc (suc (suc (suc (suc zero)))))))) base le whole = (omega arith, omega arith)
slot_fits (suc (suc (suc (suc (suc (suc (suc (suc (suc zero))))))))) base le whole = (omega arith, omega arith)
slot_fits (suc (suc (suc (suc (suc (suc (suc (suc (suc (suc l)))))))))) base le whole = absurd (omega arith)

-- the pages, by numbers alone: a range inside whole pages that lie in one root slot
pages_in : (base off len end : ℕ) → base % 4096 ≡ 0 → 1 ≤ len → end % 4096 ≡ 0 → off + len ≤ end → ((base + off) / 4096 + touched off len) * 4096 ≤ base + end
pages_in base off len end start some whole le = omega arith

slot_in : (base off len : ℕ) → base % 4096 ≡ 0 → 1 ≤ len → base % 2 ^ 39 + off + len ≤ 2 ^ 39
    → (stage (base + off) / 4096 + touched off len ≤ 3 * 2 ^ 27) × ((base + off) / 4096 % 2 ^ 27 ≡ stage (base + off) / 4096 % 2 ^ 27) × ((base + off) / 4096 % 2 ^ 27 + touched off len ≤ 2 ^ 27)
slot_in base off len start some le =
    let low : (base + off) % 2 ^ 39 ≡ base % 2 ^ 39 + off = omega arith in
    let page : (base + off) / 4096 % 2 ^ 27 ≡ (base + off) % 2 ^ 39 / 4096 = omega arith in
    let other : stage (base + off) / 4096 ≡ 2 * 2 ^ 27 + (base + off) % 2 ^ 39 / 4096 = omega arith in
    let count : (base + off) % 2 ^ 39 / 4096 + touched off len ≤ 2 ^ 27 = omega (arith, low) in
    (omega (arith, other, count), omega (arith, other, page), omega (arith, page, count))

pub spot : (f : Inode) (off len : ℕ) → IsPart (part f) → 1 ≤ len → off + len ≤ part_bytes f.level → Spot f off len
spot f off len p some fits =
    let s = slot_fits f.level f.base p.level p.aligned in
    let high = part_high (part f) p in
    let end : 4096 * 8 ^ f.level % 4096 ≡ 0 = omega arith in
    let to = pages_in f.base off len (4096 * 8 ^ f.level) s.1 some end fits in
    let q = slot_in f.base off len s.1 some (omega (arith, s.0, fits)) in
    let low = p.low in
    record {
      start = s.1;
      first_from = omega (arith, low);
      first_to = omega (arith, to, high);
      from = omega (arith, s.1);
      to = to;
      second_from = omega arith;
      second_to = q.0;
      alike = q.1;
      slot = q.2;
      range_from = omega arith;
      range_to = omega (arith, s.1, some);
      high = high;
    }

alike_in : (a b n : ℕ) → a % 2 ^ 27 ≡ b % 2 ^ 27 → AlignedAlike a b n
alike_in a b n same zero low fits = omega arith
alike_in a b n same (suc zero) low fits = omega (arith, same)
alike_in a b n same (suc (suc zero)) low fits = omega (arith, same)
alike_in a b n same (suc (suc (suc zero))) low fits = omega (arith, same)
alike_in a b n same (suc (suc (suc (suc k)))) low fits = absurd (omega arith)

pub few_pieces : {f : Inode} {off len : ℕ} → Spot f off len → length (pieces (side_page f off) (stage_page f off) (touched off len)) ≤ 2555
few_pieces {f} {off} {len} s =
    few (side_page f off) (stage_page f off) (touched off len) s.slot (omega (arith, s.slot, s.alike)) (alike_in (side_page f off) (stage_page f off) (touched off len) s.alike)

-- there is a piece
pub pieces_some : (a b n : ℕ) → 1 ≤ n → 0 < length (pieces a b n)
pieces_some a b n some =
    let h = height_at a b n 0 in
    let whole : pieces a b n ≡ pieces_from (n - 0) a b n 0 = ap (λ k. pieces_from k a b n 0) (omega arith) in
    let step = whole ∙ pieces_from-step a b n 0 h (0 + 512 ^ h) some refl refl in
    omega (arith, ap length step)
