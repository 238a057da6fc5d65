-- Lengths of partitions.
use Rattle.std.proofs.Common.{◌≡◌, ℕ, ◌+◌, ◌-◌, ◌*◌, ◌/◌, ◌%◌, ◌^◌, ◌<◌, ◌≤◌, refl, sym, ap, ◌∙◌, lit<, arith}
use Rattle.std.proofs.lemmas.Nat.{pow-add, le-div, div_below, mul-le, mod_below, div-add-mod'}
use Rattle.std.proofs.Math.Nat.{mul-mod_left, one-le-pow, pow-le-pow_right, mul_assoc}
use Rattle.ct_base.specs.Ranges.{IsPartition}

pub pow8_small : (n : ℕ) → n ≤ 9 → (8 ^ n ≤ 134217728) × (0 < 8 ^ n)
pow8_small n le = (pow-le-pow_right {n = 8} (lit< tt) le, one-le-pow n 8 (lit< tt))

-- so many bytes have the ranges of a level in a slot together
pub slot-bytes : (n : ℕ) → n ≤ 9 → 8 ^ (9 - n) * (4096 * 8 ^ n) ≡ 549755813888
slot-bytes n le =
    let nine : 9 - n + n ≡ 9 = omega arith in
    let whole : 8 ^ (9 - n) * 8 ^ n ≡ 134217728 = sym (pow-add 8 (9 - n) n) ∙ ap (λ k. 8 ^ k) nine in
    let turn : 8 ^ (9 - n) * (4096 * 8 ^ n) ≡ 4096 * (8 ^ (9 - n) * 8 ^ n) = omega arith in
    omega (arith, turn, whole)

-- so many in x slots
pub slots-bytes : (x n : ℕ) → n ≤ 9 → x * 8 ^ (9 - n) * (4096 * 8 ^ n) ≡ x * 549755813888
slots-bytes x n le = mul_assoc x (8 ^ (9 - n)) (4096 * 8 ^ n) ∙ ap (λ k. x * k) (slot-bytes n le)

pub at_partition : (n base length : ℕ) → n ≤ 9 → base < 281474976710656 → 5497558138880 ≤ base → length ≡ 4096 * 8 ^ n → IsPartition n (base / length)
at_partition n base length le high low is =
    let pos : 0 < length = omega (arith, (pow8_small n le).1) in
    let lo = slots-bytes 10 n le ∙ refl in
    let hi = slots-bytes 512 n le ∙ refl in
    let e1 = ap (λ k. 10 * 8 ^ (9 - n) * k) is in
    let e2 = ap (λ k. 512 * 8 ^ (9 - n) * k) is in
    record {
      level = le;
      low = le-div (10 * 8 ^ (9 - n)) base length pos (omega (arith, lo, e1));
      high = div_below base length (512 * 8 ^ (9 - n)) pos (omega (arith, hi, e2));
    }

-- where a partition lies
pub partition_bounds : (n j : ℕ) → IsPartition n j → (5497558138880 ≤ j * (4096 * 8 ^ n)) × ((j + 1) * (4096 * 8 ^ n) ≤ 281474976710656)
partition_bounds n j p = (
  omega (arith, mul-le (10 * 8 ^ (9 - n)) (4096 * 8 ^ n) j (4096 * 8 ^ n) p.low (omega arith), slots-bytes 10 n p.level),
  omega (arith, mul-le (j + 1) (4096 * 8 ^ n) (512 * 8 ^ (9 - n)) (4096 * 8 ^ n) (let h = p.high in omega arith) (omega arith), slots-bytes 512 n p.level),
)

-- what lies in a range has its number
pub range_number : (j v length : ℕ) → 0 < length → (v / length ≡ j) → (j * length ≤ v) × (v < (j + 1) * length)
range_number j v length pos e =
    let whole = div-add-mod' v length in
    let small = mod_below v length pos in
    let same : v / length * length ≡ j * length = ap (λ k. k * length) e in
    let more : (j + 1) * length ≡ j * length + length = omega arith in
    (omega arith, omega arith)

pub number_range : (j v length : ℕ) → 0 < length → j * length ≤ v → v < (j + 1) * length → v / length ≡ j
number_range j v length pos low high =
    let below = div_below v length (j + 1) pos high in
    let above = le-div j v length pos low in
    omega arith

-- the address of a partition
pub base_there : (n j length : ℕ) → IsPartition n j → length ≡ 4096 * 8 ^ n → (5497558138880 ≤ j * length) × (j * length < 281474976710656) × (j * length % length ≡ 0)
base_there n j length p is =
    let bounds = partition_bounds n j p in
    let same : j * length ≡ j * (4096 * 8 ^ n) = ap (λ k. j * k) is in
    let more : (j + 1) * (4096 * 8 ^ n) ≡ j * (4096 * 8 ^ n) + 4096 * 8 ^ n = omega arith in
    let pos = (pow8_small n p.level).1 in
    (omega (arith, bounds.0), omega (arith, bounds.1), mul-mod_left j length)
