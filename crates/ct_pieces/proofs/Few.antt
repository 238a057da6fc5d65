-- Inside one slot and aligned alike there are at most 2,555 pieces, since so many blocks cover the range.
use Rattle.std.proofs.Common.{◌≡◌, ℕ, zero, suc, ◌+◌, ◌-◌, ◌*◌, ◌/◌, ◌%◌, ◌^◌, ◌<◌, ◌≤◌, List, [], ◌∷◌, ◌++◌, length, length-append, subst, refl, ap, ◌∙◌, inl, inr, arith}
use Rattle.std.specs.Prelude.{All, Contains}
use Rattle.std.proofs.lemmas.Bool.{cases_lt}
use Rattle.std.proofs.lemmas.List.Elements.{All-nil, All-cons, All-append, Contains-append_left, Contains-append_right}
use Rattle.std.proofs.Math.Nat.{add-mod_right}
use Rattle.ct_base.specs.Pieces.{pieces, IsBlock, InOneSlot, AlignedAlike}
use Rattle.ct_pieces.proofs.Least.{least}

-- m blocks of height k, one after another from offset s on
run : ℕ → ℕ → ℕ → List (ℕ × ℕ)
run s k zero = []
run s k (suc m) = (s, k) ∷ run (s + 512 ^ k) k m

-- each offset from lo on and below hi lies in one of the blocks
CoversFrom : List (ℕ × ℕ) → ℕ → ℕ → Type 0
CoversFrom blocks lo hi =
    (o : ℕ) → lo ≤ o → o < hi → (block : ℕ × ℕ) × (Contains blocks block) × (block.0 ≤ o) × (o < block.0 + 512 ^ block.1)

length-run : (s k m : ℕ) → length (run s k m) ≡ m
unfolding run
length-run s k zero = refl
length-run s k (suc m) = ap suc (length-run (s + 512 ^ k) k m)

run_blocks : (a b n s k m : ℕ) → k ≤ 3 → (a + s) % 512 ^ k ≡ 0 → (b + s) % 512 ^ k ≡ 0 → s + m * 512 ^ k ≤ n → All (IsBlock a b n) (run s k m)
unfolding run
run_blocks a b n s k zero low first second inside = All-nil (IsBlock a b n)
run_blocks a b n s k (suc m) low first second inside =
    let w = 512 ^ k in
    let more_a : (a + (s + w)) % w ≡ 0 = ap (λ x. x % w) (regroup a s w) ∙ add-mod_right (a + s) w ∙ first in
    let more_b : (b + (s + w)) % w ≡ 0 = ap (λ x. x % w) (regroup b s w) ∙ add-mod_right (b + s) w ∙ second in
    All-cons (IsBlock a b n) (s, k) (run (s + w) k m)
    (record { height = low; first = first; second = second; inside = omega arith })
    (run_blocks a b n (s + w) k m low more_a more_b (omega arith))
  where
    regroup : (x y z : ℕ) → x + (y + z) ≡ x + y + z
    regroup x y z = omega arith

run_covers : (s k m : ℕ) → CoversFrom (run s k m) s (s + m * 512 ^ k)
unfolding run CoversFrom
run_covers s k zero o low high = absurd (omega arith)
run_covers s k (suc m) o low high =
    elim (cases_lt o (s + 512 ^ k)) [
      | inl lt ↦ ((s, k), (0, omega arith, refl), low, lt)
      | inr ge ↦
          let rest = run_covers (s + 512 ^ k) k m o ge (omega arith) in
          let c = rest.1 in
          (rest.0, (suc c.0, omega (arith, c.1), c.2), rest.2, rest.3)
    ]

covers-append : (xs ys : List (ℕ × ℕ)) (lo mid hi : ℕ) → CoversFrom xs lo mid → CoversFrom ys mid hi → CoversFrom (xs ++ ys) lo hi
unfolding CoversFrom
covers-append xs ys lo mid hi p q o low high =
    elim (cases_lt o mid) [
      | inl lt ↦ let c = p o low lt in (c.0, Contains-append_left xs ys c.0 c.1, c.2, c.3)
      | inr ge ↦ let c = q o ge high in (c.0, Contains-append_right xs ys c.0 c.1, c.2, c.3)
    ]

-- a cover of m blocks
record Cover (a b n lo hi m : ℕ) : Type 0 where
  blocks : List (ℕ × ℕ)
  all : All (IsBlock a b n) blocks
  covers : CoversFrom blocks lo hi
  size : length blocks ≡ m

of_run : (a b n s k m hi : ℕ) → k ≤ 3 → (a + s) % 512 ^ k ≡ 0 → (b + s) % 512 ^ k ≡ 0 → s + m * 512 ^ k ≡ hi → hi ≤ n → Cover a b n s hi m
of_run a b n s k m hi low first second end inside =
    record {
      blocks = run s k m;
      all = run_blocks a b n s k m low first second (omega (arith, end));
      covers = subst (λ (h : ℕ). CoversFrom (run s k m) s h) end (run_covers s k m);
      size = length-run s k m;
    }

joined : (a b n lo mid hi l m : ℕ) → Cover a b n lo mid l → Cover a b n mid hi m → Cover a b n lo hi (l + m)
joined a b n lo mid hi l m p q =
    record {
      blocks = p.blocks ++ q.blocks;
      all = All-append (IsBlock a b n) p.blocks q.blocks p.all q.all;
      covers = covers-append p.blocks q.blocks lo mid hi p.covers q.covers;
      size = length-append p.blocks q.blocks ∙ omega (arith, p.size, q.size);
    }

by_cover : (a b n m : ℕ) → Cover a b n 0 n m → length (pieces a b n) ≤ m
unfolding CoversFrom
by_cover a b n m c = omega (arith, least a b n c.blocks c.all (λ o lt. c.covers o (omega arith) lt), c.size)

-- Where a run of n from a on is not short, it is u up to a multiple of 512, m times 512, and e after them.
record Split (a n : ℕ) : Type 0 where
  u : ℕ
  m : ℕ
  e : ℕ
  p : ℕ
  u_low : u ≤ 511
  e_low : e ≤ 511
  whole : u + m * 512 + e ≡ n
  begin : a + u ≡ p * 512

split : (a n : ℕ) → 511 ≤ n → Split a n
split a n long =
    let u = (511 - (a + 511) % 512) in
    let p = (a + 511) / 512 in
    let e = (a + n) % 512 in
    let m = (a + n) / 512 - p in
    record { u = u; m = m; e = e; p = p; u_low = omega arith; e_low = omega arith; whole = omega arith; begin = omega arith }

pub few : (a b n : ℕ) → InOneSlot a n → InOneSlot b n → AlignedAlike a b n → length (pieces a b n) ≤ 2555
few a b n slot_a slot_b alike =
    elim (cases_lt n 512) [
      | inl short ↦
          let c = of_run a b n 0 0 n n (omega arith) (omega arith) (omega arith) (omega arith) (omega arith) in
          omega (arith, by_cover a b n n c)
      | inr long ↦
          let s = split a n (omega arith) in
          let same1 : a % 512 ≡ b % 512 = alike 1 (omega arith) long in
          let front = of_run a b n 0 0 s.u s.u (omega arith) (omega arith) (omega arith) (omega arith) (omega (arith, s.whole)) in
          let back = of_run a b n (n - s.e) 0 s.e n (omega arith) (omega arith) (omega arith) (omega (arith, s.whole)) (omega arith) in
          elim (cases_lt n 262144) [
            | inl middle ↦
                let runs = of_run a b n s.u 1 s.m (n - s.e) (omega arith) (omega (arith, s.begin)) (omega (arith, s.begin, same1)) (omega (arith, s.whole)) (omega arith) in
                let c = joined a b n 0 (n - s.e) n (s.u + s.m) s.e (joined a b n 0 s.u (n - s.e) s.u s.m front runs) back in
                omega (arith, by_cover a b n _ c, s.whole, s.u_low, s.e_low)
            | inr high ↦ elim (cases_lt n 134217728) [
              | inl within ↦
                  let t = split s.p s.m (omega (arith, s.whole, s.u_low, s.e_low)) in
                  let same2 : a % 262144 ≡ b % 262144 = alike 2 (omega arith) high in
                  let s1 = s.u + t.u * 512 in
                  let s2 = s1 + t.m * 262144 in
                  let up = of_run a b n s.u 1 t.u s1 (omega arith) (omega (arith, s.begin)) (omega (arith, s.begin, same1)) (omega arith) (omega (arith, s.whole, t.whole)) in
                  let top = of_run a b n s1 2 t.m s2 (omega arith) (omega (arith, s.begin, t.begin)) (omega (arith, s.begin, t.begin, same2)) (omega arith) (omega (arith, s.whole, t.whole)) in
                  let down = of_run a b n s2 1 t.e (n - s.e) (omega arith) (omega (arith, s.begin)) (omega (arith, s.begin, same1)) (omega (arith, s.whole, t.whole)) (omega arith) in
                  let c1 = joined a b n 0 s.u s1 s.u t.u front up in
                  let c2 = joined a b n 0 s1 s2 (s.u + t.u) t.m c1 top in
                  let c3 = joined a b n 0 s2 (n - s.e) (s.u + t.u + t.m) t.e c2 down in
                  let c = joined a b n 0 (n - s.e) n (s.u + t.u + t.m + t.e) s.e c3 back in
                  omega (arith, by_cover a b n _ c, s.whole, t.whole, s.u_low, s.e_low, t.u_low, t.e_low)
              | inr all ↦
                  let c = of_run a b n 0 3 1 n (omega arith) (omega (arith, slot_a)) (omega (arith, slot_b)) (omega (arith, slot_a)) (omega arith) in
                  omega (arith, by_cover a b n 1 c)
            ]
          ]
    ]
