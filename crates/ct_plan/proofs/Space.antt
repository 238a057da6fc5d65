-- How much a write takes at most: two pages for each page that it touches, and 128.
use Rattle.std.proofs.Common.{◌≡◌, ℕ, zero, suc, ◌+◌, ◌-◌, ◌*◌, ◌/◌, ◌^◌, ◌<◌, ◌≤◌, Bool, true, false, cond, List, [], ◌∷◌, ◌++◌, ◌⊎◌, Option, Some, None, map, length, refl, sym, ap, subst, ◌∙◌, inl, inr, arith}
use Rattle.std.specs.Prelude.{max, ◌==◌, ◌&&◌, nat_lt, nat_le}
use Rattle.std.proofs.lemmas.Bool.{cases_Bool, cases_lt, and_parts, and_from, or_cases, false≢true}
use Rattle.std.proofs.Math.Nat.{div-add-mod, mod-lt, mul-le-mul_left}
use Rattle.ct_base.specs.declared.inode.Inode.{Inode}
use Rattle.ct_base.specs.Inode.{Partition, part, part_bytes}
use Rattle.ct_base.specs.Plan.{table_want, page_want, stage, counted, touched, header_wants, move_wants, growth_wants, grows_to, next_part, grown, write_plan, exchange_height}
use Rattle.ct_base.specs.Published.{words_above}
use Rattle.ct_base.specs.Walk.{page_at}
use Rattle.ct_base.specs.Wants.{count_below, Want, is_on_path, is_wanted, missing_at, missing}
use Rattle.ct_pieces.proofs.Steps.{width_pos}
use Rattle.ct_plan.specs.Few.{IsAligned, edge, stays_from, few_table_wants, few_write_wants}
use Rattle.ct_plan.proofs.Short.{on_pages, tests_say}
use Rattle.ct_plan.proofs.Same.{is_wanted-append}
use Rattle.ct_plan.proofs.Plans.{few_write_missing}

-- ---- counts

-- what passes lies in a range
count_span : (p : ℕ → Bool) (lo hi n : ℕ) → ((x : ℕ) → p x ≡ true → (lo ≤ x) × (x < hi)) → (count_below p n ≤ n - lo) × (count_below p n ≤ hi - lo)
unfolding count_below
count_span p lo hi zero each = (omega arith, omega arith)
count_span p lo hi (suc n) each =
    let rest = count_span p lo hi n each in
    elim (cases_Bool (p n)) [
      | inl t ↦ let is = each n t in rw t (omega (arith, rest.0, is.0), omega (arith, rest.0, is.0, is.1))
      | inr f ↦ rw f (omega (arith, rest.0), omega (arith, rest.1))
    ]

-- what passes one test passes one of two others
count_either : (p q r : ℕ → Bool) (n : ℕ) → ((x : ℕ) → r x ≡ true → (p x ≡ true) ⊎ (q x ≡ true)) → count_below r n ≤ count_below p n + count_below q n
unfolding count_below
count_either p q r zero each = omega arith
count_either p q r (suc n) each =
    let rest = count_either p q r n each in
    elim (cases_Bool (r n)) [
      | inr f ↦ rw f (omega (arith, rest))
      | inl t ↦ elim (each n t) [
        | inl one ↦ rw (t, one) (omega (arith, rest))
        | inr two ↦ rw (t, two) (omega (arith, rest))
      ]
    ]

-- ---- wants

missing_at_append : (img : List ℕ) (xs ys : List Want) (d : ℕ) → missing_at img (xs ++ ys) d ≤ missing_at img xs d + missing_at img ys d
unfolding missing_at
missing_at_append img xs ys d =
    count_either (λ x. is_wanted xs d x && (page_at img d x == 0)) (λ x. is_wanted ys d x && (page_at img d x == 0)) (λ x. is_wanted (xs ++ ys) d x && (page_at img d x == 0)) (512 ^ d)
    (λ x both.
    let p = and_parts (is_wanted (xs ++ ys) d x) (page_at img d x == 0) both in
    elim (or_cases (is_wanted xs d x) (is_wanted ys d x) (sym (is_wanted-append xs ys d x) ∙ p.0)) [
      | inl one ↦ inl (and_from (is_wanted xs d x) (page_at img d x == 0) one p.1)
      | inr two ↦ inr (and_from (is_wanted ys d x) (page_at img d x == 0) two p.1)
    ])

-- no more is missing of two lists than of each
pub missing_append : (img : List ℕ) (xs ys : List Want) → missing img (xs ++ ys) ≤ missing img xs + missing img ys
unfolding missing
missing_append img xs ys =
    omega (arith, missing_at_append img xs ys 1, missing_at_append img xs ys 2, missing_at_append img xs ys 3, missing_at_append img xs ys 4)

pub missing_at_span : (img : List ℕ) (wants : List Want) (d lo hi : ℕ) → ((x : ℕ) → is_wanted wants d x ≡ true → (lo ≤ x) × (x < hi)) → missing_at img wants d ≤ hi - lo
unfolding missing_at
missing_at_span img wants d lo hi each =
    (count_span (λ x. is_wanted wants d x && (page_at img d x == 0)) lo hi (512 ^ d) (λ x both. each x (and_parts (is_wanted wants d x) (page_at img d x == 0) both).0)).1

pub missing_nothing : (img : List ℕ) → missing img [] ≡ 0
unfolding missing
missing_nothing img =
    let at = λ (d : ℕ). missing_at_span img [] d 0 0 (λ x wanted. absurd (false≢true wanted)) in
    omega (arith, at 1, at 2, at 3, at 4)

-- a cell of width w that meets the numbers from s to v
pub cell_span : (w x s v : ℕ) → 0 < w → s < x * w + w → x * w ≤ v → (s / w ≤ x) × (x < v / w + 1)
cell_span w x s v some to from =
    let e = div-add-mod s w in
    let f = div-add-mod v w in
    let r = mod-lt v some in (
      elim (cases_lt x (s / w)) [ inl less ↦ absurd (omega (arith, e, to, over w x (s / w) less)) | inr ok ↦ ok ],
      elim (cases_lt x (v / w + 1)) [ inl ok ↦ ok | inr more ↦ absurd (omega (arith, f, r, from, over w (v / w) x (omega (arith, more)))) ],
    )
  where
    over : (w x y : ℕ) → x < y → x * w + w ≤ w * y
    over w x y lt = let m : w * (x + 1) ≤ w * y = mul-le-mul_left w (omega arith) in omega (arith, m)

-- at most one cell of each depth lies on the way to one address
missing_at_one : (img : List ℕ) (height at d : ℕ) → missing_at img (record { height = height; at = at; len = 1 } ∷ []) d ≤ 1
missing_at_one img height at d =
    let w = 4096 * 512 ^ (4 - d) in
    let one = missing_at_span img (record { height = height; at = at; len = 1 } ∷ []) d (at / w) (at / w + 1) (λ x wanted.
    elim (or_cases (is_on_path d x (record { height = height; at = at; len = 1 })) false wanted) [
      | inl on ↦ cell x on
      | inr none ↦ absurd (false≢true none)
    ]) in
    omega (arith, one)
  where
    cell : (x : ℕ) → is_on_path d x (record { height = height; at = at; len = 1 }) ≡ true → (at / (4096 * 512 ^ (4 - d)) ≤ x) × (x < at / (4096 * 512 ^ (4 - d)) + 1)
    cell x on =
        let is = tests_say (x * (4096 * 512 ^ (4 - d)) + 1) (at + 1) at ((x + 1) * (4096 * 512 ^ (4 - d))) (d + height) 4 on in
        cell_span (4096 * 512 ^ (4 - d)) x at at (omega (arith, width_pos (4 - d))) (omega (arith, is.2)) (omega (arith, is.1))

pub missing_one : (img : List ℕ) (height at : ℕ) → missing img (record { height = height; at = at; len = 1 } ∷ []) ≤ 4
unfolding missing
missing_one img height at =
    omega (arith, missing_at_one img height at 1, missing_at_one img height at 2, missing_at_one img height at 3, missing_at_one img height at 4)

missing_words : (img : List ℕ) (ws : List ℕ) → missing img (map page_want ws) ≤ 4 * length ws
missing_words img [] = omega (arith, missing_nothing img)
missing_words img (v ∷ ws) =
    omega (arith, missing_append img (page_want v ∷ []) (map page_want ws), missing_one img 0 v, missing_words img ws)

length-words_above : (n j count : ℕ) → length (words_above n j count) ≡ count
unfolding words_above
length-words_above n j zero = refl
length-words_above n j (suc count) = ap suc (length-words_above (n + 1) (j / 8) count)

pub missing_growth : (img : List ℕ) (f : Inode) (new : Partition) → missing img (growth_wants f new) ≤ 48
missing_growth img f new =
    let heads = missing_words img (words_above new.level (new.base / part_bytes new.level) (10 - new.level)) in
    let count = length-words_above new.level (new.base / part_bytes new.level) (10 - new.level) in
    let both = missing_append img (header_wants new) (cond (f.level == 15) [] (move_wants f f.base new.base)) in
    let moves : missing img (cond (f.level == 15) [] (move_wants f f.base new.base)) ≤ 8 = elim (cases_Bool (f.level == 15)) [
      | inl none ↦ rw none (omega (arith, missing_nothing img))
      | inr some ↦ rw some (omega (
        arith,
        missing_append img (table_want (exchange_height f.level + 1) f.base ∷ []) (table_want (exchange_height f.level + 1) new.base ∷ []),
        missing_one img (exchange_height f.level + 1) f.base,
        missing_one img (exchange_height f.level + 1) new.base,
      ))
    ] in
    omega (arith, heads, count, both, moves)

-- n pages on end
missing_at_pages : (img : List ℕ) (s n d : ℕ) → 1 ≤ n → missing_at img (record { height = 0; at = s * 4096; len = n * 4096 } ∷ []) d ≤ (s + n - 1) / 512 ^ (4 - d) + 1 - s / 512 ^ (4 - d)
missing_at_pages img s n d some =
    missing_at_span img (record { height = 0; at = s * 4096; len = n * 4096 } ∷ []) d (s / 512 ^ (4 - d)) ((s + n - 1) / 512 ^ (4 - d) + 1) (λ x wanted.
    elim (or_cases (is_on_path d x (record { height = 0; at = s * 4096; len = n * 4096 })) false wanted) [
      | inl on ↦
          let is = on_pages d x 0 s n on in
          cell_span (512 ^ (4 - d)) x s (s + n - 1) (width_pos (4 - d)) is.2 (omega (arith, is.1, some))
      | inr none ↦ absurd (false≢true none)
    ])

missing_pages : (img : List ℕ) (s n : ℕ) → 1 ≤ n → missing img (record { height = 0; at = s * 4096; len = n * 4096 } ∷ []) ≤ 2 * n + 6
unfolding missing
missing_pages img s n some =
    let one : missing_at img (record { height = 0; at = s * 4096; len = n * 4096 } ∷ []) 1 ≤ n / 134217728 + 2 = omega (arith, missing_at_pages img s n 1 some) in
    let two : missing_at img (record { height = 0; at = s * 4096; len = n * 4096 } ∷ []) 2 ≤ n / 262144 + 2 = omega (arith, missing_at_pages img s n 2 some) in
    let three : missing_at img (record { height = 0; at = s * 4096; len = n * 4096 } ∷ []) 3 ≤ n / 512 + 2 = omega (arith, missing_at_pages img s n 3 some) in
    let four : missing_at img (record { height = 0; at = s * 4096; len = n * 4096 } ∷ []) 4 ≤ n = omega (arith, missing_at_pages img s n 4 some) in
    omega (arith, one, two, three, four)

pub missing_counted : (img : List ℕ) (f : Inode) (new : Partition) (k v : ℕ) → missing img (counted f new (table_want k v) ∷ []) ≤ 4
missing_counted img f new k v =
    elim (cases_Bool ((nat_le f.level 9 && nat_le k (exchange_height f.level)) && (nat_le new.base v && nat_lt v (new.base + part_bytes f.level)))) [
      | inl t ↦ rw t (missing_one img k (v - new.base + f.base))
      | inr e ↦ rw e (missing_one img k v)
    ]

missing_write : (img : List ℕ) (f : Inode) (off len : ℕ) (new : Partition) → missing img (few_write_wants f off len new) ≤ 2 * touched off len + 18
missing_write img f off len new =
    let a = (new.base + off) / 4096 in
    let n = touched off len in
    let some : 1 ≤ n = omega arith in
    let w : Want = counted f new (table_want (edge 3 a) (a * 4096)) in
    let u : Want = table_want (max (stays_from f) (edge 3 a)) (a * 4096) in
    let v : Want = table_want (edge 3 (a + n)) ((a + n - 1) * 4096) in
    let page : Want = record { height = 0; at = stage (new.base + off) / 4096 * 4096; len = n * 4096 } in
    omega (
      arith,
      some,
      missing_counted img f new (edge 3 a) (a * 4096),
      missing_one img (max (stays_from f) (edge 3 a)) (a * 4096),
      missing_one img (edge 3 (a + n)) ((a + n - 1) * 4096),
      missing_pages img (stage (new.base + off) / 4096) n some,
      missing_append img (few_table_wants f new a n) (page ∷ []),
      missing_append img (w ∷ []) (u ∷ v ∷ []),
      missing_append img (u ∷ []) (v ∷ []),
    )

-- a write takes at most two pages for each page that it touches, and 128
pub write_space : (img : List ℕ) (b : ℕ → ℕ) (count : ℕ) (f : Inode) (off len : ℕ) → IsAligned f → off + len ≤ 2 ^ 39
    → missing img (write_plan b count f off len).wants ≤ 2 * touched off len + 128
write_space img b count f off len aligned fits =
    subst (λ (n : ℕ). n ≤ 2 * touched off len + 128) (sym (few_write_missing img b count f off len aligned fits)) (elim (cases_Bool (len == 0)) [
      | inl none ↦ rw none (omega (arith, missing_nothing img))
      | inr some ↦ rw some (go (grows_to f (off + len)))
    ])
  where
    go : (growth : Option ℕ) → missing img (grown b count f growth (few_write_wants f off len)).wants ≤ 2 * touched off len + 128
    go None = omega (arith, missing_write img f off len (part f))
    go (Some level) =
        let new = next_part b count level in
        omega (arith, missing_append img (growth_wants f new) (few_write_wants f off len new), missing_growth img f new, missing_write img f off len new)
