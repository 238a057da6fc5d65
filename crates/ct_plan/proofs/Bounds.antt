-- How much the calls take at most that write no byte.
use Rattle.std.proofs.Common.{◌≡◌, ℕ, ◌+◌, ◌-◌, ◌*◌, ◌/◌, ◌%◌, ◌^◌, ◌<◌, ◌≤◌, false, cond, List, [], ◌∷◌, Option, Some, None, sym, inl, inr, arith}
use Rattle.std.specs.Prelude.{◌==◌, nat_lt, nat_le}
use Rattle.std.proofs.lemmas.Bool.{cases_Bool, cond-true, eq-eqb, eqb-false, false≢true, ltb-false, or_cases}
use Rattle.ct_base.specs.declared.inode.Inode.{Inode}
use Rattle.ct_base.specs.Inode.{Partition, part}
use Rattle.ct_base.specs.Plan.{create_plan, cut_wants, entry_plan, exchange_height, exchange_plan, give_up_wants, grown, growth_wants, grows_to, next_part, page_want, counted, stage, table_want, truncate_plan}
use Rattle.ct_base.specs.Wants.{Want, is_on_path, missing, missing_at}
use Rattle.ct_pieces.proofs.Steps.{width_pos}
use Rattle.ct_plan.specs.Few.{alike, edge, few_both_wants, few_wants}
use Rattle.ct_plan.proofs.Plans.{few_exchange_missing}
use Rattle.ct_plan.proofs.Short.{on_pages}
use Rattle.ct_plan.proofs.Sides.{few_cut_missing}
use Rattle.ct_plan.proofs.Space.{cell_span, missing_append, missing_at_span, missing_counted, missing_growth, missing_nothing, missing_one}

-- ---- ranges of tables

abbrev range : ℕ → ℕ → ℕ → List Want
range k s n = record { height = k; at = s * 4096; len = n * 4096 } ∷ []

missing_at_range : (img : List ℕ) (k s n d : ℕ) → 1 ≤ n → missing_at img (range k s n) d ≤ (s + n - 1) / 512 ^ (4 - d) + 1 - s / 512 ^ (4 - d)
missing_at_range img k s n d some =
    missing_at_span img (range k s n) d (s / 512 ^ (4 - d)) ((s + n - 1) / 512 ^ (4 - d) + 1) (λ x wanted.
    elim (or_cases (is_on_path d x (record { height = k; at = s * 4096; len = n * 4096 })) false wanted) [
      | inl on ↦
          let is = on_pages d x k s n on in
          cell_span (512 ^ (4 - d)) x s (s + n - 1) (width_pos (4 - d)) is.2 (omega (arith, is.1, some))
      | inr none ↦ absurd (false≢true none)
    ])

-- none lies lower than the tables that are wanted
missing_at_low : (img : List ℕ) (k s n d : ℕ) → 4 < d + k → missing_at img (range k s n) d ≤ 0
missing_at_low img k s n d low =
    missing_at_span img (range k s n) d 0 0 (λ x wanted.
    elim (or_cases (is_on_path d x (record { height = k; at = s * 4096; len = n * 4096 })) false wanted) [
      | inl on ↦ absurd (omega (arith, (on_pages d x k s n on).0, low))
      | inr none ↦ absurd (false≢true none)
    ])

missing_tables : (img : List ℕ) (k s n : ℕ) → 1 ≤ k → 1 ≤ n → n ≤ 4000 → missing img (range k s n) ≤ 13
unfolding missing
missing_tables img k s n high some few =
    let one : missing_at img (range k s n) 1 ≤ 2 = omega (arith, missing_at_range img k s n 1 some) in
    let two : missing_at img (range k s n) 2 ≤ 2 = omega (arith, missing_at_range img k s n 2 some) in
    let three : missing_at img (range k s n) 3 ≤ 9 = omega (arith, missing_at_range img k s n 3 some) in
    omega (arith, one, two, three, missing_at_low img k s n 4 (omega (arith, high)))

missing_root : (img : List ℕ) (k s n : ℕ) → 4 ≤ k → missing img (range k s n) ≤ 0
unfolding missing
missing_root img k s n high =
    omega (arith, missing_at_low img k s n 1 (omega (arith, high)), missing_at_low img k s n 2 (omega (arith, high)), missing_at_low img k s n 3 (omega (arith, high)), missing_at_low img k s n 4 (omega (arith, high)))

-- a side: what its range takes, and two paths
missing_side : (img : List ℕ) (a b n most : ℕ) → missing img (range (alike 3 a b + 1) a n) ≤ most → missing img (few_wants a b n) ≤ most + 8
missing_side img a b n most le =
    let one = table_want (edge (alike 3 a b) a) (a * 4096) in
    let two = table_want (edge (alike 3 a b) (a + n)) ((a + n - 1) * 4096) in
    omega (
      arith,
      le,
      missing_append img (range (alike 3 a b + 1) a n) (one ∷ two ∷ []),
      missing_append img (one ∷ []) (two ∷ []),
      missing_one img (edge (alike 3 a b) a) (a * 4096),
      missing_one img (edge (alike 3 a b) (a + n)) ((a + n - 1) * 4096),
    )

-- an exchange of as many pages as one may have
pub exchange_space : (img : List ℕ) (f : Inode) (off : ℕ) (g : Inode) (other len : ℕ) → 4096 ≤ len → len ≤ 16384000 → missing img (exchange_plan f off g other len).wants ≤ 42
exchange_space img f off g other len some few =
    let a = (f.base + off) / 4096 in
    let b = (g.base + other) / 4096 in
    let n = len / 4096 in
    omega (
      arith,
      few_exchange_missing img f off g other len some,
      missing_append img (few_wants a b n) (few_wants b a n),
      missing_side img a b n 13 (missing_tables img (alike 3 a b + 1) a n (omega arith) (omega (arith, some)) (omega (arith, few))),
      missing_side img b a n 13 (missing_tables img (alike 3 b a + 1) b n (omega arith) (omega (arith, some)) (omega (arith, few))),
    )

-- ---- a cut

alike_top : (a b : ℕ) → a % 512 ^ 3 ≡ b % 512 ^ 3 → alike 3 a b ≡ 3
unfolding alike
alike_top a b same = cond-true (a % 512 ^ 3 == b % 512 ^ 3) 3 (alike 2 a b) (eq-eqb (a % 512 ^ 3) (b % 512 ^ 3) same)

side_root : (img : List ℕ) (a b n : ℕ) → a % 512 ^ 3 ≡ b % 512 ^ 3 → missing img (few_wants a b n) ≤ 8
side_root img a b n same = missing_side img a b n 0 (missing_root img (alike 3 a b + 1) a n (omega (arith, alike_top a b same)))

pub cut_space : (img : List ℕ) (f : Inode) (len : ℕ) → f.base % 4096 ≡ 0 → 1 ≤ 8 ^ f.level - len / 4096 → missing img (cut_wants f len) ≤ 20
cut_space img f len whole some =
    let a = f.base / 4096 + len / 4096 in
    let b = stage f.base / 4096 + len / 4096 in
    let n = 8 ^ f.level - len / 4096 in
    let same : a % 512 ^ 3 ≡ b % 512 ^ 3 = omega (arith, whole) in
    let edge_page : missing img (cond (len % 4096 == 0) [] (page_want (b * 4096) ∷ [])) ≤ 4 = elim (cases_Bool (len % 4096 == 0)) [
      | inl none ↦ rw none (omega (arith, missing_nothing img))
      | inr page ↦ rw page (missing_one img 0 (b * 4096))
    ] in
    omega (
      arith,
      few_cut_missing img f len some,
      missing_append img (few_both_wants a b n) (cond (len % 4096 == 0) [] (page_want (b * 4096) ∷ [])),
      missing_append img (few_wants a b n) (few_wants b a n),
      side_root img a b n same,
      side_root img b a n (sym same),
      edge_page,
    )

-- a partition that is given up whole
pub give_up_space : (img : List ℕ) (f : Inode) → missing img (give_up_wants f) ≤ 8
give_up_space img f = elim (cases_Bool (nat_le f.level 8)) [
  | inr top ↦ rw top (omega (arith, missing_nothing img))
  | inl low ↦ rw low (omega (
    arith,
    missing_append img (table_want (exchange_height f.level + 1) f.base ∷ []) (table_want (exchange_height f.level + 1) (stage f.base) ∷ []),
    missing_one img (exchange_height f.level + 1) f.base,
    missing_one img (exchange_height f.level + 1) (stage f.base),
  ))
]

-- ---- growth and what comes after it

grown_space : (img : List ℕ) (b : ℕ → ℕ) (count : ℕ) (f : Inode) (growth : Option ℕ) (more : Partition → List Want) (most : ℕ) → ((new : Partition) → missing img (more new) ≤ most) → missing img (grown b count f growth more).wants ≤ 48 + most
grown_space img b count f None more most each = omega (arith, each (part f))
grown_space img b count f (Some level) more most each =
    let new = next_part b count level in
    omega (arith, missing_append img (growth_wants f new) (more new), missing_growth img f new, each new)

pub truncate_space : (img : List ℕ) (b : ℕ → ℕ) (count : ℕ) (f : Inode) (len : ℕ) → f.base % 4096 ≡ 0 → (len < f.size → len / 4096 < 8 ^ f.level) → missing img (truncate_plan b count f len).wants ≤ 48
truncate_space img b count f len whole fits = elim (cases_Bool (nat_lt f.size len)) [
  | inl longer ↦ rw longer (omega (arith, grown_space img b count f (grows_to f len) (λ new. []) 0 (λ new. omega (arith, missing_nothing img))))
  | inr low ↦ rw low (elim (cases_Bool (len == f.size)) [
    | inl same ↦ rw same (omega (arith, missing_nothing img))
    | inr other ↦ rw other (elim (cases_Bool (len == 0)) [
      | inl nothing ↦ rw nothing (omega (arith, give_up_space img f))
      | inr some ↦
          let shorter : len < f.size = omega (arith, ltb-false f.size len low, eqb-false len f.size other) in
          rw some (omega (arith, cut_space img f len whole (omega (arith, fits shorter))))
    ])
  ])
]

pub entry_space : (img : List ℕ) (b : ℕ → ℕ) (count : ℕ) (f : Inode) (o : ℕ) (more : List Want) → missing img (entry_plan b count f o more).wants ≤ 52 + missing img more
entry_space img b count f o more =
    omega (
      arith,
      grown_space img b count f (cond (nat_lt f.size (o + 256)) (grows_to f (o + 256)) None) (λ new. counted f new (page_want (new.base + o)) ∷ more) (4 + missing img more) (λ new.
          omega (arith, missing_append img (counted f new (page_want (new.base + o)) ∷ []) more, missing_counted img f new 0 (new.base + o))),
    )

-- a new object and its entry
pub create_space : (img : List ℕ) (b : ℕ → ℕ) (count : ℕ) (f : Inode) (o number : ℕ) → missing img (create_plan b count f o number).wants ≤ 56
create_space img b count f o number = omega (arith, entry_space img b count f o (page_want (64 * number) ∷ []), missing_one img 0 (64 * number))
