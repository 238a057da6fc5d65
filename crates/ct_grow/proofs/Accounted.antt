-- What is wanted after growth is counted on the image before it.
use Rattle.std.proofs.Common.{◌≡◌, ◌≢◌, ℕ, zero, suc, ◌+◌, ◌-◌, ◌*◌, ◌/◌, ◌^◌, ◌<◌, ◌≤◌, Bool, true, false, List, [], ◌∷◌, ◌++◌, map, refl, sym, ap, subst, ◌∙◌, ◌⊎◌, inl, inr, arith}
use Rattle.std.specs.Prelude.{All, ◌==◌, ◌&&◌, not, nat_le, nat_lt}
use Rattle.std.proofs.Math.Nat.{div-add-mod, mul-div_cancel, one-le-pow, lt_of_mul-lt-mul_right, mul-le-mul_right, pow-le-pow_right}
use Rattle.std.proofs.lemmas.Bool.{cases_Bool, cases_eq, cases_lt, and_cases, and_left, and_right, and_parts, both_ways, cond-true, cond-false, false≢true, false_from_ne_true, le-ltb, leb-true, leb-false, lt-leb, ltb-true, ltb-false, ne_eqb, not_from_true, or_left, or_right}
use Rattle.std.proofs.lemmas.List.{map-append}
use Rattle.std.proofs.lemmas.List.Elements.{All-head, All-tail}
use Rattle.std.proofs.lemmas.Nat.{pow-add}
use Rattle.ct_base.specs.declared.inode.Inode.{Inode}
use Rattle.ct_base.specs.Exchange.{partner, Outside}
use Rattle.ct_base.specs.Inode.{Partition, IsPart, part, part_bytes, part_end}
use Rattle.ct_base.specs.Plan.{counted, exchange_height, growth_wants, header_wants, move_wants, table_want}
use Rattle.ct_base.specs.Walk.{page_at}
use Rattle.ct_base.specs.Wants.{Want, is_on_path, is_wanted, missing}
use Rattle.ct_image.proofs.Partner.{partner-first, partner-other}
use Rattle.ct_image.proofs.Turns.{TurnsBack, turns_none, partner_turns}
use Rattle.ct_image.proofs.MissingSum.{Goes, is_wanted-append, missing_sum}
use Rattle.ct_image.proofs.Paths.{reach, OnPath, on_is, is_on, Twins, turned, Within, Beside, path_beside, cell_within, within_cell, path_stays, path_moves, is_wanted-map, is_wanted-none}
use Rattle.ct_grow.specs.Follows.{Enlarges, IsWhole, Follows, IsElsewhere}
use Rattle.ct_grow.specs.Grown.{CellsMoved, IsCellIn}
use Rattle.ct_grow.proofs.Heads.{path_bounds}
use Rattle.ct_grow.proofs.Spans.{part_high}
use Rattle.ct_grow.proofs.Wanting.{unwanted}

-- ---- cells against partitions

cube : (k : ℕ) → k ≤ 4 → 512 ^ k ≡ 8 ^ (3 * k)
cube zero le = refl
cube (suc zero) le = refl
cube (suc (suc zero)) le = refl
cube (suc (suc (suc zero))) le = refl
cube (suc (suc (suc (suc zero)))) le = refl
cube (suc (suc (suc (suc (suc k))))) le = absurd (omega arith)

-- the length of a partition is a multiple of that of a smaller cell, and divides that of a larger one
cells_of : (d level : ℕ) → 3 * (4 - d) ≤ level → part_bytes level ≡ 8 ^ (level - 3 * (4 - d)) * reach d
cells_of d level fits =
    let k = 4 - d in
    let sum : 3 * k + (level - 3 * k) ≡ level = omega arith in
    let power : 8 ^ level ≡ 8 ^ (3 * k) * 8 ^ (level - 3 * k) = ap (λ n. 8 ^ n) (sym sum) ∙ pow-add 8 (3 * k) (level - 3 * k) in
    omega (arith, power, ap (λ n. n * 8 ^ (level - 3 * k)) (cube k (omega arith)))

parts_of : (d level : ℕ) → level ≤ 3 * (4 - d) → reach d ≡ 8 ^ (3 * (4 - d) - level) * part_bytes level
parts_of d level fits =
    let k = 4 - d in
    let sum : level + (3 * k - level) ≡ 3 * k = omega arith in
    let power : 8 ^ (3 * k) ≡ 8 ^ level * 8 ^ (3 * k - level) = ap (λ n. 8 ^ n) (sym sum) ∙ pow-add 8 level (3 * k - level) in
    omega (arith, power, cube k (omega arith))

some_reach : (d : ℕ) → 0 < reach d
some_reach d = omega (arith, one-le-pow (4 - d) 512 (omega arith))

-- a partition begins with a cell that is no larger
base_cell : (d : ℕ) (q : Partition) → IsPart q → 3 * (4 - d) ≤ q.level → q.base ≡ q.base / reach d * reach d
base_cell d q is fits =
    let j = q.base / part_bytes q.level in
    let m = j * 8 ^ (q.level - 3 * (4 - d)) in
    let whole : q.base ≡ m * reach d = omega (arith, div-add-mod q.base (part_bytes q.level), is.aligned, ap (λ n. j * n) (cells_of d q.level fits)) in
    whole ∙ ap (λ n. n * reach d) (sym (ap (λ n. n / reach d) whole ∙ mul-div_cancel m (some_reach d)))

-- all addresses of one cell of a depth
all_cells : (d : ℕ) → d ≤ 4 → 512 ^ d * reach d ≡ 2 ^ 48
all_cells d le =
    let sum : d + (4 - d) ≡ 4 = omega arith in
    let power : 512 ^ 4 ≡ 512 ^ d * 512 ^ (4 - d) = ap (λ n. 512 ^ n) (sym sum) ∙ pow-add 512 d (4 - d) in
    omega (arith, power)

le_cells : (d m n : ℕ) → m * reach d ≤ n * reach d → m ≤ n
le_cells d m n le = let lt = lt_of_mul-lt-mul_right (reach d) {m = m} {n = n + 1} (omega (arith, le, some_reach d)) in omega (arith, lt)

module _ {f : Inode} {p : Partition} (e : Enlarges f p) where
  abbrev len : ℕ
  len = part_bytes f.level

  longer : part_bytes f.level ≤ part_bytes p.level
  longer = let le = pow-le-pow_right {n = 8} (omega arith) {i = f.level} {j = p.level} (omega (arith, e.smaller)) in omega (arith, le)

  -- at a depth that moves
  module _ (d : ℕ) (low : 4 - d ≤ exchange_height f.level) where
    abbrev b : ℕ
    b = p.base / reach d

    abbrev a : ℕ
    a = f.base / reach d

    abbrev n : ℕ
    n = 8 ^ (f.level - 3 * (4 - d))

    twins : Twins d p.base f.base (part_bytes f.level) b a n
    twins =
        let fits : 3 * (4 - d) ≤ f.level = omega arith in
        let first = base_cell d p e.is_part (omega (arith, e.smaller)) in
        let second = base_cell d (part f) e.old fits in
        let whole = cells_of d f.level fits in
        record {
          first = first;
          second = second;
          whole = whole;
          apart = elim e.apart [
            | inl before ↦ inl (le_cells d (b + n) a (omega (arith, before, longer, first, second, whole)))
            | inr after ↦ inr (le_cells d (a + n) b (omega (arith, after, first, second, whole)))
          ];
        }

    turns : d ≤ 4 → TurnsBack (partner b a n) (512 ^ d)
    turns le =
        let t = twins in
        let all = all_cells d le in
        partner_turns b a n (512 ^ d) t.apart
        (le_cells d (b + n) (512 ^ d) (omega (arith, all, t.first, t.whole, longer, part_high p e.is_part)))
        (le_cells d (a + n) (512 ^ d) (omega (arith, all, t.second, t.whole, part_high (part f) e.old)))

    -- growth asks for none of the cells that it moves
    free_of : (x : ℕ) → 10 * 2 ^ 39 ≤ x * reach d → is_wanted (growth_wants f p) d x ≡ false
    free_of x from = unwanted f p d x (λ v on. (path_bounds p e.is_part v on).1) (omega (arith, from)) (λ _. inl (omega arith))

-- ---- wants

-- a want counts in the old partition
abbrev is_moved : Inode → Partition → Want → Bool
is_moved f p want = (nat_le f.level 9 && nat_le want.height (exchange_height f.level)) && (nat_le p.base want.at && nat_lt want.at (p.base + part_bytes f.level))

abbrev back : Inode → Partition → Want → Want
back f p want = record want { at = want.at - p.base + f.base }

-- A want that counts in the old partition lies in the range to which that is brought.
record Moves (f : Inode) (p : Partition) (want : Want) : Type 0 where
  height : want.height ≤ exchange_height f.level
  from : p.base ≤ want.at
  to : want.at < p.base + part_bytes f.level

moves_is : (f : Inode) (p : Partition) (want : Want) → is_moved f p want ≡ true → Moves f p want
moves_is f p want is =
    let halves = and_parts (nat_le f.level 9 && nat_le want.height (exchange_height f.level)) (nat_le p.base want.at && nat_lt want.at (p.base + part_bytes f.level)) is in
    let one = and_parts (nat_le f.level 9) (nat_le want.height (exchange_height f.level)) halves.0 in
    let two = and_parts (nat_le p.base want.at) (nat_lt want.at (p.base + part_bytes f.level)) halves.1 in
    record { height = leb-true want.height (exchange_height f.level) one.1; from = leb-true p.base want.at two.0; to = ltb-true want.at (p.base + part_bytes f.level) two.1 }

-- a low one that does not lies beside it
stays_beside : (f : Inode) (p : Partition) (want : Want) → f.level ≤ 9 → want.height ≤ exchange_height f.level → IsWhole f p want → is_moved f p want ≡ false → Beside p.base (part_bytes f.level) want
stays_beside f p want level height whole not =
    elim (and_cases (nat_le f.level 9 && nat_le want.height (exchange_height f.level)) (nat_le p.base want.at && nat_lt want.at (p.base + part_bytes f.level)) not) [
      | inl one ↦ elim (and_cases (nat_le f.level 9) (nat_le want.height (exchange_height f.level)) one) [
        | inl high ↦ let lt = leb-false f.level 9 high in absurd (omega arith)
        | inr high ↦ let lt = leb-false want.height (exchange_height f.level) high in absurd (omega arith)
      ]
      | inr two ↦ elim (and_cases (nat_le p.base want.at) (nat_lt want.at (p.base + part_bytes f.level)) two) [
        | inl before ↦ inl (whole.start (leb-false p.base want.at before))
        | inr after ↦ inr (ltb-false want.at (p.base + part_bytes f.level) after)
      ]
    ]

-- a want of no cell of a depth
too_high : (d x : ℕ) (want : Want) → 4 < d + want.height → is_on_path d x want ≡ false
too_high d x want high = false_from_ne_true (is_on_path d x want) (λ on. let is : OnPath d x want = on_is on in omega (arith, is.deep, high))

module _ {f : Inode} {p : Partition} (e : Enlarges f p) (has : f.level ≢ 15) where
  inside : (want : Want) → IsWhole f p want → Moves f p want → Within p.base (part_bytes f.level) want
  inside want whole moves = record { from = moves.from; to = whole.stop moves.to }

  module _ (d : ℕ) (low : 4 - d ≤ exchange_height f.level) where
    abbrev to : ℕ → ℕ
    to = partner (p.base / reach d) (f.base / reach d) (8 ^ (f.level - 3 * (4 - d)))

    -- a want asks for a cell where it is counted for its partner
    low_path : (x : ℕ) (want : Want) → Follows f p want → is_on_path d x want ≡ is_on_path d (to x) (counted f p want)
    low_path x want follows =
        let t = twins e d low in
        elim (cases_Bool (is_moved f p want)) [
          | inl moved ↦
              let moves = moves_is f p want moved in
              let is : counted f p want ≡ back f p want = cond-true _ _ _ moved in
              path_moves t x want (back f p want) (inside want (follows has moves.height) moves) refl refl refl ∙ ap (is_on_path d (to x)) (sym is)
          | inr not ↦
              let is : counted f p want ≡ want = cond-false _ _ _ not in
              still_path x want follows not ∙ ap (is_on_path d (to x)) (sym is)
        ]
      where
        still_path : (x : ℕ) (want : Want) → Follows f p want → is_moved f p want ≡ false → is_on_path d x want ≡ is_on_path d (to x) want
        still_path x want follows not = elim (cases_lt (exchange_height f.level) want.height) [
          | inl high ↦ too_high d x want (omega (arith, high, low)) ∙ sym (too_high d (to x) want (omega (arith, high, low)))
          | inr le ↦
              let whole = follows has le in
              path_stays (twins e d low) x want (stays_beside f p want e.old.level le whole not) whole.beside
        ]

    -- none asks for a low cell of the old partition
    old_path : (x : ℕ) (want : Want) → Follows f p want → f.base / reach d ≤ x → x < f.base / reach d + 8 ^ (f.level - 3 * (4 - d)) → is_on_path d x want ≡ false
    old_path x want follows from below = elim (cases_lt (exchange_height f.level) want.height) [
      | inl high ↦ too_high d x want (omega (arith, high, low))
      | inr le ↦ false_from_ne_true (is_on_path d x want) (λ on. path_beside (turned (twins e d low)) (on_is on) (follows has le).beside from below)
    ]

  -- At a depth that does not move, a want that counts elsewhere asks for what growth asks for.
  module _ (d : ℕ) (high : exchange_height f.level < 4 - d) where
    over : (base j x : ℕ) (want : Want) → base ≡ j * part_bytes f.level → OnPath d x want → Within base (part_bytes f.level) want → OnPath d x (table_want (exchange_height f.level + 1) base)
    over base j x want start on lies =
        let L = part_bytes f.level in
        let t = 8 ^ (3 * (4 - d) - f.level) in
        let wide : reach d ≡ t * L = parts_of d f.level (omega arith) in
        let less = lt_of_mul-lt-mul_right L {m = x * t} {n = j + 1} (omega (arith, on.from, lies.to, start, ap (λ n. x * n) wide)) in
        let le = mul-le-mul_right {m = x * t} {n = j} L (omega (arith, less)) in
        record {
          deep = omega (arith, high);
          from = omega (arith, le, start, ap (λ n. x * n) wide);
          to = omega (arith, on.to, lies.from);
        }

    asked : (x : ℕ) → (is_on_path d x (table_want (exchange_height f.level + 1) f.base) ≡ true) ⊎ (is_on_path d x (table_want (exchange_height f.level + 1) p.base) ≡ true) → is_wanted (growth_wants f p) d x ≡ true
    asked x on =
        let moves : is_wanted (move_wants f f.base p.base) d x ≡ true = elim on [
          | inl one ↦ or_left _ _ one
          | inr two ↦ or_right (is_on_path d x (table_want (exchange_height f.level + 1) f.base)) _ (or_left _ _ two)
        ] in
        let both : growth_wants f p ≡ header_wants p ++ move_wants f f.base p.base = rw (ne_eqb f.level 15 has) refl in
        ap (λ ws. is_wanted ws d x) both ∙ is_wanted-append (header_wants p) (move_wants f f.base p.base) d x ∙ or_right (is_wanted (header_wants p) d x) _ moves

    high_path : (x : ℕ) → is_wanted (growth_wants f p) d x ≡ false → (want : Want) → Follows f p want → is_on_path d x want ≡ is_on_path d x (counted f p want)
    high_path x unasked want follows = elim (cases_Bool (is_moved f p want)) [
      | inr not ↦ ap (is_on_path d x) (sym (cond-false _ _ _ not))
      | inl t ↦
          let moves = moves_is f p want t in
          let lies = inside want (follows has moves.height) moves in
          let is : counted f p want ≡ back f p want = cond-true _ _ _ t in
          let old = e.old in
          let new = e.is_part in
          let wide : part_bytes p.level ≡ 8 ^ (p.level - f.level) * part_bytes f.level =
          (let sum : f.level + (p.level - f.level) ≡ p.level = omega (arith, e.smaller) in omega (arith, ap (λ n. 8 ^ n) (sym sum) ∙ pow-add 8 f.level (p.level - f.level))) in
          let first : f.base ≡ f.base / part_bytes f.level * part_bytes f.level = omega (arith, div-add-mod f.base (part_bytes f.level), old.aligned) in
          let j = p.base / part_bytes p.level in
          let second : p.base ≡ j * 8 ^ (p.level - f.level) * part_bytes f.level = omega (arith, div-add-mod p.base (part_bytes p.level), new.aligned, ap (λ n. j * n) wide) in
          let there : Within f.base (part_bytes f.level) (back f p want) = record { from = omega arith; to = omega (arith, lies.from, lies.to) } in
          let not_here : is_on_path d x want ≡ false = false_from_ne_true (is_on_path d x want) (λ on. both_ways _ unasked (asked x (inr (is_on (over p.base (j * 8 ^ (p.level - f.level)) x want second (on_is on) lies))))) in
          let not_there : is_on_path d x (back f p want) ≡ false = false_from_ne_true (is_on_path d x (back f p want)) (λ on. both_ways _ unasked (asked x (inl (is_on (over f.base (f.base / part_bytes f.level) x (back f p want) first (on_is on) there))))) in
          not_here ∙ sym (ap (is_on_path d x) is ∙ not_there)
    ]

-- ---- cells

-- the cell is none of those that move
abbrev IsStill : Inode → Partition → ℕ → ℕ → Type 0
IsStill f p k c = f.level ≢ 15 → k ≤ exchange_height f.level → IsCellIn p.base (part_bytes f.level) k c ⊎ IsCellIn f.base (part_bytes f.level) k c → ⊥

still_part : (l g z w : Bool) → g ≡ false → w ≡ l → (w && z) ≡ ((l && not g) && z)
still_part true false z w is same = ap (λ b. b && z) same
still_part false false z w is same = ap (λ b. b && z) same
still_part l true z w is same = absurd (false≢true (sym is))

taken_part : (l g z w y : Bool) → g ≡ true → z ≡ false → (w && z) ≡ ((l && not g) && y)
taken_part l g z w y is gone = and_right w z gone ∙ sym (and_left (l && not g) y (and_right l (not g) (not_from_true g is)))

module _ {old new : List ℕ} {f : Inode} {p : Partition} (m : CellsMoved old new f p) where
  still_each : (d x : ℕ) (w l : Bool) → d ≤ 4 → IsStill f p (4 - d) x → (is_wanted (growth_wants f p) d x ≡ false → w ≡ l)
      → (w && (page_at new d x == 0)) ≡ ((l && not (is_wanted (growth_wants f p) d x)) && (page_at old d x == 0))
  still_each d x w l le still same =
      let depth : 4 - (4 - d) ≡ d = omega arith in
      let g = is_wanted (growth_wants f p) d x in
      elim (cases_Bool (is_wanted (growth_wants f p) d x)) [
        | inl t ↦
            let there : page_at new d x ≢ 0 = λ none. m.present (4 - d) x (omega arith) still (ap (λ k. is_wanted (growth_wants f p) k x) depth ∙ t) (ap (λ k. page_at new k x) depth ∙ none) in
            taken_part l g (page_at new d x == 0) w (page_at old d x == 0) t (ne_eqb (page_at new d x) 0 there)
        | inr n ↦
            let page : page_at new d x ≡ page_at old d x = elim (cases_eq (page_at old d x) 0) [
              | inl none ↦ sym (ap (λ k. page_at new k x) depth) ∙ m.absent (4 - d) x (omega arith) still (ap (λ k. page_at old k x) depth ∙ none) (ap (λ k. is_wanted (growth_wants f p) k x) depth ∙ n) ∙ sym none
              | inr some ↦ sym (ap (λ k. page_at new k x) depth) ∙ m.stays (4 - d) x (omega arith) still (λ none. some (sym (ap (λ k. page_at old k x) depth) ∙ none)) ∙ ap (λ k. page_at old k x) depth
            ] in
            ap (λ k. w && (k == 0)) page ∙ still_part l g (page_at old d x == 0) w n (same n)
      ]

  module _ (e : f.level ≢ 15 → Enlarges f p) (ws : List Want) (all : All (Follows f p) ws) where
    low_goes : f.level ≢ 15 → (d : ℕ) → d ≤ 4 → 4 - d ≤ exchange_height f.level → Goes old new (growth_wants f p) ws (map (counted f p) ws) d
    low_goes has d le low =
        let t = twins (e has) d low in
        let B = p.base / reach d in
        let A = f.base / reach d in
        let N = 8 ^ (f.level - 3 * (4 - d)) in
        let depth : 4 - (4 - d) ≡ d = omega arith in
        let same = λ (x : ℕ). is_wanted-map (counted f p) (Follows f p) d x (partner B A N x) (low_path (e has) has d low x) ws all in
        let outside = λ (x : ℕ) (out : Outside B A N x).
        (let at : partner B A N x ≡ x = partner-other B A N x out in
        let still : IsStill f p (4 - d) x = λ _ _ moved. elim moved [
          | inl new' ↦ let c = within_cell t {x = x} new'.0 new'.1 in let past = out.first c.0 in omega (arith, past, c.1)
          | inr old' ↦ let c = within_cell (turned t) {x = x} old'.0 old'.1 in let past = out.second c.0 in omega (arith, past, c.1)
        ] in
        subst (λ y. (is_wanted ws d x && (page_at new d x == 0)) ≡ ((is_wanted (map (counted f p) ws) d y && not (is_wanted (growth_wants f p) d y)) && (page_at old d y == 0))) (sym at)
        (still_each d x (is_wanted ws d x) (is_wanted (map (counted f p) ws) d x) le still (λ _. same x ∙ ap (is_wanted (map (counted f p) ws) d) at))) in
        record {
          to = partner B A N;
          turns = turns (e has) d low le;
          each = λ x. elim (place B A N x) [
            | inl first ↦
                let y = x - B + A in
                let at : partner B A N x ≡ y = partner-first B A N x first.0 first.1 in
                let inside = cell_within t {x = x} first.0 first.1 in
                let there = cell_within (turned t) {x = y} (omega arith) (omega (arith, first.0, first.1)) in
                let page : page_at new d x ≡ page_at old d (partner B A N x) =
                sym (ap (λ k. page_at new k x) depth) ∙ m.brought (4 - d) x has low (inside.0, inside.1) ∙ ap (λ k. page_at old k y) depth ∙ ap (page_at old d) (sym at) in
                let unasked : is_wanted (growth_wants f p) d (partner B A N x) ≡ false = ap (is_wanted (growth_wants f p) d) at ∙ free_of (e has) d low y (omega (arith, there.0, (e has).old.low)) in
                ap (λ k. is_wanted ws d x && (k == 0)) page
                ∙ still_part (is_wanted (map (counted f p) ws) d (partner B A N x)) (is_wanted (growth_wants f p) d (partner B A N x)) (page_at old d (partner B A N x) == 0) (is_wanted ws d x) unasked (same x)
            | inr rest ↦ elim rest [
              | inl second ↦
                  let none : is_wanted ws d x ≡ false = is_wanted-none (Follows f p) d x (λ w follows. old_path (e has) has d low x w follows second.0 second.1) ws all in
                  and_left (is_wanted ws d x) _ none ∙ sym (and_left _ (page_at old d (partner B A N x) == 0) (and_left (is_wanted (map (counted f p) ws) d (partner B A N x)) _ (sym (same x) ∙ none)))
              | inr out ↦ outside x out
            ]
          ];
        }
      where
        place : (a b n x : ℕ) → ((a ≤ x) × (x < a + n)) ⊎ (((b ≤ x) × (x < b + n)) ⊎ Outside a b n x)
        place a b n x = elim (cases_lt x a) [
          | inr first ↦ elim (cases_lt x (a + n)) [ inl high ↦ inl (first, high) | inr past ↦ inr (beside a b n x (λ _. past)) ]
          | inl before ↦ inr (beside a b n x (λ le. absurd (omega arith)))
        ]
          where
            beside : (a b n x : ℕ) → (a ≤ x → a + n ≤ x) → ((b ≤ x) × (x < b + n)) ⊎ Outside a b n x
            beside a b n x out = elim (cases_lt x b) [
              | inr first ↦ elim (cases_lt x (b + n)) [ inl high ↦ inl (first, high) | inr past ↦ inr (record { first = out; second = λ _. past }) ]
              | inl before ↦ inr (record { first = out; second = λ le. absurd (omega arith) })
            ]

    -- where no cell moves
    flat_goes : (d : ℕ) → d ≤ 4 → (f.level ≢ 15 → exchange_height f.level < 4 - d) → ((x : ℕ) → is_wanted (growth_wants f p) d x ≡ false → is_wanted ws d x ≡ is_wanted (map (counted f p) ws) d x)
        → Goes old new (growth_wants f p) ws (map (counted f p) ws) d
    flat_goes d le high same = record {
      to = λ x. x;
      turns = turns_none (512 ^ d);
      each = λ x. still_each d x (is_wanted ws d x) (is_wanted (map (counted f p) ws) d x) le (λ has low. absurd (let lt = high has in omega arith)) (same x);
    }

    goes : (d : ℕ) → d ≤ 4 → Goes old new (growth_wants f p) ws (map (counted f p) ws) d
    goes d le = elim (cases_eq f.level 15) [
      | inl none ↦ flat_goes d le (λ has. absurd (has none)) (λ x _. is_wanted-map (counted f p) (Follows f p) d x x (λ w _. ap (is_on_path d x) (sym (unmoved none w))) ws all)
      | inr has ↦ elim (cases_lt (exchange_height f.level) (4 - d)) [
        | inl high ↦ flat_goes d le (λ _. high) (λ x unasked. is_wanted-map (counted f p) (Follows f p) d x x (high_path (e has) has d high x unasked) ws all)
        | inr low ↦ low_goes has d le low
      ]
    ]
      where
        unmoved : f.level ≡ 15 → (w : Want) → counted f p w ≡ w
        unmoved none w = cond-false _ _ _ (and_left _ _ (and_left (nat_le f.level 9) _ (lt-leb f.level 9 (omega (arith, none)))))

    -- What is missing after growth and what growth took are together what was missing for both.
    pub missing_grown : missing new ws + missing old (growth_wants f p) ≡ missing old (growth_wants f p ++ map (counted f p) ws)
    missing_grown = missing_sum old new (growth_wants f p) ws (map (counted f p) ws) (λ d from to. goes d to)

-- ---- the wants of plans

-- a want of one address that is not in the old partition
pub whole_one : (f : Inode) (p : Partition) (want : Want) → want.len ≡ 1 → (want.at < f.base) ⊎ (f.base + part_bytes f.level ≤ want.at) → IsWhole f p want
whole_one f p want one out = record {
  start = λ lt. omega (arith, lt, one);
  stop = λ lt. omega (arith, lt, one);
  beside = elim out [ inl before ↦ inl (omega (arith, before, one)) | inr after ↦ inr after ];
}

module _ {f : Inode} {p : Partition} (e : Enlarges f p) where
  -- of one address in the new partition
  pub whole_new : (want : Want) → want.len ≡ 1 → p.base ≤ want.at → want.at < part_end p → IsWhole f p want
  whole_new want one from to = whole_one f p want one (elim e.apart [ inl before ↦ inl (omega (arith, before, to)) | inr after ↦ inr (omega (arith, after, from)) ])

  -- and of any length below all partitions
  pub whole_low : (want : Want) → want.at + want.len ≤ 10 * 2 ^ 39 → IsWhole f p want
  whole_low want low = record {
    start = λ lt. omega (arith, low, e.is_part.low);
    stop = λ lt. omega (arith, low, e.is_part.low);
    beside = inl (omega (arith, low, e.old.low));
  }

-- a want that begins elsewhere counts where it is
pub counted_off : (f : Inode) (p : Partition) (want : Want) → IsElsewhere f p want → counted f p want ≡ want
counted_off f p want off = cond-false _ _ _ (elim (cases_eq f.level 15) [
  | inl none ↦ and_left _ _ (and_left (nat_le f.level 9) _ (lt-leb f.level 9 (omega (arith, none))))
  | inr has ↦ and_right (nat_le f.level 9 && nat_le want.height (exchange_height f.level)) _ (elim (off has) [
    | inl before ↦ and_left _ _ (lt-leb p.base want.at before)
    | inr after ↦ and_right (nat_le p.base want.at) _ (le-ltb want.at (p.base + part_bytes f.level) after)
  ])
])

pub counted_elsewhere : (f : Inode) (p : Partition) (ws : List Want) → All (IsElsewhere f p) ws → map (counted f p) ws ≡ ws
counted_elsewhere f p [] all = refl
counted_elsewhere f p (w ∷ ws) all =
    ap (λ v. v ∷ map (counted f p) ws) (counted_off f p w (All-head (IsElsewhere f p) w ws all)) ∙ ap (λ vs. w ∷ vs) (counted_elsewhere f p ws (All-tail (IsElsewhere f p) w ws all))

-- and where the object stays each does
pub counted_same : (f : Inode) (want : Want) → counted f (part f) want ≡ want
counted_same f want = elim (cases_Bool (is_moved f (part f) want)) [
  | inr not ↦ cond-false _ _ _ not
  | inl t ↦
      let from = (moves_is f (part f) want t).from in
      let at : want.at - f.base + f.base ≡ want.at = omega arith in
      let is : counted f (part f) want ≡ back f (part f) want = cond-true _ _ _ t in
      is ∙ ap (λ v. record want { at = v }) at
]

pub counted_here : (f : Inode) (ws : List Want) → map (counted f (part f)) ws ≡ ws
counted_here f [] = refl
counted_here f (w ∷ ws) = ap (λ v. v ∷ map (counted f (part f)) ws) (counted_same f w) ∙ ap (λ vs. w ∷ vs) (counted_here f ws)

-- The same for a plan, of which some wants are counted and some begin elsewhere.
pub missing_plan : {old new : List ℕ} {f : Inode} {p : Partition} → CellsMoved old new f p → (f.level ≢ 15 → Enlarges f p) → (ws more : List Want)
    → All (Follows f p) (ws ++ more) → All (IsElsewhere f p) more
    → missing new (ws ++ more) + missing old (growth_wants f p) ≡ missing old (growth_wants f p ++ (map (counted f p) ws ++ more))
missing_plan {old} {new} {f} {p} m e ws more all off =
    missing_grown m e (ws ++ more) all
    ∙ ap (λ vs. missing old (growth_wants f p ++ vs)) (map-append (counted f p) ws more ∙ ap (λ vs. map (counted f p) ws ++ vs) (counted_elsewhere f p more off))
