-- A write's wants: four in place of thousands.
use Rattle.std.proofs.Common.{◌≡◌, ℕ, ◌+◌, ◌-◌, ◌*◌, ◌/◌, ◌%◌, ◌^◌, ◌<◌, ◌≤◌, Bool, true, false, List, [], ◌∷◌, map, refl, sym, ap, subst, ◌∙◌, inl, inr, arith}
use Rattle.std.specs.Prelude.{max, ◌&&◌, ◌||◌, nat_lt, nat_le}
use Rattle.std.proofs.lemmas.Bool.{cases_Bool, and_parts, and_left, leb-true, lt-leb, or_cases, or_left, or_right, cond-true, cond-false}
use Rattle.std.proofs.Math.Nat.{div-add-mod, mul-mod_left}
use Rattle.ct_base.specs.declared.inode.Inode.{Inode}
use Rattle.ct_base.specs.Inode.{Partition, part, part_bytes}
use Rattle.ct_base.specs.Pieces.{pieces}
use Rattle.ct_base.specs.Plan.{table_want, side_wants, counted, exchange_height, stage, touched, write_wants}
use Rattle.ct_base.specs.Wants.{Want, is_on_path, is_wanted}
use Rattle.ct_plan.specs.Few.{alike, edge, stays_from, few_table_wants, few_write_wants}
use Rattle.ct_plan.proofs.Blocks.{lower_of, alike-le, alike-most}
use Rattle.ct_plan.proofs.Short.{same_truth, few_same, on_table, table_on, on_pages}
use Rattle.ct_plan.proofs.Same.{same_append}
use Rattle.ct_plan.proofs.Counted.{IsMove, few_tables_same}

-- ---- where growth brings nothing

map_same : (g : Want → Want) → ((w : Want) → g w ≡ w) → (ws : List Want) → map g ws ≡ ws
map_same g same [] = refl
map_same g same (w ∷ ws) = ap (λ v. v ∷ map g ws) (same w) ∙ ap (λ vs. w ∷ vs) (map_same g same ws)

counted_level : (f : Inode) (new : Partition) → 9 < f.level → (w : Want) → counted f new w ≡ w
counted_level f new high w =
    cond-false ((nat_le f.level 9 && nat_le w.height (exchange_height f.level)) && (nat_le new.base w.at && nat_lt w.at (new.base + part_bytes f.level)))
    (record w { at = w.at - new.base + f.base }) w (and_left _ _ (and_left _ _ (lt-leb f.level 9 high)))

counted_part : (f : Inode) (w : Want) → counted f (part f) w ≡ w
counted_part f w = elim (cases_Bool ((nat_le f.level 9 && nat_le w.height (exchange_height f.level)) && (nat_le f.base w.at && nat_lt w.at (f.base + part_bytes f.level)))) [
  | inl t ↦
      let above : f.base ≤ w.at = leb-true f.base w.at (and_parts _ _ (and_parts _ _ t).1).0 in
      cond-true _ (record w { at = w.at - f.base + f.base }) w t ∙ ap (λ v. record { height = w.height; at = v; len = w.len }) (back f.base w.at above)
  | inr e ↦ cond-false _ (record w { at = w.at - f.base + f.base }) w e
]
  where
    back : (base at : ℕ) → base ≤ at → at - base + base ≡ at
    back base at le = omega arith

-- the three wants of a write that brings nothing
pub few_tables_still : (f : Inode) (new : Partition) → ((w : Want) → counted f new w ≡ w) → (a b n : ℕ) → alike 3 a b ≡ 3 → 1 ≤ n → (d x : ℕ) → 1 ≤ d
    → is_wanted (map (counted f new) (side_wants a (pieces a b n))) d x ≡ is_wanted (few_table_wants f new a n) d x
few_tables_still f new still a b n same some d x deep =
    ap (λ ws. is_wanted ws d x) (map_same (counted f new) still (side_wants a (pieces a b n)))
    ∙ few_same a b n d x some
    ∙ ap (λ m. is_wanted (three m) d x) same
    ∙ same_truth (is_wanted (three 3) d x) (is_wanted (few_table_wants f new a n) d x)
    (λ wanted. elim (or_cases p0 (p1 || (p3 || false)) wanted) [
      | inl on ↦ absurd (omega (arith, (on_pages d x 4 a n on).0, deep))
      | inr ends ↦ elim (or_cases p1 (p3 || false) ends) [
        | inl on ↦ or_left q1 (p2 || (p3 || false)) (subst (λ (w : Want). is_on_path d x w ≡ true) (sym first) on)
        | inr rest ↦ or_right q1 (p2 || (p3 || false)) (or_right p2 (p3 || false) rest)
      ]
    ])
    (λ wanted. or_right p0 (p1 || (p3 || false)) (elim (or_cases q1 (p2 || (p3 || false)) wanted) [
      | inl on ↦ or_left p1 (p3 || false) (subst (λ (w : Want). is_on_path d x w ≡ true) first on)
      | inr ends ↦ elim (or_cases p2 (p3 || false) ends) [
        | inl on ↦
            let is = on_table d x (max (stays_from f) (edge 3 a)) a on in
            or_left p1 (p3 || false) (table_on d x (edge 3 a) a (omega (arith, is.0)) is.1)
        | inr rest ↦ or_right p1 (p3 || false) rest
      ]
    ]))
  where
    three : ℕ → List Want
    three m =
        record { height = m + 1; at = a * 4096; len = n * 4096 } ∷ table_want (edge m a) (a * 4096) ∷ table_want (edge m (a + n)) ((a + n - 1) * 4096) ∷ []

    p0 : Bool
    p0 = is_on_path d x (record { height = 4; at = a * 4096; len = n * 4096 })

    p1 : Bool
    p1 = is_on_path d x (table_want (edge 3 a) (a * 4096))

    q1 : Bool
    q1 = is_on_path d x (counted f new (table_want (edge 3 a) (a * 4096)))

    p2 : Bool
    p2 = is_on_path d x (table_want (max (stays_from f) (edge 3 a)) (a * 4096))

    p3 : Bool
    p3 = is_on_path d x (table_want (edge 3 (a + n)) ((a + n - 1) * 4096))

    first : counted f new (table_want (edge 3 a) (a * 4096)) ≡ table_want (edge 3 a) (a * 4096)
    first = still (table_want (edge 3 a) (a * 4096))

-- ---- a write

-- an address and its staged one lie alike in all blocks
stage_alike : (v : ℕ) → alike 3 (v / 4096) (stage v / 4096) ≡ 3
stage_alike v =
    let one : v / 4096 % 512 ^ 3 ≡ stage v / 4096 % 512 ^ 3 = omega arith in
    omega (arith, alike-le 3 (v / 4096) (stage v / 4096), alike-most 3 3 (v / 4096) (stage v / 4096) (omega arith) one)

touched_some : (off len : ℕ) → 1 ≤ touched off len
touched_some off len = omega arith

-- what is so of the tables is so of the whole write
with_page : (f : Inode) (off len : ℕ) (new : Partition) (d x : ℕ)
    → is_wanted (map (counted f new) (side_wants ((new.base + off) / 4096) (pieces ((new.base + off) / 4096) (stage (new.base + off) / 4096) (touched off len)))) d x
    ≡ is_wanted (few_table_wants f new ((new.base + off) / 4096) (touched off len)) d x
    → is_wanted (write_wants f off len new) d x ≡ is_wanted (few_write_wants f off len new) d x
with_page f off len new d x same =
    let page = record { height = 0; at = stage (new.base + off) / 4096 * 4096; len = touched off len * 4096 } ∷ [] in
    same_append (map (counted f new) (side_wants ((new.base + off) / 4096) (pieces ((new.base + off) / 4096) (stage (new.base + off) / 4096) (touched off len)))) page
    (few_table_wants f new ((new.base + off) / 4096) (touched off len)) page d x same refl

-- the tables of a write in the partition that a file has
pub few_tables_part : (f : Inode) (off len d x : ℕ) → 1 ≤ d
    → is_wanted (side_wants ((f.base + off) / 4096) (pieces ((f.base + off) / 4096) (stage (f.base + off) / 4096) (touched off len))) d x
    ≡ is_wanted (few_table_wants f (part f) ((f.base + off) / 4096) (touched off len)) d x
few_tables_part f off len d x deep =
    let ws = side_wants ((f.base + off) / 4096) (pieces ((f.base + off) / 4096) (stage (f.base + off) / 4096) (touched off len)) in
    sym (ap (λ us. is_wanted us d x) (map_same (counted f (part f)) (counted_part f) ws))
    ∙ few_tables_still f (part f) (counted_part f) ((f.base + off) / 4096) (stage (f.base + off) / 4096) (touched off len) (stage_alike (f.base + off)) (touched_some off len) d x deep

-- a write in the partition that a file has
pub few_write_part : (f : Inode) (off len d x : ℕ) → 1 ≤ d → is_wanted (write_wants f off len (part f)) d x ≡ is_wanted (few_write_wants f off len (part f)) d x
few_write_part f off len d x deep =
    with_page f off len (part f) d x
    (few_tables_still f (part f) (counted_part f) ((f.base + off) / 4096) (stage (f.base + off) / 4096) (touched off len) (stage_alike (f.base + off)) (touched_some off len) d x deep)

-- the first write of a file, which has no partition
pub few_write_first : (f : Inode) (off len : ℕ) (new : Partition) (d x : ℕ) → 9 < f.level → 1 ≤ d → is_wanted (write_wants f off len new) d x ≡ is_wanted (few_write_wants f off len new) d x
few_write_first f off len new d x none deep =
    with_page f off len new d x
    (few_tables_still f new (counted_level f new none) ((new.base + off) / 4096) (stage (new.base + off) / 4096) (touched off len) (stage_alike (new.base + off)) (touched_some off len) d x deep)

-- a multiple of a partition's length in pages
pages_of : (w v : ℕ) → v % (4096 * w) ≡ 0 → (v ≡ v / 4096 * 4096) × (v / 4096 % w ≡ 0)
pages_of w v whole =
    let q = v / (4096 * w) in
    let e = div-add-mod v (4096 * w) in
    let is : v ≡ q * w * 4096 = omega (arith, e, whole) in
    let page : v / 4096 ≡ q * w = omega (arith, is) in
    (omega (arith, is, page), ap (λ n. n % w) page ∙ mul-mod_left q w)

-- a write past the end of a file's partition, which moves to a longer one
pub few_write_grows : (f : Inode) (off len : ℕ) (new : Partition) (level d x : ℕ) → f.level ≤ 9 → f.base % part_bytes f.level ≡ 0
    → f.level < level → new.base % part_bytes level ≡ 0 → part_bytes f.level < off + len → 1 ≤ d
    → is_wanted (write_wants f off len new) d x ≡ is_wanted (few_write_wants f off len new) d x
few_write_grows f off len new level d x low old_aligned more new_aligned past deep =
    let old_is = pages_of (8 ^ f.level) f.base old_aligned in
    let new_is = pages_of (8 ^ level) new.base new_aligned in
    let from = f.base / 4096 in
    let to = new.base / 4096 in
    let m : IsMove f new from to = record {
      level = low;
      old_base = old_is.0;
      new_base = new_is.0;
      old_aligned = old_is.1;
      new_aligned = lower_of 8 (f.level + 1) level to (omega (arith, more)) new_is.1;
    } in
    let e = new_is.0 in
    with_page f off len new d x
    (few_tables_same m ((new.base + off) / 4096) (stage (new.base + off) / 4096) (touched off len) (stage_alike (new.base + off)) (touched_some off len)
    (omega arith) (omega (arith, e, past)) d x deep)
