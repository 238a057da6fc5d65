-- What growth asks for, and the cells on the way to it.
use Rattle.std.proofs.Common.{◌≡◌, ◌≢◌, ℕ, zero, suc, ◌+◌, ◌-◌, ◌*◌, ◌/◌, ◌%◌, ◌^◌, ◌<◌, ◌≤◌, true, false, List, [], ◌∷◌, ◌++◌, map, refl, sym, ap, subst, ◌∙◌, ◌⊎◌, inl, inr, arith}
use Rattle.std.specs.Prelude.{Contains, ◌&&◌, nat_le, nat_lt}
use Rattle.std.proofs.Math.Nat.{div-div-eq-div-mul, pow-suc}
use Rattle.std.proofs.lemmas.Bool.{cases_Bool, eq-eqb, ne_eqb, or_cases, false_from_ne_true}
use Rattle.ct_base.specs.declared.inode.Inode.{Inode}
use Rattle.ct_base.specs.Inode.{Partition}
use Rattle.ct_base.specs.Plan.{page_want, table_want, header_wants, move_wants, growth_wants}
use Rattle.ct_base.specs.Published.{header_words}
use Rattle.ct_base.specs.Walk.{page_at, AreTables}
use Rattle.ct_base.specs.Wants.{Want, is_on_path, is_wanted}
use Rattle.ct_image.proofs.Steps.{page_at-next, next-zero}
use Rattle.ct_walk.specs.Has.{Has, HasAll}
use Rattle.ct_walk.proofs.Cells.{address_of, path_high}

-- ---- wants that are met

-- a cell on the way to one that is there is there
pub above_there : (img : List ℕ) (k d y : ℕ) → page_at img (k + d) y ≢ 0 → page_at img d (y / 512 ^ k) ≢ 0
above_there img zero d y there =
    let number : y / 512 ^ 0 ≡ y = omega arith in
    let depth : 0 + d ≡ d = omega arith in
    λ none. there (ap (λ e. page_at img e y) depth ∙ sym (ap (page_at img d) number) ∙ none)
above_there img (suc k) d y there =
    let depth : suc k + d ≡ suc (k + d) = omega arith in
    let up : page_at img (k + d) (y / 512) ≢ 0 = λ none. there (ap (λ e. page_at img e y) depth ∙ page_at-next img (k + d) y ∙ ap (λ t. Rattle.ct_base.specs.Walk.next img t (y % 512)) none ∙ next-zero img (y % 512)) in
    let number : y / 512 / 512 ^ k ≡ y / 512 ^ suc k = div-div-eq-div-mul y 512 (512 ^ k) ∙ ap (λ w. y / w) (omega (arith, pow-suc 512 k)) in
    λ none. above_there img k d (y / 512) up (ap (page_at img d) number ∙ none)

-- what is on the path of a want that is met is there
pub met_path : (img : List ℕ) (want : Want) (d x : ℕ) → 1 ≤ want.len → Has img want → is_on_path d x want ≡ true → page_at img d x ≢ 0
met_path img want d x some has on =
    let high = path_high want some d x on in
    let a = address_of want some d x on in
    let v = a.0 in
    let k = 4 - want.height - d in
    let e = 4 - want.height in
    let depth : 4 - want.height ≡ k + d = omega (arith, high) in
    let there : page_at img (k + d) (v / (4096 * 512 ^ want.height)) ≢ 0 = λ none. has v a.1 a.2 (ap (λ n. page_at img n (v / (4096 * 512 ^ want.height))) depth ∙ none) in
    let wide : 512 ^ (4 - d) ≡ 512 ^ want.height * 512 ^ k = ap (λ n. 512 ^ n) (omega (arith, high)) ∙ Rattle.std.proofs.lemmas.Nat.pow-add 512 want.height k in
    let number : v / (4096 * 512 ^ want.height) / 512 ^ k ≡ x =
    div-div-eq-div-mul v (4096 * 512 ^ want.height) (512 ^ k) ∙ ap (λ w. v / w) (Rattle.std.proofs.Math.Nat.mul_assoc 4096 (512 ^ want.height) (512 ^ k) ∙ ap (λ w. 4096 * w) (sym wide)) ∙ a.3 in
    λ none. above_there img k d (v / (4096 * 512 ^ want.height)) there (ap (page_at img d) number ∙ none)

abbrev AllSome : List Want → Type 0
AllSome [] = Unit {0}
AllSome (want ∷ wants) = (1 ≤ want.len) × AllSome wants

met_wanted : (img : List ℕ) (wants : List Want) → AllSome wants → HasAll img wants → (d x : ℕ) → is_wanted wants d x ≡ true → page_at img d x ≢ 0
met_wanted img [] some all d x wanted = absurd (Rattle.std.proofs.lemmas.Bool.false≢true wanted)
met_wanted img (want ∷ wants) some all d x wanted = elim (or_cases (is_on_path d x want) (is_wanted wants d x) wanted) [
  | inl on ↦ met_path img want d x some.0 all.0 on
  | inr later ↦ met_wanted img wants some.1 all.1 d x later
]

-- ---- what growth asks for

has_append : (img : List ℕ) (ps qs : List Want) → HasAll img (ps ++ qs) → HasAll img ps × HasAll img qs
has_append img [] qs all = (tt, all)
has_append img (p ∷ ps) qs all = let rest = has_append img ps qs all.1 in ((all.0, rest.0), rest.1)

some_append : (ps qs : List Want) → AllSome ps → AllSome qs → AllSome (ps ++ qs)
some_append [] qs one two = two
some_append (p ∷ ps) qs one two = (one.0, some_append ps qs one.1 two)

some_pages : (ws : List ℕ) → AllSome (map page_want ws)
some_pages [] = tt
some_pages (a ∷ ws) = (omega arith, some_pages ws)

has_pages : (img : List ℕ) (ws : List ℕ) → HasAll img (map page_want ws) → (a : ℕ) → Contains ws a → page_at img 4 (a / 4096) ≢ 0
has_pages img [] all a (k, lt, is) = absurd (omega arith)
has_pages img (b ∷ ws) all a (zero, lt, is) = λ none. all.0 b (omega arith) (omega arith) (ap (λ v. page_at img 4 (v / (4096 * 512 ^ 0))) is ∙ none)
has_pages img (b ∷ ws) all a (suc k, lt, is) = has_pages img ws all.1 a (k, omega arith, is)

-- the wants without an old partition, and with one
wants_none : (f : Inode) (p : Partition) → f.level ≡ 15 → growth_wants f p ≡ header_wants p ++ []
wants_none f p is = rw (eq-eqb f.level 15 is) refl

wants_some : (f : Inode) (p : Partition) → f.level ≢ 15 → growth_wants f p ≡ header_wants p ++ move_wants f f.base p.base
wants_some f p not = rw (ne_eqb f.level 15 not) refl

module _ (f : Inode) (p : Partition) where
  some_wants : AllSome (growth_wants f p)
  some_wants = elim (Rattle.std.proofs.lemmas.Bool.cases_eq f.level 15) [
    | inl is ↦ subst AllSome (sym (wants_none f p is)) (some_append (header_wants p) [] (some_pages (header_words p)) tt)
    | inr not ↦ subst AllSome (sym (wants_some f p not)) (some_append (header_wants p) (move_wants f f.base p.base) (some_pages (header_words p)) (omega arith, (omega arith, tt)))
  ]

  -- once all is there
  module _ (img : List ℕ) (all : HasAll img (growth_wants f p)) where
    pub wanted_there : (d x : ℕ) → is_wanted (growth_wants f p) d x ≡ true → page_at img d x ≢ 0
    wanted_there = met_wanted img (growth_wants f p) some_wants all

    pub headers_there : (a : ℕ) → Contains (header_words p) a → page_at img 4 (a / 4096) ≢ 0
    headers_there = elim (Rattle.std.proofs.lemmas.Bool.cases_eq f.level 15) [
      | inl is ↦ has_pages img (header_words p) (has_append img (header_wants p) [] (subst (HasAll img) (wants_none f p is) all)).0
      | inr not ↦ has_pages img (header_words p) (has_append img (header_wants p) (move_wants f f.base p.base) (subst (HasAll img) (wants_some f p not) all)).0
    ]

    pub tables_there : f.level ≢ 15 → (Has img (table_want (f.level / 3 + 1) f.base)) × (Has img (table_want (f.level / 3 + 1) p.base))
    tables_there not =
        let moves = (has_append img (header_wants p) (move_wants f f.base p.base) (subst (HasAll img) (wants_some f p not) all)).1 in
        (moves.0, moves.1.0)

-- ---- what is not wanted

-- the bytes below a cell of a depth
abbrev pub reach : ℕ → ℕ
reach d = 4096 * 512 ^ (4 - d)

off_path : (d x height at : ℕ) → (d + height ≤ 4 → x * reach d ≤ at → at < (x + 1) * reach d → ⊥) → is_on_path d x (record { height = height; at = at; len = 1 }) ≡ false
off_path d x height at off = false_from_ne_true _ (λ on.
    let want : Want = record { height = height; at = at; len = 1 } in
    let p = Rattle.std.proofs.lemmas.Bool.and_parts (nat_le (d + height) 4) (nat_le (x * reach d + 1) (at + 1) && nat_lt at ((x + 1) * reach d)) on in
    let q = Rattle.std.proofs.lemmas.Bool.and_parts (nat_le (x * reach d + 1) (at + 1)) (nat_lt at ((x + 1) * reach d)) p.1 in
    off (Rattle.std.proofs.lemmas.Bool.leb-true (d + height) 4 p.0) (omega (arith, Rattle.std.proofs.lemmas.Bool.leb-true (x * reach d + 1) (at + 1) q.0)) (Rattle.std.proofs.lemmas.Bool.ltb-true at ((x + 1) * reach d) q.1))

unwanted_pages : (ws : List ℕ) (d x : ℕ) → ((a : ℕ) → Contains ws a → a < x * reach d) → is_wanted (map page_want ws) d x ≡ false
unwanted_pages [] d x past = refl
unwanted_pages (w ∷ ws) d x past =
    let here = off_path d x 0 w (λ deep from to. let lt = past w (0, omega arith, refl) in omega arith) in
    rw here (unwanted_pages ws d x (λ a on. past a (suc on.0, omega (arith, on.1), on.2)))

is_wanted-append : (ps qs : List Want) (d x : ℕ) → is_wanted ps d x ≡ false → is_wanted qs d x ≡ false → is_wanted (ps ++ qs) d x ≡ false
is_wanted-append [] qs d x one two = two
is_wanted-append (p ∷ ps) qs d x one two =
    elim (cases_Bool (is_on_path d x p)) [
      | inl on ↦ absurd (Rattle.std.proofs.lemmas.Bool.false≢true (sym (rw on at one)))
      | inr off ↦ rw off (is_wanted-append ps qs d x (rw off at one) two)
    ]

-- A cell past the headers, which is too low for the tables or lies before root slot 10.
pub unwanted : (f : Inode) (p : Partition) (d x : ℕ) → ((a : ℕ) → Contains (header_words p) a → a < 1099511627776) → 1099511627776 ≤ x * reach d
    → (f.level ≢ 15 → (4 < d + (f.level / 3 + 1)) ⊎ (((x + 1) * reach d ≤ f.base) × ((x + 1) * reach d ≤ p.base))) → is_wanted (growth_wants f p) d x ≡ false
unwanted f p d x low past off = elim (Rattle.std.proofs.lemmas.Bool.cases_eq f.level 15) [
  | inl is ↦ subst (λ (ws : List Want). is_wanted ws d x ≡ false) (sym (wants_none f p is)) (is_wanted-append (header_wants p) [] d x headers refl)
  | inr not ↦ subst (λ (ws : List Want). is_wanted ws d x ≡ false) (sym (wants_some f p not)) (is_wanted-append (header_wants p) (move_wants f f.base p.base) d x headers (
      let one = off_path d x (f.level / 3 + 1) f.base (λ deep from to. elim (off not) [ inl high ↦ omega arith | inr before ↦ omega (arith, before.0) ]) in
      let two = off_path d x (f.level / 3 + 1) p.base (λ deep from to. elim (off not) [ inl high ↦ omega arith | inr before ↦ omega (arith, before.1) ]) in
      rw (one, two) refl))
]
  where
    headers : is_wanted (map page_want (header_words p)) d x ≡ false
    headers = unwanted_pages (header_words p) d x (λ a on. let lt = low a on in omega arith)
