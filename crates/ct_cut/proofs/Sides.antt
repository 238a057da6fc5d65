-- Tables of root slot 2 and the page on the edge: what is asked for, and what is there once it is made.
use Rattle.std.proofs.Common.{◌≡◌, ◌≢◌, ℕ, ◌+◌, ◌-◌, ◌*◌, ◌/◌, ◌^◌, ◌<◌, ◌≤◌, true, false, List, [], ◌∷◌, ◌++◌, length, sym, ap, subst, ◌∙◌, inl, inr, arith}
use Rattle.std.specs.Prelude.{◌||◌, if◌then◌else◌}
use Rattle.std.proofs.Math.Bool.{or-false}
use Rattle.std.proofs.lemmas.Bool.{cases_Bool, cases_lt, false≢true, le-ltb, lt-ltb, or_left, or_right}
use Rattle.ct_base.specs.Plan.{page_want, table_want}
use Rattle.ct_base.specs.Walk.{page_at, word, AreTables}
use Rattle.ct_base.specs.Wants.{Want, is_on_path, is_wanted, missing}
use Rattle.ct_frames.specs.Agrees.{Agrees}
use Rattle.ct_frames.specs.Free.{FreePages}
use Rattle.ct_image.proofs.MissingLess.{missing_le, missing_none}
use Rattle.ct_image.proofs.MissingSum.{is_wanted-append}
use Rattle.ct_plan.proofs.Blocks.{alike-le}
use Rattle.ct_plan.specs.Few.{AreMet, edge}
use Rattle.ct_stage.proofs.Steps.{empty_way, way_four}
use Rattle.ct_stage.specs.Staged.{Makes}
use Rattle.ct_walk.proofs.Filling.{covers_of}
use Rattle.ct_walk.proofs.OneWay.{covers_page, path_is, way_all}
use Rattle.ct_walk.specs.Growth.{Covers}
use Rattle.ct_walk.specs.Has.{at_one}
use Rattle.ct_walk.specs.Pages.{on_way}
use Rattle.ct_write.proofs.Paths.{higher_path}
use Rattle.ct_cut.specs.Sides.{edge_page, side_tables, staged_wants}

-- an edge is a height from 1 to 4
edge_range : (x : ℕ) → (1 ≤ edge 3 x) × (edge 3 x ≤ 4)
edge_range x = (omega arith, omega (arith, alike-le 3 x 0))

abbrev first_table : ℕ → Want
first_table b = table_want (edge 3 b) (b * 4096)

abbrev last_table : ℕ → ℕ → Want
last_table b n = table_want (edge 3 (b + n)) ((b + n - 1) * 4096)

pub first_covered : (b n : ℕ) → Covers (side_tables b n) b (4 - edge 3 b)
first_covered b n =
    let page : b * 4096 / 4096 ≡ b = omega arith in
    subst (λ (p : ℕ). Covers (side_tables b n) p (4 - edge 3 b)) page
    (covers_of (first_table b) (side_tables b n) (b * 4096) (λ d x on. or_left _ _ on) (omega arith) (omega arith))

pub last_covered : (b n : ℕ) → Covers (side_tables b n) (b + n - 1) (4 - edge 3 (b + n))
last_covered b n =
    let page : (b + n - 1) * 4096 / 4096 ≡ b + n - 1 = omega arith in
    subst (λ (p : ℕ). Covers (side_tables b n) p (4 - edge 3 (b + n))) page
    (covers_of (last_table b n) (side_tables b n) ((b + n - 1) * 4096) (λ d x on. or_right _ _ (or_left _ _ on)) (omega arith) (omega arith))

-- pages for one table of them
pub first_room : (img : List ℕ) (b n e free : ℕ) → e ≡ edge 3 b → missing img (side_tables b n) ≤ free → missing img (at_one (4 - (4 - e)) (b * 4096)) ≤ free
first_room img b n e free is room =
    let back : 4 - (4 - e) ≡ edge 3 b = omega (arith, is, (edge_range b).1) in
    let fewer = missing_le img (at_one (edge 3 b) (b * 4096)) (side_tables b n) (λ d x wanted. or_left _ _ (sym (or-false _) ∙ wanted)) in
    omega (arith, ap (λ h. missing img (at_one h (b * 4096))) back, fewer, room)

pub last_room : (img : List ℕ) (b n e free : ℕ) → e ≡ edge 3 (b + n) → missing img (side_tables b n) ≤ free → missing img (at_one (4 - (4 - e)) ((b + n - 1) * 4096)) ≤ free
last_room img b n e free is room =
    let back : 4 - (4 - e) ≡ edge 3 (b + n) = omega (arith, is, (edge_range (b + n)).1) in
    let fewer = missing_le img (at_one (edge 3 (b + n)) ((b + n - 1) * 4096)) (side_tables b n) (λ d x wanted. or_right _ _ (or_left _ _ (sym (or-false _) ∙ wanted))) in
    omega (arith, ap (λ h. missing img (at_one h ((b + n - 1) * 4096))) back, fewer, room)

-- and as many are left as are missing still
pub room_left : {wants : List Want} {old new : List ℕ} {before after : FreePages} → Makes wants old new before after → missing old wants ≤ length before.free → missing new wants ≤ length after.free
room_left makes room = omega (arith, makes.taken, room)

-- work that makes what is on a way makes tables
pub tables_after : {old new : List ℕ} {before after : FreePages} (n end : ℕ) → end ≤ 4 → ((wants : List Want) → Covers wants n end → Makes wants old new before after) → AreTables new × Agrees new after
tables_after n end le makes = let own = makes (at_one (4 - end) (n * 4096)) (covers_page n end le) in (own.tables, own.agrees)

-- what was on a way is there still
pub way_stays : {wants : List Want} {old new : List ℕ} {before after : FreePages} → Makes wants old new before after → (n end : ℕ) → end ≤ 4 → on_way old n end ≢ 0 → on_way new n end ≢ 0
way_stays makes n end le there none = there (sym (makes.walks end (n / 512 ^ (4 - end)) le there) ∙ none)

-- ---- the page on the edge

pub edge_some : (a b from : ℕ) → a * 4096 < from → edge_page a b from ≡ page_want (b * 4096) ∷ []
edge_some a b from lt = ap (λ t. if t then page_want (b * 4096) ∷ [] else []) (lt-ltb (a * 4096) from lt)

pub edge_none : (a b from : ℕ) → from ≤ a * 4096 → edge_page a b from ≡ []
edge_none a b from le = ap (λ t. if t then page_want (b * 4096) ∷ [] else []) (le-ltb (a * 4096) from le)

-- only one virtual page is asked for
edge_is : (a b from d x : ℕ) → is_wanted (edge_page a b from) d x ≡ true → (a * 4096 < from) × ((d ≤ 4) × (x ≡ b / 512 ^ (4 - d)))
edge_is a b from d x wanted = elim (cases_lt (a * 4096) from) [
  | inr le ↦ absurd (false≢true (sym (ap (λ (l : List Want). is_wanted l d x) (edge_none a b from le)) ∙ wanted))
  | inl lt ↦
      let page : b * 4096 / 4096 ≡ b = omega arith in
      let on = sym (ap (λ (l : List Want). is_wanted l d x) (edge_some a b from lt)) ∙ wanted in
      let is = path_is 0 (b * 4096) d x (sym (or-false _) ∙ on) in
      (lt, (omega (arith, is.0), is.1 ∙ ap (λ k. k / 512 ^ (4 - d)) page))
]

pub left_covered : (xs ys : List Want) (n end : ℕ) → Covers xs n end → Covers (xs ++ ys) n end
left_covered xs ys n end covers d from to = is_wanted-append xs ys d (n / 512 ^ (4 - d)) ∙ or_left _ _ (covers d from to)

pub edge_covered : (a b n from : ℕ) → a * 4096 < from → Covers (staged_wants a b n from) b 4
edge_covered a b n from lt d low high =
    let one = covers_page b 4 (omega arith) d low high in
    is_wanted-append (side_tables b n) (edge_page a b from) d (b / 512 ^ (4 - d))
    ∙ or_right _ _ (ap (λ (l : List Want). is_wanted l d (b / 512 ^ (4 - d))) (edge_some a b from lt) ∙ one)

pub tables_part : (img : List ℕ) (a b n from : ℕ) → missing img (side_tables b n) ≤ missing img (staged_wants a b n from)
tables_part img a b n from = missing_le img (side_tables b n) (staged_wants a b n from) (λ d x wanted. is_wanted-append (side_tables b n) (edge_page a b from) d x ∙ or_left _ _ wanted)

pub edge_part : (img : List ℕ) (a b n from : ℕ) → missing img (edge_page a b from) ≤ missing img (staged_wants a b n from)
edge_part img a b n from = missing_le img (edge_page a b from) (staged_wants a b n from) (λ d x wanted. is_wanted-append (side_tables b n) (edge_page a b from) d x ∙ or_right _ _ wanted)

-- ---- virtual pages

no_tables : (b n x : ℕ) → is_wanted (side_tables b n) 4 x ≡ false
no_tables b n x =
    let one : is_on_path 4 x (first_table b) ≡ false = higher_path 4 x (first_table b) (omega (arith, (edge_range b).0)) in
    let two : is_on_path 4 x (last_table b n) ≡ false = higher_path 4 x (last_table b n) (omega (arith, (edge_range (b + n)).0)) in
    ap (λ t. t || (is_on_path 4 x (last_table b n) || false)) one ∙ ap (λ t. t || false) two

slot_empty : (img : List ℕ) (q : ℕ) → word img 16898 ≡ 0 → q / 2 ^ 27 ≡ 2 → page_at img 4 q ≡ 0
slot_empty img q empty slot = sym (way_four img q) ∙ empty_way img q 3 empty (omega (arith, slot)) slot (omega arith)

-- with the tables alone none is mapped
pub tables_absent : {old new : List ℕ} {before after : FreePages} (b n q : ℕ) → word old 16898 ≡ 0 → Makes (side_tables b n) old new before after → q / 2 ^ 27 ≡ 2 → page_at new 4 q ≡ 0
tables_absent {old} b n q empty makes slot = makes.cells 4 q (omega arith) (no_tables b n q) ∙ slot_empty old q empty slot

-- and in the end only that on the edge
pub edge_alone : {old new : List ℕ} {before after : FreePages} (a b n from q : ℕ) → word old 16898 ≡ 0 → Makes (staged_wants a b n from) old new before after → q / 2 ^ 27 ≡ 2 → (a * 4096 < from → q ≢ b) → page_at new 4 q ≡ 0
edge_alone {old} a b n from q empty makes slot away = makes.cells 4 q (omega arith) unwanted ∙ slot_empty old q empty slot
  where
    unwanted : is_wanted (staged_wants a b n from) 4 q ≡ false
    unwanted = elim (cases_Bool (is_wanted (edge_page a b from) 4 q)) [
      | inl on ↦
          let is = edge_is a b from 4 q on in
          absurd (away is.0 (omega (arith, is.1)))
      | inr off ↦ is_wanted-append (side_tables b n) (edge_page a b from) 4 q ∙ ap (λ t. t || is_wanted (edge_page a b from) 4 q) (no_tables b n q) ∙ off
    ]

-- ---- all is there

pub all_there : (new : List ℕ) (a b n from : ℕ) → on_way new b (4 - edge 3 b) ≢ 0 → on_way new (b + n - 1) (4 - edge 3 (b + n)) ≢ 0 → (a * 4096 < from → page_at new 4 b ≢ 0) → AreMet new (staged_wants a b n from)
all_there new a b n from first last page d x low high wanted = elim (cases_Bool (is_wanted (edge_page a b from) d x)) [
  | inl on ↦
      let is = edge_is a b from d x on in
      λ none. way_all new b 4 d is.1.0 (omega arith) (λ z. page is.0 (sym (way_four new b) ∙ z)) (ap (page_at new d) (sym is.1.1) ∙ none)
  | inr off ↦
      let side : (is_wanted (side_tables b n) d x || is_wanted (edge_page a b from) d x) ≡ true = sym (is_wanted-append (side_tables b n) (edge_page a b from) d x) ∙ wanted in
      let tables : is_wanted (side_tables b n) d x ≡ true = sym (or-false _) ∙ sym (ap (λ t. is_wanted (side_tables b n) d x || t) off) ∙ side in
      elim (cases_Bool (is_on_path d x (first_table b))) [
        | inl one ↦ at b (edge 3 b) (edge_range b).1 first one
        | inr not_first ↦ at (b + n - 1) (edge 3 (b + n)) (edge_range (b + n)).1 last (sym (or-false _) ∙ sym (ap (λ t. t || (is_on_path d x (last_table b n) || false)) not_first) ∙ tables)
      ]
]
  where
    at : (p h : ℕ) → h ≤ 4 → on_way new p (4 - h) ≢ 0 → is_on_path d x (table_want h (p * 4096)) ≡ true → page_at new d x ≢ 0
    at p h le there on none =
        let page : p * 4096 / 4096 ≡ p = omega arith in
        let is = path_is h (p * 4096) d x on in
        way_all new p (4 - h) d (omega (arith, is.0)) (omega arith) there (ap (page_at new d) (sym (is.1 ∙ ap (λ k. k / 512 ^ (4 - d)) page)) ∙ none)

pub all_taken : {old new : List ℕ} {wants : List Want} {before after : FreePages} → Makes wants old new before after → AreMet new wants → length after.free + missing old wants ≡ length before.free
all_taken {new = new} {wants = wants} makes met = let none = missing_none new wants (λ d x from to wanted. met d x from to wanted) in omega (arith, makes.taken, none)

-- work that makes the tables is a part of what makes all
pub with_edge : {old new : List ℕ} {before after : FreePages} (a b n from : ℕ) → ((wants : List Want) → Covers wants b (4 - edge 3 b) → Covers wants (b + n - 1) (4 - edge 3 (b + n)) → Makes wants old new before after) → Makes (staged_wants a b n from) old new before after
with_edge a b n from makes =
    makes (staged_wants a b n from) (left_covered (side_tables b n) (edge_page a b from) b (4 - edge 3 b) (first_covered b n))
    (left_covered (side_tables b n) (edge_page a b from) (b + n - 1) (4 - edge 3 (b + n)) (last_covered b n))
