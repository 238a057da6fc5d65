-- What the first fill takes, on an image with one file.
use Rattle.std.proofs.Common.{◌≡◌, ◌≢◌, ℕ, zero, suc, ◌+◌, ◌-◌, ◌*◌, ◌/◌, ◌%◌, ◌^◌, ◌<◌, ◌≤◌, true, false, List, [], ◌∷◌, ◌++◌, map, refl, sym, ap, ◌∙◌, inl, inr, arith}
use Rattle.std.specs.Prelude.{◌==◌, ◌&&◌, nat_lt, nat_le, min}
use Rattle.std.proofs.lemmas.Bool.{eq-eqb, eqb-true, and_parts, and_from, or_cases, or_left, or_right, le-leb, lt-ltb, leb-true, ltb-true, false≢true}
use Rattle.ct_base.specs.declared.inode.Inode.{Inode}
use Rattle.ct_base.specs.Inode.{inode, Partition, nth, is_free, free_from, free_parts, live_parts}
use Rattle.ct_base.specs.Plan.{page_want, table_want, first_of, next_part, level_from, growth_wants, write_plan}
use Rattle.ct_base.specs.Published.{words_above}
use Rattle.ct_base.specs.Ranges.{header_at}
use Rattle.ct_base.specs.View.{view, inode_count}
use Rattle.ct_base.specs.Walk.{next, page_at}
use Rattle.ct_base.specs.Wants.{Want, count_below, is_on_path, is_wanted, missing_at, missing}
use Rattle.ct_image.proofs.MissingLess.{count_below-same}
use Rattle.ct_image.proofs.Steps.{next-zero, page_at-next}
use Rattle.ct_plan.specs.Few.{alike, few_write_wants, few_write_plan}
use Rattle.ct_plan.proofs.Plans.{few_write_missing}
use Rattle.ct_plan.proofs.Same.{is_wanted-append}
use Rattle.ct_plan.proofs.Short.{same_truth, on_table, on_pages, pages_on}
use Rattle.ct_tree.specs.Checks.{names}
use Rattle.ct_tree.specs.Need.{HasNeed, IsAt}
use Rattle.ct_tree.specs.Step.{fill}
use Rattle.ct_laws.specs.Plans.{first_part, OnlyRootIsPlaced}
use Rattle.ct_laws.proofs.Laid.{HavePages, header_pages, root_page}
use Rattle.ct_laws.proofs.Cells.{cell, page_on, count_range}

-- ---- the plan

-- the next partition of 4,096 pages
abbrev second_part : Partition
second_part = nth 4 (10 * 8 ^ 5 + 1)

abbrev no_part : Inode
no_part = record { kind = 0; size = 0; base = 0; level = 15 }

abbrev fill_wants : List Want
fill_wants = growth_wants no_part second_part ++ few_write_wants no_part 0 16777216 second_part

second_head : (ps : List Partition) (level j k : ℕ) → 2 ≤ k → is_free ps (nth level j) ≡ false → is_free ps (nth level (j + 1)) ≡ true
    → first_of (free_from ps level j k) ≡ nth level (j + 1)
unfolding free_from
second_head ps level j zero some taken free = absurd (omega arith)
second_head ps level j (suc zero) some taken free = absurd (omega arith)
second_head ps level j (suc (suc k)) some taken free = rw (taken, free) refl

next_is : (b : ℕ → ℕ) (count : ℕ) → live_parts b count ≡ first_part ∷ [] → next_part b count 4 ≡ second_part
next_is b count live =
    ap (λ (ps : List Partition). first_of (free_parts ps 4)) live
    ∙ second_head (first_part ∷ []) 4 (10 * 8 ^ (9 - 4)) (502 * 8 ^ (9 - 4)) (omega arith) refl refl

wants_are : (b : ℕ → ℕ) (count kind size base : ℕ) → live_parts b count ≡ first_part ∷ []
    → (few_write_plan b count (record { kind = kind; size = size; base = base; level = 15 }) 0 16777216).wants ≡ fill_wants
unfolding level_from alike words_above header_at
wants_are b count kind size base live = simp (next_is b count live) refl

same_file : (f : Inode) → f.level ≡ 15 → f ≡ record { kind = f.kind; size = f.size; base = f.base; level = 15 }
same_file f none = ap (λ k. record { kind = f.kind; size = f.size; base = f.base; level = k }) none

-- ---- what is there

-- the cells on the way to a page that is there
page_there : (img : List ℕ) (d v : ℕ) → 1 ≤ d → d ≤ 4 → page_at img 4 (v / 4096) ≢ 0 → page_at img d (cell d v) ≢ 0
page_there img d v from to ne = by d from to
  where
    above : (e x y : ℕ) → page_at img (suc e) x ≢ 0 → x / 512 ≡ y → page_at img e y ≢ 0
    above e x y some is none = some (page_at-next img e x ∙ ap (λ k. next img (page_at img e k) (x % 512)) is ∙ ap (λ t. next img t (x % 512)) none ∙ next-zero img (x % 512))

    three : page_at img 3 (v / (4096 * 512)) ≢ 0
    three = above 3 (v / 4096) (v / (4096 * 512)) ne (omega arith)

    two : page_at img 2 (v / (4096 * 512 ^ 2)) ≢ 0
    two = above 2 (v / (4096 * 512)) (v / (4096 * 512 ^ 2)) three (omega arith)

    one : page_at img 1 (v / (4096 * 512 ^ 3)) ≢ 0
    one = above 1 (v / (4096 * 512 ^ 2)) (v / (4096 * 512 ^ 3)) two (omega arith)

    by : (d : ℕ) → 1 ≤ d → d ≤ 4 → page_at img d (cell d v) ≢ 0
    by zero from to = absurd (omega arith)
    by (suc zero) from to = one
    by (suc (suc zero)) from to = two
    by (suc (suc (suc zero))) from to = three
    by (suc (suc (suc (suc zero)))) from to = ne
    by (suc (suc (suc (suc (suc d))))) from to = absurd (omega arith)

pages_there : (img : List ℕ) (vs : List ℕ) (d x : ℕ) → 1 ≤ d → d ≤ 4 → HavePages img vs → is_wanted (map page_want vs) d x ≡ true → page_at img d x ≢ 0
pages_there img [] d x from to have wanted = absurd (false≢true wanted)
pages_there img (v ∷ vs) d x from to have wanted = elim (or_cases (is_on_path d x (page_want v)) (is_wanted (map page_want vs) d x) wanted) [
  | inl on ↦
      let is = eqb-true x (cell d v) (sym (page_on d x v to) ∙ on) in
      λ z. page_there img d v from to have.0 (ap (page_at img d) (sym is) ∙ z)
  | inr more ↦ pages_there img vs d x from to have.1 more
]

-- the table of level 2 over the first gibibyte of slot 10
table_there : (img : List ℕ) (p d x : ℕ) → 10 * 2 ^ 27 ≤ p → p < 10 * 2 ^ 27 + 512 ^ 2 → 1 ≤ d → page_at img 4 (10 * 2 ^ 27) ≢ 0
    → is_on_path d x (table_want 2 (p * 4096)) ≡ true → page_at img d x ≢ 0
table_there img p d x low high from ne on = by d x from (on_table d x 2 p on).0 (on_table d x 2 p on).1.from (on_table d x 2 p on).1.to
  where
    by : (d x : ℕ) → 1 ≤ d → d + 2 ≤ 4 → x * 512 ^ (4 - d) ≤ p → p < x * 512 ^ (4 - d) + 512 ^ (4 - d) → page_at img d x ≢ 0
    by zero x from to first last = absurd (omega arith)
    by (suc zero) x from to first last = λ z. page_there img 1 (10 * 2 ^ 39) (omega arith) (omega arith) ne (ap (page_at img 1) (omega arith) ∙ z)
    by (suc (suc zero)) x from to first last = λ z. page_there img 2 (10 * 2 ^ 39) (omega arith) (omega arith) ne (ap (page_at img 2) (omega arith) ∙ z)
    by (suc (suc (suc d))) x from to first last = absurd (omega arith)

-- ---- what is absent

-- nothing lies below the lowest staging slot
none_staged : (img : List ℕ) → page_at img 1 2 ≡ 0 → (d x : ℕ) → 1 ≤ d → d ≤ 4 → 2 * 512 ^ (d - 1) ≤ x → x < 3 * 512 ^ (d - 1) → page_at img d x ≡ 0
none_staged img none d x from to low high = by d x from to low high
  where
    below : (e x y : ℕ) → x / 512 ≡ y → page_at img e y ≡ 0 → page_at img (suc e) x ≡ 0
    below e x y is gone = page_at-next img e x ∙ ap (λ k. next img (page_at img e k) (x % 512)) is ∙ ap (λ t. next img t (x % 512)) gone ∙ next-zero img (x % 512)

    two : (x : ℕ) → 2 * 512 ≤ x → x < 3 * 512 → page_at img 2 x ≡ 0
    two x low high = below 1 x 2 (omega arith) none

    three : (x : ℕ) → 2 * 512 ^ 2 ≤ x → x < 3 * 512 ^ 2 → page_at img 3 x ≡ 0
    three x low high = below 2 x (x / 512) refl (two (x / 512) (omega arith) (omega arith))

    four : (x : ℕ) → 2 * 512 ^ 3 ≤ x → x < 3 * 512 ^ 3 → page_at img 4 x ≡ 0
    four x low high = below 3 x (x / 512) refl (three (x / 512) (omega arith) (omega arith))

    by : (d x : ℕ) → 1 ≤ d → d ≤ 4 → 2 * 512 ^ (d - 1) ≤ x → x < 3 * 512 ^ (d - 1) → page_at img d x ≡ 0
    by zero x from to low high = absurd (omega arith)
    by (suc zero) x from to low high = ap (page_at img 1) (omega arith) ∙ none
    by (suc (suc zero)) x from to low high = two x low high
    by (suc (suc (suc zero))) x from to low high = three x low high
    by (suc (suc (suc (suc zero)))) x from to low high = four x low high
    by (suc (suc (suc (suc (suc d))))) x from to low high = absurd (omega arith)

-- the staged pages
abbrev staged : Want
staged = record { height = 0; at = (2 * 2 ^ 27 + 4096) * 4096; len = 4096 * 4096 }

-- the other wants
abbrev there_wants : List Want
there_wants = map page_want (words_above 4 (10 * 8 ^ 5 + 1) 6) ++ (table_want 2 ((10 * 2 ^ 27 + 4096) * 4096) ∷ table_want 2 ((10 * 2 ^ 27 + 4096) * 4096) ∷ table_want 2 ((10 * 2 ^ 27 + 8191) * 4096) ∷ [])

wants_split : fill_wants ≡ there_wants ++ (staged ∷ [])
unfolding alike words_above header_at
wants_split = refl

module _ {img : List ℕ} (h : OnlyRootIsPlaced img) (page : page_at img 4 (10 * 2 ^ 27) ≢ 0) where
  all_there : (d x : ℕ) → 1 ≤ d → d ≤ 4 → is_wanted there_wants d x ≡ true → page_at img d x ≢ 0
  unfolding words_above header_at
  all_there d x from to wanted =
      elim (or_cases (is_wanted (map page_want (words_above 4 (10 * 8 ^ 5 + 1) 6)) d x) (is_wanted tables d x)
      (sym (is_wanted-append (map page_want (words_above 4 (10 * 8 ^ 5 + 1) 6)) tables d x) ∙ wanted)) [
        | inl one ↦ pages_there img (words_above 4 (10 * 8 ^ 5 + 1) 6) d x from to (header_pages h).1.1.1.1 one
        | inr two ↦ elim (or_cases (is_on_path d x first) (is_wanted (first ∷ last ∷ []) d x) two) [
          | inl on ↦ table_there img (10 * 2 ^ 27 + 4096) d x (omega arith) (omega arith) from page on
          | inr more ↦ elim (or_cases (is_on_path d x first) (is_wanted (last ∷ []) d x) more) [
            | inl on ↦ table_there img (10 * 2 ^ 27 + 4096) d x (omega arith) (omega arith) from page on
            | inr end ↦ elim (or_cases (is_on_path d x last) false end) [
              | inl on ↦ table_there img (10 * 2 ^ 27 + 8191) d x (omega arith) (omega arith) from page on
              | inr none ↦ absurd (false≢true none)
            ]
          ]
        ]
      ]
    where
      first : Want
      first = table_want 2 ((10 * 2 ^ 27 + 4096) * 4096)

      last : Want
      last = table_want 2 ((10 * 2 ^ 27 + 8191) * 4096)

      tables : List Want
      tables = first ∷ first ∷ last ∷ []

  -- at each depth a range of cells is missing
  missing_range : (d lo hi : ℕ) → 1 ≤ d → d ≤ 4 → 2 * 512 ^ (d - 1) ≤ lo → hi ≤ 3 * 512 ^ (d - 1) → lo ≤ hi
      → ((x : ℕ) → x * 512 ^ (4 - d) < 2 * 2 ^ 27 + 8192 → 2 * 2 ^ 27 + 4096 < x * 512 ^ (4 - d) + 512 ^ (4 - d) → (lo ≤ x) × (x < hi))
      → ((x : ℕ) → lo ≤ x → x < hi → (x * 512 ^ (4 - d) < 2 * 2 ^ 27 + 8192) × (2 * 2 ^ 27 + 4096 < x * 512 ^ (4 - d) + 512 ^ (4 - d)))
      → missing_at img fill_wants d ≡ min (512 ^ d) hi - lo
  unfolding missing_at
  missing_range d lo hi from to low high le inside outside =
      ap (λ (ws : List Want). count_below (λ x. is_wanted ws d x && (page_at img d x == 0)) (512 ^ d)) wants_split
      ∙ count_below-same (λ x. nat_le lo x && nat_lt x hi) (λ x. is_wanted (there_wants ++ (staged ∷ [])) d x && (page_at img d x == 0)) (512 ^ d) (λ x lt.
      same_truth (is_wanted (there_wants ++ (staged ∷ [])) d x && (page_at img d x == 0)) (nat_le lo x && nat_lt x hi) (said x) (holds x))
      ∙ count_range lo hi (512 ^ d) le
    where
      said : (x : ℕ) → (is_wanted (there_wants ++ (staged ∷ [])) d x && (page_at img d x == 0)) ≡ true → (nat_le lo x && nat_lt x hi) ≡ true
      said x on =
          let both = and_parts (is_wanted (there_wants ++ (staged ∷ [])) d x) (page_at img d x == 0) on in
          elim (or_cases (is_wanted there_wants d x) (is_wanted (staged ∷ []) d x) (sym (is_wanted-append there_wants (staged ∷ []) d x) ∙ both.0)) [
            | inl there ↦ absurd (all_there d x from to there (eqb-true (page_at img d x) 0 both.1))
            | inr new ↦ elim (or_cases (is_on_path d x staged) false new) [
              | inl at ↦
                  let is = on_pages d x 0 (2 * 2 ^ 27 + 4096) 4096 at in
                  let range = inside x is.1 is.2 in
                  and_from (nat_le lo x) (nat_lt x hi) (le-leb lo x range.0) (lt-ltb x hi range.1)
              | inr none ↦ absurd (false≢true none)
            ]
          ]

      holds : (x : ℕ) → (nat_le lo x && nat_lt x hi) ≡ true → (is_wanted (there_wants ++ (staged ∷ [])) d x && (page_at img d x == 0)) ≡ true
      holds x on =
          let both = and_parts (nat_le lo x) (nat_lt x hi) on in
          let first = leb-true lo x both.0 in
          let past = ltb-true x hi both.1 in
          let range = outside x first past in
          let at = pages_on d x 0 (2 * 2 ^ 27 + 4096) 4096 (omega arith) range.0 range.1 in
          and_from (is_wanted (there_wants ++ (staged ∷ [])) d x) (page_at img d x == 0)
          (is_wanted-append there_wants (staged ∷ []) d x ∙ or_right (is_wanted there_wants d x) (is_wanted (staged ∷ []) d x) (or_left (is_on_path d x staged) false at))
          (eq-eqb (page_at img d x) 0 (none_staged img h.staging d x from to (omega arith) (omega arith)))

  missing_all : missing img fill_wants ≡ 4106
  unfolding missing
  missing_all =
      omega (
        arith,
        missing_range 1 2 3 (omega arith) (omega arith) (omega arith) (omega arith) (omega arith) (λ x low high. (omega arith, omega arith)) (λ x low high. (omega arith, omega arith)),
        missing_range 2 1024 1025 (omega arith) (omega arith) (omega arith) (omega arith) (omega arith) (λ x low high. (omega arith, omega arith)) (λ x low high. (omega arith, omega arith)),
        missing_range 3 524296 524304 (omega arith) (omega arith) (omega arith) (omega arith) (omega arith) (λ x low high. (omega arith, omega arith)) (λ x low high. (omega arith, omega arith)),
        missing_range 4 268439552 268443648 (omega arith) (omega arith) (omega arith) (omega arith) (omega arith) (λ x low high. (omega arith, omega arith)) (λ x low high. (omega arith, omega arith)),
      )

pub first_fill : (img : List ℕ) (i byte : ℕ) (path : List ℕ) → OnlyRootIsPlaced img → IsAt img path i → i ≢ 1 → (inode (view img) i).level ≡ 15
    → HasNeed img (fill path 0 16777216 byte) 4106
first_fill img i byte path h leads other none =
    let f : Inode = inode (view img) i in
    let few = few_write_missing img (view img) (inode_count img) (inode (view img) i) 0 16777216 (inl (omega (arith, none))) (omega arith) in
    let wants : (few_write_plan (view img) (inode_count img) (inode (view img) i) 0 16777216).wants ≡ fill_wants =
    ap (λ (g : Inode). (few_write_plan (view img) (inode_count img) g 0 16777216).wants) (same_file (inode (view img) i) none)
    ∙ wants_are (view img) (inode_count img) (inode (view img) i).kind (inode (view img) i).size (inode (view img) i).base h.live
    in
    (write_plan (view img) (inode_count img) (inode (view img) i) 0 16777216, (i, leads, refl), sym (few ∙ ap (λ (w : List Want). missing img w) wants ∙ missing_all h (root_page h (names path) i other leads)))
