-- What the first create takes on the image that a format makes.
use Rattle.std.proofs.Common.{◌≡◌, ◌≢◌, ℕ, zero, suc, ◌+◌, ◌-◌, ◌*◌, ◌/◌, ◌^◌, ◌<◌, ◌≤◌, Bool, true, false, List, [], ◌∷◌, ◌++◌, map, length, Some, refl, sym, ap, subst, ◌∙◌, inl, inr, arith}
use Rattle.std.specs.Prelude.{◌==◌, ◌&&◌}
use Rattle.std.proofs.lemmas.Bool.{cases_eq, eq-eqb, ne_eqb}
use Rattle.ct_base.specs.Format.{IsFormatted}
use Rattle.ct_base.specs.declared.inode.Inode.{Inode}
use Rattle.ct_base.specs.Inode.{little, inode, Partition, nth, free_from, free_parts, live_parts, has_part}
use Rattle.ct_base.specs.Named.{Leads}
use Rattle.ct_base.specs.Objects.{Object}
use Rattle.ct_base.specs.Plan.{page_want, create_plan, first_of, next_part, level_from, free_number, first_free_number}
use Rattle.ct_base.specs.Published.{words_above}
use Rattle.ct_base.specs.Ranges.{header_at}
use Rattle.ct_base.specs.Slots.{free_slot, free_slot_from}
use Rattle.ct_base.specs.View.{view, inode_count}
use Rattle.ct_base.specs.Walk.{next, page_at}
use Rattle.ct_base.specs.Wants.{Want, is_wanted, missing_at, missing}
use Rattle.ct_tree.specs.Checks.{names}
use Rattle.ct_tree.specs.Lands.{files}
use Rattle.ct_tree.specs.Need.{HasNeed}
use Rattle.ct_tree.specs.Resolve.{parent}
use Rattle.ct_tree.specs.Step.{create}
use Rattle.ct_state.proofs.Bytes.{little-zero, objects-cases}
use Rattle.ct_state.proofs.Counted.{has}
use Rattle.ct_state.proofs.FormatCells.{side, made, known}
use Rattle.ct_state.proofs.FormatView.{format_bytes, fresh-zero, format_view}
use Rattle.ct_laws.specs.Plans.{first_part}
use Rattle.ct_laws.proofs.Cells.{cell, rises, pages_wanted, missing_listed}

-- the header words, the directory's page and an inode
abbrev places : ℕ → List ℕ
places at = words_above 0 (10 * 8 ^ 9) 10 ++ (10 * 2 ^ 39 ∷ at ∷ [])

-- those of them that have no page yet, the inode aside
abbrev absent_places : List ℕ
absent_places = words_above 0 (10 * 8 ^ 9) 9 ++ (10 * 2 ^ 39 ∷ [])

-- ---- the bytes

root_is : inode format_bytes 1 ≡ record { kind = 2; size = 0; base = 0; level = 15 }
unfolding little format_bytes
root_is = refl

none_at : (i : ℕ) → 2 ≤ i → i ≤ 1048576 → (inode format_bytes i).kind ≡ 0
none_at i from to = little-zero format_bytes (64 * i + 8 * 0) 8 (λ j lt. fresh-zero (64 * i + 8 * 0 + j) (λ is. omega arith) (λ is. omega arith) (λ le. omega arith))

no_part : (i : ℕ) → 1 ≤ i → i ≤ 1048576 → has_part (inode format_bytes i) ≡ false
no_part i from to = elim (cases_eq i 1) [
  | inl is ↦ ap (λ j. has_part (inode format_bytes j)) is ∙ ap has_part root_is
  | inr other ↦ rw (none_at i (omega arith) to) refl
]

no_parts : (n : ℕ) → n ≤ 1048576 → live_parts format_bytes n ≡ []
unfolding live_parts
no_parts zero le = refl
no_parts (suc n) le = rw (no_part (suc n) (omega arith) le) (no_parts n (omega arith))

first_head : (level j k : ℕ) → 1 ≤ k → first_of (free_from [] level j k) ≡ nth level j
unfolding free_from
first_head level j zero some = absurd (omega arith)
first_head level j (suc k) some = refl

next_is : (n : ℕ) → n ≤ 1048576 → next_part format_bytes n 0 ≡ first_part
next_is n le =
    ap (λ (ps : List Partition). first_of (free_parts ps 0)) (no_parts n le) ∙ first_head 0 (10 * 8 ^ (9 - 0)) (502 * 8 ^ (9 - 0)) (omega arith)

wants_are : (n number : ℕ) → n ≤ 1048576 → (create_plan format_bytes n (inode format_bytes 1) 0 number).wants ≡ map page_want (places (64 * number))
unfolding level_from words_above header_at
wants_are n number le = ap (λ (f : Inode). (create_plan format_bytes n f 0 number).wants) root_is ∙ simp (next_is n le) refl

root_used : ((inode format_bytes 1).kind == 0) ≡ false
root_used = ap (λ (f : Inode). f.kind == 0) root_is

number_is : (n : ℕ) → 2 ≤ n → first_free_number format_bytes n ≡ Some 2
unfolding free_number
number_is zero two = absurd (omega arith)
number_is (suc zero) two = absurd (omega arith)
number_is (suc (suc n)) two = rw (root_used, eq-eqb (inode format_bytes 2).kind 0 (none_at 2 (omega arith) (omega arith))) refl

-- ---- the cells

module _ {img : List ℕ} {pages n : ℕ} (f : IsFormatted img pages n) (many : 256 ≤ pages) where
  zero_1 : page_at img 1 0 ≡ 34
  unfolding page_at
  zero_1 = made f many 33 0 34 (omega arith) (omega arith) (omega arith) (f.words 16896 (omega arith) (omega arith))

  zero_2 : page_at img 2 0 ≡ 35
  unfolding page_at
  zero_2 = ap (λ t. next img t 0) zero_1 ∙ made f many 34 0 35 (omega arith) (omega arith) (omega arith) (f.words 17408 (omega arith) (omega arith))

  zero_3 : page_at img 3 0 ≡ 36
  unfolding page_at
  zero_3 = ap (λ t. next img t 0) zero_2 ∙ made f many 35 0 36 (omega arith) (omega arith) (omega arith) (f.words 17920 (omega arith) (omega arith))

  zero_4 : page_at img 4 0 ≡ 37
  unfolding page_at
  zero_4 = ap (λ t. next img t 0) zero_3 ∙ made f many 36 0 37 (omega arith) (omega arith) (omega arith) (f.words 18432 (omega arith) (omega arith))

  side_1 : page_at img 1 1 ≡ 38
  unfolding page_at
  side_1 = made f many 33 1 38 (omega arith) (omega arith) (omega arith) (f.words 16897 (omega arith) (omega arith))

  side_2 : page_at img 2 640 ≡ 39
  unfolding page_at
  side_2 = ap (λ t. next img t 128) side_1 ∙ made f many 38 128 39 (omega arith) (omega arith) (omega arith) (f.words 19584 (omega arith) (omega arith))

  side_3 : page_at img 3 327680 ≡ 40
  unfolding page_at
  side_3 = ap (λ t. next img t 0) side_2 ∙ made f many 39 0 40 (omega arith) (omega arith) (omega arith) (f.words 19968 (omega arith) (omega arith))

  side_4 : page_at img 4 167772160 ≡ 41
  unfolding page_at
  side_4 = ap (λ t. next img t 0) side_3 ∙ made f many 40 0 41 (omega arith) (omega arith) (omega arith) (f.words 20480 (omega arith) (omega arith))

  -- the wanted cells that are absent: those of two lists differ in the two that are there
  missed : (vs : List ℕ) (d : ℕ) (cells : List ℕ) → d ≤ 4 → page_at img d 0 ≢ 0 → page_at img d (side d) ≢ 0 → rises 0 (512 ^ d) cells ≡ true
      → has cells 0 ≡ false → has cells (side d) ≡ false → ((x : ℕ) → x ≢ 0 → x ≢ side d → has (map (cell d) vs) x ≡ has cells x)
      → missing_at img (map page_want vs) d ≡ length cells
  missed vs d cells le low high rise no_low no_high same =
      missing_listed img (map page_want vs) d cells rise (λ x. elim (cases_eq x 0) [
        | inl is ↦ ap (λ y. is_wanted (map page_want vs) d y && (page_at img d y == 0)) is ∙ there 0 low ∙ sym (ap (has cells) is ∙ no_low)
        | inr other ↦ elim (cases_eq x (side d)) [
          | inl is ↦ ap (λ y. is_wanted (map page_want vs) d y && (page_at img d y == 0)) is ∙ there (side d) high ∙ sym (ap (has cells) is ∙ no_high)
          | inr away ↦ ap (λ t. is_wanted (map page_want vs) d x && t) (eq-eqb _ 0 (absent x other away)) ∙ keep (is_wanted (map page_want vs) d x)
              ∙ pages_wanted vs d x le ∙ same x other away
        ]
      ])
    where
      keep : (b : Bool) → (b && true) ≡ b
      keep true = refl
      keep false = refl

      drop_it : (b : Bool) → (b && false) ≡ false
      drop_it true = refl
      drop_it false = refl

      there : (x : ℕ) → page_at img d x ≢ 0 → (is_wanted (map page_want vs) d x && (page_at img d x == 0)) ≡ false
      there x ne = ap (λ t. is_wanted (map page_want vs) d x && t) (ne_eqb _ 0 ne) ∙ drop_it (is_wanted (map page_want vs) d x)

      absent : (x : ℕ) → x ≢ 0 → x ≢ side d → page_at img d x ≡ 0
      absent x other away = elim (cases_eq (page_at img d x) 0) [
        | inl z ↦ z
        | inr ne ↦ elim (known f many d x le ne) [ inl k ↦ absurd (other k.1) | inr k ↦ absurd (away k.2) ]
      ]

  missed_1 : (at : ℕ) → at < 2097152 → missing_at img (map page_want (places at)) 1 ≡ 1
  unfolding words_above header_at
  missed_1 at low =
      let none : at / (4096 * 512 ^ (4 - 1)) ≡ 0 = omega arith in
      missed (places at) 1 (10 ∷ []) (omega arith) (omega (arith, zero_1)) (omega (arith, side_1)) refl refl refl (λ x other away. rw (none, ne_eqb x 0 other, ne_eqb x 1 away) refl)

  missed_2 : (at : ℕ) → at < 2097152 → missing_at img (map page_want (places at)) 2 ≡ 10
  unfolding words_above header_at
  missed_2 at low =
      let none : at / (4096 * 512 ^ (4 - 2)) ≡ 0 = omega arith in
      missed (places at) 2 (map (cell 2) absent_places) (omega arith) (omega (arith, zero_2)) (omega (arith, side_2)) refl refl refl (λ x other away. rw (none, ne_eqb x 0 other, ne_eqb x 640 away) refl)

  missed_3 : (at : ℕ) → at < 2097152 → missing_at img (map page_want (places at)) 3 ≡ 10
  unfolding words_above header_at
  missed_3 at low =
      let none : at / (4096 * 512 ^ (4 - 3)) ≡ 0 = omega arith in
      missed (places at) 3 (map (cell 3) absent_places) (omega arith) (omega (arith, zero_3)) (omega (arith, side_3)) refl refl refl (λ x other away. rw (none, ne_eqb x 0 other, ne_eqb x 327680 away) refl)

  -- the page of inode 2 is there
  there_4 : missing_at img (map page_want (places 128)) 4 ≡ 10
  unfolding words_above header_at
  there_4 =
      missed (places 128) 4 (map (cell 4) absent_places) (omega arith) (omega (arith, zero_4)) (omega (arith, side_4)) refl refl refl
      (λ x other away. rw (ne_eqb x 0 other, ne_eqb x 167772160 away) refl)

  -- that of inode 64 is not
  absent_4 : missing_at img (map page_want (places 4096)) 4 ≡ 11
  unfolding words_above header_at
  absent_4 =
      missed (places 4096) 4 (1 ∷ map (cell 4) absent_places) (omega arith) (omega (arith, zero_4)) (omega (arith, side_4)) refl refl refl
      (λ x other away. elim (cases_eq x 1) [
        | inl is ↦ ap (has (map (cell 4) (places 4096))) is ∙ sym (ap (has (1 ∷ map (cell 4) absent_places)) is)
        | inr more ↦ rw (ne_eqb x 1 more, ne_eqb x 167772160 away) refl
      ])

  missed_all : missing img (map page_want (places 128)) ≡ 31
  unfolding missing
  missed_all = omega (arith, missed_1 128 (omega arith), missed_2 128 (omega arith), missed_3 128 (omega arith), there_4)

  missed_more : missing img (map page_want (places 4096)) ≡ 32
  unfolding missing
  missed_more = omega (arith, missed_1 4096 (omega arith), missed_2 4096 (omega arith), missed_3 4096 (omega arith), absent_4)

-- the wants of a new object with a number, in the root
root_wants : (img : List ℕ) (pages inodes number : ℕ) → IsFormatted img pages inodes → 256 ≤ pages → inodes ≤ 1048576
    → (create_plan (view img) (inode_count img) (inode (view img) 1) 0 number).wants ≡ map page_want (places (64 * number))
root_wants img pages inodes number f many most =
    ap (λ b. (create_plan b (inode_count img) (inode b 1) 0 number).wants) (format_view f many)
    ∙ ap (λ n. (create_plan format_bytes n (inode format_bytes 1) 0 number).wants) f.inodes ∙ wants_are inodes number most

pub other_page : (img : List ℕ) (pages inodes : ℕ) → IsFormatted img pages inodes → 256 ≤ pages → inodes ≤ 1048576
    → missing img (create_plan (view img) (inode_count img) (inode (view img) 1) 0 64).wants ≡ 32
other_page img pages inodes f many most = ap (λ (w : List Want). missing img w) (root_wants img pages inodes 64 f many most) ∙ missed_more f many

pub first_create : (img : List ℕ) (pages inodes : ℕ) (path x : List ℕ) → IsFormatted img pages inodes → 256 ≤ pages → 2 ≤ inodes → inodes ≤ 1048576
    → names path ≡ x ∷ [] → HasNeed img (create path) 31
unfolding Leads free_slot_from
first_create img pages inodes path x f many two most named =
    (create_plan (view img) (inode_count img) (inode (view img) 1) 0 2, (1, 2, leads, number, plan), sym (ap (λ (w : List Want). missing img w) (root_wants img pages inodes 2 f many most) ∙ missed_all f many))
  where
    leads : Leads (files img) 1 (parent (names path)) 1
    leads = subst (λ (xs : List (List ℕ)). Leads (files img) 1 (parent xs) 1) (sym named) refl

    number : first_free_number (view img) (inode_count img) ≡ Some 2
    number = ap (λ b. first_free_number b (inode_count img)) (format_view f many) ∙ ap (first_free_number format_bytes) f.inodes ∙ number_is inodes two

    size : (files img 1).size ≡ 0
    size = elim (objects-cases (view img) (inode_count img) 1) [
      | inl k ↦ ap (λ (o : Object). o.size) k.1 ∙ ap (λ b. (inode b 1).size) (format_view f many) ∙ ap (λ (i : Inode). i.size) root_is
      | inr k ↦ ap (λ (o : Object). o.size) k.1
    ]

    slot : free_slot (files img 1) ≡ 0
    slot = ap (λ n. free_slot_from (files img 1) 0 (n / 256)) size

    plan : create_plan (view img) (inode_count img) (inode (view img) 1) 0 2 ≡ create_plan (view img) (inode_count img) (inode (view img) 1) (free_slot (files img 1)) 2
    plan = ap (λ o. create_plan (view img) (inode_count img) (inode (view img) 1) o 2) (sym slot)
