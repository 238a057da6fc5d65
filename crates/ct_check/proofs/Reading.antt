-- One more entry, table or level is read.
use Rattle.ct_placing.proofs.Collecting.{parent_there}
use Rattle.std.proofs.Common.{◌≡◌, ◌≢◌, ◌⊎◌, ℕ, zero, suc, ◌+◌, ◌*◌, ◌/◌, ◌%◌, ◌<◌, ◌≤◌, Bool, true, false, List, length, refl, sym, ap, ◌∙◌, subst, inl, inr, arith}
use Rattle.std.specs.Prelude.{◌||◌}
use Rattle.std.proofs.lemmas.Bool.{cases_eq, cases_lt, both_ways}
use Rattle.ct_base.specs.Walk.{word, page_count, page_at, next}
use Rattle.ct_image.proofs.Steps.{page_at-next, page_at-entry, page_at-low, page_at-high}
use Rattle.ct_marks.specs.Marks.{is_marked, AreBlank, Marked}
use Rattle.ct_check.specs.Reading.{slot_of, IsRead, IsAt, IsLevel, Names, IsTwice, IsBad, Walked, Reads}

-- the cells whose entry is read between two words of the tables of a depth
pub record IsNew (img : List ℕ) (d b b' e y : ℕ) : Type 0 where
  pub at : e ≡ d
  pub from : b ≤ slot_of img e y
  pub to : slot_of img e y < b'

pub read_more : (img : List ℕ) (d b b' e y : ℕ) → b ≤ b' → IsRead img d b e y → IsRead img d b' e y
read_more img d b b' e y le (inl above) = inl above
read_more img d b b' e y le (inr here) = inr (here.0, omega (arith, here.1))

pub read_cases : (img : List ℕ) (d b b' e y : ℕ) → IsRead img d b' e y → IsRead img d b e y ⊎ IsNew img d b b' e y
read_cases img d b b' e y (inl above) = inl (inl above)
read_cases img d b b' e y (inr here) = elim (cases_lt (slot_of img e y) b) [
  | inl lt ↦ inl (inr (here.0, lt))
  | inr ge ↦ inr (record { at = here.0; from = ge; to = here.1 })
]

-- where the entries between are 0, what was read counts for them too
pub record AreEmpty (img : List ℕ) (d b b' : ℕ) : Type 0 where
  pub order : b ≤ b'
  pub none : (e y : ℕ) → IsNew img d b b' e y → page_at img e (y / 512) ≢ 0 → page_at img (suc e) y ≡ 0
  pub zero : (e y : ℕ) → IsNew img d b b' e y → page_at img e (y / 512) ≢ 0 → word img (slot_of img e y) ≡ 0

module _ {img : List ℕ} {d b b' : ℕ} (empty : AreEmpty img d b b') where
  new_none : (e y : ℕ) → IsNew img d b b' e y → page_at img (suc e) y ≢ 0 → ⊥
  new_none e y new ne = ne (empty.none e y new (parent_there img e y ne))

  names_skip : {marks : List ℕ} → Names img d b marks → Names img d b' marks
  names_skip names = record {
    size = names.size;
    from = names.from;
    all = λ y lt ne. elim (read_cases img d b b' d y (inr (refl, lt))) [
      | inl (inl above) ↦ absurd (omega arith)
      | inl (inr here) ↦ names.all y here.1 ne
      | inr new ↦ absurd (new_none d y new ne)
    ];
  }

  walked_skip : {pages : List ℕ} {twice : Bool} → Walked img d b pages twice → Walked img d b' pages twice
  walked_skip walked = record {
    size = walked.size;
    from = λ p is. let m = walked.from p is in record { depth = m.depth; cell = m.cell; read = read_more img d b b' m.depth m.cell empty.order m.read; is = m.is; there = m.there };
    all = λ e y read ne. elim (read_cases img d b b' e y read) [ inl old ↦ walked.all e y old ne | inr new ↦ absurd (new_none e y new ne) ];
    good = λ e y read there none. elim (read_cases img d b b' e y read) [ inl old ↦ walked.good e y old there none | inr new ↦ empty.zero e y new there ];
    again = walked.again;
    once = λ not e y f z one two ne same. elim (read_cases img d b b' e y one) [
      | inr new ↦ absurd (new_none e y new ne)
      | inl old ↦ elim (read_cases img d b b' f z two) [
        | inr new ↦ absurd (new_none f z new (λ none. ne (same ∙ none)))
        | inl old_too ↦ walked.once not e y f z old old_too ne same
      ]
    ];
  }

  pub reads_skip : {marks pages : List ℕ} {twice : Bool} → Reads img d b marks pages twice → Reads img d b' marks pages twice
  reads_skip reads = record { deep = reads.deep; names = names_skip reads.names; walked = walked_skip reads.walked }

-- the cells of one entry of a table
module _ {img : List ℕ} {d b b' : ℕ} (t i : ℕ) (low : i < 512) (b_is : b ≡ t * 512 + i) (b'_is : b' ≡ t * 512 + i + 1) where
  pub new_table : (e y : ℕ) → IsNew img d b b' e y → page_at img e (y / 512) ≡ t
  new_table e y new = omega (arith, new.from, new.to)

  pub new_page : (e y : ℕ) → IsNew img d b b' e y → page_at img (suc e) y ≡ next img t i
  new_page e y new =
      let j : y % 512 ≡ i = omega (arith, new.from, new.to) in
      page_at-next img e y ∙ ap (λ k. next img k (y % 512)) (new_table e y new) ∙ ap (next img t) j

  new_word : (e y : ℕ) → IsNew img d b b' e y → slot_of img e y ≡ t * 512 + i
  new_word e y new = omega (arith, new.from, new.to)

  -- an entry that is 0
  pub empty_entry : next img t i ≡ 0 → word img (t * 512 + i) ≡ 0 → AreEmpty img d b b'
  empty_entry none clear = record {
    order = omega arith;
    none = λ e y new there. new_page e y new ∙ none;
    zero = λ e y new there. ap (word img) (new_word e y new) ∙ clear;
  }

  -- an entry that names a page
  module _ (table : IsAt img d t) (ne : next img t i ≢ 0) where
    cell_is : page_at img (suc d) (table.cell * 512 + i) ≡ next img t i
    cell_is = page_at-entry img d table.cell i low ∙ ap (λ k. next img k i) table.is

    cell_slot : slot_of img d (table.cell * 512 + i) ≡ t * 512 + i
    cell_slot =
        let q : (table.cell * 512 + i) / 512 ≡ table.cell = omega arith in
        let r : (table.cell * 512 + i) % 512 ≡ i = omega arith in
        ap (λ k. page_at img d k * 512 + (table.cell * 512 + i) % 512) q ∙ ap (λ k. k * 512 + (table.cell * 512 + i) % 512) table.is ∙ ap (λ k. t * 512 + k) r

    kept : {old new : List ℕ} → Marked (next img t i) old new → (q : ℕ) → is_marked old q ≡ true → is_marked new q ≡ true
    kept marked q is = elim (cases_eq q (next img t i)) [
      | inl here ↦ ap (is_marked _) here ∙ marked.here
      | inr other ↦ marked.others q other ∙ is
    ]

    names_found : {old new : List ℕ} → Marked (next img t i) old new → Names img d b old → Names img d b' new
    names_found {old} {new} marked names = record {
      size = marked.length ∙ names.size;
      from = λ p is. elim (cases_eq p (next img t i)) [
        | inl here ↦ record { cell = table.cell * 512 + i; is = cell_is ∙ sym here; there = λ none. ne (sym here ∙ none) }
        | inr other ↦ names.from p (sym (marked.others p other) ∙ is)
      ];
      all = λ y lt there. elim (read_cases img d b b' d y (inr (refl, lt))) [
        | inl (inl above) ↦ absurd (omega arith)
        | inl (inr here) ↦ kept marked _ (names.all y here.1 there)
        | inr fresh ↦ ap (is_marked new) (new_page d y fresh) ∙ marked.here
      ];
    }

    walked_found : {old new : List ℕ} {was is : Bool} → d ≤ 3 → Marked (next img t i) old new → is ≡ (was || is_marked old (next img t i)) → Walked img d b old was → Walked img d b' new is
    walked_found {old} {new} {was} {is} deep marked is_or walked = record {
      size = marked.length ∙ walked.size;
      from = λ p on. elim (cases_eq p (next img t i)) [
        | inl here ↦ record { depth = d; cell = table.cell * 512 + i; read = inr (refl, omega (arith, cell_slot)); is = cell_is ∙ sym here; there = λ none. ne (sym here ∙ none) }
        | inr other ↦
            let m = walked.from p (sym (marked.others p other) ∙ on) in
            record { depth = m.depth; cell = m.cell; read = read_more img d b b' m.depth m.cell (omega arith) m.read; is = m.is; there = m.there }
      ];
      all = λ e y read there. elim (read_cases img d b b' e y read) [
        | inl before ↦ kept marked _ (walked.all e y before there)
        | inr fresh ↦ ap (is_marked new) (new_page e y fresh) ∙ marked.here
      ];
      good = λ e y read there none. elim (read_cases img d b b' e y read) [
        | inl before ↦ walked.good e y before there none
        | inr fresh ↦ absurd (ne (sym (new_page e y fresh) ∙ none))
      ];
      again = λ on. either was (is_marked old (next img t i)) refl refl (sym is_or ∙ on);
      once = λ off e y f z one two there same.
          let both = neither was (is_marked old (next img t i)) (sym is_or ∙ off) in
          elim (read_cases img d b b' e y one) [
            | inl before ↦ elim (read_cases img d b b' f z two) [
              | inl before_too ↦ walked.once both.0 e y f z before before_too there same
              | inr fresh ↦ absurd (both_ways _ both.1 (ap (is_marked old) (sym (same ∙ new_page f z fresh)) ∙ walked.all e y before there))
            ]
            | inr fresh ↦ elim (read_cases img d b b' f z two) [
              | inl before ↦ absurd (both_ways _ both.1 (ap (is_marked old) (sym (sym same ∙ new_page e y fresh)) ∙ walked.all f z before (λ none. there (same ∙ none))))
              | inr fresh_too ↦ (fresh.at ∙ sym fresh_too.at, new_word e y fresh ∙ sym (new_word f z fresh_too))
            ]
          ];
    }
      where
        neither : (p q : Bool) → (p || q) ≡ false → (p ≡ false) × (q ≡ false)
        neither true q e = cc
        neither false q e = (refl, e)

        met_again : is_marked old (next img t i) ≡ true → IsTwice img
        met_again on =
            let m = walked.from (next img t i) on in
            record {
              depth = suc m.depth;
              cell = m.cell;
              depth_too = suc d;
              cell_too = table.cell * 512 + i;
              deep = elim m.read [ inl above ↦ omega arith | inr here ↦ omega (arith, here.0) ];
              deep_too = omega arith;
              there = λ none. m.there (sym m.is ∙ none);
              same = m.is ∙ sym cell_is;
              apart = λ same_depth same_cell.
                  elim m.read [
                    | inl above ↦ omega arith
                    | inr here ↦ omega (arith, here.1, ap (λ k. slot_of img k m.cell) here.0, ap (slot_of img d) same_cell, cell_slot)
                  ];
            }

        either : (p q : Bool) → p ≡ was → q ≡ is_marked old (next img t i) → (p || q) ≡ true → IsTwice img
        either true q p_is q_is on = walked.again (sym p_is)
        either false q p_is q_is on = met_again (sym q_is ∙ on)

    pub reads_found : {marks marks' old new : List ℕ} {was is : Bool} → Marked (next img t i) marks marks' → Marked (next img t i) old new → is ≡ (was || is_marked old (next img t i))
        → Reads img d b marks old was → Reads img d b' marks' new is
    reads_found marked met is_or reads =
        record { deep = reads.deep; names = names_found marked reads.names; walked = walked_found reads.deep met is_or reads.walked }

-- nor have the pages below the root
pub empty_head : {img : List ℕ} {d : ℕ} → AreEmpty img d 0 (33 * 512)
empty_head {img} {d} = record {
  order = omega arith;
  none = λ e y new there. absurd (out e y new there);
  zero = λ e y new there. absurd (out e y new there);
}
  where
    out : (e y : ℕ) → IsNew img d 0 (33 * 512) e y → page_at img e (y / 512) ≢ 0 → ⊥
    out e y new there = omega (arith, new.to, page_at-low img e (y / 512) there)

-- before a level is read
pub reads_start : {img : List ℕ} {d : ℕ} {marks pages : List ℕ} {twice : Bool} → d ≤ 3 → length marks ≡ page_count img → AreBlank marks → Walked img d 0 pages twice → Reads img d 0 marks pages twice
reads_start deep size blank walked = record {
  deep = deep;
  names = record { size = size; from = λ p on. absurd (both_ways _ (blank p) on); all = λ y lt there. absurd (omega arith) };
  walked = walked;
}

-- after a level is read
module _ {img : List ℕ} {d : ℕ} {marks pages : List ℕ} {twice : Bool} (some : 34 ≤ page_count img) (reads : Reads img d (512 * page_count img) marks pages twice) where
  slot_low : (e y : ℕ) → slot_of img e y < 512 * page_count img
  slot_low e y = omega (arith, page_at-high img e (y / 512) some)

  pub level_read : IsLevel img (suc d) marks
  level_read = record { size = reads.names.size; from = reads.names.from; all = λ y there. reads.names.all y (slot_low d y) there }

  read_all : (e y : ℕ) → IsRead img (suc d) 0 e y → IsRead img d (512 * page_count img) e y
  read_all e y (inl above) = elim (cases_eq e d) [ inl here ↦ inr (here, slot_low e y) | inr other ↦ inl (omega arith) ]
  read_all e y (inr here) = absurd (omega (arith, here.1))

  read_now : (e y : ℕ) → IsRead img d (512 * page_count img) e y → IsRead img (suc d) 0 e y
  read_now e y (inl above) = inl (omega arith)
  read_now e y (inr here) = inl (omega (arith, here.0))

  pub walked_read : Walked img (suc d) 0 pages twice
  walked_read =
      let w = reads.walked in
      record {
        size = w.size;
        from = λ p on. let m = w.from p on in record { depth = m.depth; cell = m.cell; read = read_now m.depth m.cell m.read; is = m.is; there = m.there };
        all = λ e y read. w.all e y (read_all e y read);
        good = λ e y read. w.good e y (read_all e y read);
        again = w.again;
        once = λ off e y f z one two. w.once off e y f z (read_all e y one) (read_all f z two);
      }

-- before any level is read
pub root_level : (img marks new : List ℕ) → length marks ≡ page_count img → AreBlank marks → Marked 33 marks new → IsLevel img 0 new
unfolding page_at
root_level img marks new size blank marked = record {
  size = marked.length ∙ size;
  from = λ p on. elim (cases_eq p 33) [
    | inl here ↦ record { cell = 0; is = sym here; there = omega arith }
    | inr other ↦ absurd (both_ways _ (marked.others p other ∙ blank p) on)
  ];
  all = λ y. root y;
}
  where
    root : (y : ℕ) → page_at img 0 y ≢ 0 → is_marked new (page_at img 0 y) ≡ true
    root zero there = marked.here
    root (suc y) there = absurd (there refl)

pub walked_start : (img pages : List ℕ) → length pages ≡ page_count img → AreBlank pages → Walked img 0 0 pages false
walked_start img pages size blank = record {
  size = size;
  from = λ p on. absurd (both_ways _ (blank p) on);
  all = λ e y read there. absurd (unread e y read);
  good = λ e y read there none. absurd (unread e y read);
  again = λ on. cc;
  once = λ off e y f z one two there same. absurd (unread e y one);
}
  where
    unread : (e y : ℕ) → IsRead img 0 0 e y → ⊥
    unread e y (inl above) = omega arith
    unread e y (inr here) = omega (arith, here.1)

-- an entry that is neither 0 nor names a page
pub bad_entry : {img : List ℕ} {d t i : ℕ} → i < 512 → d ≤ 3 → IsAt img d t → next img t i ≡ 0 → word img (t * 512 + i) ≢ 0 → IsBad img
bad_entry {img} {d} {t} {i} low deep at none set = record {
  depth = d;
  cell = at.cell;
  entry = i;
  deep = deep;
  low = low;
  there = λ gone. at.there (sym at.is ∙ gone);
  none = ap (λ k. next img k i) at.is ∙ none;
  set = λ gone. set (ap (λ k. word img (k * 512 + i)) (sym at.is) ∙ gone);
}

pub reads_move : {img : List ℕ} {d b b' : ℕ} {marks pages : List ℕ} {twice : Bool} → b ≡ b' → Reads img d b marks pages twice → Reads img d b' marks pages twice
reads_move {img} {d} {marks = marks} {pages = pages} {twice = twice} e reads = subst (λ k. Reads img d k marks pages twice) e reads
