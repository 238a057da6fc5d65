-- A root slot is cut off.
use Rattle.std.proofs.Common.{◌≡◌, ◌≢◌, ℕ, ◌+◌, ◌-◌, ◌*◌, ◌/◌, ◌%◌, ◌^◌, ◌<◌, ◌≤◌, List, length, set, refl, sym, ap, subst, ◌∙◌, ◌⊎◌, inl, inr, arith}
use Rattle.std.specs.Prelude.{Contains, ◌↔◌}
use Rattle.std.proofs.lemmas.Bool.{cases_Bool}
use Rattle.std.proofs.lemmas.Nat.{div-mul-add}
use Rattle.std.proofs.Math.Nat.{div-add-mod, mod-lt, one-le-pow}
use Rattle.ct_base.specs.View.{view, is_seen}
use Rattle.ct_image.proofs.Seen.{cut_byte}
use Rattle.std.proofs.lemmas.List.{get_or-set_same, get_or-set_other, length-set}
use Rattle.ct_base.specs.Walk.{word, next, named_page, page_at, page_count, IsUnder, IsSubtree, AreTables}
use Rattle.ct_image.proofs.Steps.{page_at-root, page_at-entry, next-at, named_page-bounds, named_page-zero}
use Rattle.ct_image.proofs.Below.{page_at-sub, subtree_at, subtree_same, below-same, below-range, below-past, page_at-below}
use Rattle.ct_image.proofs.Cut.{Cuts, OnWay, cut_at, tables_new, same_count, on_way_below, on_way_parts}
use Rattle.ct_frames.specs.Free.{FreePages}
use Rattle.ct_frames.specs.Agrees.{Agrees}
use Rattle.ct_walk.specs.Staging.{Unstaged}

cuts : (old new : List ℕ) (slot : ℕ) → AreTables old → slot < 512 → new ≡ set old (16896 + slot) 0 → Cuts old new 0 0 slot
cuts old new slot tables lt is =
    let root = page_at-root old in
    let in_range : 16896 + slot < length old = omega (arith, tables.some, tables.there) in
    let at : page_at old 0 0 * 512 + slot ≡ 16896 + slot = omega (arith, root) in
    record {
      tables = tables;
      depth = omega arith;
      index = lt;
      table = λ z. omega (arith, root, z);
      entry = ap (word new) at ∙ ap (λ (xs : List ℕ). word xs (16896 + slot)) is ∙ get_or-set_same old (16896 + slot) 0 0 in_range;
      others = λ w ne. ap (λ (xs : List ℕ). word xs w) is ∙ get_or-set_other old (16896 + slot) w 0 0 (λ e. ne (e ∙ sym at));
      size = ap length is ∙ length-set old (16896 + slot) 0;
    }

-- the child of the root at a slot
slot_is : (img : List ℕ) (slot : ℕ) → slot < 512 → page_at img 1 slot ≡ next img 33 slot
slot_is img slot lt =
    let z : slot ≡ 0 * 512 + slot = omega arith in
    ap (page_at img 1) z ∙ page_at-entry img 0 0 slot lt ∙ ap (λ t. next img t slot) (page_at-root img)

-- a cell is below a root slot
below_slot : (slot d x : ℕ) → 1 ≤ d → OnWay 1 slot d x → x / 512 ^ (d - 1) ≡ slot
below_slot slot d x from on =
    let parts = on_way_parts 1 slot d x on in
    let same : d - 1 ≡ parts.0 = omega (arith, parts.2) in
    ap (λ k. x / 512 ^ k) same ∙ ap (λ y. y / 512 ^ parts.0) parts.3 ∙ div-mul-add slot (512 ^ parts.0) parts.1 parts.4

on_slot : (slot d x : ℕ) → 1 ≤ d → x / 512 ^ (d - 1) ≡ slot → OnWay 1 slot d x
on_slot slot d x from is =
    let m = d - 1 in
    let pos : 0 < 512 ^ m = one-le-pow m 512 (omega arith) in
    on_way_below 1 slot m d (x % 512 ^ m) x (omega arith) (omega (arith, div-add-mod x (512 ^ m), ap (λ k. 512 ^ m * k) is)) (mod-lt x pos)

pub unstaged : (old new : List ℕ) (slot : ℕ) → AreTables old → slot < 512 → new ≡ set old (16896 + slot) 0 → Unstaged old new slot
unstaged old new slot tables lt is =
    let c = cuts old new slot tables lt is in
    let a : 0 * 512 + slot ≡ slot = omega arith in
    record {
      tables = tables_new c;
      gone = λ d x from to at. elim (cut_at c d x to) [
        | inl gone ↦ gone.1
        | inr stays ↦ absurd (stays.0 (subst (λ (k : ℕ). OnWay 1 k d x) (sym a) (on_slot slot d x from at)))
      ];
      others = λ d x from to not. elim (cut_at c d x to) [
        | inl gone ↦ absurd (not (below_slot slot d x from (subst (λ (k : ℕ). OnWay 1 k d x) a gone.0)))
        | inr stays ↦ stays.1
      ];
    }

-- what is looked at stays, where the slot is one of staging
pub view_cut : (old new : List ℕ) (slot : ℕ) → AreTables old → 2 ≤ slot → slot ≤ 9 → new ≡ set old (16896 + slot) 0 → (v : ℕ) → view new v ≡ view old v
unfolding view
view_cut old new slot tables from to is v = elim (cases_Bool (is_seen v)) [
  | inl seen ↦ rw seen (cut_byte (cuts old new slot tables (omega arith) is) from to v seen)
  | inr not ↦ rw not refl
]

pub view_either : (old new : List ℕ) (slot : ℕ) → AreTables old → 2 ≤ slot → slot ≤ 9 → (new ≡ old) ⊎ (new ≡ set old (16896 + slot) 0) → (v : ℕ) → view new v ≡ view old v
view_either old new slot tables from to (inl is) v = ap (λ (l : List ℕ). view l v) is
view_either old new slot tables from to (inr is) v = view_cut old new slot tables from to is v

module _ {old new : List ℕ} {slot : ℕ} (tables : AreTables old) (lt : slot < 512) (is : new ≡ set old (16896 + slot) 0) where
  off_root : (w : ℕ) → w / 512 ≢ 33 → word new w ≡ word old w
  off_root w ne = ap (λ (xs : List ℕ). word xs w) is ∙ get_or-set_other old (16896 + slot) w 0 0 (λ e. ne (omega (arith, e)))

  count : page_count new ≡ page_count old
  count = same_count (cuts old new slot tables lt is)

  size : length new ≡ length old
  size = ap length is ∙ length-set old (16896 + slot) 0

  -- what the entry of the slot says
  pub slot_some : word old (16896 + slot) ≢ 0 → (page_at old 1 slot ≢ 0) × (page_at old 1 slot ≡ word old (16896 + slot) / 4096)
  slot_some ne =
      let root = page_at-root old in
      let named : next old 33 slot ≢ 0 = λ none. ne (
      ap (λ t. word old (t * 512 + slot)) (sym root) ∙ tables.entries 0 0 slot (omega arith) lt (λ z. omega (arith, root, z)) (ap (λ t. next old t slot) root ∙ none)) in
      let at = next-at old 33 slot (omega arith) in
      let bounds = named_page-bounds (page_count old) (word old (16896 + slot)) (λ none. named (at ∙ none)) in
      (λ none. named (sym (slot_is old slot lt) ∙ none), slot_is old slot lt ∙ omega (arith, at, bounds.2))

  pub slot_none : word old (16896 + slot) ≡ 0 → page_at old 1 slot ≡ 0
  slot_none none = slot_is old slot lt ∙ next-at old 33 slot (omega arith) ∙ ap (named_page (page_count old)) none ∙ named_page-zero (page_count old)

  pub slot_subtree : page_at old 1 slot ≢ 0 → IsSubtree new (page_at old 1 slot) 3
  slot_subtree there = subtree_same old new (page_at old 1 slot) 3 count size off_root (subtree_at old 1 slot tables (omega arith) (omega arith) there)

  -- what lies below the slot's table lies there in both images
  pub under_old : (k q : ℕ) → page_at old 1 slot ≢ 0 → IsUnder new (page_at old 1 slot) k q → IsUnder old (page_at old 1 slot) k q
  under_old k q there u =
      let low = (subtree_at old 1 slot tables (omega arith) (omega arith) there).low in
      record { steps = u.steps; number = u.number; few = u.few; is = sym (below-same old new (page_at old 1 slot) u.steps u.number count low off_root) ∙ u.is; there = u.there }

  pub under_new : (k q : ℕ) → page_at old 1 slot ≢ 0 → IsUnder old (page_at old 1 slot) k q → IsUnder new (page_at old 1 slot) k q
  under_new k q there u =
      let low = (subtree_at old 1 slot tables (omega arith) (omega arith) there).low in
      record { steps = u.steps; number = u.number; few = u.few; is = below-same old new (page_at old 1 slot) u.steps u.number count low off_root ∙ u.is; there = u.there }

  -- and it is reached in the old image
  at_cell : (q : ℕ) (u : IsUnder old (page_at old 1 slot) 3 q) → (u.number < 512 ^ u.steps) × (page_at old (u.steps + 1) (slot * 512 ^ u.steps + u.number) ≡ q)
  at_cell q u =
      let range = below-range old (page_at old 1 slot) u.steps u.number (λ none. u.there (sym u.is ∙ none)) in
      (range, page_at-sub old 1 slot u.steps u.number range ∙ u.is)

  pub not_free : (frames : FreePages) → Agrees old frames → (q : ℕ) → IsUnder old (page_at old 1 slot) 3 q → Contains frames.free q → ⊥
  not_free frames agrees q u c = agrees.free q c (u.steps + 1) (slot * 512 ^ u.steps + u.number) (omega (arith, u.few)) (at_cell q u).1

  pub agrees_cut : (before after : FreePages) → Agrees old before → after.pages ≡ before.pages
      → ((q : ℕ) → Contains after.free q ↔ (Contains before.free q ⊎ IsUnder old (page_at old 1 slot) 3 q)) → Agrees new after
  agrees_cut before after agrees pages given =
      let c = cuts old new slot tables lt is in
      let a : 0 * 512 + slot ≡ slot = omega arith in
      record {
        pages = pages ∙ agrees.pages ∙ sym count;
        free = λ q in_after e y le at.
            elim ((given q).0 in_after) [
              | inl was ↦ elim (cut_at c e y le) [
                | inl gone ↦ agrees.free q was 0 1 (omega arith) (page_at-below old 0 1 ∙ below-past old 33 0 ∙ sym gone.1 ∙ at)
                | inr stays ↦ agrees.free q was e y le (sym stays.1 ∙ at)
              ]
              | inr u ↦ elim (cut_at c e y le) [
                | inl gone ↦ u.there (sym at ∙ gone.1)
                | inr stays ↦
                    let cell = at_cell q u in
                    let both = tables.once e y (u.steps + 1) (slot * 512 ^ u.steps + u.number) le (omega (arith, u.few)) (λ none. u.there (sym at ∙ stays.1 ∙ none)) (sym stays.1 ∙ at ∙ sym cell.1) in
                    stays.0 (subst (λ (k : ℕ). OnWay 1 k e y) (sym a) (on_way_below 1 slot u.steps e u.number y both.0 both.1 cell.0))
              ]
            ];
        all = λ q low high.
            elim (agrees.all q low (omega (arith, high, count))) [
              | inl was ↦ inl ((given q).1 (inl was))
              | inr reached ↦ elim (cut_at c reached.depth reached.number reached.few) [
                | inr stays ↦ inr (record { depth = reached.depth; number = reached.number; few = reached.few; is = stays.1 ∙ reached.is })
                | inl gone ↦
                    let parts = on_way_parts 1 slot reached.depth reached.number (subst (λ (k : ℕ). OnWay 1 k reached.depth reached.number) a gone.0) in
                    let cell = page_at-sub old 1 slot parts.0 parts.1 parts.4 in
                    inl ((given q).1 (inr (record {
                      steps = parts.0;
                      number = parts.1;
                      few = omega (arith, parts.2, reached.few);
                      is = sym cell ∙ ap (λ k. page_at old k (slot * 512 ^ parts.0 + parts.1)) (sym parts.2) ∙ ap (page_at old reached.depth) (sym parts.3) ∙ reached.is;
                      there = λ z. omega (arith, z, low);
                    })))
              ]
            ];
      }
