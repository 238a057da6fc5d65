-- An image with closed gates settles by the clearing of its staging slots alone, whatever is staged.
use Rattle.std.proofs.Common.{◌≡◌, ℕ, zero, suc, ◌+◌, ◌-◌, ◌*◌, ◌^◌, ◌<◌, ◌≤◌, List, set, refl, sym, ap, ◌∙◌, subst, ◌⊎◌, inl, inr, arith}
use Rattle.std.proofs.lemmas.List.{get_or-set_same, get_or-set_other, length-set}
use Rattle.ct_base.specs.Settled.{cleared, settled, with_pairs, IsShut}
use Rattle.ct_base.specs.State.{SameState}
use Rattle.ct_base.specs.Walk.{word, page_at, AreTables, IsFresh}
use Rattle.ct_image.proofs.Cut.{Cuts, cut_at}
use Rattle.ct_image.proofs.Steps.{page_at-root}
use Rattle.ct_state.specs.Alike.{Alike, IsWhole}
use Rattle.ct_state.proofs.Carry.{alike_back}
use Rattle.ct_state.proofs.Neutral.{cut_alike, cut_page, cut_whole}
use Rattle.ct_state.proofs.Settle.{AgreeOffRecord, alike_off, cells_off, settled_shut}
use Rattle.ct_state.proofs.States.{SameHead, alike_state, off_whole}

pub alike_here : (f : List ℕ) → Alike f f
alike_here f = record { bytes = refl; inodes = refl }

pub alike_then : {f g h : List ℕ} → Alike f g → Alike g h → Alike f h
alike_then a b = record { bytes = b.bytes ∙ a.bytes; inodes = b.inodes ∙ a.inodes }

-- a root slot becomes 0
cut_slot : (f : List ℕ) (s : ℕ) → AreTables f → 2 ≤ s → s ≤ 9 → Cuts f (set f (16896 + s) 0) 0 0 s
cut_slot f s tables low high =
    let root : page_at f 0 0 ≡ 33 = page_at-root f in
    let at : 16896 + s ≡ page_at f 0 0 * 512 + s = omega (arith, root) in
    record {
      tables = tables;
      depth = omega arith;
      index = omega arith;
      table = λ z. omega (arith, root, z);
      entry = ap (word (set f (16896 + s) 0)) (sym at) ∙ get_or-set_same f (16896 + s) 0 0 (omega (arith, tables.some, tables.there));
      others = λ w ne. get_or-set_other f (16896 + s) w 0 0 (λ e. ne (e ∙ at));
      size = length-set f (16896 + s) 0;
    }

-- what stays while slots are cleared
record Clears (f g : List ℕ) : Type 0 where
  alike : Alike f g
  whole : IsWhole g
  pages : (p : ℕ) → (p < 2 * 2 ^ 27) ⊎ (10 * 2 ^ 27 ≤ p) → page_at g 4 p ≡ page_at f 4 p
  cells : (d x : ℕ) → d ≤ 4 → (page_at g d x ≡ 0) ⊎ (page_at g d x ≡ page_at f d x)

-- the last n of the staging slots are cleared
abbrev with_slots : ℕ → List ℕ → List ℕ
with_slots zero f = f
with_slots (suc n) f = set (with_slots n f) (16896 + (9 - n)) 0

clears : (n : ℕ) (f : List ℕ) → n ≤ 8 → IsWhole f → Clears f (with_slots n f)
clears zero f le whole = record { alike = alike_here f; whole = whole; pages = λ p off. refl; cells = λ d x le. inr refl }
clears (suc n) f le whole =
    let before = clears n f (omega arith) whole in
    let cut = cut_slot (with_slots n f) (9 - n) before.whole.tables (omega arith) (omega arith) in
    record {
      alike = alike_then before.alike (cut_alike cut (omega arith) (omega arith));
      whole = cut_whole cut (omega arith) (omega arith) before.whole;
      pages = λ p off. cut_page cut (omega arith) (omega arith) p off ∙ before.pages p off;
      cells = λ d x le. elim (cut_at cut d x le) [
        | inl gone ↦ inl gone.1
        | inr stays ↦ elim (before.cells d x le) [ inl none ↦ inl (stays.1 ∙ none) | inr same ↦ inr (stays.1 ∙ same) ]
      ];
    }

cleared_is : (f : List ℕ) → with_pairs cleared f ≡ set (set (with_slots 8 f) 527 0) 512 0
unfolding cleared
cleared_is f = refl

-- the gates lie in the record
gates_off : (f : List ℕ) → AgreeOffRecord f (set (set f 527 0) 512 0)
gates_off f = record {
  words = λ w out. get_or-set_other (set f 527 0) 512 w 0 0 (λ e. off 512 w e out (omega arith) (omega arith)) ∙ get_or-set_other f 527 w 0 0 (λ e. off 527 w e out (omega arith) (omega arith));
  size = length-set (set f 527 0) 512 0 ∙ length-set f 527 0;
}
  where
    off : (g w : ℕ) → w ≡ g → (w < 512) ⊎ (33 * 512 ≤ w) → 512 ≤ g → g < 33 * 512 → ⊥
    off g w e (inl low) from to = omega arith
    off g w e (inr high) from to = omega arith

module _ {f : List ℕ} (shut : IsShut f) (whole : IsWhole f) where
  settles_as : settled f ≡ set (set (with_slots 8 f) 527 0) 512 0
  settles_as = settled_shut f shut ∙ cleared_is f

  pub shut_alike : Alike f (settled f)
  shut_alike =
      let c = clears 8 f (omega arith) whole in
      subst (Alike f) (sym settles_as) (alike_then c.alike (alike_off (gates_off (with_slots 8 f))))

  pub shut_whole : IsWhole (settled f)
  shut_whole =
      let c = clears 8 f (omega arith) whole in
      subst IsWhole (sym settles_as) (off_whole (gates_off (with_slots 8 f)) c.whole)

  -- pages of other root slots stay
  pub shut_pages : (p : ℕ) → (p < 2 * 2 ^ 27) ⊎ (10 * 2 ^ 27 ≤ p) → page_at (settled f) 4 p ≡ page_at f 4 p
  shut_pages p off =
      let c = clears 8 f (omega arith) whole in
      ap (λ g. page_at g 4 p) settles_as ∙ cells_off (gates_off (with_slots 8 f)) 4 p ∙ c.pages p off

  -- a cell is gone, or stays
  pub shut_cells : (d x : ℕ) → d ≤ 4 → (page_at (settled f) d x ≡ 0) ⊎ (page_at (settled f) d x ≡ page_at f d x)
  shut_cells d x le =
      let c = clears 8 f (omega arith) whole in
      let here : page_at (settled f) d x ≡ page_at (with_slots 8 f) d x = ap (λ g. page_at g d x) settles_as ∙ cells_off (gates_off (with_slots 8 f)) d x in
      elim (c.cells d x le) [ inl none ↦ inl (here ∙ none) | inr same ↦ inr (here ∙ same) ]

  -- a page that no cell has, none has
  pub shut_fresh : (q : ℕ) → 1 ≤ q → IsFresh f q → IsFresh (settled f) q
  shut_fresh q some fresh d x le is = elim (shut_cells d x le) [ inl none ↦ omega (arith, none, is, some) | inr same ↦ fresh d x le (sym same ∙ is) ]

-- two images with closed gates that look alike settle to one state
pub shut_state : {f g : List ℕ} → SameHead f g → IsShut f → IsShut g → IsWhole f → IsWhole g → Alike f g → SameState f g
shut_state h shut shut' whole whole' alike =
    alike_state h (alike_then (alike_back (shut_alike shut whole)) (alike_then alike (shut_alike shut' whole'))) (shut_whole shut whole) (shut_whole shut' whole')
