-- A root slot for staging is emptied behind a record.
use Rattle.std.proofs.Common.{◌≡◌, ◌≢◌, ℕ, ◌+◌, ◌*◌, ◌/◌, ◌%◌, ◌^◌, ◌<◌, ◌≤◌, ◌⊎◌, List, Option, length, sym, ap, subst, ◌∙◌, inl, inr, arith}
use Rattle.std.specs.Prelude.{slice_set}
use Rattle.std.proofs.lemmas.List.{get_or-set_same, get_or-set_other, length-set}
use Rattle.ct_base.specs.Rules.{ArePlaced}
use Rattle.ct_base.specs.Settled.{IsShut, settled}
use Rattle.ct_base.specs.Spares.{SparesFiles}
use Rattle.ct_base.specs.State.{SameState}
use Rattle.ct_base.specs.View.{view, inode_count}
use Rattle.ct_base.specs.Walk.{word, byte, byte_in, page_at, AreTables}
use Rattle.ct_image.proofs.Cut.{Cuts, cut_at, on_way_parts}
use Rattle.ct_image.proofs.Steps.{byte_in-same, page_at-root, walk-cell}
use Rattle.ct_pm.specs.Device.{LeavesOnly, MakesOnly}
use Rattle.ct_pm.specs.Images.{History}
use Rattle.ct_pm.specs.Phase.{Crash, Phase}
use Rattle.ct_pm.proofs.Over.{stores_over}
use Rattle.ct_pm.proofs.Phases.{phase_then}
use Rattle.ct_pm.proofs.Told.{weaker}
use Rattle.ct_record.proofs.Lawful.{shut_few}
use Rattle.ct_record.proofs.Settles.{same_refl}
use Rattle.ct_state.specs.Alike.{Alike, IsWhole}
use Rattle.ct_state.proofs.Neutral.{cut_alike, cut_whole}
use Rattle.ct_state.proofs.Shut.{shut_state}
use Rattle.ct_state.proofs.States.{state_here}
use Rattle.ct_commit.specs.Closed.{IsClosed}
use Rattle.ct_commit.proofs.Pages.{root_off, settles_page}
use Rattle.ct_commit.proofs.States.{shut_crash}

-- a root slot becomes 0
slot_cut : {old new : List ℕ} {slot : ℕ} → AreTables old → slot < 512 → new ≡ slice_set old (16896 + slot) 0 → Cuts old new 0 0 slot
slot_cut {old} {new} {slot} tables lt is =
    let root : page_at old 0 0 ≡ 33 = page_at-root old in
    let at : 16896 + slot ≡ page_at old 0 0 * 512 + slot = omega (arith, root) in
    record {
      tables = tables;
      depth = omega arith;
      index = lt;
      table = λ z. omega (arith, root, z);
      entry = ap (word new) (sym at) ∙ ap (λ l. word l (16896 + slot)) is ∙ get_or-set_same old (16896 + slot) 0 0 (omega (arith, lt, tables.some, tables.there));
      others = λ w ne. ap (λ l. word l w) is ∙ get_or-set_other old (16896 + slot) w 0 0 (λ e. ne (e ∙ at));
      size = ap length is ∙ length-set old (16896 + slot) 0;
    }

-- closed words, in which one of the slots for staging is emptied
pub record Empties (old new : List ℕ) (slot : ℕ) : Type 0 where
  pub closed : IsClosed old
  pub from : 2 ≤ slot
  pub to : slot ≤ 9
  pub is : new ≡ slice_set old (16896 + slot) 0

module _ {old new : List ℕ} {slot : ℕ} (x : Empties old new slot) where
  cut : Cuts old new 0 0 slot
  cut = slot_cut x.closed.whole.tables (omega (arith, x.to)) x.is

  pub empty_word : (w : ℕ) → w ≢ 16896 + slot → word new w ≡ word old w
  empty_word w other = ap (λ l. word l w) x.is ∙ get_or-set_other old (16896 + slot) w 0 0 other

  pub empty_slot : word new (16896 + slot) ≡ 0
  empty_slot = ap (λ l. word l (16896 + slot)) x.is ∙ get_or-set_same old (16896 + slot) 0 0 (omega (arith, x.to, x.closed.whole.tables.some, x.closed.whole.tables.there))

  pub empty_shut : IsShut new
  empty_shut = (empty_word 512 (λ e. omega (arith, e)) ∙ x.closed.shut.0, empty_word 527 (λ e. omega (arith, e)) ∙ x.closed.shut.1)

  pub empty_alike : Alike old new
  empty_alike = cut_alike cut x.from x.to

  pub empty_whole : IsWhole new
  empty_whole = cut_whole cut x.from x.to x.closed.whole

  pub empty_length : length new ≡ length old
  empty_length = cut.size

  empty_placed : ArePlaced (view new) (inode_count new)
  empty_placed = subst (λ c. ArePlaced c (inode_count new)) (sym empty_alike.bytes) (subst (λ (k : ℕ). ArePlaced (view old) k) (sym empty_alike.inodes) x.closed.placed)

  empty_closed : IsClosed new
  empty_closed = record { shut = empty_shut; whole = empty_whole; placed = empty_placed }

  -- pages of other root slots stay
  pub empty_page : (p : ℕ) → p / 2 ^ 27 ≢ slot → page_at new 4 p ≡ page_at old 4 p
  empty_page p away = elim (cut_at cut 4 p (omega arith)) [
    | inl gone ↦
        let at = on_way_parts 1 (0 * 512 + slot) 4 p gone.0 in
        let three : at.0 ≡ 3 = omega (arith, at.2) in
        let width : 512 ^ at.0 ≡ 2 ^ 27 = ap (λ k. 512 ^ k) three in
        let prod : (0 * 512 + slot) * 512 ^ at.0 ≡ slot * 2 ^ 27 = ap (λ k. (0 * 512 + slot) * k) width ∙ omega arith in
        absurd (away (omega (arith, at.3, at.4, width, prod)))
    | inr stays ↦ stays.1
  ]

  -- each other root slot stays
  pub empty_root : (k : ℕ) → k ≢ slot → page_at new 1 k ≡ page_at old 1 k
  empty_root k other = elim (cut_at cut 1 k (omega arith)) [
    | inl gone ↦
        let at = on_way_parts 1 (0 * 512 + slot) 1 k gone.0 in
        let none : at.0 ≡ 0 = omega (arith, at.2) in
        let width : 512 ^ at.0 ≡ 1 = ap (λ j. 512 ^ j) none in
        let prod : (0 * 512 + slot) * 512 ^ at.0 ≡ slot = ap (λ j. (0 * 512 + slot) * j) width ∙ omega arith in
        absurd (other (omega (arith, at.3, at.4, width, prod)))
    | inr stays ↦ stays.1
  ]

  -- each byte off the slot stays
  pub empty_byte : (v : ℕ) → v < 2 ^ 48 → v / 2 ^ 39 ≢ slot → byte new v ≡ byte old v
  empty_byte v small away =
      let root : page_at old 0 0 ≡ 33 = page_at-root old in
      let p = v / 4096 in
      ap (λ t. byte_in new t (v % 4096)) (walk-cell new v small ∙ empty_page p (λ is. away (omega (arith, is))))
      ∙ byte_in-same old new (page_at old 4 p) (v % 4096) (λ ne. empty_word (page_at old 4 p * 512 + v % 4096 / 8) (λ here.
      omega (arith, (x.closed.whole.tables.once 4 p 0 0 (omega arith) (omega arith) ne (omega (arith, here, root, x.to))).0)))
      ∙ sym (ap (λ t. byte_in old t (v % 4096)) (walk-cell old v small))

  pub empty_state : SameState old new
  empty_state =
      shut_state (record { lawful = (shut_few 0 old x.closed.shut).lawful; lawful_too = (shut_few 0 new empty_shut).lawful; words = λ w lt. empty_word w (λ e. omega (arith, e, lt)); size = cut.size })
      x.closed.shut empty_shut x.closed.whole empty_whole empty_alike

-- ---- while it is emptied

-- the root is on no page of a file
root_spares : (img : List ℕ) (w value slot : ℕ) → IsClosed img → slot ≤ 9 → w ≡ 16896 + slot → SparesFiles img w value
root_spares img w value slot c le is file = root_off w c (omega (arith, is, le)) (settles_page img c (same_refl (settled img)) file)

module _ (Q : List ℕ → Type 0) (most slot : ℕ) {w : List ℕ} (c : IsClosed w) (from : 2 ≤ slot) (to : slot ≤ 9) (q : (image : List ℕ) → SameState w image → Q image) where
  emptied : {image : List ℕ} → image ≡ slice_set w (16896 + slot) 0 → Empties w image slot
  emptied is = record { closed = c; from = from; to = to; is = is }

  end_crash : (image : List ℕ) → (image ≡ w) ⊎ (image ≡ slice_set w (16896 + slot) 0) → Crash Q most image
  end_crash image (inl same) = subst (Crash Q most) (sym same) (shut_crash w c.shut (q w (state_here w)))
  end_crash image (inr is) = shut_crash image (empty_shut (emptied is)) (q image (empty_state (emptied is)))

  end_spares : (image : List ℕ) (at put : ℕ) → (image ≡ w) ⊎ (image ≡ slice_set w (16896 + slot) 0) → (at ≡ 16896 + slot) × (put ≡ 0) → SparesFiles image at put
  end_spares image at put (inl same) stored = subst (λ l. SparesFiles l at put) (sym same) (root_spares w at put slot c to stored.0)
  end_spares image at put (inr is) stored = root_spares image at put slot (empty_closed (emptied is)) to stored.0

  pub end_phase : {now : List ℕ} {start mid told : Option History} → Phase Q most start mid w → LeavesOnly mid told (λ image. (image ≡ w) ⊎ (image ≡ slice_set w (16896 + slot) 0))
      → (now ≡ w) ⊎ (now ≡ slice_set w (16896 + slot) 0) → MakesOnly (λ at put. (at ≡ 16896 + slot) × (put ≡ 0)) mid told → Phase Q most start told now
  end_phase {now = now} first images reads made = phase_then first (record {
    moments = weaker (Crash Q most) end_crash images;
    stores = stores_over SparesFiles end_spares images made;
    reads = end_crash now reads;
  })
