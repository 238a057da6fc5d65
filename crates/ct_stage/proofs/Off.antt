-- Images that differ from well formed words on free pages and in root slot 2 alone: what is seen stays, and so does the
-- state to which they settle.
use Rattle.std.proofs.Common.{◌≡◌, ◌≢◌, ℕ, zero, suc, ◌+◌, ◌*◌, ◌/◌, ◌%◌, ◌^◌, ◌<◌, ◌≤◌, true, List, length, sym, ap, subst, ◌∙◌, inl, inr, arith}
use Rattle.std.proofs.lemmas.Bool.{cases_eq}
use Rattle.std.proofs.Math.Nat.{div-div-eq-div-mul, pow-suc}
use Rattle.std.specs.Prelude.{Contains}
use Rattle.ct_base.specs.Free.{IsFilePage}
use Rattle.ct_base.specs.Rules.{IsMappedInParts}
use Rattle.ct_base.specs.Settled.{Named, cleared, settled, IsShut, IsRecord}
use Rattle.ct_base.specs.State.{SameState}
use Rattle.ct_base.specs.View.{view, is_seen, inode_count}
use Rattle.ct_base.specs.Walk.{word, page_count, next, page_at, byte, byte_in, walk, index, AreTables, IsFresh}
use Rattle.ct_frames.specs.Agrees.{Agrees}
use Rattle.ct_frames.specs.Free.{FreePages}
use Rattle.ct_image.proofs.Pairs.{length-with_pairs, with_pairs_alike}
use Rattle.ct_image.proofs.Steps.{next-same, page_at-next, page_at-entry, page_at-same_root, page_at-root, walk-cell, byte_in-same}
use Rattle.ct_image.proofs.Write.{past-root}
use Rattle.ct_pm.specs.Device.{SameOff}
use Rattle.ct_state.specs.Alike.{Alike, IsWhole}
use Rattle.ct_state.proofs.Carry.{view-same}
use Rattle.ct_state.proofs.Neutral.{seen-bounds}
use Rattle.ct_state.proofs.Settle.{settled_shut, slot_2_cleared}
use Rattle.ct_state.proofs.Shut.{shut_fresh, shut_whole}
use Rattle.ct_state.proofs.States.{alike_state}
use Rattle.ct_walk.specs.Growth.{IsTaken}
use Rattle.ct_stage.specs.Staged.{MayStage, SeesSame, IsResting, IsLaid}

-- a cell at depth d + 1 other than the root is no root
pub not_root : {old : List ℕ} → AreTables old → (d x : ℕ) → suc d ≤ 4 → page_at old (suc d) x ≢ 0 → page_at old (suc d) x ≢ 33
not_root {old} tables d x le there is = let both = tables.once (suc d) x 0 0 le (omega arith) there (is ∙ sym (page_at-root old)) in omega (arith, both.0)

-- the image reaches no free page
abbrev StaysFree : List ℕ → FreePages → Type 0
StaysFree img before = (q : ℕ) → 34 ≤ q → Contains before.free q → IsFresh img q

free_of : {old : List ℕ} {before : FreePages} → Agrees old before → StaysFree old before
free_of agrees q low free = agrees.free q free

-- a word on a page that is reached is on none that was taken
free_stays : (old : List ℕ) {before after : FreePages} → StaysFree old before → (e y o : ℕ) → e ≤ 4 → o < 512 → ((17408 ≤ page_at old e y * 512 + o) × IsTaken before after ((page_at old e y * 512 + o) / 512)) → ⊥
free_stays old free e y o le lt taken = free ((page_at old e y * 512 + o) / 512) (omega (arith, taken.0)) taken.1.was e y le (omega arith)

pub reached_stays : {old : List ℕ} {before after : FreePages} → Agrees old before → (e y o : ℕ) → e ≤ 4 → o < 512 → ((17408 ≤ page_at old e y * 512 + o) × IsTaken before after ((page_at old e y * 512 + o) / 512)) → ⊥
reached_stays {old} agrees = free_stays old (free_of agrees)

module _ {old image : List ℕ} {before after : FreePages} (tables : AreTables old) (agrees : Agrees old before) (same : SameOff (MayStage before after) image old) where
  pub low_off : (w : ℕ) → w < 16896 → word image w ≡ word old w
  low_off w lt = same.others w (λ moved. elim moved [ inl taken ↦ omega (arith, taken.0) | inr is ↦ omega (arith, is) ])

  count_off : page_count image ≡ page_count old
  count_off = low_off 2 (omega arith)

  word_off : (e y o : ℕ) → e ≤ 4 → o < 512 → page_at old e y * 512 + o ≢ 16898 → word image (page_at old e y * 512 + o) ≡ word old (page_at old e y * 512 + o)
  word_off e y o le lt ne = same.others _ (λ moved. elim moved [ inl taken ↦ reached_stays agrees e y o le lt taken | inr is ↦ ne is ])

  -- cells of other root slots stay
  pub cell_off : (d x : ℕ) → d ≤ 3 → x / 512 ^ d ≢ 2 → page_at image (suc d) x ≡ page_at old (suc d) x
  cell_off zero x le away =
      page_at-next image 0 x ∙ ap (λ t. next image t (x % 512)) (page_at-same_root old image (x / 512))
      ∙ next-same old image (page_at old 0 (x / 512)) (x % 512) count_off (λ there.
      word_off 0 (x / 512) (x % 512) (omega arith) (omega arith) (λ is. elim (cases_eq (x / 512) 0) [
        | inl top ↦ let root : page_at old 0 (x / 512) ≡ 33 = ap (page_at old 0) top ∙ page_at-root old in away (omega (arith, top, root, is))
        | inr past ↦ there (past-root old (x / 512) past)
      ]))
      ∙ sym (page_at-next old 0 x)
  cell_off (suc d) x le away =
      let up : x / 512 / 512 ^ d ≡ x / 512 ^ suc d = div-div-eq-div-mul x 512 (512 ^ d) ∙ ap (λ k. x / k) (omega (arith, pow-suc 512 d)) in
      page_at-next image (suc d) x
      ∙ ap (λ t. next image t (x % 512)) (cell_off d (x / 512) (omega arith) (λ is. away (sym up ∙ is)))
      ∙ next-same old image (page_at old (suc d) (x / 512)) (x % 512) count_off (λ there.
      word_off (suc d) (x / 512) (x % 512) (omega arith) (omega arith) (λ is. not_root tables d (x / 512) (omega arith) there (omega (arith, is))))
      ∙ sym (page_at-next old (suc d) x)

  pub walk_off : (p : ℕ) → p / 2 ^ 27 ≢ 2 → page_at image 4 p ≡ page_at old 4 p
  walk_off p away = cell_off 3 p (omega arith) away

  byte_off : (v : ℕ) → v < 2 ^ 48 → v / 2 ^ 39 ≢ 2 → byte image v ≡ byte old v
  byte_off v small elsewhere =
      let n = v / 4096 in
      let away : n / 2 ^ 27 ≢ 2 = λ is. elsewhere (omega (arith, is)) in
      ap (λ t. byte_in image t (v % 4096)) (walk-cell image v small ∙ walk_off n away)
      ∙ byte_in-same old image (page_at old 4 n) (v % 4096) (λ there.
      word_off 4 n (v % 4096 / 8) (omega arith) (omega arith) (λ is. not_root tables 3 n (omega arith) there (omega (arith, is))))
      ∙ sym (ap (λ t. byte_in old t (v % 4096)) (walk-cell old v small))

  seen_off : (v : ℕ) → is_seen v ≡ true → byte image v ≡ byte old v
  seen_off v seen =
      let bounds = seen-bounds v seen in byte_off v bounds.0 (λ is. elim bounds.1 [ inl low ↦ omega (arith, is, low) | inr high ↦ omega (arith, is, high) ])

  pub sees_same : SeesSame old image
  sees_same = record { head = low_off; bytes = view-same old image seen_off; others = byte_off; cells = cell_off }

-- ---- words that differ on free pages alone

-- off the pages taken no word differs
pub record OffTaken (old new : List ℕ) (before after : FreePages) : Type 0 where
  pub words : (w : ℕ) → ((17408 ≤ w) × IsTaken before after (w / 512) → ⊥) → word new w ≡ word old w
  pub size : length new ≡ length old

module _ {old new : List ℕ} {before after : FreePages} (tables : AreTables old) (free : StaysFree old before) (off : OffTaken old new before after) where
  count_taken : page_count new ≡ page_count old
  count_taken = off.words 2 (λ taken. omega (arith, taken.0))

  word_taken : (e y o : ℕ) → e ≤ 4 → o < 512 → word new (page_at old e y * 512 + o) ≡ word old (page_at old e y * 512 + o)
  word_taken e y o le lt = off.words _ (λ taken. free_stays old free e y o le lt taken)

  pub cell_taken : (e y : ℕ) → e ≤ 4 → page_at new e y ≡ page_at old e y
  cell_taken zero y le = page_at-same_root old new y
  cell_taken (suc e) y le =
      page_at-next new e y ∙ ap (λ t. next new t (y % 512)) (cell_taken e (y / 512) (omega arith))
      ∙ next-same old new _ (y % 512) count_taken (λ _. word_taken e (y / 512) (y % 512) (omega arith) (omega arith)) ∙ sym (page_at-next old e y)

  pub tables_taken : AreTables new
  tables_taken =
      record {
        some = omega (arith, count_taken, tables.some);
        there = omega (arith, count_taken, off.size, tables.there);
        entries = λ e y j le lt ne none.
            let same = cell_taken e y (omega arith) in
            let word_same = word_taken e y j (omega arith) lt in
            ap (λ t. word new (t * 512 + j)) same ∙ word_same
            ∙ tables.entries e y j le lt (λ z. ne (same ∙ z)) (sym (next-same old new _ j count_taken (λ _. word_same)) ∙ ap (λ t. next new t j) (sym same) ∙ none);
        once = λ e y f z le lf ne is.
            tables.once e y f z le lf (λ none. ne (cell_taken e y le ∙ none)) (sym (cell_taken e y le) ∙ is ∙ cell_taken f z lf);
      }

  byte_taken : (v : ℕ) → v < 2 ^ 48 → byte new v ≡ byte old v
  byte_taken v lt =
      let n = v / 4096 in
      ap (λ t. byte_in new t (v % 4096)) (walk-cell new v lt ∙ cell_taken 4 n (omega arith))
      ∙ byte_in-same old new _ (v % 4096) (λ _. word_taken 4 n (v % 4096 / 8) (omega arith) (omega arith))
      ∙ sym (ap (λ t. byte_in old t (v % 4096)) (walk-cell old v lt))

  pub alike_taken : Alike old new
  alike_taken = record { bytes = view-same old new (λ v seen. byte_taken v (seen-bounds v seen).0); inodes = off.words 3 (λ taken. omega (arith, taken.0)) }

  pub whole_taken : IsWhole old → IsWhole new
  whole_taken w = record {
    tables = tables_taken;
    mapped = subst (λ b. IsMappedInParts new b (inode_count new)) (sym alike_taken.bytes) (subst (λ c. IsMappedInParts new (view old) c) (sym alike_taken.inodes)
        (λ p low out. cell_taken 4 p (omega arith) ∙ w.mapped p low out));
  }

-- ---- the state to which such an image settles

shut_lawful : {img : List ℕ} → IsShut img → IsRecord img
shut_lawful shut = record {
  long = omega (arith, shut.0);
  short = omega (arith, shut.1);
  one = λ _. shut.1;
  long_targets = λ k lt. absurd (omega (arith, lt, shut.0));
  short_targets = λ k lt. absurd (omega (arith, lt, shut.1));
}

module _ {old image : List ℕ} {before after : FreePages} (rest : IsResting old) (agrees : Agrees old before) (same : SameOff (MayStage before after) image old) where
  pub shut_off : IsShut image
  shut_off = (low_off rest.tables agrees same 512 (omega arith) ∙ rest.shut.0, low_off rest.tables agrees same 527 (omega arith) ∙ rest.shut.1)

  pub settled_off : OffTaken (settled old) (settled image) before after
  settled_off = record {
    words = λ w not.
        ap (λ (l : List ℕ). word l w) (settled_shut image shut_off)
        ∙ with_pairs_alike cleared image old w same.size (λ off. same.others w (λ moved. elim moved [
          | inl taken ↦ not taken
          | inr is ↦ off (subst (Named cleared) (sym is) slot_2_cleared)
        ]))
        ∙ ap (λ (l : List ℕ). word l w) (sym (settled_shut old rest.shut));
    size = ap length (settled_shut image shut_off) ∙ length-with_pairs cleared image ∙ same.size ∙ sym (ap length (settled_shut old rest.shut) ∙ length-with_pairs cleared old);
  }

  whole : IsWhole old
  whole = record { tables = rest.tables; mapped = rest.mapped }

  pub settled_whole : IsWhole (settled old)
  settled_whole = shut_whole rest.shut whole

  pub settled_free : StaysFree (settled old) before
  settled_free q low free = shut_fresh rest.shut whole q (omega (arith, low)) (agrees.free q free)

  -- the image settles to the state of the words
  pub state_off : SameState old image
  state_off =
      alike_state (record { lawful = shut_lawful rest.shut; lawful_too = shut_lawful shut_off; words = λ w lt. low_off rest.tables agrees same w (omega arith); size = same.size })
      (alike_taken settled_whole.tables settled_free settled_off) settled_whole (whole_taken settled_whole.tables settled_free settled_off settled_whole)

-- where the tables are well formed too, root slot 2 may be emptied
pub laid_off : {old new : List ℕ} {before after : FreePages} → IsResting old → Agrees old before → SameOff (MayStage before after) new old → AreTables new → IsLaid new
laid_off {old} {new} rest agrees same tables =
    let seen = sees_same rest.tables agrees same in
    record {
      shut = shut_off rest agrees same;
      tables = tables;
      mapped = subst (λ b. IsMappedInParts new b (inode_count new)) (sym seen.bytes) (subst (λ c. IsMappedInParts new (view old) c) (sym (seen.head 3 (omega arith)))
          (λ p low out. seen.cells 3 p (omega arith) (λ slot. omega (arith, slot, low)) ∙ rest.mapped p low out));
    }

-- ---- pages of files

-- a walk is a cell, whatever the address
walk_is_cell : (img : List ℕ) (v : ℕ) → (x : ℕ) × (walk img v ≡ page_at img 4 x)
walk_is_cell img v =
    let a = index 4 v in
    let b = index 3 v in
    let c = index 2 v in
    let d = index 1 v in
    let one : page_at img 1 (0 * 512 + a) ≡ next img 33 a = page_at-entry img 0 0 a (omega arith) ∙ ap (λ t. next img t a) (page_at-root img) in
    let two = page_at-entry img 1 (0 * 512 + a) b (omega arith) ∙ ap (λ t. next img t b) one in
    let three = page_at-entry img 2 ((0 * 512 + a) * 512 + b) c (omega arith) ∙ ap (λ t. next img t c) two in
    let four = page_at-entry img 3 (((0 * 512 + a) * 512 + b) * 512 + c) d (omega arith) ∙ ap (λ t. next img t d) three in
    ((((0 * 512 + a) * 512 + b) * 512 + c) * 512 + d, sym four)

-- what is staged lies on no page of a file
pub spares_files : {old image : List ℕ} {before after : FreePages} (word : ℕ) → IsResting old → Agrees old before → SameOff (MayStage before after) image old → MayStage before after word → IsFilePage (settled image) (word / 512) → ⊥
spares_files {old} {image} {before} {after} word rest agrees same moved file =
    let off = settled_off rest agrees same in
    let cell = walk_is_cell (settled image) file.address in
    let free = settled_free rest agrees same in
    let tables = (settled_whole rest agrees same).tables in
    let at : page_at (settled old) 4 cell.0 ≡ word / 512 = sym (cell_taken tables free off 4 cell.0 (omega arith)) ∙ sym cell.1 ∙ file.is in
    elim moved [
      | inl taken ↦ free (word / 512) (omega (arith, taken.0)) taken.1.was 4 cell.0 (omega arith) at
      | inr is ↦ not_root tables 3 cell.0 (omega arith) (λ none. omega (arith, at, none, is)) (omega (arith, at, is))
    ]
