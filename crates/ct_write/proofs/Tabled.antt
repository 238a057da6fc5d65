-- Tables are made on the file's side: nothing that is seen changes.
use Rattle.std.proofs.Common.{◌≡◌, ◌≢◌, ℕ, suc, ◌+◌, ◌-◌, ◌*◌, ◌/◌, ◌%◌, ◌^◌, ◌<◌, ◌≤◌, List, [], ◌∷◌, zero, sym, ap, subst, ◌∙◌, inl, inr, arith}
use Rattle.std.specs.Prelude.{All, Option, false, length}
use Rattle.ct_base.specs.Exchange.{HasTables}
use Rattle.ct_base.specs.Pieces.{pieces}
use Rattle.ct_base.specs.Rules.{ArePlaced, IsMappedInParts}
use Rattle.ct_base.specs.Settled.{IsShut, Named, Pair, settled}
use Rattle.ct_base.specs.Spares.{SparesFiles}
use Rattle.ct_base.specs.State.{SameState}
use Rattle.ct_base.specs.View.{view, inode_count}
use Rattle.ct_base.specs.Walk.{word, byte, next, page_at, AreTables}
use Rattle.ct_base.specs.Wants.{Want, is_wanted}
use Rattle.ct_plan.specs.Few.{AreMet, few_wants}
use Rattle.ct_plan.proofs.There.{few_met, pages_met, tables_there}
use Rattle.ct_frames.specs.Agrees.{Agrees}
use Rattle.ct_frames.specs.Free.{FreePages}
use Rattle.ct_commit.specs.Closed.{IsClosed}
use Rattle.ct_commit.proofs.Pages.{file_page, settles_page}
use Rattle.ct_image.proofs.Steps.{page_at-next, page_at-root}
use Rattle.ct_pm.specs.Images.{History}
use Rattle.ct_pm.specs.Device.{LeavesOnly, MakesOnly, NothingPending, StoresOver}
use Rattle.ct_pm.specs.Phase.{Crash, Phase}
use Rattle.ct_pm.proofs.Over.{stores_over}
use Rattle.ct_pm.proofs.Phases.{phase_then}
use Rattle.ct_pm.proofs.Told.{both, weaker}
use Rattle.ct_record.proofs.Lawful.{shut_few}
use Rattle.ct_record.proofs.Settles.{open_shut, same_refl}
use Rattle.ct_state.specs.Alike.{Alike, IsWhole}
use Rattle.ct_state.proofs.Carry.{view-same}
use Rattle.ct_state.proofs.Neutral.{seen-bounds}
use Rattle.ct_state.proofs.Shut.{shut_state}
use Rattle.ct_state.proofs.States.{state_then}
use Rattle.ct_stage.specs.declared.edit.Edit.{Edit}
use Rattle.ct_stage.specs.Edited.{AreBytes, edited, staged_words}
use Rattle.ct_stage.specs.Staged.{Holds, IsLaid, IsResting, SeesSame}
use Rattle.ct_walk.specs.Growth.{Extends, Grown, MayGrow}
use Rattle.ct_walk.specs.Has.{HasAll}
use Rattle.ct_write.specs.Prepared.{Prepared}
use Rattle.ct_write.proofs.Paths.{all_met, few_some, no_pages, none_below}

-- an entry of the root is 0 where its cell has no page
pub root_entry : (img : List ℕ) (i : ℕ) → AreTables img → i < 512 → page_at img 1 i ≡ 0 → word img (16896 + i) ≡ 0
root_entry img i t lt none =
    let root = page_at-root img in
    let first : i / 512 ≡ 0 = omega arith in
    let last : i % 512 ≡ i = omega arith in
    let entry : next img (page_at img 0 0) i ≡ 0 = ap (λ k. next img (page_at img 0 0) k) (sym last) ∙ ap (λ k. next img (page_at img 0 k) (i % 512)) (sym first) ∙ sym (page_at-next img 0 i) ∙ none in
    ap (λ k. word img (k * 512 + i)) (sym root) ∙ t.entries 0 0 i (omega arith) lt (λ z. omega (arith, root, z)) entry

pub root_cell : (img : List ℕ) (i : ℕ) → i < 512 → word img (16896 + i) ≡ 0 → page_at img 1 i ≡ 0
root_cell img i lt none =
    let root = page_at-root img in
    let first : i / 512 ≡ 0 = omega arith in
    let last : i % 512 ≡ i = omega arith in
    page_at-next img 0 i ∙ ap (λ k. next img (page_at img 0 k) (i % 512)) first ∙ ap (λ k. next img (page_at img 0 0) k) last ∙ ap (λ t. next img t i) root
    ∙ Rattle.ct_image.proofs.Steps.next-at img 33 i (omega arith) ∙ ap (Rattle.ct_base.specs.Walk.named_page (Rattle.ct_base.specs.Walk.page_count img)) none ∙ Rattle.ct_image.proofs.Steps.named_page-zero (Rattle.ct_base.specs.Walk.page_count img)

-- an image with closed gates that settles to a state
still_crash : {words image : List ℕ} → IsShut image → SameState words image → Crash (SameState words) 0 image
still_crash {words} {image} shut state = record { has = state; few = shut_few 0 image shut; spares = λ word named. absurd (subst (λ (ps : List Pair). Named ps word) (open_shut image shut) named) }

rest_whole : {img : List ℕ} → IsResting img → IsWhole img
rest_whole rest = record { tables = rest.tables; mapped = rest.mapped }

module _ {w0 : List ℕ} (a b n : ℕ) (rest : IsResting w0) (low : 10 * 2 ^ 27 ≤ a) (some : 1 ≤ n) where
  module _ {image : List ℕ} {before after : FreePages} (g : Grown w0 image (few_wants a b n) before after) where
    pub made_shut : IsShut image
    made_shut = (g.low 512 (omega arith) ∙ rest.shut.0, g.low 527 (omega arith) ∙ rest.shut.1)

    pub made_alike : Alike w0 image
    made_alike = record { bytes = view-same w0 image (λ v seen. g.bytes v (seen-bounds v seen).0); inodes = g.low 3 (omega arith) }

    pub made_page : (q : ℕ) → page_at image 4 q ≡ page_at w0 4 q
    made_page q = g.cells 4 q (omega arith) (no_pages a b n q)

    pub made_whole : IsWhole image
    made_whole = record {
      tables = g.tables;
      mapped = subst (λ c. IsMappedInParts image c (inode_count image)) (sym made_alike.bytes) (subst (λ c. IsMappedInParts image (view w0) c) (sym made_alike.inodes)
          (λ q high out. made_page q ∙ rest.mapped q high out));
    }

    pub made_rest : IsResting image
    made_rest = record {
      shut = made_shut;
      unstaged = root_entry image 2 g.tables (omega arith) (g.cells 1 2 (omega arith) (none_below a b n 0 2 low some (omega arith) (omega arith)) ∙ root_cell w0 2 (omega arith) rest.unstaged);
      tables = g.tables;
      mapped = made_whole.mapped;
    }

    made_state : SameState w0 image
    made_state =
        shut_state (record { lawful = (shut_few 0 w0 rest.shut).lawful; lawful_too = (shut_few 0 image made_shut).lawful; words = λ w lt. g.low w (omega arith); size = g.size })
        rest.shut made_shut (rest_whole rest) made_whole made_alike

    made_still : Crash (SameState w0) 0 image
    made_still = still_crash made_shut made_state

    pub made_placed : ArePlaced (view w0) (inode_count w0) → ArePlaced (view image) (inode_count image)
    made_placed rule = subst (λ c. ArePlaced c (inode_count image)) (sym made_alike.bytes) (subst (λ (c : ℕ). ArePlaced (view w0) c) (sym made_alike.inodes) rule)

  making_spares : ArePlaced (view w0) (inode_count w0) → {before after : FreePages} → Agrees w0 before → (image : List ℕ) (word value : ℕ) → Grown w0 image (few_wants a b n) before after → MayGrow w0 (few_wants a b n) before after word
      → SparesFiles image word value
  making_spares rule agrees image w value g may file =
      let closed : IsClosed image = record { shut = made_shut g; whole = made_whole g; placed = made_placed g rule } in
      let at = file_page closed (settles_page image closed (same_refl (settled image)) file) in
      let here : page_at w0 4 at.number ≡ w / 512 = sym (made_page g at.number) ∙ at.is in
      elim may [
        | inl taken ↦ agrees.free (w / 512) taken.was 4 at.number (omega arith) here
        | inr gap ↦
            let few = gap.few in
            let same : page_at w0 gap.depth gap.number ≡ page_at w0 4 at.number = omega (arith, gap.is, gap.small, here) in
            omega (arith, (rest.tables.once gap.depth gap.number 4 at.number (omega arith) (omega arith) gap.there same).0, few)
      ]

  -- while tables are made
  pub making_phase : ArePlaced (view w0) (inode_count w0) → {start told : Option History} {now : List ℕ} {before after : FreePages} → Agrees w0 before → LeavesOnly start told (λ image. Grown w0 image (few_wants a b n) before after)
      → MakesOnly (λ at put. MayGrow w0 (few_wants a b n) before after at) start told → Grown w0 now (few_wants a b n) before after → Phase (SameState w0) 0 start told now
  making_phase rule agrees images made grown = record {
    moments = weaker (Crash (SameState w0) 0) (λ image g. made_still g) images;
    stores = stores_over SparesFiles (making_spares rule agrees) images made;
    reads = made_still grown;
  }

  -- and while pages are staged, which begins at these words
  pub staging_phase : {w1 now : List ℕ} {before after : FreePages} → Grown w0 w1 (few_wants a b n) before after → {mid told : Option History} → LeavesOnly mid told (SeesSame w1) → LeavesOnly mid told (SameState w1) → StoresOver SparesFiles mid told → SeesSame w1 now → SameState w1 now
      → Phase (SameState w0) 0 mid told now
  staging_phase {w1} {now} g seen same stores sees state =
      record { moments = weaker (Crash (SameState w0) 0) (λ image has. still image has.0 has.1) (both seen same); stores = stores; reads = still now sees state }
    where
      still : (image : List ℕ) → SeesSame w1 image → SameState w1 image → Crash (SameState w0) 0 image
      still image seen same = still_crash (seen.head 512 (omega arith) ∙ (made_shut g).0, seen.head 527 (omega arith) ∙ (made_shut g).1) (state_then (made_state g) same)

  -- the tables of the file's side are there still
  pub kept_met : {w1 w2 : List ℕ} → HasAll w1 (few_wants a b n) → SeesSame w1 w2 → AreMet w2 (few_wants a b n)
  kept_met all seen zero x one four is none = absurd (omega arith)
  kept_met {w1} all seen (suc d) x one four is none =
      all_met w1 (few_wants a b n) (few_some a b n some) all (suc d) x one four is (sym (seen.cells d x (omega arith) (λ slot.
      Rattle.std.proofs.lemmas.Bool.false≢true (sym (none_below a b n d x low some (omega arith) (omega (arith, slot))) ∙ is))) ∙ none)

  pub prepared_with : {w1 w2 : List ℕ} {before after : FreePages} (edit : Edit) → Grown w0 w1 (few_wants a b n) before after → SeesSame w1 w2 → IsLaid w2 → All (HasTables w2 a b) (pieces a b n)
      → (AreBytes edit → (j o : ℕ) → j < n → o < 4096 → byte w2 ((b + j) * 4096 + o) ≡ edited (view w1) edit ((a + j) * 4096 + o)) → length w2 ≡ length w1 → Prepared w0 w2 a b n edit
  prepared_with edit g seen laid tables bytes size = record {
    laid = laid;
    seen = seen.bytes ∙ (made_alike g).bytes;
    head = λ w lt. seen.head w (omega arith) ∙ g.low w (omega arith);
    others = λ v lt away. seen.others v lt away ∙ g.bytes v lt;
    pages = λ p away. seen.cells 3 p (omega arith) away ∙ made_page g p;
    roots = λ k from to. seen.cells 0 k (omega arith) (λ slot. omega (arith, slot, from)) ∙ g.cells 1 k (omega arith) (none_below a b n 0 k low some (omega arith) (omega (arith, to)));
    tables = tables;
    bytes = λ are j o lt small. bytes are j o lt small ∙ ap (λ c. edited c edit ((a + j) * 4096 + o)) (made_alike g).bytes;
    size = size ∙ g.size;
  }

  pub prepared : {w1 w2 : List ℕ} {before after : FreePages} (edit : Edit) → Grown w0 w1 (few_wants a b n) before after → HasAll w1 (few_wants a b n) → a + n ≤ 2 ^ 36 → 2 * 2 ^ 27 ≤ b → b + n ≤ 3 * 2 ^ 27
      → SeesSame w1 w2 → IsLaid w2 → ((j : ℕ) → j < n → Holds w2 (b + j) (staged_words w1 edit (a + j)))
      → (AreBytes edit → (j o : ℕ) → j < n → o < 4096 → byte w2 ((b + j) * 4096 + o) ≡ edited (view w1) edit ((a + j) * 4096 + o)) → length w2 ≡ length w1 → Prepared w0 w2 a b n edit
  prepared {w1} {w2} edit g all first from to seen laid holds bytes size =
      prepared_with edit g seen laid
      (tables_there w2 a b n first (omega arith) (few_met w2 a b n some (kept_met all seen))
      (pages_met w2 a b n (all_met w2 (record { height = 0; at = b * 4096; len = n * 4096 } ∷ []) (omega arith, tt) (has_pages, tt)))) bytes size
    where
      has_pages : (v : ℕ) → b * 4096 ≤ v → v < b * 4096 + n * 4096 → page_at w2 4 (v / 4096) ≢ 0
      has_pages v from_v to_v none = (holds (v / 4096 - b) (omega arith)).0 (ap (page_at w2 4) (omega arith) ∙ none)

-- ---- as the function has them

module _ {w0 w1 : List ℕ} {start mid : Option History} {before after : FreePages} (a b n : ℕ) (rest : IsResting w0) (low : 10 * 2 ^ 27 ≤ a) (some : 1 ≤ n) {wants : List Want} (asked : wants ≡ few_wants a b n) (extends : Extends wants w0 w1 start mid before after) where
  as_asked : Extends (few_wants a b n) w0 w1 start mid before after
  as_asked = subst (λ (l : List Want). Extends l w0 w1 start mid before after) asked extends

  pub tables_cells : (d x : ℕ) → d ≤ 4 → is_wanted (few_wants a b n) d x ≡ false → page_at w1 d x ≡ page_at w0 d x
  tables_cells = as_asked.grown.cells

  pub tables_rest : IsResting w1
  tables_rest = made_rest a b n rest low some as_asked.grown

  pub tables_phase : ArePlaced (view w0) (inode_count w0) → Agrees w0 before → NothingPending start → Phase (SameState w0) 0 start mid w1
  tables_phase rule agrees settled = making_phase a b n rest low some rule agrees (as_asked.images settled) as_asked.made as_asked.grown

  pub pages_phase : {now : List ℕ} {told : Option History} → ArePlaced (view w0) (inode_count w0) → Agrees w0 before → NothingPending start → LeavesOnly mid told (SeesSame w1) → LeavesOnly mid told (SameState w1) → StoresOver SparesFiles mid told → SeesSame w1 now → SameState w1 now
      → Phase (SameState w0) 0 start told now
  pages_phase rule agrees settled seen same stores sees state = phase_then (tables_phase rule agrees settled) (staging_phase a b n rest low some as_asked.grown seen same stores sees state)

  pub pages_prepared : {w2 : List ℕ} (edit : Edit) → HasAll w1 wants → a + n ≤ 2 ^ 36 → 2 * 2 ^ 27 ≤ b → b + n ≤ 3 * 2 ^ 27 → SeesSame w1 w2 → IsLaid w2 → ((j : ℕ) → j < n → Holds w2 (b + j) (staged_words w1 edit (a + j)))
      → (AreBytes edit → (j o : ℕ) → j < n → o < 4096 → byte w2 ((b + j) * 4096 + o) ≡ edited (view w1) edit ((a + j) * 4096 + o)) → length w2 ≡ length w1 → Prepared w0 w2 a b n edit
  pages_prepared edit all = prepared a b n rest low some edit as_asked.grown (subst (HasAll w1) asked all)

  pub tables_kept : {w2 : List ℕ} → HasAll w1 wants → SeesSame w1 w2 → AreMet w2 (few_wants a b n)
  tables_kept all seen = kept_met a b n rest low some (subst (HasAll w1) asked all) seen

  pub range_prepared : {w2 : List ℕ} (edit : Edit) → SeesSame w1 w2 → IsLaid w2 → All (HasTables w2 a b) (pieces a b n)
      → (AreBytes edit → (j o : ℕ) → j < n → o < 4096 → byte w2 ((b + j) * 4096 + o) ≡ edited (view w1) edit ((a + j) * 4096 + o)) → length w2 ≡ length w1 → Prepared w0 w2 a b n edit
  range_prepared edit = prepared_with a b n rest low some edit as_asked.grown
