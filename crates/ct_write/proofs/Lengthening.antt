-- A file is lengthened: one size becomes another.
use Rattle.std.proofs.Common.{◌≡◌, ◌≢◌, ℕ, ◌+◌, ◌*◌, ◌/◌, ◌≤◌, List, length, sym, ap, subst, ◌∙◌, inl, inr, arith}
use Rattle.std.proofs.lemmas.Bool.{cases_Bool, lt-ltb, or_left}
use Rattle.ct_base.specs.Inode.{inode, part_bytes}
use Rattle.ct_base.specs.Rules.{HasRoom, Owns}
use Rattle.ct_base.specs.Settled.{IsShut}
use Rattle.ct_base.specs.View.{is_seen, view, inode_count}
use Rattle.ct_base.specs.Walk.{page_at}
use Rattle.ct_frames.specs.Agrees.{Agrees}
use Rattle.ct_frames.specs.Free.{FreePages}
use Rattle.ct_grow.proofs.Carried.{ready_closed}
use Rattle.ct_grow.proofs.Moved.{space_of}
use Rattle.ct_grow.specs.Grown.{IsReady}
use Rattle.ct_inode.proofs.Loaded.{kind_none}
use Rattle.ct_state.proofs.Carry.{view-seen, view-other}
use Rattle.ct_state.proofs.Neutral.{seen-bounds}
use Rattle.ct_state.proofs.States.{state_here}
use Rattle.ct_tree.specs.Content.{resized}
use Rattle.ct_tree.specs.Lands.{files}
use Rattle.ct_tree.specs.Stands.{IsFile}
use Rattle.ct_tree.proofs.Ordered.{resized_length}
use Rattle.ct_words.proofs.Shown.{little-shown}
use Rattle.ct_words.specs.Shown.{shown_word}
use Rattle.ct_write.specs.Lengthened.{CanLengthen, IsLengthened}
use Rattle.ct_write.specs.Recorded.{Sized}
use Rattle.ct_write.proofs.Changing.{Changing, bytes_had, changed_placed, changed_ready, changed_whole, file_now}
use Rattle.ct_write.proofs.Files.{resized_at}
use Rattle.ct_write.proofs.Reaching.{fresh_agree}
use Rattle.ct_write.proofs.Sizing.{sized_inode}
use Rattle.ct_write.proofs.Tabled.{root_cell, root_entry}
use Rattle.ct_write.proofs.Turning.{Turns}

-- the page of a live inode is there
pub inode_there : (img : List ℕ) (i : ℕ) → IsReady img → Rattle.ct_base.specs.Inode.IsLive (view img) (inode_count img) i → page_at img 4 (64 * i / 4096) ≢ 0
inode_there img i ready live none =
    let few = live.number.to in
    let most = ready.inodes.1 in
    let page : 64 * i / 4096 ≡ i / 64 = omega arith in
    live.used (kind_none img i (omega (arith, few, most)) (ap (page_at img 4) (sym page) ∙ none))

-- the word of its size
pub size_shown : (img : List ℕ) (i : ℕ) → i ≤ 1048576 → shown_word img (64 * i + 8) ≡ (inode (view img) i).size
size_shown img i few =
    let at : 64 * i + 8 ≡ 64 * i + 8 * 1 = omega arith in
    ap (λ v. shown_word img v) at ∙ sym (little-shown img (64 * i + 8 * 1) (omega arith) (or_left _ _ (lt-ltb (64 * i + 8 * 1) 1099511627776 (omega arith))))

module _ {w0 : List ℕ} {i len : ℕ} (can : CanLengthen w0 i len) where
  pub few : i ≤ 1048576
  few = omega (arith, can.live.number.to, can.ready.inodes.1)

  owns : Owns (view w0) (inode_count w0) i
  owns = record { live = can.live; level = can.level }

  room : HasRoom (inode (view w0) i)
  room = elim ((space_of w0 can.ready).placed i can.live).place [ inl none ↦ absurd (omega (arith, none.level, can.level)) | inr r ↦ r ]

  pub lengthened : {new : List ℕ} → Sized w0 new i len → IsLengthened w0 new i len
  lengthened {new} s = record {
    size = sized_inode s few;
    bytes = λ v off. elim (cases_Bool (is_seen v)) [
      | inl seen ↦ view-seen new v seen ∙ s.bytes v (seen-bounds v seen).0 off ∙ sym (view-seen w0 v seen)
      | inr other ↦ view-other new v other ∙ sym (view-other w0 v other)
    ];
    inodes = s.head 3 (omega arith);
    pages = s.cells;
    staged = λ v from to. s.bytes v (omega (arith, to)) (inr (omega (arith, from, few)));
    head = s.head;
    length = s.size;
  }

  module _ {new : List ℕ} (w : IsLengthened w0 new i len) where
    pub lengthening : Changing w0 new i
    lengthening = record {
      ready = can.ready;
      writes = record {
        space = space_of w0 can.ready;
        owns = owns;
        file = can.file;
        others = λ v out off. w.bytes v off;
        fits = subst (λ (k : ℕ). k ≤ part_bytes (inode (view w0) i).level) (sym w.size) can.fits;
        tail = λ k past lt. w.bytes ((inode (view w0) i).base + k) (inr (omega (arith, room.part.low, few))) ∙ (space_of w0 can.ready).tails i owns k (omega (arith, past, w.size, can.more)) lt;
      };
      inodes = w.inodes;
      pages = λ p low out. w.pages 4 p (omega arith);
    }

    pub file_lengthened : (was : List ℕ) → IsFile (files w0 i) was → IsFile (files new i) (resized len was)
    file_lengthened was is =
        let total : length (resized len was) ≡ len = resized_length len was in
        file_now lengthening (resized len was) (w.size ∙ sym total) (λ k lt.
        w.bytes ((inode (view w0) i).base + k) (inr (omega (arith, room.part.low, few)))
        ∙ bytes_had lengthening was is k (omega (arith, lt, w.size, can.fits)) ∙ sym (resized_at len was k (omega (arith, lt, w.size))))

  pub lengthened_ready : {new : List ℕ} → Sized w0 new i len → IsShut new → IsReady new
  lengthened_ready {new} s shut =
      changed_ready (lengthening (lengthened s)) s.tables shut (root_entry new 2 s.tables (omega arith) (s.cells 1 2 (omega arith) ∙ root_cell w0 2 (omega arith) can.ready.unstaged))

  pub lengthening_turns : Turns w0 w0 (λ after. Sized w0 after i len)
  lengthening_turns = record {
    still = state_here w0;
    closed = ready_closed can.ready;
    after = λ after s shut. record { shut = shut; whole = changed_whole (lengthening (lengthened s)) s.tables; placed = changed_placed (lengthening (lengthened s)) };
    from = λ after s q high. (q, omega (arith, high), sym (s.cells 4 q (omega arith)));
  }

pub sized_agrees : {old new : List ℕ} {i len : ℕ} {frames : FreePages} → Sized old new i len → Agrees old frames → Agrees new frames
sized_agrees s = fresh_agree (s.head 2 (omega arith)) (λ q f d x le is. f d x le (sym (s.cells d x le) ∙ is)) (λ q f d x le is. f d x le (s.cells d x le ∙ is))
