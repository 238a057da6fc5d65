-- The record of a write is made: the file has the new bytes.
use Rattle.std.proofs.Common.{◌≡◌, ◌≢◌, ℕ, ◌+◌, ◌-◌, ◌*◌, ◌/◌, ◌%◌, ◌^◌, ◌<◌, ◌≤◌, ◌⊎◌, true, false, List, sym, ap, subst, ◌∙◌, inl, inr, arith}
use Rattle.std.proofs.Math.Nat.{le-max_left, le-max_right, max-le}
use Rattle.std.proofs.lemmas.Bool.{cases_Bool, cases_lt, lt-ltb, or_left}
use Rattle.ct_base.specs.declared.inode.Inode.{Inode}
use Rattle.ct_base.specs.Exchange.{Exchanged, Outside, partner}
use Rattle.ct_base.specs.Inode.{inode, IsIn, part_bytes}
use Rattle.ct_base.specs.Plan.{touched}
use Rattle.ct_base.specs.Rules.{HasRoom, Owns, part_of}
use Rattle.ct_base.specs.View.{is_seen, view, inode_count}
use Rattle.ct_base.specs.Walk.{word, byte, byte_in, page_at}
use Rattle.ct_grow.proofs.Moved.{space_of}
use Rattle.ct_image.proofs.Partner.{partner-first, partner-other}
use Rattle.ct_image.proofs.Steps.{walk-cell}
use Rattle.ct_stage.specs.declared.edit.Edit.{Edit}
use Rattle.ct_stage.specs.declared.edit.Given.{Given}
use Rattle.ct_stage.specs.Edited.{AreBytes, edited}
use Rattle.ct_stage.proofs.Edits.{edited-off}
use Rattle.ct_state.proofs.Carry.{view-seen, view-other}
use Rattle.ct_state.proofs.Commit.{exchanged_byte, outside_byte}
use Rattle.ct_state.proofs.Neutral.{seen-bounds}
use Rattle.ct_state.proofs.Write.{WritesFile}
use Rattle.ct_write.specs.Prepared.{Prepared}
use Rattle.ct_write.specs.Recorded.{Recorded}
use Rattle.ct_write.specs.Written.{CanWrite, IsEdited, edit_of, side_page, size_after, stage_page}
use Rattle.ct_write.proofs.Changing.{Changing}
use Rattle.ct_write.proofs.Sizing.{sized_inode}
use Rattle.ct_write.proofs.Spots.{Spot, spot}

pub room_of : {img : List ℕ} {i off len : ℕ} → CanWrite img i off len → HasRoom (inode (view img) i)
room_of {img} {i} can = elim ((space_of img can.ready).placed i can.live).place [ inl none ↦ absurd (omega (arith, none.level, can.level)) | inr r ↦ r ]

pub spot_of : {img : List ℕ} {i off len : ℕ} → CanWrite img i off len → Spot (inode (view img) i) off len
spot_of {img} {i} {off} {len} can = spot (inode (view img) i) off len (room_of can).part can.some can.fits

pub owns_of : {img : List ℕ} {i off len : ℕ} → CanWrite img i off len → Owns (view img) (inode_count img) i
owns_of can = record { live = can.live; level = can.level }

-- what is written lies behind the inodes
unseen_out : (v from to : ℕ) → 10 * 2 ^ 39 ≤ from → to ≤ 2 ^ 48 → is_seen v ≡ false → (v < from) ⊎ (to ≤ v)
unseen_out v from to low high not_seen = elim (cases_lt v from) [
  | inl before ↦ inl before
  | inr le ↦ elim (cases_lt v to) [
    | inr past ↦ inr past
    | inl lt ↦ let b : is_seen v ≡ true = seen_part v (omega arith) (omega arith) in absurd (Rattle.std.proofs.lemmas.Bool.false≢true (sym not_seen ∙ b))
  ]
]
  where
    seen_part : (v : ℕ) → 10 * 2 ^ 39 ≤ v → v < 2 ^ 48 → is_seen v ≡ true
    seen_part v from to = grind arith

-- Pages were staged, and the record was made.
pub record Calls (w0 w2 w3 : List ℕ) (i off len : ℕ) (given : Given) (size : ℕ) : Type 0 where
  pub can : CanWrite w0 i off len
  pub prepared : Prepared w0 w2 (side_page (inode (view w0) i) off) (stage_page (inode (view w0) i) off) (touched off len) (edit_of (inode (view w0) i) off len given)
  pub recorded : Recorded w2 w3 i (side_page (inode (view w0) i) off) (stage_page (inode (view w0) i) off) (touched off len) size
  pub bytes : AreBytes (edit_of (inode (view w0) i) off len given)

module _ {w0 w2 w3 : List ℕ} {i off len : ℕ} {given : Given} {size : ℕ} (c : Calls w0 w2 w3 i off len given size) where
  abbrev f : Inode
  f = inode (view w0) i

  abbrev a : ℕ
  a = side_page (inode (view w0) i) off

  abbrev b : ℕ
  b = stage_page (inode (view w0) i) off

  abbrev n : ℕ
  n = touched off len

  abbrev edit : Edit
  edit = edit_of (inode (view w0) i) off len given

  s : Spot f off len
  s = spot_of c.can

  e : Exchanged w2 c.recorded.middle a b n
  e = c.recorded.exchanged

  -- a byte of a touched page is the staged one
  inside : (v : ℕ) → a * 4096 ≤ v → v < (a + n) * 4096 → byte c.recorded.middle v ≡ edited (view w0) edit v
  inside v from to =
      let j = v / 4096 - a in
      let o = v % 4096 in
      let first_to = s.first_to in
      let second_to = s.second_to in
      let page : partner a b n (v / 4096) ≡ b + (v / 4096 - a) = partner-first a b n (v / 4096) (omega arith) (omega arith) ∙ omega arith in
      let u = (b + (v / 4096 - a)) * 4096 + v % 4096 in
      let u_page : b + (v / 4096 - a) ≡ ((b + (v / 4096 - a)) * 4096 + v % 4096) / 4096 = omega arith in
      let u_index : v % 4096 ≡ ((b + (v / 4096 - a)) * 4096 + v % 4096) % 4096 = omega arith in
      exchanged_byte e v (omega (arith, first_to))
      ∙ ap (λ p. byte_in w2 (page_at w2 4 p) (v % 4096)) (page ∙ u_page)
      ∙ ap (λ k. byte_in w2 (page_at w2 4 (((b + (v / 4096 - a)) * 4096 + v % 4096) / 4096)) k) u_index
      ∙ sym (ap (λ t. byte_in w2 t (((b + (v / 4096 - a)) * 4096 + v % 4096) % 4096)) (walk-cell w2 ((b + (v / 4096 - a)) * 4096 + v % 4096) (omega (arith, second_to))))
      ∙ c.prepared.bytes c.bytes (v / 4096 - a) (v % 4096) (omega arith) (omega arith)
      ∙ ap (edited (view w0) edit) (omega arith)

  out_pages : (p : ℕ) → p / 2 ^ 27 ≢ 2 → (p < a) ⊎ (a + n ≤ p) → Outside a b n p
  out_pages p away out = record {
    first = λ le. elim out [ inl before ↦ absurd (omega (arith, before, le)) | inr past ↦ past ];
    second = λ le. elim (cases_lt p (3 * 2 ^ 27)) [ inl low ↦ absurd (away (omega (arith, low, le, s.second_from))) | inr high ↦ omega (arith, high, s.second_to) ];
  }

  -- off the touched pages and root slot 2
  away_from : (v : ℕ) → v < 2 ^ 48 → v / 2 ^ 39 ≢ 2 → (v < a * 4096) ⊎ ((a + n) * 4096 ≤ v) → byte c.recorded.middle v ≡ byte w0 v
  away_from v small away out =
      outside_byte e v small (out_pages (v / 4096) (λ is. away (omega (arith, is))) (elim out [ inl l ↦ inl (omega arith) | inr r ↦ inr (omega arith) ]))
      ∙ c.prepared.others v small away

  outside : (v : ℕ) → is_seen v ≡ true → (v < a * 4096) ⊎ ((a + n) * 4096 ≤ v) → byte c.recorded.middle v ≡ edited (view w0) edit v
  outside v seen out =
      let bounds = seen-bounds v seen in
      away_from v bounds.0 (λ slot. elim bounds.1 [ inl l ↦ omega (arith, l, slot) | inr r ↦ omega (arith, r, slot) ]) out
      ∙ sym (view-seen w0 v seen)
      ∙ sym (edited-off (view w0) edit v (elim out [ inl l ↦ inl (omega (arith, l, s.range_from)) | inr r ↦ inr (omega (arith, r, s.range_to)) ]))

  new_byte : (v : ℕ) → (v < 64 * i + 8) ⊎ (64 * i + 16 ≤ v) → view w3 v ≡ edited (view w0) edit v
  new_byte v off_size = elim (cases_Bool (is_seen v)) [
    | inl seen ↦
        let bounds = seen-bounds v seen in
        view-seen w3 v seen ∙ c.recorded.sized.bytes v bounds.0 off_size ∙ elim (cases_lt v (a * 4096)) [
          | inl before ↦ outside v seen (inl before)
          | inr from ↦ elim (cases_lt v ((a + n) * 4096)) [ inl lt ↦ inside v from lt | inr past ↦ outside v seen (inr past) ]
        ]
    | inr other ↦
        view-other w3 v other
        ∙ sym (edited-off (view w0) edit v (unseen_out v (f.base + off) (f.base + off + len) (omega (arith, (room_of c.can).part.low)) (omega (arith, s.range_to, s.to, s.high)) other) ∙ view-other w0 v other)
  ]

  new_size : (inode (view w3) i).size ≡ size
  new_size = sized_inode c.recorded.sized (omega (arith, c.can.live.number.to, c.can.ready.inodes.1))

  new_head : (w : ℕ) → w < 512 → word w3 w ≡ word w0 w
  new_head w lt = c.recorded.sized.head w lt ∙ c.recorded.head w lt ∙ c.prepared.head w lt

  -- the exchange leaves the other staging slots alone
  root_stays : (k : ℕ) → 3 ≤ k → k < 10 → page_at c.recorded.middle 1 k ≡ page_at w2 1 k
  root_stays k from to =
      let at : k * 2 ^ 27 / 512 ^ (4 - 1) ≡ k = omega arith in
      let out : Outside a b n (k * 2 ^ 27) = record { first = λ le. omega (arith, le, to, s.first_from); second = λ le. omega (arith, from, s.second_to) } in
      ap (page_at c.recorded.middle 1) (sym at) ∙ e.cells 1 (k * 2 ^ 27) (omega arith) out ∙ ap (page_at w2 1) at

  pub written : IsEdited w0 w3 i off len given size
  written = record {
    bytes = new_byte;
    size = new_size;
    inodes = new_head 3 (omega arith);
    pages = λ p away out. c.recorded.sized.cells 4 p (omega arith) ∙ e.pages p ∙ ap (page_at w2 4) (partner-other a b n p (out_pages p away out)) ∙ c.prepared.pages p away;
    staged = λ v from to.
        let few = c.can.live.number.to in
        let most = c.can.ready.inodes.1 in
        c.recorded.sized.bytes v (omega (arith, to)) (inr (omega (arith, from, few, most)))
        ∙ away_from v (omega (arith, to)) (λ slot. omega (arith, slot, from)) (inl (omega (arith, to, s.first_from)));
    roots = λ k from to. c.recorded.sized.cells 1 k (omega arith) ∙ root_stays k from to ∙ c.prepared.roots k from to;
    head = new_head;
    length = c.recorded.sized.size ∙ e.size ∙ c.prepared.size;
  }

-- ---- the file after that

-- a size that the partition holds, with zeros behind it once the edit is made
pub record IsSize (img : List ℕ) (i off len : ℕ) (given : Given) (size : ℕ) : Type 0 where
  pub fits : size ≤ part_bytes (inode (view img) i).level
  pub tail : (k : ℕ) → size ≤ k → k < part_bytes (inode (view img) i).level → edited (view img) (edit_of (inode (view img) i) off len given) ((inode (view img) i).base + k) ≡ 0

-- that of a write is one
pub write_size : {img : List ℕ} {i off len : ℕ} (given : Given) → CanWrite img i off len → IsSize img i off len given (size_after img i off len)
write_size {img} {i} {off} {len} given can =
    let g = inode (view img) i in
    record {
      fits = max-le (room_of can).size can.fits;
      tail = λ k past lt.
          let one : (inode (view img) i).size ≤ k = omega (arith, le-max_left (inode (view img) i).size (off + len), past) in
          let two : off + len ≤ k = omega (arith, le-max_right (inode (view img) i).size (off + len), past) in
          edited-off (view img) (edit_of g off len given) (g.base + k) (inr (omega (arith, two))) ∙ (space_of img can.ready).tails i (owns_of can) k one lt;
    }

module _ {w0 new : List ℕ} {i off len : ℕ} {given : Given} {size : ℕ} (can : CanWrite w0 i off len) (sized : IsSize w0 i off len given size) (w : IsEdited w0 new i off len given size) where
  abbrev g : Inode
  g = inode (view w0) i

  at : Spot g off len
  at = spot_of can

  off_part : (v : ℕ) → (IsIn (part_of (view w0) i) v → ⊥) → (v < g.base + off) ⊎ (g.base + off + len ≤ v)
  off_part v out = elim (cases_lt v (g.base + off)) [
    | inl before ↦ inl before
    | inr from ↦ elim (cases_lt v (g.base + off + len)) [ inl lt ↦ absurd (out (record { from = omega arith; to = omega (arith, lt, can.fits) })) | inr past ↦ inr past ]
  ]

  writes : WritesFile (view w0) (view new) (inode_count w0) i
  writes = record {
    space = space_of w0 can.ready;
    owns = owns_of can;
    file = can.file;
    others = λ v out off_size. w.bytes v off_size ∙ edited-off (view w0) (edit_of g off len given) v (off_part v out);
    fits = subst (λ (k : ℕ). k ≤ part_bytes g.level) (sym w.size) sized.fits;
    tail = λ k past lt.
        let low = (room_of can).part.low in
        let few = can.live.number.to in
        let most = can.ready.inodes.1 in
        w.bytes (g.base + k) (inr (omega (arith, low, few, most))) ∙ sized.tail k (omega (arith, w.size, past)) lt;
  }

  off_pages : (p : ℕ) → (IsIn (part_of (view w0) i) (p * 4096) → ⊥) → (p < side_page g off) ⊎ (side_page g off + touched off len ≤ p)
  off_pages p out = elim (cases_lt p (side_page g off)) [
    | inl before ↦ inl before
    | inr from ↦ elim (cases_lt p (side_page g off + touched off len)) [
      | inl lt ↦ absurd (out (record { from = omega (arith, at.from, from); to = omega (arith, at.to, lt) }))
      | inr past ↦ inr past
    ]
  ]

  pub changing : Changing w0 new i
  changing = record { ready = can.ready; writes = writes; inodes = w.inodes; pages = λ p low out. w.pages p (λ slot. omega (arith, slot, low)) (off_pages p out) }
