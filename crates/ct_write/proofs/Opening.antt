-- What the call was given, as the function has it.
use Rattle.std.proofs.Common.{◌≡◌, ℕ, ◌+◌, ◌*◌, ◌/◌, ◌^◌, ◌≤◌, List, length, sym, ap, subst, ◌∙◌, arith}
use Rattle.std.specs.Prelude.{max}
use Rattle.std.proofs.lemmas.Bool.{lt-ltb, or_left}
use Rattle.ct_base.specs.declared.inode.Inode.{Inode}
use Rattle.ct_base.specs.Inode.{inode, part, part_bytes}
use Rattle.ct_base.specs.Plan.{stage, touched, write_wants}
use Rattle.ct_base.specs.State.{SameState}
use Rattle.ct_base.specs.Rules.{mapped}
use Rattle.ct_base.specs.View.{view}
use Rattle.ct_base.specs.Walk.{page_at}
use Rattle.ct_base.specs.Wants.{missing}
use Rattle.ct_grow.specs.Grown.{IsReady}
use Rattle.ct_inode.proofs.Loaded.{kind_none}
use Rattle.ct_parts.proofs.Lengths.{pow8_small}
use Rattle.ct_stage.specs.declared.edit.Given.{Given}
use Rattle.ct_stage.specs.Edited.{AreBytes}
use Rattle.ct_stage.specs.Staged.{IsResting}
use Rattle.ct_words.proofs.Shown.{little-shown}
use Rattle.ct_words.specs.Shown.{shown_word}
use Rattle.ct_write.specs.Prepared.{Prepared, range_wants}
use Rattle.ct_write.specs.Recorded.{CanRecord, Recorded}
use Rattle.ct_write.specs.Written.{CanWrite, edit_of, side_page, size_after, stage_page}
use Rattle.ct_write.proofs.Counting.{range_missing}
use Rattle.ct_write.proofs.Done.{IsSize, spot_of, write_size}
use Rattle.ct_write.proofs.Moving.{Staged}
use Rattle.ct_write.proofs.Spots.{Spot, few_pieces}

-- what a call may begin at is what staging begins at
pub rest_of : {img : List ℕ} → IsReady img → IsResting img
rest_of ready = record { shut = ready.shut; unstaged = ready.unstaged; tables = ready.tables; mapped = ready.rules mapped (omega arith) }

pub record Opened (w0 : List ℕ) (i off len : ℕ) (given : Given) (file : Inode) (a b n : ℕ) : Type 0 where
  pub can : CanWrite w0 i off len
  pub bytes : AreBytes (edit_of (inode (view w0) i) off len given)
  pub file_is : file ≡ inode (view w0) i
  pub a_is : a ≡ (file.base + off) / 4096
  pub b_is : b ≡ stage (file.base + off) / 4096
  pub n_is : n ≡ touched off len

pub opened : {w0 : List ℕ} {i off len : ℕ} (given : Given) {file : Inode} {a b n : ℕ} → CanWrite w0 i off len → AreBytes (edit_of (inode (view w0) i) off len given) → file ≡ inode (view w0) i → a ≡ (file.base + off) / 4096 → b ≡ stage (file.base + off) / 4096 → n ≡ touched off len
    → Opened w0 i off len given file a b n
opened given can bytes file a b n = record { can = can; bytes = bytes; file_is = file; a_is = a; b_is = b; n_is = n }

part_small : {w0 : List ℕ} {i off len : ℕ} → CanWrite w0 i off len → part_bytes (inode (view w0) i).level ≤ 2 ^ 39
part_small {w0} {i} can = let small = pow8_small (inode (view w0) i).level can.level in omega (arith, small.0)

pub fits_slot : {w0 : List ℕ} {i off len : ℕ} → CanWrite w0 i off len → off + len ≤ 2 ^ 39
fits_slot can = omega (arith, can.fits, part_small can)

pub low_end : {w0 : List ℕ} {i off len : ℕ} {file : Inode} → CanWrite w0 i off len → file ≡ inode (view w0) i → file.base + off + len ≤ 2 ^ 48
low_end {w0} {i} {off} {len} can is =
    let s = spot_of can in
    let base = ap (λ (f : Inode). f.base) is in
    omega (arith, base, can.fits, s.high)

module _ {w0 : List ℕ} {i off len : ℕ} {given : Given} {file : Inode} {a b n : ℕ} (o : Opened w0 i off len given file a b n) where
  abbrev f : Inode
  f = inode (view w0) i

  a_eq : a ≡ side_page f off
  a_eq = o.a_is ∙ ap (λ (g : Inode). side_page g off) o.file_is

  b_eq : b ≡ stage_page f off
  b_eq = o.b_is ∙ ap (λ (g : Inode). stage_page g off) o.file_is

  pub open_spot : Spot f off len
  open_spot = spot_of o.can

  pub first_from : 10 * 2 ^ 27 ≤ a
  first_from = omega (arith, a_eq, open_spot.first_from)

  pub first_to : a + n ≤ 2 ^ 36
  first_to = omega (arith, a_eq, o.n_is, open_spot.first_to)

  pub second_to : b + n ≤ 3 * 2 ^ 27
  second_to = omega (arith, b_eq, o.n_is, open_spot.second_to)

  pub second_from : 2 * 2 ^ 27 ≤ b
  second_from = omega (arith, b_eq, open_spot.second_from)

  pub some_pages : 1 ≤ n
  some_pages = omega (arith, o.n_is)

  -- what holds of these pages holds of those of the file
  pub at_file : (P : ℕ → ℕ → ℕ → Type 0) → P a b n → P (side_page f off) (stage_page f off) (touched off len)
  at_file P h = subst (λ x. P x (stage_page f off) (touched off len)) a_eq (subst (λ y. P a y (touched off len)) b_eq (subst (λ z. P a b z) o.n_is h))

  pub from_file : (P : ℕ → ℕ → ℕ → Type 0) → P (side_page f off) (stage_page f off) (touched off len) → P a b n
  from_file P h = subst (λ z. P a b z) (sym o.n_is) (subst (λ y. P a y (touched off len)) (sym b_eq) (subst (λ x. P x (stage_page f off) (touched off len)) (sym a_eq) h))

  pub open_missing : missing w0 (range_wants a b n) ≡ missing w0 (write_wants f off len (part f))
  open_missing = from_file (λ x y z. missing w0 (range_wants x y z) ≡ missing w0 (write_wants f off len (part f))) (range_missing w0 f off len (omega arith))

  pub staged_by : {w2 : List ℕ} {size : ℕ} → IsSize w0 i off len given size → Prepared w0 w2 a b n (edit_of file off len given) → SameState w0 w2 → Staged w0 w2 i off len given size
  staged_by {w2} sized p still = record {
    can = o.can;
    prepared = at_file (λ x y z. Prepared w0 w2 x y z (edit_of f off len given)) (subst (λ (g : Inode). Prepared w0 w2 a b n (edit_of g off len given)) o.file_is p);
    still = still;
    bytes = o.bytes;
    sized = sized;
  }

  pub recorded_at : {w2 w3 : List ℕ} {size : ℕ} → Recorded w2 w3 i a b n size → Recorded w2 w3 i (side_page f off) (stage_page f off) (touched off len) size
  recorded_at {w2} {w3} {size} r = at_file (λ x y z. Recorded w2 w3 i x y z size) r

  -- the size that a write drafts
  pub write_total : {size : ℕ} → size ≡ max file.size (off + len) → size ≡ size_after w0 i off len
  write_total is = is ∙ ap (λ (g : Inode). max g.size (off + len)) o.file_is

  pub write_sized : {size : ℕ} → size ≡ max file.size (off + len) → IsSize w0 i off len given size
  write_sized {size} is = subst (λ (k : ℕ). IsSize w0 i off len given k) (sym (write_total is)) (write_size given o.can)

  -- the record can be made
  pub can_record : {w2 : List ℕ} → Prepared w0 w2 a b n (edit_of file off len given) → CanRecord w2 i a b n file.size
  can_record {w2} p =
      let few = o.can.live.number.to in
      let most = o.can.ready.inodes.1 in
      let page : 64 * i / 4096 ≡ i / 64 = omega arith in
      record {
        from = o.can.live.number.from;
        to = omega (arith, few, most);
        there = λ none. o.can.live.used (kind_none w0 i (omega (arith, few, most)) (ap (page_at w0 4) (sym page) ∙ sym (p.pages (64 * i / 4096) (λ slot. omega (arith, slot, few, most))) ∙ none));
        was =
            let at : 64 * i + 8 ≡ 64 * i + 8 * 1 = omega arith in
            ap (λ v. shown_word w2 v) at
            ∙ sym (little-shown w2 (64 * i + 8 * 1) (omega arith) (or_left _ _ (lt-ltb (64 * i + 8 * 1) 1099511627776 (omega (arith, few, most)))))
            ∙ ap (λ g. (inode g i).size) p.seen ∙ sym (ap (λ (g : Inode). g.size) o.file_is);
        some = some_pages;
        first_from = first_from;
        first_to = first_to;
        second_from = second_from;
        second_to = second_to;
        tables = p.tables;
        few = from_file (λ x y z. length (Rattle.ct_base.specs.Pieces.pieces x y z) ≤ 2555) (few_pieces open_spot);
      }
