-- A file that grew has the pages that it had, but for those that the call replaces.
use Rattle.std.proofs.Common.{◌≡◌, ◌⊎◌, ℕ, ◌+◌, ◌*◌, ◌/◌, ◌%◌, ◌^◌, ◌<◌, ◌≤◌, List, sym, ap, subst, ◌∙◌, inl, inr, arith}
use Rattle.std.proofs.Math.Nat.{div-add-mod}
use Rattle.std.proofs.lemmas.Bool.{cases_lt}
use Rattle.ct_base.specs.Inode.{IsPart, Partition, inode, part, part_bytes}
use Rattle.ct_base.specs.Plan.{next_part, touched}
use Rattle.ct_base.specs.Rules.{Owns}
use Rattle.ct_base.specs.View.{view, inode_count}
use Rattle.ct_base.specs.Walk.{page_at, walk}
use Rattle.ct_frames.specs.Free.{FreePages}
use Rattle.ct_image.proofs.Steps.{walk-cell}
use Rattle.ct_state.proofs.Write.{part-same}
use Rattle.ct_stage.specs.declared.edit.Given.{Given}
use Rattle.ct_write.specs.Written.{IsWritten, side_page}
use Rattle.ct_write.proofs.Changing.{Changing}
use Rattle.ct_call.proofs.Enlarged.{part_high}
use Rattle.ct_call.specs.Placed.{IsMoved, IsTouched}
use Rattle.ct_call.specs.Rooms.{HasMoved}

-- a partition begins with a page
page_first : (q : Partition) → IsPart q → q.base % 4096 ≡ 0
page_first q is = let whole = div-add-mod q.base (part_bytes q.level) in omega (arith, whole, is.aligned)

-- the pages that a write does not touch lie before those that it touches, or after them
out : (off len v : ℕ) → 1 ≤ len → (IsTouched off len v → ⊥) → (v / 4096 < off / 4096) ⊎ (off / 4096 + touched off len ≤ v / 4096)
out off len v some kept = elim (cases_lt (v / 4096) (off / 4096)) [
  | inl less ↦ inl less
  | inr from ↦ elim (cases_lt (v / 4096 * 4096) (off + len)) [ inl inside ↦ absurd (kept (from, inside)) | inr past ↦ inr (omega (arith, past, from, some)) ]
]

-- the partition to which a file grows
abbrev to_part : List ℕ → ℕ → Partition
to_part w level = next_part (view w) (inode_count w) level

module _ {w mid new : List ℕ} {before middle : FreePages} {i level : ℕ} (is : IsPart (next_part (view w) (inode_count w) level)) (at : (next_part (view w) (inode_count w) level).level ≡ level) (moved : HasMoved w mid before middle i level)
    (larger : Owns (view w) (inode_count w) i → part_bytes (inode (view w) i).level ≤ part_bytes level) (part_new : part (inode (view new) i) ≡ part (inode (view mid) i)) where
  -- what replaces these pages alone leaves the others
  pub shifted : (Replaced : ℕ → Type 0) → ((v : ℕ) → v < part_bytes level → (Replaced v → ⊥) → page_at new 4 (((to_part w level).base + v) / 4096) ≡ page_at mid 4 (((to_part w level).base + v) / 4096)) → IsMoved Replaced w new i level
  shifted Replaced pages =
      let q = to_part w level in
      let base_new : (inode (view new) i).base ≡ q.base = ap (λ p. p.base) part_new ∙ moved.promoted.base in
      let level_new : (inode (view new) i).level ≡ q.level = ap (λ p. p.level) part_new ∙ moved.promoted.level in
      let to_q : part (inode (view new) i) ≡ q = ap (λ b. record { base = b; level = (inode (view new) i).level }) base_new ∙ ap (λ l. record { base = q.base; level = l }) level_new in
      record {
        base = base_new;
        to = level_new ∙ at;
        part = subst IsPart (sym to_q) is;
        larger = larger;
        walks = λ owns v lt kept.
            let inside : v < part_bytes level = omega (arith, lt, larger owns) in
            let below : q.base + v < 2 ^ 48 = omega (arith, part_high q is, inside, ap part_bytes at) in
            ap (λ b. walk new (b + v)) base_new ∙ walk-cell new (q.base + v) below ∙ pages v inside kept ∙ sym (walk-cell mid (q.base + v) below) ∙ moved.promoted.walks owns v lt;
      }

  -- a write replaces those that it touches
  pub shifted_write : {off len : ℕ} {given : Given} → 1 ≤ len → IsWritten mid new i off len given → IsMoved (IsTouched off len) w new i level
  shifted_write {off} {len} some wrote = shifted (IsTouched off len) (λ v inside kept.
      let q = to_part w level in
      let low = is.low in
      let high = part_high q is in
      let first = page_first q is in
      let page : (q.base + v) / 4096 ≡ q.base / 4096 + v / 4096 = omega (arith, first) in
      let side : side_page (inode (view mid) i) off ≡ q.base / 4096 + off / 4096 = ap (λ b. (b + off) / 4096) moved.promoted.base ∙ omega (arith, first) in
      wrote.pages ((q.base + v) / 4096) (λ slot. omega (arith, slot, low)) (elim (out off len v some kept) [ inl less ↦ inl (omega (arith, page, side, less)) | inr more ↦ inr (omega (arith, page, side, more)) ]))

-- the partition of the file is where it was
pub part_stays : {mid new : List ℕ} {i : ℕ} → Changing mid new i → part (inode (view new) i) ≡ part (inode (view mid) i)
part_stays {i = i} c = part-same c.writes i c.writes.owns.live.number
