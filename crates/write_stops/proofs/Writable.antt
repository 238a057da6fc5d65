-- What a device that is held gives to a write of its first file.
use Rattle.std.proofs.Common.{◌≡◌, ℕ, ◌+◌, ◌%◌, ◌^◌, ◌≤◌, List, sym, ap, subst, ◌∙◌, arith}
use Rattle.ct_base.specs.declared.inode.Inode.{Inode}
use Rattle.ct_base.specs.Inode.{inode, part, part_bytes}
use Rattle.ct_base.specs.Plan.{write_wants}
use Rattle.ct_base.specs.View.{view}
use Rattle.ct_base.specs.Wants.{Want, missing}
use Rattle.ct_call.proofs.Rooms.{ready_of}
use Rattle.ct_commit.specs.Rest.{IsMounted}
use Rattle.ct_frames.specs.Free.{FreePages}
use Rattle.ct_grow.specs.Grown.{IsReady}
use Rattle.ct_plan.specs.Few.{few_write_wants}
use Rattle.ct_plan.proofs.Same.{missing_same}
use Rattle.ct_plan.proofs.Write.{few_write_part}
use Rattle.ct_pm.specs.Images.{History}
use Rattle.std.specs.Prelude.{Option}
use Rattle.ct_write.specs.Written.{CanWrite}
use Rattle.ct_write.proofs.Done.{spot_of}
use Rattle.ct_write.proofs.Opening.{fits_slot}
use Rattle.write_stops.specs.Held.{IsHeld}

pub held : {w : List ℕ} {told : Option History} {frames : FreePages} → IsMounted w told frames → IsHeld w told frames
held m = record { ready = ready_of m; settled = m.settled; agrees = m.agrees }

module _ {w : List ℕ} (r : IsReady w) {f : Inode} (is : f ≡ inode (view w) 2) (off len : ℕ) (kind : f.kind ≡ 1) (level : f.level ≤ 9) (some : 1 ≤ len) (fits : off + len ≤ part_bytes f.level) where
  pub may_write : CanWrite w 2 off len
  may_write = record {
    ready = r;
    live = record { number = record { from = omega arith; to = r.inodes.0 }; used = λ none. omega (arith, ap (λ (g : Inode). g.kind) is, kind, none) };
    file = sym (ap (λ (g : Inode). g.kind) is) ∙ kind;
    level = subst (λ (g : Inode). g.level ≤ 9) is level;
    some = some;
    fits = subst (λ (g : Inode). off + len ≤ part_bytes g.level) is fits;
  }

  pub ends_low : f.base + part_bytes f.level ≤ 2 ^ 48
  ends_low = subst (λ (g : Inode). g.base + part_bytes g.level ≤ 2 ^ 48) (sym is) (spot_of may_write).high

  pub starts : f.base % 4096 ≡ 0
  starts = subst (λ (g : Inode). g.base % 4096 ≡ 0) (sym is) (spot_of may_write).start

  pub in_slot : off + len ≤ 2 ^ 39
  in_slot = fits_slot may_write

  -- the short list asks for as many pages as the plan
  asks : missing w (few_write_wants f off len (record { base = f.base; level = f.level })) ≡ missing w (write_wants (inode (view w) 2) off len (part (inode (view w) 2)))
  asks =
      ap (λ (g : Inode). missing w (few_write_wants g off len (part g))) is
      ∙ sym (missing_same w (write_wants (inode (view w) 2) off len (part (inode (view w) 2))) (few_write_wants (inode (view w) 2) off len (part (inode (view w) 2))) (λ d x one four. few_write_part (inode (view w) 2) off len d x one))

  -- so there is room where as many are free
  pub room : (need count : ℕ) (wants : List Want) → need ≡ missing w wants → ((level : ℕ) → wants ≡ few_write_wants f off len (record { base = f.base; level = level })) → need ≤ count → missing w (write_wants (inode (view w) 2) off len (part (inode (view w) 2))) ≤ count
  room need count wants is_need is_wants le = omega (arith, is_need, ap (missing w) (is_wants f.level), asks, le)
