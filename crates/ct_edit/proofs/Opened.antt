-- A file has grown, or stayed, by the plan of a write: the write may be made, and its pages are there.
use Rattle.std.proofs.Common.{◌≡◌, ◌≢◌, ℕ, ◌+◌, ◌/◌, ◌*◌, ◌^◌, ◌≤◌, List, [], ◌∷◌, ◌++◌, length, Option, Some, None, refl, sym, ap, subst, ◌∙◌, arith}
use Rattle.ct_base.specs.declared.inode.Inode.{Inode}
use Rattle.ct_base.specs.Inode.{IsLive, Partition, inode, part}
use Rattle.ct_base.specs.Pieces.{pieces}
use Rattle.ct_base.specs.Plan.{Plan, next_part, side_wants, stage, touched, write_plan, write_wants}
use Rattle.ct_base.specs.View.{view, inode_count}
use Rattle.ct_base.specs.Wants.{missing}
use Rattle.ct_frames.specs.Free.{FreePages}
use Rattle.ct_grow.proofs.Accounted.{counted_here}
use Rattle.ct_grow.proofs.Written.{missing_write}
use Rattle.ct_grow.specs.Follows.{write_asks}
use Rattle.ct_write.proofs.Following.{grown_can}
use Rattle.ct_write.specs.Written.{CanWrite}
use Rattle.ct_call.proofs.Rooms.{ready_here}
use Rattle.ct_grow.specs.Grown.{IsReady}
use Rattle.ct_commit.specs.Rest.{IsAtRest, IsUnstaged}
use Rattle.ct_call.specs.Plans.{Fits, Plans, level_of}
use Rattle.ct_call.specs.Rooms.{Gives}
use Rattle.ct_call.specs.declared.plan.CallPlan.{CallPlan}
use Rattle.ct_edit.proofs.Growths.{plan_some}
use Rattle.ct_edit.proofs.Widened.{Plots, Starts, counts_grown, counts_here, enlarges, next_holds, next_is, starts, stays_in}

-- the plan of a write of at least one byte, as the function has it
pub plots : {w : List ℕ} {before : FreePages} {i told : ℕ} {plan : CallPlan} (off len : ℕ) → IsAtRest w → IsUnstaged w → IsLive (view w) (inode_count w) i → (inode (view w) i).kind ≡ 1 → told ≡ len → told ≢ 0 → off + len ≤ 2 ^ 39
    → Plans w (write_plan (view w) (inode_count w) (inode (view w) i) off len) plan → Fits w before plan → Plots w before i (off + len) (write_wants (inode (view w) i) off len) plan
plots {w} {i = i} {plan = plan} off len rest unstaged live file is some within plans fits = record {
  rest = rest;
  unstaged = unstaged;
  live = live;
  file = file;
  within = within;
  plans = subst (λ (q : Plan). Plans w q plan) (plan_some w (inode (view w) i) off len (λ none. some (is ∙ none))) plans;
  fits = fits;
}

-- The file has grown by it, or stayed.
pub record Opens (w mid : List ℕ) (before middle : FreePages) (i off len : ℕ) (plan : CallPlan) : Type 0 where
  pub starts : Starts w mid before middle i (off + len) (write_wants (inode (view w) i) off len) plan
  pub some : 1 ≤ len

pub opens : {w mid : List ℕ} {before middle : FreePages} {i told : ℕ} {grown : Option ℕ} {plan : CallPlan} (off len : ℕ) → IsAtRest w → IsUnstaged w → IsLive (view w) (inode_count w) i → (inode (view w) i).kind ≡ 1 → told ≡ len → told ≢ 0 → off + len ≤ 2 ^ 39
    → Plans w (write_plan (view w) (inode_count w) (inode (view w) i) off len) plan → Fits w before plan → grown ≡ level_of plan.growth → Gives w mid before middle i grown → IsReady mid → Opens w mid before middle i off len plan
opens off len rest unstaged live file is some within plans fits level gave now =
    record { starts = starts (plots off len rest unstaged live file is some within plans fits) level gave now; some = omega (arith, is, some) }

module _ {w mid : List ℕ} {before middle : FreePages} {i off len : ℕ} {plan : CallPlan} (o : Opens w mid before middle i off len plan) where
  abbrev s : Starts w mid before middle i (off + len) (write_wants (inode (view w) i) off len) plan
  s = o.starts

  abbrev p : Plots w before i (off + len) (write_wants (inode (view w) i) off len) plan
  p = o.starts.plots

  abbrev some : 1 ≤ len
  some = o.some

  -- what a write asks for where the file lies
  asks_there : (g : Inode) (q : Partition) → part g ≡ q → write_wants g off len (part g) ≡ write_asks q off len
  asks_there g q is =
      ap (λ ms. ms ++ record { height = 0; at = stage (g.base + off) / 4096 * 4096; len = touched off len * 4096 } ∷ [])
      (counted_here g (side_wants ((g.base + off) / 4096) (pieces ((g.base + off) / 4096) (stage (g.base + off) / 4096) (touched off len))))
      ∙ ap (λ (r : Partition). write_asks r off len) is

  -- the write may be made
  pub can_write : CanWrite mid i off len
  can_write = at (level_of plan.growth) refl s.gives
    where
      at : (o : Option ℕ) → level_of plan.growth ≡ o → Gives w mid before middle i o → CanWrite mid i off len
      at None goes gave =
          let room = stays_in p goes in
          subst (λ img. CanWrite img i off len) (sym gave.0) (record { ready = ready_here p.rest p.unstaged; live = p.live; file = p.file; level = room.0.part.level; some = some; fits = room.1 })
      at (Some level) goes gave = grown_can p.live p.file (next_is p level goes).0 s.now gave.promoted some (next_holds p level goes)

  -- what is missing now, and what growth took, is what the plan counted
  account : missing mid (write_wants (inode (view mid) i) off len (part (inode (view mid) i))) + length before.free ≡ length middle.free + missing w plan.wants
  account = at (level_of plan.growth) refl s.gives
    where
      at : (o : Option ℕ) → level_of plan.growth ≡ o → Gives w mid before middle i o → missing mid (write_wants (inode (view mid) i) off len (part (inode (view mid) i))) + length before.free ≡ length middle.free + missing w plan.wants
      at None goes gave =
          let same : missing mid (write_wants (inode (view mid) i) off len (part (inode (view mid) i))) ≡ missing w (write_wants (inode (view w) i) off len (part (inode (view w) i))) =
          ap (λ img. missing img (write_wants (inode (view img) i) off len (part (inode (view img) i)))) gave.0 in
          omega (arith, same, counts_here p goes, ap (λ (x : FreePages). length x.free) gave.1)
      at (Some level) goes gave =
          let q = next_part (view w) (inode_count w) level in
          let here : part (inode (view mid) i) ≡ q = ap (λ b. record { base = b; level = (inode (view mid) i).level }) gave.promoted.base ∙ ap (λ l. record { base = q.base; level = l }) gave.promoted.level in
          let there : missing mid (write_wants (inode (view mid) i) off len (part (inode (view mid) i))) ≡ missing mid (write_asks q off len) = ap (missing mid) (asks_there (inode (view mid) i) q here) in
          let sum = missing_write (enlarges p level goes) (next_is p level goes).0 off len some (next_holds p level goes) gave.cells in
          omega (arith, there, sum, counts_grown p level goes, gave.taken)

  pub room_there : missing mid (write_wants (inode (view mid) i) off len (part (inode (view mid) i))) ≤ length middle.free
  room_there = omega (arith, account, p.fits.pages)

  pub all_taken : (after : FreePages) → length middle.free ≤ length after.free + missing mid (write_wants (inode (view mid) i) off len (part (inode (view mid) i))) → length before.free ≤ length after.free + missing w plan.wants
  all_taken after taken = omega (arith, account, taken)
