-- Room that is made by a plan: growth, and then what is left of the wants.
use Rattle.std.proofs.Common.{◌≡◌, ◌≢◌, ◌⊎◌, ℕ, ◌+◌, ◌*◌, ◌/◌, ◌^◌, ◌<◌, ◌≤◌, false, List, ◌++◌, length, Option, Some, None, refl, sym, ap, ◌∙◌, subst, inl, inr, arith}
use Rattle.std.specs.Prelude.{[], map}
use Rattle.ct_base.specs.declared.inode.Inode.{Inode}
use Rattle.ct_base.specs.Inode.{IsIn, IsLive, IsPart, Partition, inode, live_parts, part, part_bytes}
use Rattle.ct_base.specs.Plan.{counted, growth_need, growth_wants, next_part}
use Rattle.ct_base.specs.Rules.{HasRoom, Owns, Sound, apart, placed}
use Rattle.ct_base.specs.View.{view, inode_count}
use Rattle.ct_base.specs.Walk.{page_at, walk}
use Rattle.ct_base.specs.Wants.{Want, is_wanted, missing}
use Rattle.ct_dir.proofs.Held.{part_bounds}
use Rattle.ct_frames.specs.Free.{FreePages}
use Rattle.ct_grow.proofs.Accounted.{counted_here, missing_grown}
use Rattle.ct_grow.specs.Follows.{Enlarges}
use Rattle.ct_grow.specs.Grown.{CanGrow}
use Rattle.ct_image.proofs.MissingSum.{missing_first}
use Rattle.ct_image.proofs.Steps.{walk-cell}
use Rattle.ct_state.proofs.Carry.{files-same}
use Rattle.ct_state.specs.Alike.{Alike}
use Rattle.ct_tree.specs.Lands.{files}
use Rattle.ct_walk.specs.Has.{HasAll}
use Rattle.ct_call.proofs.Chosen.{IsFirst, first_free, head_is, owner_apart}
use Rattle.ct_call.proofs.Enlarged.{part_bytes-le}
use Rattle.ct_call.proofs.Rooms.{ready_here}
use Rattle.ct_call.proofs.Spaced.{open_part}
use Rattle.ct_call.specs.Mounted.{AreOwned, OffFiles}
use Rattle.ct_commit.specs.Rest.{IsAtRest, IsUnstaged}
use Rattle.ct_call.specs.Placed.{IsMoved}
use Rattle.ct_call.specs.Plans.{Asks, Fits, free_of, grown_wants, level_of, part_then}
use Rattle.ct_call.specs.Rooms.{Gives, HasMoved, MakesRoom}
use Rattle.ct_call.specs.declared.plan.CallPlan.{CallPlan}

-- a live object that takes the first free partition of a higher level enlarges
pub may_enlarge : {w : List ℕ} {i level : ℕ} {q : Partition} → IsAtRest w → IsLive (view w) (inode_count w) i → IsFirst (live_parts (view w) (inode_count w)) level q
    → level ≤ 9 → ((inode (view w) i).level ≡ 15) ⊎ ((inode (view w) i).level < level) → (inode (view w) i).level ≢ 15 → Enlarges (inode (view w) i) q
may_enlarge {w} {i} {q = q} rest live first high more has =
    let own : HasRoom (inode (view w) i) = elim (rest.sound placed i live).place [ inl none ↦ absurd (has none.level) | inr some ↦ some ] in
    let owns : Owns (view w) (inode_count w) i = record { live = live; level = own.part.level } in
    record {
      is_part = first.part high;
      old = own.part;
      smaller = elim more [ inl none ↦ absurd (has none) | inr less ↦ omega (arith, less, first.level) ];
      apart = owner_apart (view w) (inode_count w) i q owns first.free;
    }

-- what a plan that fits says of words at rest
pub record Planned (w : List ℕ) (before : FreePages) (i : ℕ) (growth : Option ℕ) (wants more : List Want) : Type 0 where
  pub rest : IsAtRest w
  pub unstaged : IsUnstaged w
  pub some : (level : ℕ) → growth ≡ Some level → free_of w level ≢ []
  pub asks : Asks w i (inode (view w) i) growth wants more
  pub room : missing w wants ≤ length before.free

pub planned : {w : List ℕ} {before : FreePages} {i : ℕ} {plan : CallPlan} → IsAtRest w → IsUnstaged w → Fits w before plan → Asks w i (inode (view w) i) (level_of plan.growth) plan.wants plan.rest → Planned w before i (level_of plan.growth) plan.wants plan.rest
planned {w} {plan = plan} rest unstaged fits asks = record { rest = rest; unstaged = unstaged; some = open_part w plan.growth fits.opens fits.part; asks = asks; room = fits.pages }

module _ {w : List ℕ} {before : FreePages} {i : ℕ} {growth : Option ℕ} {wants more : List Want} (p : Planned w before i growth wants more) where
  abbrev f : Inode
  f = inode (view w) i

  abbrev next : ℕ → Partition
  next level = next_part (view w) (inode_count w) level

  first : (level : ℕ) → growth ≡ Some level → IsFirst (live_parts (view w) (inode_count w)) level (next level)
  first level goes = let head = head_is (free_of w level) (p.some level goes) in first_free (live_parts (view w) (inode_count w)) level (next level) head.0 head.1

  whole : (level : ℕ) → growth ≡ Some level → missing w wants ≡ missing w (growth_wants f (next level) ++ map (counted f (next level)) more)
  whole level goes = p.asks.counts ∙ ap (λ (o : Option ℕ). missing w (grown_wants w f o ++ map (counted f (part_then w f o)) more)) goes

  -- the object can grow where the plan says so
  pub can_grow : (level : ℕ) → growth ≡ Some level → CanGrow w i level × (growth_need w (inode (view w) i) level ≤ length before.free)
  can_grow level goes =
      let grows = p.asks.grows level goes in (
        record { ready = ready_here p.rest p.unstaged; live = p.asks.live; fits = grows.0; more = grows.1; some = p.some level goes },
        omega (arith, missing_first w (growth_wants f (next level)) (map (counted f (next level)) more), whole level goes, p.room),
      )

  enlarges : (level : ℕ) → growth ≡ Some level → f.level ≢ 15 → Enlarges f (next level)
  enlarges level goes has = let grows = p.asks.grows level goes in may_enlarge p.rest p.asks.live (first level goes) grows.0 grows.1 has

  module _ (mid : List ℕ) (middle : FreePages) (gives : Gives w mid before middle i growth) where
    then_part : (o : Option ℕ) → Gives w mid before middle i o → part (inode (view mid) i) ≡ part_then w (inode (view w) i) o
    then_part None gave = ap (λ (img : List ℕ). part (inode (view img) i)) gave.0
    then_part (Some level) gave =
        let at : ℕ → ℕ → Partition = λ b l. record { base = b; level = l } in
        ap (λ b. at b (inode (view mid) i).level) gave.promoted.base ∙ ap (λ l. at (next level).base l) gave.promoted.level

    then_kind : (o : Option ℕ) → Gives w mid before middle i o → (inode (view mid) i).kind ≡ (inode (view w) i).kind
    then_kind None gave = ap (λ (img : List ℕ). (inode (view img) i).kind) gave.0
    then_kind (Some level) gave = gave.promoted.kind

    then_count : (o : Option ℕ) → Gives w mid before middle i o → inode_count mid ≡ inode_count w
    then_count None gave = ap inode_count gave.0
    then_count (Some level) gave = gave.promoted.superblock 3 (omega arith)

    live : IsLive (view mid) (inode_count mid) i
    live = record {
      number = record { from = p.asks.live.number.from; to = omega (arith, p.asks.live.number.to, then_count growth gives) };
      used = λ z. p.asks.live.used (sym (then_kind growth gives) ∙ z);
    }

    -- what is missing now, and what growth took, is what the plan counted
    account : (o : Option ℕ) → growth ≡ o → Gives w mid before middle i o → missing mid more + length before.free ≡ length middle.free + missing w wants
    account None goes gave =
        let here : missing w wants ≡ missing w more = p.asks.counts ∙ ap (λ (o : Option ℕ). missing w (grown_wants w f o ++ map (counted f (part_then w f o)) more)) goes ∙ ap (missing w) (counted_here f more) in
        let same : missing mid more ≡ missing w more = ap (λ (img : List ℕ). missing img more) gave.0 in
        omega (arith, here, same, ap (λ (x : FreePages). length x.free) gave.1)
    account (Some level) goes gave = omega (arith, missing_grown gave.cells (enlarges level goes) more (p.asks.follows level goes), whole level goes, gave.taken)

    pub mid_room : missing mid more ≤ length middle.free
    mid_room = omega (arith, account growth refl gives, p.room)

    pub mid_taken : (after : FreePages) → length after.free + missing mid more ≡ length middle.free → length after.free + missing w wants ≡ length before.free
    mid_taken after taken = omega (arith, account growth refl gives, taken)

    owns : IsPart (part_then w (inode (view w) i) growth) → Owns (view mid) (inode_count mid) i
    owns is = record { live = live; level = (subst IsPart (sym (then_part growth gives)) is).level }

    -- what is left of the wants lies in the partition that the object has now, and off those of files
    pub mid_owned : AreOwned mid more
    mid_owned = record {
      pages = λ n low is. let at = p.asks.pages n low is in (i, owns at.1, subst (λ q. IsIn q (n * 4096)) (sym (then_part growth gives)) at.2);
      staging = p.asks.staging;
    }

    pub mid_off : Sound mid → OffFiles mid more
    mid_off sound n low is j file kind inside =
        let at = p.asks.pages n low is in
        let here : IsIn (part (inode (view mid) i)) (n * 4096) = subst (λ q. IsIn q (n * 4096)) (sym (then_part growth gives)) at.2 in
        let other : j ≢ i = λ e. omega (arith, kind, ap (λ k. (inode (view mid) k).kind) e, then_kind growth gives, at.0) in
        elim (sound apart j i file (owns at.1) other) [
          | inl before ↦ omega (arith, before, inside.to, here.from)
          | inr after ↦ omega (arith, after, inside.from, here.to)
        ]

    -- once it is made
    module _ {new : List ℕ} (alike : Alike mid new) (cells : (d x : ℕ) → d ≤ 4 → is_wanted more d x ≡ false → page_at new d x ≡ page_at mid d x) where
      moved : (level : ℕ) → growth ≡ Some level → HasMoved w mid before middle i level → IsMoved (λ v. ⊥) w new i level
      moved level goes gave =
          let pr = gave.promoted in
          let at = first level goes in
          let grows = p.asks.grows level goes in
          let q = at.part grows.0 in
          let bounds = part_bounds (next level).level (next level).base q.level q.aligned q.high in
          let bytes : part_bytes (next level).level ≡ part_bytes level = ap part_bytes at.level in
          let wider : f.level ≤ 9 → part_bytes f.level ≤ part_bytes level = λ small. elim grows.1 [ inl none ↦ absurd (omega (arith, none, small)) | inr less ↦ part_bytes-le f.level level (omega (arith, less)) ] in
          let base : (inode (view new) i).base ≡ (next level).base = ap (λ (b : ℕ → ℕ). (inode b i).base) alike.bytes ∙ pr.base in
          let to : (inode (view new) i).level ≡ (next level).level = ap (λ (b : ℕ → ℕ). (inode b i).level) alike.bytes ∙ pr.level in
          record {
            base = base;
            to = to ∙ at.level;
            part = subst (λ b. IsPart (record { base = b; level = (inode (view new) i).level })) (sym base) (subst (λ l. IsPart (record { base = (next level).base; level = l })) (sym to) q);
            larger = λ own. wider own.level;
            walks = λ own v lt kept.
                let below : (next level).base + v < 2 ^ 48 = omega (arith, bounds.1, bytes, wider own.level, lt) in
                ap (λ b. walk new (b + v)) base ∙ walk-cell new ((next level).base + v) below ∙ cells 4 (((next level).base + v) / 4096) (omega arith) (p.asks.past level v goes own.level lt)
                ∙ sym (walk-cell mid ((next level).base + v) below) ∙ pr.walks own v lt;
          }

      pub made_room : HasAll new more → IsAtRest new → files mid ≡ files w → MakesRoom w new i growth more
      made_room there rest same = record {
        there = there;
        part = ap (λ (b : ℕ → ℕ). part (inode b i)) alike.bytes ∙ then_part growth gives;
        moved = λ level goes. moved level goes (subst (λ (o : Option ℕ). Gives w mid before middle i o) goes gives);
        files = files-same alike ∙ same;
        counted = alike.inodes ∙ then_count growth gives;
        rest = rest;
      }
