-- What a crash may leave while an object moves, and the states to which it settles.
use Rattle.std.proofs.Common.{◌≡◌, ℕ, ◌*◌, ◌^◌, ◌≤◌, List, sym, subst, ◌∙◌, inl, arith}
use Rattle.std.specs.Prelude.{Option}
use Rattle.ct_base.specs.Inode.{inode, Partition, IsPart}
use Rattle.ct_base.specs.Plan.{growth_wants}
use Rattle.ct_base.specs.Rules.{IsMappedInParts, mapped, placed}
use Rattle.ct_base.specs.Settled.{Pair, Named, IsShut}
use Rattle.ct_base.specs.State.{SameState}
use Rattle.ct_base.specs.View.{view, inode_count}
use Rattle.ct_base.specs.Walk.{page_at}
use Rattle.ct_frames.specs.Free.{FreePages}
use Rattle.ct_pm.specs.Images.{History}
use Rattle.ct_pm.specs.Device.{LeavesOnly}
use Rattle.ct_pm.specs.Phase.{Crash}
use Rattle.ct_pm.proofs.Told.{weaker}
use Rattle.ct_record.proofs.Lawful.{shut_few}
use Rattle.ct_record.proofs.Settles.{open_shut}
use Rattle.ct_state.specs.Alike.{Alike, IsWhole}
use Rattle.ct_state.proofs.Carry.{view-same}
use Rattle.ct_state.proofs.Neutral.{seen-bounds}
use Rattle.ct_state.proofs.Shut.{shut_state}
use Rattle.ct_walk.specs.Growth.{Grown}
use Rattle.ct_commit.specs.Closed.{IsClosed}
use Rattle.ct_grow.specs.Grown.{IsReady}
use Rattle.ct_grow.specs.Moments.{IsBeforeOrAfter}
use Rattle.ct_grow.proofs.Heads.{path_bounds}
use Rattle.ct_grow.proofs.Wanting.{unwanted}

-- ---- states

pub whole_of : {img : List ℕ} → IsReady img → IsWhole img
whole_of r = record { tables = r.tables; mapped = r.rules mapped (omega arith) }

pub ready_closed : {img : List ℕ} → IsReady img → IsClosed img
ready_closed r = record { shut = r.shut; whole = whole_of r; placed = r.rules placed (omega arith) }

-- pages that are made for growth change no state
pub record Making (w0 : List ℕ) (i : ℕ) (p : Partition) : Type 0 where
  pub ready : IsReady w0
  pub part : IsPart p

module _ {w0 : List ℕ} {i : ℕ} {p : Partition} (m : Making w0 i p) where
  module _ {image : List ℕ} {before after : FreePages} (g : Grown w0 image (growth_wants (inode (view w0) i) p) before after) where
    pub made_shut : IsShut image
    made_shut = (g.low 512 (omega arith) ∙ m.ready.shut.0, g.low 527 (omega arith) ∙ m.ready.shut.1)

    pub made_alike : Alike w0 image
    made_alike = record { bytes = view-same w0 image (λ v seen. g.bytes v (seen-bounds v seen).0); inodes = g.low 3 (omega arith) }

    pub made_page : (q : ℕ) → 10 * 2 ^ 27 ≤ q → page_at image 4 q ≡ page_at w0 4 q
    made_page q high = g.cells 4 q (omega arith) (unwanted (inode (view w0) i) p 4 q (λ x on. (path_bounds p m.part x on).1) (omega arith) (λ some. inl (omega arith)))

    pub made_whole : IsWhole image
    made_whole = record {
      tables = g.tables;
      mapped = subst (λ b. IsMappedInParts image b (inode_count image)) (sym made_alike.bytes) (subst (λ c. IsMappedInParts image (view w0) c) (sym made_alike.inodes)
          (λ q high out. made_page q high ∙ m.ready.rules mapped (omega arith) q high out));
    }

    pub made_state : SameState w0 image
    made_state =
        shut_state (record { lawful = (shut_few 0 w0 m.ready.shut).lawful; lawful_too = (shut_few 0 image made_shut).lawful; words = λ w lt. g.low w (omega arith); size = g.size })
        m.ready.shut made_shut (whole_of m.ready) made_whole made_alike

  pub making_image : {image : List ℕ} {before after : FreePages} → Grown w0 image (growth_wants (inode (view w0) i) p) before after → Crash (IsBeforeOrAfter w0 i p) 150 image
  making_image {image} g = record {
    few = shut_few 150 image (made_shut g);
    spares = λ word named file. subst (λ (ps : List Pair). Named ps word) (open_shut image (made_shut g)) named;
    has = inl (made_state g);
  }

  -- while pages are made
  pub making_moments : {start told : Option History} {before after : FreePages} → LeavesOnly start told (λ image. Grown w0 image (growth_wants (inode (view w0) i) p) before after) → LeavesOnly start told (Crash (IsBeforeOrAfter w0 i p) 150)
  making_moments moments = weaker (Crash (IsBeforeOrAfter w0 i p) 150) (λ image g. making_image g) moments
