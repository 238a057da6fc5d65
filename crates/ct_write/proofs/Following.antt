-- A write after growth: what growth leaves is what a write asks for.
use Rattle.std.proofs.Common.{◌≡◌, ℕ, ◌+◌, ◌≤◌, List, sym, ap, ◌∙◌, arith}
use Rattle.ct_base.specs.Inode.{inode, IsLive, IsPart, Partition, part_bytes}
use Rattle.ct_base.specs.View.{view, inode_count}
use Rattle.ct_grow.specs.Grown.{IsReady, Promoted}
use Rattle.ct_write.specs.Written.{CanWrite}

-- the call may be made in the new partition
pub grown_can : {old new : List ℕ} {i off len : ℕ} {p : Partition} → IsLive (view old) (inode_count old) i → (inode (view old) i).kind ≡ 1 → IsPart p → IsReady new → Promoted old new i p → 1 ≤ len → off + len ≤ part_bytes p.level → CanWrite new i off len
grown_can {old} {new} {i} {off} {len} {p} live file is_part now pr some fits =
    let count : inode_count new ≡ inode_count old = pr.superblock 3 (omega arith) in
    record {
      ready = now;
      live = record { number = record { from = live.number.from; to = omega (arith, live.number.to, count) }; used = λ z. live.used (sym pr.kind ∙ z) };
      file = pr.kind ∙ file;
      level = omega (arith, pr.level, is_part.level);
      some = some;
      fits = omega (arith, fits, ap part_bytes pr.level);
    }
