-- A partition that moves, and the one to which it moves.
use Rattle.std.proofs.Common.{◌≡◌, ℕ, ◌+◌, ◌-◌, ◌*◌, ◌/◌, ◌%◌, ◌^◌, ◌≤◌, List, length, sym, ap, subst, ◌∙◌, inl, inr, arith}
use Rattle.std.specs.Prelude.{All}
use Rattle.std.proofs.Math.Nat.{pow-le-pow_right}
use Rattle.ct_base.specs.declared.inode.Inode.{Inode}
use Rattle.ct_base.specs.Exchange.{Apart, HasTables}
use Rattle.ct_base.specs.Inode.{Partition, IsPart, part}
use Rattle.ct_base.specs.Pieces.{pieces}
use Rattle.ct_base.specs.Walk.{page_at}
use Rattle.ct_grow.specs.Drafted.{HasOld}
use Rattle.ct_grow.proofs.Spans.{part_high, aligned_down, First, first_page, Heights, heights, Blocks, IsEven, all_even, count_even, all_of}

module _ {img : List ℕ} {f : Inode} {p : Partition} (o : HasOld img f p) (new : IsPart p) where
  abbrev l : ℕ
  l = f.level

  abbrev h : ℕ
  h = f.level / 3

  abbrev a : ℕ
  a = f.base / 4096

  abbrev b : ℕ
  b = p.base / 4096

  abbrev n : ℕ
  n = 8 ^ f.level

  low_level : f.level ≤ 8
  low_level = omega (arith, o.smaller, new.level)

  pub span : Heights f.level
  span = heights f.level low_level

  pub old_first : First f.level f.base
  old_first = first_page f.level f.base low_level o.own.aligned

  pub new_first : First f.level p.base
  new_first =
      let d = p.level - f.level in
      let sum : p.level ≡ d + f.level = omega (arith, o.smaller) in
      first_page f.level p.base low_level (aligned_down d f.level p.base (subst (λ (k : ℕ). p.base % (4096 * 8 ^ k) ≡ 0) sum new.aligned))

  pub narrower : 8 ^ f.level ≤ 8 ^ p.level
  narrower = pow-le-pow_right {n = 8} (omega arith) {i = f.level} {j = p.level} (omega (arith, o.smaller))

  pub old_high : f.base / 4096 + 8 ^ f.level ≤ 2 ^ 36
  old_high = omega (arith, part_high (part f) o.own, old_first.start)

  pub new_high : p.base / 4096 + 8 ^ f.level ≤ 2 ^ 36
  new_high = omega (arith, part_high p new, narrower, new_first.start)

  pub pages_apart : Apart (f.base / 4096) (p.base / 4096) (8 ^ f.level)
  pages_apart = elim o.apart [
    | inl before ↦ inr (omega (arith, before, narrower, old_first.start, new_first.start))
    | inr after ↦ inl (omega (arith, after, old_first.start, new_first.start))
  ]

  pub blocks : Blocks (f.base / 4096) (p.base / 4096) (8 ^ f.level) (f.level / 3)
  blocks = record {
    low = span.height;
    first = span.aligned (f.base / 4096) old_first.page;
    second = span.aligned (p.base / 4096) new_first.page;
    whole = span.blocks;
    short = span.shorter;
  }

  pub few_pieces : length (pieces (f.base / 4096) (p.base / 4096) (8 ^ f.level)) ≤ 64
  few_pieces = span.few (length (pieces (f.base / 4096) (p.base / 4096) (8 ^ f.level))) (count_even blocks)

  pub few_at : (v m : ℕ) → v ≡ p.base → m ≡ 8 ^ f.level → length (pieces (f.base / 4096) (v / 4096) m) ≤ 64
  few_at v m base count =
      subst (λ (k : ℕ). length (pieces (f.base / 4096) (v / 4096) k) ≤ 64) (sym count) (subst (λ (x : ℕ). length (pieces (f.base / 4096) (x / 4096) (8 ^ f.level)) ≤ 64) (sym base) few_pieces)

  -- the tables between whose entries the pieces lie
  pub tables_there : All (HasTables img (f.base / 4096) (p.base / 4096)) (pieces (f.base / 4096) (p.base / 4096) (8 ^ f.level))
  tables_there = all_of (IsEven n h) (HasTables img a b) there (pieces a b n) (all_even blocks)
    where
      there : (piece : ℕ × ℕ) → IsEven n h piece → HasTables img a b piece
      there piece even = (
        λ none. o.first (sym (ap (page_at img (3 - h)) (span.under a piece.0 old_first.page even.1)) ∙ ap (λ k. page_at img (3 - k) ((a + piece.0) / 512 ^ (k + 1))) (sym even.0) ∙ none),
        λ none. o.second (sym (ap (page_at img (3 - h)) (span.under b piece.0 new_first.page even.1)) ∙ ap (λ k. page_at img (3 - k) ((b + piece.0) / 512 ^ (k + 1))) (sym even.0) ∙ none),
      )

  pub tables_at : (v m : ℕ) → v ≡ p.base → m ≡ 8 ^ f.level → All (HasTables img (f.base / 4096) (v / 4096)) (pieces (f.base / 4096) (v / 4096) m)
  tables_at v m base count =
      subst (λ (k : ℕ). All (HasTables img (f.base / 4096) (v / 4096)) (pieces (f.base / 4096) (v / 4096) k)) (sym count)
      (subst (λ (x : ℕ). All (HasTables img (f.base / 4096) (x / 4096)) (pieces (f.base / 4096) (x / 4096) (8 ^ f.level))) (sym base) tables_there)
