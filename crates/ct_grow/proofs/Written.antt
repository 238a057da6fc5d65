-- The wants of a write after growth.
use Rattle.std.proofs.Common.{◌≡◌, ◌≢◌, ℕ, zero, suc, ◌+◌, ◌*◌, ◌/◌, ◌^◌, ◌≤◌, List, [], ◌∷◌, ◌++◌, refl, sym, subst, inl, inr, arith}
use Rattle.std.specs.Prelude.{All}
use Rattle.std.proofs.Math.Nat.{div-add-mod, pow-le-pow_right}
use Rattle.std.proofs.lemmas.Bool.{cases_lt, cond-true, cond-false, lt-ltb, le-ltb}
use Rattle.std.proofs.lemmas.List.Elements.{All-append, All-cons, All-nil}
use Rattle.ct_base.specs.declared.inode.Inode.{Inode}
use Rattle.ct_base.specs.Inode.{Partition, IsPart, AreApart, IsIn, part, part_bytes, part_end}
use Rattle.ct_base.specs.Pieces.{height_at, pieces, pieces_from}
use Rattle.ct_base.specs.Plan.{growth_wants, side_wants, stage, table_want, touched, write_wants}
use Rattle.ct_base.specs.Wants.{Want, missing}
use Rattle.ct_grow.specs.Follows.{Enlarges, IsWhole, Follows, IsElsewhere, write_asks}
use Rattle.ct_grow.specs.Grown.{CellsMoved}
use Rattle.ct_grow.proofs.Accounted.{missing_plan, whole_low, whole_new, whole_one}

-- a want of one address in a partition that meets neither the old one nor the new one
pub whole_apart : (f : Inode) (p q : Partition) (want : Want) → want.len ≡ 1 → AreApart q (part f) → IsIn q want.at → IsWhole f p want
whole_apart f p q want one apart inside = whole_one f p want one (elim apart [ inl before ↦ inl (omega (arith, before, inside.to)) | inr after ↦ inr (omega (arith, after, inside.from)) ])

-- the tables of pieces in the new partition
pub side_follows : {f : Inode} {p : Partition} → (f.level ≢ 15 → Enlarges f p) → (a b n : ℕ) → p.base ≤ a * 4096 → (a + n) * 4096 ≤ part_end p → (steps i : ℕ) → All (Follows f p) (side_wants a (pieces_from steps a b n i))
side_follows {f} {p} e a b n from to zero i = All-nil (Follows f p)
side_follows {f} {p} e a b n from to (suc steps) i = elim (cases_lt i n) [
  | inl lt ↦
      let list : pieces_from (suc steps) a b n i ≡ (i, height_at a b n i) ∷ pieces_from steps a b n (i + 512 ^ height_at a b n i) = cond-true _ _ _ (lt-ltb i n lt) in
      let want = table_want (height_at a b n i + 1) ((a + i) * 4096) in
      let first : Follows f p want = λ has _. whole_new (e has) want refl (omega arith) (omega arith) in
      subst (λ ps. All (Follows f p) (side_wants a ps)) (sym list) (All-cons (Follows f p) want (side_wants a (pieces_from steps a b n (i + 512 ^ height_at a b n i))) first (side_follows e a b n from to steps (i + 512 ^ height_at a b n i)))
  | inr past ↦
      let list : pieces_from (suc steps) a b n i ≡ [] = cond-false _ _ _ (le-ltb i n past) in
      subst (λ ps. All (Follows f p) (side_wants a ps)) (sym list) (All-nil (Follows f p))
]

module _ {f : Inode} {p : Partition} (e : f.level ≢ 15 → Enlarges f p) (new_part : IsPart p) (off len : ℕ) (some : 1 ≤ len) (inside : off + len ≤ part_bytes p.level) where
  abbrev side : List Want
  side = side_wants ((p.base + off) / 4096) (pieces ((p.base + off) / 4096) (stage (p.base + off) / 4096) (touched off len))

  abbrev staged : Want
  staged = record { height = 0; at = stage (p.base + off) / 4096 * 4096; len = touched off len * 4096 }

  few : part_bytes p.level ≤ 2 ^ 39
  few = let le = pow-le-pow_right {n = 8} (omega arith) {i = p.level} {j = 9} new_part.level in omega (arith, le)

  write_follows : All (Follows f p) (side ++ staged ∷ [])
  write_follows =
      let a = (p.base + off) / 4096 in
      let n = touched off len in
      let whole = div-add-mod p.base (part_bytes p.level) in
      let start : p.base ≡ p.base / 4096 * 4096 = omega (arith, whole, new_part.aligned) in
      All-append (Follows f p) side (staged ∷ []) (side_follows e a (stage (p.base + off) / 4096) n (omega arith) (omega arith) n 0)
      (All-cons (Follows f p) staged [] (λ has _. whole_low (e has) staged (omega (arith, few))) (All-nil (Follows f p)))

  -- What is missing for a write after growth, and what growth took, is what its plan counted.
  pub missing_write : {old new : List ℕ} → CellsMoved old new f p → missing new (write_asks p off len) + missing old (growth_wants f p) ≡ missing old (growth_wants f p ++ write_wants f off len p)
  missing_write moved = missing_plan moved e side (staged ∷ []) write_follows (All-cons (IsElsewhere f p) staged [] (λ has. inl (omega (arith, new_part.low))) (All-nil (IsElsewhere f p)))
