-- Pages were staged, and their record turns the words into those of the edit.
use Rattle.std.proofs.Common.{ℕ, ◌+◌, ◌*◌, ◌^◌, ◌≤◌, List, sym, subst, ◌∙◌, inl, inr, arith}
use Rattle.std.proofs.lemmas.Bool.{cases_lt}
use Rattle.ct_base.specs.Exchange.{partner}
use Rattle.ct_base.specs.Inode.{inode}
use Rattle.ct_base.specs.Plan.{touched}
use Rattle.ct_base.specs.Rules.{ArePlaced, placed}
use Rattle.ct_base.specs.State.{SameState}
use Rattle.ct_base.specs.View.{view, inode_count}
use Rattle.ct_image.proofs.Partner.{partner-first, partner-second, partner-other}
use Rattle.ct_stage.specs.declared.edit.Given.{Given}
use Rattle.ct_stage.specs.Edited.{AreBytes}
use Rattle.ct_stage.proofs.Bridge.{laid_whole}
use Rattle.ct_write.specs.Prepared.{Prepared}
use Rattle.ct_write.specs.Recorded.{Recorded}
use Rattle.ct_write.specs.Written.{CanWrite, edit_of, side_page, stage_page}
use Rattle.ct_write.proofs.Changing.{Changing, changed_placed, changed_whole}
use Rattle.ct_write.proofs.Done.{Calls, IsSize, changing, spot_of, written}
use Rattle.ct_write.proofs.Turning.{Turns}

-- the partner of a page past a limit is past it, where both ranges are
pub partner_from : (limit a b n q : ℕ) → limit ≤ a → limit ≤ b → limit ≤ q → limit ≤ partner a b n q
partner_from limit a b n q first second high = elim (cases_lt q a) [
  | inl below ↦ rest (λ le. absurd (omega arith))
  | inr from ↦ elim (cases_lt q (a + n)) [ inl within ↦ omega (arith, partner-first a b n q from within) | inr past ↦ rest (λ le. past) ]
]
  where
    rest : (a ≤ q → a + n ≤ q) → limit ≤ partner a b n q
    rest out = elim (cases_lt q b) [
      | inl below ↦ omega (arith, high, partner-other a b n q (record { first = out; second = λ le. absurd (omega arith) }))
      | inr from ↦ elim (cases_lt q (b + n)) [
        | inl within ↦ omega (arith, partner-second a b n q out from within)
        | inr past ↦ omega (arith, high, partner-other a b n q (record { first = out; second = λ le. past }))
      ]
    ]

-- Pages were staged for a write.
pub record Staged (w0 w2 : List ℕ) (i off len : ℕ) (given : Given) (size : ℕ) : Type 0 where
  pub can : CanWrite w0 i off len
  pub prepared : Prepared w0 w2 (side_page (inode (view w0) i) off) (stage_page (inode (view w0) i) off) (touched off len) (edit_of (inode (view w0) i) off len given)
  pub still : SameState w0 w2
  pub bytes : AreBytes (edit_of (inode (view w0) i) off len given)
  pub sized : IsSize w0 i off len given size

module _ {w0 w2 : List ℕ} {i off len : ℕ} {given : Given} {size : ℕ} (s : Staged w0 w2 i off len given size) where
  abbrev a : ℕ
  a = side_page (inode (view w0) i) off

  abbrev b : ℕ
  b = stage_page (inode (view w0) i) off

  abbrev n : ℕ
  n = touched off len

  pub calls_with : {w3 : List ℕ} → Recorded w2 w3 i a b n size → Calls w0 w2 w3 i off len given size
  calls_with r = record { can = s.can; prepared = s.prepared; recorded = r; bytes = s.bytes }

  changes_with : {w3 : List ℕ} → Recorded w2 w3 i a b n size → Changing w0 w3 i
  changes_with r = changing s.can s.sized (written (calls_with r))

  placed_two : ArePlaced (view w2) (inode_count w2)
  placed_two = subst (λ c. ArePlaced c (inode_count w2)) (sym s.prepared.seen) (subst (λ (k : ℕ). ArePlaced (view w0) k) (sym (s.prepared.head 3 (omega arith))) (s.can.ready.rules placed (omega arith)))

  pub turns_with : Turns w0 w2 (λ after. Recorded w2 after i a b n size)
  turns_with =
      let at = spot_of s.can in
      record {
        still = s.still;
        closed = record { shut = s.prepared.laid.shut; whole = laid_whole s.prepared.laid; placed = placed_two };
        after = λ w3 r shut. record { shut = shut; whole = changed_whole (changes_with r) r.sized.tables; placed = changed_placed (changes_with r) };
        from = λ w3 r q high. (
          partner a b n q,
          partner_from (2 * 2 ^ 27) a b n q (omega (arith, at.first_from)) at.second_from (omega (arith, high)),
          sym (r.sized.cells 4 q (omega arith) ∙ r.exchanged.pages q),
        );
      }
