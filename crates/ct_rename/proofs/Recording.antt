-- The record of a rename: what it makes stands where others stand in pages 1 to 32.
use Rattle.std.proofs.Common.{ℕ, ◌+◌, List, refl, sym, subst, ◌∙◌, inl, inr}
use Rattle.ct_base.specs.Inode.{inode}
use Rattle.ct_base.specs.View.{view}
use Rattle.ct_base.specs.Words.{Rewrites}
use Rattle.ct_dir.specs.Packed.{slot_words}
use Rattle.ct_image.proofs.Beside.{Beside, beside_cells, beside_tables, beside_words}
use Rattle.ct_pm.specs.Device.{SameOff}
use Rattle.ct_record.specs.Record.{InRecord}
use Rattle.ct_record.proofs.Under.{under_beside}
use Rattle.ct_rename.specs.Moves.{MovesEntry}

rewrites_beside : {old mid new : List ℕ} {at : ℕ} {values : List ℕ} → Rewrites old mid at values → Beside mid new → Rewrites old new at values
rewrites_beside r b = record {
  tables = beside_tables b r.tables;
  cells = λ d x le. beside_cells b d x ∙ r.cells d x le;
  words = λ a. beside_words b a ∙ r.words a;
  head = λ w lt. b.front w lt ∙ r.head w lt;
  size = b.size ∙ r.size;
}

-- words of the record alone may differ
pub moves_beside : {old mid new : List ℕ} {d o k s i : ℕ} {name : List ℕ} → MovesEntry old mid d o k s i name → SameOff InRecord new mid → MovesEntry old new d o k s i name
moves_beside {old} {mid} {new} {d} {o} {k} {s} {i} {name} m same =
    let b : Beside mid new = under_beside mid new same in
    elim m.size [
      | inl kept ↦ record {
        linked = new;
        links = record { middle = m.links.middle; clear = m.links.clear; slot = rewrites_beside (subst (λ (l : List ℕ). Rewrites m.links.middle l ((inode (view old) k).base + s) (slot_words i name)) (sym kept.1) m.links.slot) b };
        size = inl (kept.0, refl);
      }
      | inr more ↦ record { linked = m.linked; links = m.links; size = inr (more.0, rewrites_beside more.1 b) }
    ]
