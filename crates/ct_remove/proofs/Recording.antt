-- The record of a removal: what it makes, and what it spares.
use Rattle.std.proofs.Common.{◌≡◌, ℕ, ◌+◌, ◌*◌, ◌<◌, ◌^◌, List, ap, sym, subst, ◌∙◌}
use Rattle.ct_base.specs.Headers.{HeadersStand}
use Rattle.ct_base.specs.Inode.{inode}
use Rattle.ct_base.specs.View.{view, inode_count}
use Rattle.ct_base.specs.Walk.{word}
use Rattle.ct_commit.proofs.States.{off_record}
use Rattle.ct_image.proofs.Beside.{Beside, beside_cells, beside_tables}
use Rattle.ct_pm.specs.Device.{SameOff}
use Rattle.ct_record.specs.Record.{InRecord}
use Rattle.ct_record.proofs.Under.{under_beside}
use Rattle.ct_state.proofs.Rebuilt.{parts_but}
use Rattle.ct_state.proofs.Settle.{alike_off}
use Rattle.ct_tree.specs.Lands.{files}
use Rattle.ct_commit.specs.Made.{IsStable, Settles, Spares}
use Rattle.ct_commit.proofs.Landed.{rest_spares, settles_as}
use Rattle.ct_remove.specs.Asked.{IsAsked}
use Rattle.ct_remove.specs.Erased.{IsGone, Removes}
use Rattle.ct_remove.specs.Removed.{RemovedOrNot}
use Rattle.ct_remove.proofs.Removing.{files_are, removed_settled}
use Rattle.ct_remove.proofs.Sparing.{gone_apart, removed_page}

-- words of the record alone may differ
removes_beside : {old mid new : List ℕ} {dir offset number : ℕ} → Removes old mid dir offset number → SameOff InRecord new mid → Removes old new dir offset number
removes_beside {old} {mid} {new} {dir} {offset} {number} r same =
    let b : Beside mid new = under_beside mid new same in
    let seen : view new ≡ view mid = (alike_off (off_record same)).bytes in
    record {
      slot = λ k lt. ap (λ v. v ((inode (view old) dir).base + offset + k)) seen ∙ r.slot k lt;
      object = λ k lt. ap (λ v. v (64 * number + k)) seen ∙ r.object k lt;
      headers = subst (λ v. HeadersStand v (parts_but (view old) (inode_count old) number)) (sym seen) r.headers;
      others = λ v beside. ap (λ f. f v) seen ∙ r.others v beside;
      unmapped = λ owns q inside. beside_cells b 4 q ∙ r.unmapped owns q inside;
      pages = λ q from out. beside_cells b 4 q ∙ r.pages q from out;
      roots = λ k from to. beside_cells b 1 k ∙ r.roots k from to;
      staging = λ no. beside_cells b 1 2 ∙ r.staging no;
      tables = beside_tables b r.tables;
      fresh = λ q f d x le is. r.fresh q f d x le (sym (beside_cells b d x) ∙ is);
      reached = λ q f. r.reached q (λ d x le is. f d x le (beside_cells b d x ∙ is));
      head = λ w lt. b.front w lt ∙ r.head w lt;
      size = b.size ∙ r.size;
    }

pub removes_stable : (dir offset number : ℕ) → IsStable (λ was new. Removes was new dir offset number)
removes_stable dir offset number was new done r same = removes_beside r same

-- the words that it may name
abbrev pub Names : ℕ → ℕ → ℕ → List ℕ → ℕ → Type 0
Names dir offset number was w = IsGone was (inode (view was) dir).base offset number w

module _ {was : List ℕ} {dir offset number : ℕ} (a : IsAsked was dir offset number) where
  pub removal_spares : ((w : ℕ) → word was w < 2 ^ 64) → Spares was (λ new. Removes was new dir offset number) (Names dir offset number was)
  removal_spares fits = rest_spares a.rest (λ new r shut. removed_settled a r shut) (gone_apart a fits) (λ new r page is. removed_page a r is)

  pub removal_settles : Settles was (λ new. Removes was new dir offset number) (RemovedOrNot (files was) dir offset number)
  removal_settles = settles_as a.rest (λ new r shut. removed_settled a r shut) (λ new r. files_are a r)
