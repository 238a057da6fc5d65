-- A record of given pairs, which are not drafted by the caller.
use Rattle.std.proofs.Common.{◌≡◌, ℕ, ◌/◌, List, sym, ◌∙◌, subst, inr}
use Rattle.ct_base.specs.Free.{IsFilePage}
use Rattle.ct_base.specs.Inode.{inode, IsIn}
use Rattle.ct_base.specs.Rules.{Owns, part_of}
use Rattle.ct_base.specs.Settled.{Named, Pair, with_pairs}
use Rattle.ct_base.specs.View.{view, inode_count}
use Rattle.ct_image.proofs.Beside.{beside_cells}
use Rattle.ct_image.proofs.Steps.{walk-cell}
use Rattle.ct_pm.specs.Device.{SameOff}
use Rattle.ct_record.specs.Record.{InRecord}
use Rattle.ct_record.proofs.Settles.{same_refl}
use Rattle.ct_record.proofs.Under.{under_beside}
use Rattle.ct_state.proofs.Carry.{files-same}
use Rattle.ct_state.proofs.Settle.{alike_off}
use Rattle.ct_tree.specs.Lands.{files}
use Rattle.ct_commit.specs.Landing.{LandsOnEither}
use Rattle.ct_commit.specs.Made.{Made, Settles, Spares, Turns}
use Rattle.ct_commit.specs.Rest.{IsAtRest}
use Rattle.ct_commit.proofs.Landed.{settles_as}
use Rattle.ct_commit.proofs.Pages.{high_in, room_of}
use Rattle.ct_commit.proofs.Resting.{rest_beside}
use Rattle.ct_commit.proofs.States.{closed_of, off_record}

-- where the record alone differs, the same pages lie under files
beside_page : {old new : List ℕ} {page : ℕ} → IsAtRest old → SameOff InRecord new old → IsFilePage new page → IsFilePage old page
beside_page {old} {new} rest same is =
    let alike = alike_off (off_record same) in
    let owns : Owns (view old) (inode_count old) is.file = subst (λ b. Owns b (inode_count old) is.file) alike.bytes (subst (λ n. Owns (view new) n is.file) alike.inodes is.owns) in
    let inside : IsIn (part_of (view old) is.file) is.address = subst (λ b. IsIn (part_of b is.file) is.address) alike.bytes is.inside in
    let high = high_in (room_of old rest.sound owns) inside.from inside.to in
    record {
      file = is.file;
      address = is.address;
      owns = owns;
      kind = subst (λ b. (inode b is.file).kind ≡ 1) alike.bytes is.kind;
      inside = inside;
      is = walk-cell old is.address high ∙ sym (beside_cells (under_beside old new same) 4 (is.address / 4096)) ∙ sym (walk-cell new is.address high) ∙ is.is;
      some = is.some;
    }

module _ {was : List ℕ} {pairs : List Pair} (t : Turns was pairs) where
  -- what is made differs from the words with the pairs in the record alone
  abbrev pub Given : List ℕ → Type 0
  Given new = SameOff InRecord new (with_pairs pairs was)

  pub given_made : Made was pairs Given (Named pairs)
  given_made = record { shut = t.rest.shut; apart = t.apart; named = λ w is. is; makes = inr (same_refl (with_pairs pairs was)) }

  pub given_spares : Spares was Given (Named pairs)
  given_spares = record {
    before = closed_of t.rest;
    after = λ new same shut. closed_of (rest_beside t.after same shut);
    off = t.off;
    off_after = λ new same shut w named is. t.off_after w named (beside_page t.after same is);
  }

  pub given_settles : Settles was Given (LandsOnEither (files was) (files (with_pairs pairs was)))
  given_settles = settles_as t.rest (λ new same shut. rest_beside t.after same shut) (λ new same. files-same (alike_off (off_record same)))
