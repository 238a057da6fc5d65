-- An exchange leaves every object there, and each directory as it is.
use Rattle.std.proofs.Common.{◌≡◌, ◌≢◌, ℕ, ◌≤◌, List, refl, sym, ap, ◌∙◌, inl, inr, arith}
use Rattle.std.proofs.lemmas.Bool.{cases_eq}
use Rattle.ct_base.specs.declared.inode.Inode.{Inode}
use Rattle.ct_base.specs.Inode.{IsNumber, inode}
use Rattle.ct_base.specs.Objects.{Object}
use Rattle.ct_base.specs.View.{inode_count, view}
use Rattle.ct_inode.specs.Live.{KeepsLive}
use Rattle.ct_inode.proofs.Live.{live_by, live_same}
use Rattle.ct_state.proofs.Bytes.{objects-in}
use Rattle.ct_state.proofs.Write.{written}
use Rattle.ct_tree.specs.Lands.{files}
use Rattle.ct_commit.specs.Rest.{IsAtRest}
use Rattle.ct_find.specs.Directories.{KeepsDirectories}
use Rattle.ct_exchange.specs.Ranges.{AreApart}
use Rattle.ct_exchange.specs.Swapped.{bytes_after, files_after}
use Rattle.ct_exchange.specs.declared.plan.Ranges.{Ranges}
use Rattle.ct_exchange.proofs.Carrying.{space}
use Rattle.ct_exchange.proofs.Contents.{first_writes, inode_after, second_writes}
use Rattle.ct_exchange.proofs.Nothing.{none_files}

module _ {w : List ℕ} (rest : IsAtRest w) (r : Ranges) where
  -- the inodes lie below the ranges
  kind_stays : AreApart w r → (i : ℕ) → IsNumber (inode_count w) i → (files_after w r i).kind ≡ (files w i).kind
  kind_stays apart i number =
      ap (λ (f : Object). f.kind) (objects-in (bytes_after w r) (inode_count w) i number)
      ∙ ap (λ (f : Inode). f.kind) (inode_after apart (space rest apart) {c = bytes_after w r} (λ v. refl) i (omega (arith, number.to, rest.head.inodes.1)))
      ∙ ap (λ (f : Object). f.kind) (sym (objects-in (view w) (inode_count w) i number))

  pub live_on : (1 ≤ r.len → AreApart w r) → (new : List ℕ) → inode_count new ≡ inode_count w → files new ≡ files_after w r → KeepsLive w new
  live_on can new counted swapped = elim (cases_eq r.len 0) [
    | inl none ↦ live_same w new counted (swapped ∙ sym (none_files w r none))
    | inr some ↦ live_by w new counted (λ i number there free. there (sym (kind_stays (can (omega (arith, some))) i number) ∙ sym (ap (λ fs. (fs i).kind) swapped) ∙ free))
  ]

  -- what is a directory is neither of the two files
  not_file : (i k : ℕ) → IsNumber (inode_count w) k → (inode (view w) k).kind ≡ 1 → (files w i).kind ≡ 2 → i ≢ k
  not_file i k number file dir same =
      omega (arith, dir, ap (λ j. (files w j).kind) same, ap (λ (f : Object). f.kind) (objects-in (view w) (inode_count w) k number), file)

  -- and stays as it is
  dir_stays : AreApart w r → (i : ℕ) → (files w i).kind ≡ 2 → files_after w r i ≡ files w i
  dir_stays apart i dir =
      let room = space rest apart in
      (written (second_writes apart room {c = bytes_after w r} (λ v. refl))).others i (not_file i r.second apart.second.live.number apart.other_file dir)
      ∙ (written (first_writes apart room)).others i (not_file i r.first apart.first.live.number apart.file dir)

  pub directories_on : (1 ≤ r.len → AreApart w r) → (new : List ℕ) → files new ≡ files_after w r → KeepsDirectories w new
  directories_on can new swapped i dir = ap (λ fs. fs i) swapped ∙ elim (cases_eq r.len 0) [
    | inl none ↦ ap (λ fs. fs i) (sym (none_files w r none))
    | inr some ↦ dir_stays (can (omega (arith, some))) i dir
  ]
