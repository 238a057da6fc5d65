-- A change of a file's bytes leaves every object there, and each directory as it is.
use Rattle.std.proofs.Common.{◌≡◌, ℕ, List, sym, ap, ◌∙◌, inl, inr, arith}
use Rattle.std.proofs.lemmas.Bool.{cases_eq}
use Rattle.ct_base.specs.declared.inode.Inode.{Inode}
use Rattle.ct_base.specs.Objects.{Object}
use Rattle.ct_base.specs.View.{inode_count}
use Rattle.ct_inode.specs.Live.{KeepsLive}
use Rattle.ct_inode.proofs.Live.{live_by}
use Rattle.ct_state.proofs.Landing.{sound_stands}
use Rattle.ct_tree.specs.Lands.{files}
use Rattle.ct_commit.specs.Rest.{IsAtRest}
use Rattle.ct_edit.specs.Changed.{Changes}
use Rattle.ct_find.specs.Directories.{KeepsDirectories}
use Rattle.ct_find.specs.Files.{IsFileAt}

-- a file that is found is one
was_file : {w path : List ℕ} {i : ℕ} {f : Inode} → IsAtRest w → IsFileAt w path i f → (files w i).kind ≡ 1
was_file {w = w} rest found =
    let s = sound_stands w (omega (arith, rest.head.inodes.0)) rest.sound in
    (found.node s.0 (record { tree = s.1; stands = s.2 })).2.kind

module _ {w path : List ℕ} {i : ℕ} {f : Inode} {change : List ℕ → List ℕ} (rest : IsAtRest w) (found : IsFileAt w path i f) where
  -- the file is one
  file_kind : {gs : ℕ → Object} → Changes (files w) gs i change → (gs i).kind ≡ 1
  file_kind c =
      let s = sound_stands w (omega (arith, rest.head.inodes.0)) rest.sound in
      let node = found.node s.0 (record { tree = s.1; stands = s.2 }) in
      (c.file node.0 node.2).kind

  pub live_on : (new : List ℕ) → inode_count new ≡ inode_count w → Changes (files w) (files new) i change → KeepsLive w new
  live_on new counted c = live_by w new counted (λ j number there free. elim (cases_eq j i) [
    | inl is ↦ omega (arith, file_kind c, ap (λ k. (files new k).kind) is, free)
    | inr other ↦ there (sym (ap (λ (o : Object). o.kind) (c.others j other)) ∙ free)
  ])

  pub directories_on : (new : List ℕ) → Changes (files w) (files new) i change → KeepsDirectories w new
  directories_on new c j dir = elim (cases_eq j i) [
    | inl is ↦ absurd (omega (arith, was_file rest found, ap (λ k. (files w k).kind) is, dir))
    | inr other ↦ c.others j other
  ]
