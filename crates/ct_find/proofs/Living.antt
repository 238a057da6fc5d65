-- A live inode of words at rest, as it was read: what its object is.
use Rattle.std.proofs.Common.{◌≡◌, ◌≢◌, ℕ, List, sym, ap, ◌∙◌, subst, arith}
use Rattle.ct_base.specs.declared.inode.Inode.{Inode}
use Rattle.ct_base.specs.Inode.{IsLive, inode}
use Rattle.ct_base.specs.Objects.{Object}
use Rattle.ct_base.specs.Rules.{IsPlaced, inodes, placed}
use Rattle.ct_base.specs.View.{view, inode_count}
use Rattle.ct_dir.specs.Directory.{IsReadable, dir_of}
use Rattle.ct_path.proofs.Sounds.{readable}
use Rattle.ct_state.proofs.Bytes.{objects-in}
use Rattle.ct_tree.specs.Lands.{files}
use Rattle.ct_commit.specs.Rest.{IsAtRest}

module _ {w : List ℕ} (rest : IsAtRest w) {i : ℕ} {d : Inode} (live : IsLive (view w) (inode_count w) i) (is : inode (view w) i ≡ d) where
  pub dir_is : dir_of w d ≡ files w i
  dir_is = sym (objects-in (view w) (inode_count w) i live.number ∙ ap (dir_of w) is)

  pub kind_is : (files w i).kind ≡ d.kind
  kind_is = sym (ap (λ (f : Object). f.kind) dir_is)

  pub size_is : (files w i).size ≡ d.size
  size_is = sym (ap (λ (f : Object). f.size) dir_is)

  pub placed_at : IsPlaced d
  placed_at = subst IsPlaced is (rest.sound placed i live)

  -- a directory can be read
  pub readable_at : d.kind ≡ 2 → IsReadable w d
  readable_at = readable w rest.sound rest.head.inodes.1 i (λ none. live.used (ap (λ (f : Inode). f.kind) is ∙ sym kind_is ∙ none)) d (sym is) rest.tables

  -- and what is none is a file
  pub file_kind : d.kind ≢ 2 → d.kind ≡ 1
  file_kind other = let few = (rest.sound inodes i live.number).kind in let used = live.used in omega (arith, few, used, ap (λ (f : Inode). f.kind) is, other)
