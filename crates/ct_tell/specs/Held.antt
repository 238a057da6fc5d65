-- What a tree holds.
use Rattle.std.specs.Prelude.{◌≡◌, ℕ, ◌+◌, ◌==◌, if◌then◌else◌, List, length}
use Rattle.ct_base.specs.declared.inode.Inode.{Inode}
use Rattle.ct_base.specs.declared.layout.TheConstants.{DIRECTORY_KIND, FILE_KIND}
use Rattle.ct_tree.specs.Tree.{Tree, File, Dir, Entries, none, entry}
use Rattle.ct_tell.specs.declared.held.Counts.{Counts}

-- the sum over the nodes of a tree, of what each file and each directory counts for
abbrev mutual
  pub total : (List ℕ → ℕ) → ℕ → Tree → ℕ
  total of_file of_dir (File bytes) = of_file bytes
  total of_file of_dir (Dir es) = of_dir + total_below of_file of_dir es

  pub total_below : (List ℕ → ℕ) → ℕ → Entries → ℕ
  total_below of_file of_dir none = 0
  total_below of_file of_dir (entry name node rest) = total of_file of_dir node + total_below of_file of_dir rest

-- how many files it has, how many directories, the root among them, and how many bytes its files have together
abbrev pub files_in : Tree → ℕ
files_in t = total (λ bytes. 1) 0 t

abbrev pub directories_in : Tree → ℕ
directories_in t = total (λ bytes. 0) 1 t

abbrev pub bytes_in : Tree → ℕ
bytes_in t = total (λ bytes. length bytes) 0 t

-- the counts are those of the tree
pub record IsCount (t : Tree) (counts : Counts) : Type 0 where
  pub files : counts.files ≡ files_in t
  pub directories : counts.directories ≡ directories_in t
  pub bytes : counts.bytes ≡ bytes_in t

-- what an inode counts for
abbrev pub files_of : Inode → ℕ
files_of f = if f.kind == FILE_KIND then 1 else 0

abbrev pub directories_of : Inode → ℕ
directories_of f = if f.kind == DIRECTORY_KIND then 1 else 0

abbrev pub bytes_of : Inode → ℕ
bytes_of f = if f.kind == FILE_KIND then f.size else 0
