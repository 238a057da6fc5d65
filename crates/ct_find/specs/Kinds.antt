-- The kinds of objects, and the calls by which an object of a kind goes.
use Rattle.std.specs.Prelude.{ℕ, List}
use Rattle.ct_base.specs.declared.layout.TheConstants.{DIRECTORY_KIND, FILE_KIND}
use Rattle.ct_tree.specs.Step.{Op, rmdir, unlink}
use Rattle.ct_find.specs.declared.kind.Kind.{Kind}
use Rattle.ct_find.specs.declared.kind.Kind.TheVariants.{File as file, Directory as directory}

-- the kind that an inode has
abbrev pub kind_of : Kind → ℕ
kind_of file = FILE_KIND
kind_of directory = DIRECTORY_KIND

-- the call that removes an object of a kind
abbrev pub leave_op : Kind → List ℕ → Op
leave_op file path = unlink path
leave_op directory path = rmdir path
