-- Which calls of a script change the tree.
use Rattle.std.specs.Prelude.{Bool, true, false}
use Rattle.ct_tree.specs.Step.{Op, append, create, exchange, fill, mkdir, rename, rmdir, truncate, unlink, write}

-- whether a call changes the tree
abbrev pub is_change : Op → Bool
is_change (create path) = true
is_change (mkdir path) = true
is_change (write path off bytes) = true
is_change (fill path off len byte) = true
is_change (append path bytes) = true
is_change (truncate path len) = true
is_change (unlink path) = true
is_change (rmdir path) = true
is_change (rename path to) = true
is_change (exchange path off other other_off len) = true
is_change op = false
