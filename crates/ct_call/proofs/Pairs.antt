-- How many pairs a call's long record may have.
use Rattle.std.proofs.Common.{◌≤◌, arith}
use Rattle.ct_tree.specs.Step.{Op, append, create, exchange, fill, list, locate, mkdir, read, rename, rmdir, stat, truncate, unlink, write}
use Rattle.ct_call.specs.Calls.{most_pairs}

-- each may have as many as a swap and a size
pub least_pairs : (op : Op) → 5111 ≤ most_pairs op
least_pairs (create path) = omega arith
least_pairs (mkdir path) = omega arith
least_pairs (write path off bytes) = omega arith
least_pairs (fill path off len byte) = omega arith
least_pairs (append path bytes) = omega arith
least_pairs (read path off len) = omega arith
least_pairs (truncate path len) = omega arith
least_pairs (unlink path) = omega arith
least_pairs (rmdir path) = omega arith
least_pairs (rename path to) = omega arith
least_pairs (exchange path off other other_off len) = omega arith
least_pairs (stat path) = omega arith
least_pairs (list path) = omega arith
least_pairs (locate path) = omega arith
