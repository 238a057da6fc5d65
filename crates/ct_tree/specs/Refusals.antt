-- The refusals by number.
use Rattle.std.specs.Prelude.{ℕ}
use Rattle.ct_tree.specs.declared.call.Refusal.{Refusal}
use Rattle.ct_tree.specs.declared.call.Refusal.TheVariants.{BadPath, NotFound, NotDir, IsDir, Exists, NotEmpty, IntoSelf, IsRoot, TooBig, BadRange, Overlap, TooLong, NoInode, NoPartition, NoPages}

abbrev pub refusal_number : Refusal → ℕ
refusal_number BadPath = 1
refusal_number NotFound = 2
refusal_number NotDir = 3
refusal_number IsDir = 4
refusal_number Exists = 5
refusal_number NotEmpty = 6
refusal_number IntoSelf = 7
refusal_number IsRoot = 8
refusal_number TooBig = 9
refusal_number BadRange = 10
refusal_number Overlap = 11
refusal_number TooLong = 12
refusal_number NoInode = 13
refusal_number (NoPartition level) = 14
refusal_number (NoPages free need) = 15
