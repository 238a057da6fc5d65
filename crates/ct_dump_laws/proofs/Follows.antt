-- What follows of the tree from the items of its dump.
use Rattle.std.proofs.Common.{◌≡◌, ◌∙◌, ℕ, ◌≤◌, sym, ap, subst, arith}
use Rattle.std.specs.Prelude.{All}
use Rattle.ct_dump.specs.Dumped.{dumped}
use Rattle.ct_script.specs.Script.{items}
use Rattle.ct_tree.specs.Runs.{Runs}
use Rattle.ct_tree.specs.Tree.{Dir, Tree, none, nodes}
use Rattle.ct_tree.specs.declared.call.Reply.TheVariants.{Done}
use Rattle.ct_dump_laws.specs.Dumpable.{IsDumpable}
use Rattle.ct_dump_laws.specs.Plain.{made_from, replies_from}
use Rattle.ct_dump_laws.proofs.Builds.{Makes, made, all_done, all_run}
use Rattle.ct_dump_laws.proofs.Whole.{dump_builds}
use Rattle.ct_dump_laws.proofs.Words.{reads_all}

dump_makes : (c : ℕ) (t : Tree) → IsDumpable t → nodes t ≤ c → Makes c (Dir none) (items (dumped t)) t
dump_makes c t h room =
    let b = dump_builds c t h room in
    subst (λ is. Makes c (Dir none) is t) (sym (reads_all (dumped t) b.items b.reads)) b.makes

pub dump_made : (t : Tree) → IsDumpable t → made_from (Dir none) (items (dumped t)) ≡ t
dump_made t h = made (nodes t) (Dir none) t (items (dumped t)) (dump_makes (nodes t) t h (omega arith))

pub dump_done : (t : Tree) → IsDumpable t → All (λ r. r ≡ Done) (replies_from (Dir none) (items (dumped t)))
dump_done t h = all_done (nodes t) (Dir none) t (items (dumped t)) (dump_makes (nodes t) t h (omega arith))

pub dump_runs : (c : ℕ) (t : Tree) → IsDumpable t → nodes t ≤ c → Runs c (Dir none) (items (dumped t)) (replies_from (Dir none) (items (dumped t))) t
dump_runs c t h room = all_run c (Dir none) t (items (dumped t)) (dump_makes c t h room)

-- trees with one dump are one tree
pub dump_once : (t u : Tree) → IsDumpable t → IsDumpable u → dumped t ≡ dumped u → t ≡ u
dump_once t u h k same = sym (dump_made t h) ∙ ap (λ text. made_from (Dir none) (items text)) same ∙ dump_made u k
