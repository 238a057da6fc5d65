use Rattle.std.proofs.Common.{Ok, sym, ap, subst, take, ℕ}
use Rattle.std.specs.Io.KnownBytes.{Appends}
use Rattle.ct_find.proofs.Leading.{checked_by, dir_node}
use Rattle.ct_look.proofs.Looking.{list_file}
use Rattle.ct_tree.proofs.Ordered.{resolve_tree}
use Rattle.ct_tree.specs.Checks.{at, names, no_dir}
use Rattle.ct_tree.specs.Resolve.{entries_in, node_in}
use Rattle.ct_tree.specs.Step.{list, refusal}
use Rattle.ct_tree.specs.Tree.{Dir}
use Rattle.ct_tree.specs.declared.call.Refusal.TheVariants.{NotDir}
use Rattle.ct_tell.specs.Texts.{list_text}
use Rattle.ct_tell.proofs.Answering.{done_comes, refused_comes, torn_comes}
use Rattle.ct_tell.proofs.entries.put_list.Goals as goal

pub returns-then-inode-ne-DIRECTORY_KIND-clause-ends : goal.returns-then-inode-ne-DIRECTORY_KIND-clause-ends
returns-then-inode-ne-DIRECTORY_KIND-clause-ends g c t st =
    let path = c.args.path.now in
    refused_comes (refusal t (list path)) NotDir (list_text (entries_in (node_in (at t path)))) (g.O.Sink.written c.args.out.now)
    (list_file c.requires c.in-Ok.ensures t st c.if-inode-ne-DIRECTORY_KIND.true)

pub returns-in-Ok-put_entries-clause-ends : goal.returns-in-Ok-put_entries-clause-ends
returns-in-Ok-put_entries-clause-ends g c t st =
    let path = c.args.path.now in
    let found = c.in-Ok.ensures in
    let n = dir_node c.requires found t st c.if-inode-ne-DIRECTORY_KIND.false in
    let are = resolve_tree (names path) t (Dir n.0) st.tree n.1 in
    done_comes (refusal t (list path)) (list_text (entries_in (node_in (at t path)))) (g.O.Sink.written c.args.out.now) (g.O.Sink.written c.put_entries.new.out) (checked_by no_dir t path (Ok (Dir n.0)) found.valid n.1)
    (subst (Appends (g.O.Sink.written c.args.out.now) (g.O.Sink.written c.put_entries.new.out)) (ap (λ a. list_text (entries_in (node_in a))) (sym n.1)) (c.in-Ok-put_entries.ensures.bytes n.0 n.2 are))

pub returns-in-Err-put_entries-clause-ends : goal.returns-in-Err-put_entries-clause-ends
returns-in-Err-put_entries-clause-ends g c t st =
    let path = c.args.path.now in
    let found = c.in-Ok.ensures in
    let n = dir_node c.requires found t st c.if-inode-ne-DIRECTORY_KIND.false in
    let are = resolve_tree (names path) t (Dir n.0) st.tree n.1 in
    torn_comes (refusal t (list path)) (list_text (entries_in (node_in (at t path)))) (g.O.Sink.written c.args.out.now) (g.O.Sink.written c.put_entries.new.out) (checked_by no_dir t path (Ok (Dir n.0)) found.valid n.1)
    (subst (λ text. (k : ℕ) × Appends (g.O.Sink.written c.args.out.now) (g.O.Sink.written c.put_entries.new.out) (take k text)) (ap (λ a. list_text (entries_in (node_in a))) (sym n.1)) (c.in-Err-put_entries.ensures.bytes n.0 n.2 are))
