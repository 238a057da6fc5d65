use Rattle.ct_plain.proofs.plain.PlainTree.set_file.Goals as goal

pub invariant_of-self : goal.invariant_of-self
invariant_of-self c = (c.set_file.ensures.tree, c.set_file.ensures.dir)
