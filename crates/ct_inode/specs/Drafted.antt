-- What is drafted for an inode.
use Rattle.std.specs.Prelude.{ℕ, List, [], ◌∷◌}
use Rattle.ct_base.specs.declared.inode.Inode.{Inode}

-- the eight words of an inode
abbrev pub inode_words : Inode → List ℕ
inode_words f = f.kind ∷ f.size ∷ f.base ∷ f.level ∷ 0 ∷ 0 ∷ 0 ∷ 0 ∷ []
