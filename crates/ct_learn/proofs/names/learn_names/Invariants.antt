use Rattle.std.proofs.Common.{◌≢◌}
use Rattle.ct_cache.specs.Agrees.{Agrees}
use Rattle.ct_cache.specs.Seen.{known_in}
use Rattle.ct_tree.specs.Lands.{files}
use Rattle.ct_learn.proofs.names.learn_names.Given as goal

-- what is known is so, and the inode so far is live
abbrev pub invariant-loop-name : goal.invariant-loop-name
invariant-loop-name g l = record {
  known : Agrees (known_in l.caches) (g.D.Pm.words l.dev);
  live : (files (g.D.Pm.words l.dev) l.number).kind ≢ 0;
}
