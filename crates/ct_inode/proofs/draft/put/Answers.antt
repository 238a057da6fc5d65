use Rattle.std.proofs.Common.{◌≡◌, ◌*◌, ◌/◌, ◌∙◌, subst, inl, inr, arith}
use Rattle.ct_base.specs.Words.{Rewrites}
use Rattle.ct_record.specs.Seen.{drafted, words_under}
use Rattle.ct_words.specs.Drafted.{MapsAlike}
use Rattle.ct_inode.specs.Drafted.{inode_words}
use Rattle.ct_inode.proofs.Rewritten.{inode_put, view_outside}
use Rattle.ct_inode.proofs.draft.put.Given.{Over}
use Rattle.ct_inode.proofs.draft.put.Goals as goal

module _ (g : Over) (c : goal.In_ok-put_words g) (maps : MapsAlike 0 (words_under c.args.draft.now) (drafted c.args.draft.now)) where
  at : c.get.result ≡ 64 * c.args.n
  at = c.get.ensures.value ∙ c.place.ensures

  -- root slot 0 has the inodes
  alike : MapsAlike (c.get.result / 549755813888) (words_under c.args.draft.now) (drafted c.args.draft.now)
  alike =
      let slot : 0 ≡ c.get.result / 549755813888 = omega (arith, at, c.requires.to) in
      subst (λ s. MapsAlike s (words_under c.args.draft.now) (drafted c.args.draft.now)) slot maps

  -- the eight words of the inode
  rewrites : Rewrites (drafted c.args.draft.now) (drafted c.put_words.new.draft) (64 * c.args.n) (inode_words c.args.inode)
  rewrites =
      subst (λ a. Rewrites (drafted c.args.draft.now) (drafted c.put_words.new.draft) a (inode_words c.args.inode)) at (c.in_ok-put_words.ensures.rewrites alike)

pub returns-clause-rewrites : goal.returns-clause-rewrites
returns-clause-rewrites g c = rewrites g c

pub returns-clause-is : goal.returns-clause-is
returns-clause-is g c maps =
    inode_put c.args.n (64 * c.args.n) c.args.inode (rewrites g c maps) (omega arith) c.requires.to (omega arith) (omega arith) (omega arith) (omega arith)

pub returns-clause-others : goal.returns-clause-others
returns-clause-others g c maps v out = view_outside (rewrites g c maps) (omega arith) v (elim out [ inl low ↦ inl low | inr high ↦ inr (omega arith) ])

pub returns-clause-maps : goal.returns-clause-maps
returns-clause-maps g c maps slot m = c.in_ok-put_words.ensures.maps (alike g c maps) slot m
