use Rattle.ct_cut.proofs.side.stage_edge.Goals as goal

pub returns-clause-makes : goal.returns-clause-makes
returns-clause-makes g c wants covers = c.in_ok-stage_page.ensures.makes wants (covers c.if-from-a.false)
