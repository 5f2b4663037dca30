use Rattle.smget_merge.proofs.merge.make_ranked.Goals as goal

pub returns-then-is_ranked-clause-ranked : goal.returns-then-is_ranked-clause-ranked
returns-then-is_ranked-clause-ranked c = c.requires.ranked c.if-is_ranked.true
