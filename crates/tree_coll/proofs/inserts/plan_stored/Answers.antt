use Rattle.std.proofs.Common.{sym, subst}
use Rattle.tree_coll.specs.TreePlanning.{Plans}
use Rattle.tree_coll.specs.TreeRows.{new_inserted, trim_reply}
use Rattle.tree_coll.proofs.StoreLemmas.{stored_count}
use Rattle.tree_coll.proofs.inserts.plan_stored.Goals as goal

pub returns-in-Refused-clause-plans : goal.returns-in-Refused-clause-plans
returns-in-Refused-clause-plans g c =
    let tree = c.args.held.now.contents in
    let answer = trim_reply c.args.getrim c.args.attrs.now in
    subst (Plans (new_inserted answer c.args.elem c.args.attrs.now tree) tree) (sym c.beyond.ensures) (c.in-Refused.ensures.settled answer)

pub returns-clause-plans : goal.returns-clause-plans
returns-clause-plans g c =
    let tree = c.args.held.now.contents in
    let answer = trim_reply c.args.getrim c.args.attrs.now in
    subst (Plans (new_inserted answer c.args.elem c.args.attrs.now tree) tree) (sym c.answered.ensures) (c.in-Full.ensures.settled answer)

pub returns-in-Stored-clause-count : goal.returns-in-Stored-clause-count
returns-in-Stored-clause-count g c =
    stored_count c.args.elem c.args.held.now.contents.elements c.in-Stored.low c.in-Stored.high c.args.attrs.now.maxcount c.requires c.in-Stored.ensures.fits
