use Rattle.std.proofs.Common.{sym, ap, subst, ◌≤◌}
use Rattle.arc_core.specs.Item.{Contents, contents_size}
use Rattle.coll_items.specs.Changing.{FitsOut}
use Rattle.coll_items.specs.Holding.{contents_of, Held}
use Rattle.coll_items.proofs.ChangeLemmas.{left_over}
use Rattle.coll_items.proofs.collection.Collection.remove.Goals as goal

pub invariant_of-self : goal.invariant_of-self
invariant_of-self c =
    let fits = subst (FitsOut c.args.removal.now) (sym (ap (λ (h : Held). h.contents) c.self.view_is)) c.requires.fits in
    (left_over c.args.removal.now c.self.inside.attrs (contents_of c.self.inside.elements) _ c.self.invariant fits c.take_out_of.ensures c.count.ensures.apart).0

pub returns-clause-size : goal.returns-clause-size
returns-clause-size c =
    let same = ap (λ (h : Held). h.contents) c.self.view_is in
    subst (λ (old : Contents). contents_size (contents_of c.take_out_of.new.elements) ≤ contents_size old) same
    (left_over c.args.removal.now c.self.inside.attrs (contents_of c.self.inside.elements) _ c.self.invariant (subst (FitsOut c.args.removal.now) (sym same) c.requires.fits) c.take_out_of.ensures c.count.ensures.apart).1
