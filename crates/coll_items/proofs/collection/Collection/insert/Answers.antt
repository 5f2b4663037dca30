use Rattle.std.proofs.Common.{sym, subst}
use Rattle.arc_core.specs.Item.{Contents}
use Rattle.coll_items.specs.Changing.{SuitsInsertion}
use Rattle.coll_items.specs.Holding.{contents_of, Held}
use Rattle.coll_items.proofs.ChangeLemmas.{put_in}
use Rattle.coll_items.proofs.collection.Collection.insert.Goals as goal

pub invariant_of-self : goal.invariant_of-self
invariant_of-self c =
    let same : Held → Contents = λ h. h.contents in
    put_in c.args.insertion c.self.inside.attrs (contents_of c.self.inside.elements) _ c.self.invariant
    (subst (λ (h : Held). SuitsInsertion c.args.insertion h.attrs h.contents) (sym c.self.view_is) c.requires.suits) c.put_into.ensures c.count.ensures.apart
