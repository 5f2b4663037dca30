use Rattle.byte_account.specs.Weight.{place_weight}
use Rattle.byte_account.proofs.RoomLaws.{evictions_by}
use Rattle.byte_account.proofs.shelf.Shelf.evictions_for.Goals as goal

pub returns-clause-room : goal.returns-clause-room
returns-clause-room g c = λ extra sticky_extra more sticky_more.
    evictions_by (place_weight g.T.Weighs.weigh) _ c.args.self.now c.self.inside.total c.self.inside.sticky_total c.args.key.now extra sticky_extra c.args.more c.args.sticky_more c.self.invariant.0 c.self.invariant.1 c.self.view_is more sticky_more
    c.if-sticky_more-self.false c.saturating_sub.result c.saturating_sub.ensures c.fewest_to_free.result c.fewest_to_free.ensures
