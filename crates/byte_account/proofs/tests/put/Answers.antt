use Rattle.std.proofs.Common.{None, is_some, not, ap, sym, ◌∙◌}
use Rattle.arc_core.specs.Places.{found, placed, without}
use Rattle.byte_account.specs.ShelfWords.{weight_at, on_side, restuck}
use Rattle.byte_account.specs.Weight.{place_weight, weight_under}
use Rattle.byte_account.proofs.ShareLaws.{share-for_none}
use Rattle.byte_account.proofs.FoundLaws.{found-without, found-placed, found-restuck, on_side-placed}
use Rattle.byte_account.proofs.tests.put.Goals as goal

pub reserve_new-requires : goal.reserve_new-requires
reserve_new-requires g c =
    ap (found c.in_ok-key.key) c.remove.ensures.places
    ∙ ap (λ k. found k (without c.bytes-name.result.now c.args.shelf.now)) (c.in_ok-key.ensures ∙ sym c.bytes-name.ensures.bytes)
    ∙ found-without c.bytes-name.result.now c.args.shelf.now

pub restick-requires-clause-place : goal.restick-requires-clause-place
restick-requires-clause-place g c =
    ap (λ p. is_some (on_side (not c.args.sticky) c.bytes-name.result.now p))
    (c.in_ok-reserve_new.ensures.ok ∙ ap (λ k. placed (not c.args.sticky) k None c.remove.new.self) (c.in_ok-key.ensures ∙ sym c.bytes-name.ensures.bytes))
    ∙ ap is_some (on_side-placed c.bytes-name.result.now (not c.args.sticky) None c.remove.new.self)

pub restick-requires-clause-share : goal.restick-requires-clause-share
restick-requires-clause-share g c =
    share-for_none (place_weight g.T.Weighs.weigh) c.args.sticky c.reserve_new.new.self c.sticky_total.result (weight_at (place_weight g.T.Weighs.weigh) c.bytes-name.result.now c.reserve_new.new.self) c.sticky_total.ensures.sum c.sticky_total.ensures.within
    (ap (λ p. weight_at (place_weight g.T.Weighs.weigh) c.bytes-name.result.now p)
    (c.in_ok-reserve_new.ensures.ok ∙ ap (λ k. placed (not c.args.sticky) k None c.remove.new.self) (c.in_ok-key.ensures ∙ sym c.bytes-name.ensures.bytes))
    ∙ ap (weight_under (place_weight g.T.Weighs.weigh) c.bytes-name.result.now) (found-placed c.bytes-name.result.now (not c.args.sticky) None c.remove.new.self))

pub fill-requires : goal.fill-requires
fill-requires g c =
    ap (found c.bytes-name.result.now)
    (c.in_ok-restick.ensures.ok
    ∙ ap (restuck c.args.sticky c.bytes-name.result.now)
    (c.in_ok-reserve_new.ensures.ok ∙ ap (λ k. placed (not c.args.sticky) k None c.remove.new.self) (c.in_ok-key.ensures ∙ sym c.bytes-name.ensures.bytes)))
    ∙ found-restuck c.bytes-name.result.now c.args.sticky None _ (found-placed c.bytes-name.result.now (not c.args.sticky) None c.remove.new.self)
