use Rattle.std.proofs.Common.{refl}
use Rattle.cache_engine.proofs.ExpiryLaws.{there_hollow, there_free, there_share, has_expiry_there}
use Rattle.cache_engine.proofs.set_expiry.set_expiry_there.Goals as goal

pub lay-requires-clause-hollow : goal.lay-requires-clause-hollow
lay-requires-clause-hollow c =
    rw (c.in-Some.ensures.places)
    (there_hollow c.args.key.now c.args.expiry c.args.shelf.now c.requires.held.0 c.in-Some.item c.with_expiry.result c.requires.held.1 c.in-Some.ensures.item c.with_expiry.ensures)

pub lay-requires-clause-room : goal.lay-requires-clause-room
lay-requires-clause-room c =
    rw (c.in-Some.ensures.places)
    (there_free c.args.key.now c.args.expiry c.args.shelf.now c.requires.held.0 c.in-Some.item c.with_expiry.result c.requires.held.1 c.in-Some.ensures.item c.with_expiry.ensures c.requires.once c.requires.within)

pub lay-requires-clause-share : goal.lay-requires-clause-share
lay-requires-clause-share c =
    rw (c.in-Some.ensures.places)
    (there_share c.args.key.now c.args.expiry c.args.shelf.now c.requires.held.0 c.in-Some.item c.with_expiry.result c.requires.held.1 c.in-Some.ensures.item c.with_expiry.ensures c.requires.once c.requires.share)

pub returns-in-Some : goal.returns-in-Some
returns-in-Some c =
    has_expiry_there c.args.key.now c.args.expiry c.args.shelf.now c.requires.held.0 c.in-Some.item c.with_expiry.result c.requires.held.1 c.in-Some.ensures.item c.with_expiry.ensures c.lay.new.self
    (rw (c.lay.ensures, c.in-Some.ensures.places) refl)
