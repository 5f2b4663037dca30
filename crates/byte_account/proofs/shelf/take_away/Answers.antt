-- What the list had, the sticky table has not.
use Rattle.std.proofs.Common.{is_some, ap, sym}
use Rattle.byte_account.proofs.StickySums.{remove-absent}
use Rattle.byte_account.proofs.shelf.take_away.Goals as goal

pub returns-in-Some-clause-sticky : goal.returns-in-Some-clause-sticky
returns-in-Some-clause-sticky g c = sym (remove-absent c.args.sticky.now c.args.key.now (c.requires.once (ap is_some (sym c.in-Some.ensures.place))))
