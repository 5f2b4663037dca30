use Rattle.std.proofs.Common.{None, Some, ap, ◌∙◌}
use Rattle.arc_core.specs.Places.{found}
use Rattle.byte_account.proofs.FoundLaws.{found-refilled, found_item}
use Rattle.byte_account.proofs.tests.replace.Goals as goal

pub fill-requires : goal.fill-requires
fill-requires g c =
    ap (found c.args.name.now) c.in_ok-old.ensures.places
    ∙ found-refilled c.args.name.now None (Some c.in_ok-old.old) c.args.shelf.now (found_item (found c.args.name.now c.args.shelf.now) c.in_ok-old.old c.in_ok-old.ensures.item)
