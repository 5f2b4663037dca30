use Rattle.std.proofs.Common.{ap, sym, ◌∙◌}
use Rattle.byte_account.specs.ShelfWords.{listed_at, stuck_at}
use Rattle.byte_account.proofs.ShelfLists.{others-absent}
use Rattle.byte_account.proofs.StickySums.{remove-absent}
use Rattle.byte_account.proofs.shelf.make_place.Goals as goal

-- the other side has no place of the key

pub returns-then-sticky-clause-list : goal.returns-then-sticky-clause-list
returns-then-sticky-clause-list g c = sym (ap (λ b. listed_at b c.args.key.now c.args.place c.args.list.now) c.if-sticky.true ∙ others-absent c.args.key.now c.args.list.now c.requires.list)

pub returns-in_default-clause-table : goal.returns-in_default-clause-table
returns-in_default-clause-table g c = sym (ap (λ b. stuck_at b c.args.key.now c.args.place c.args.table.now) c.if-sticky.false ∙ remove-absent c.args.table.now c.args.key.now c.requires.table)
