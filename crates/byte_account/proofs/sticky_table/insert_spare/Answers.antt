use Rattle.byte_account.proofs.StickyMaps.{inserted}
use Rattle.byte_account.proofs.sticky_table.insert_spare.Goals as goal

pub returns : goal.returns
returns g c =
    inserted (λ key. key.items) c.args.key.items c.args.place c.args.table.now.entries c.insert.new.self.entries c.in-Ok.ensures.updates.1 c.in-Ok.ensures.updates.3
