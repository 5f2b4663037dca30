use Rattle.std.proofs.Common.{ap, ◌∙◌}
use Rattle.std.specs.FinMap as finite
use Rattle.byte_account.specs.ByBytes.{map_by_bytes}
use Rattle.byte_account.proofs.StickyMaps.{inserted}
use Rattle.byte_account.proofs.sticky_table.StickyTable.insert.Goals as goal

pub returns-clause-ok : goal.returns-clause-ok
returns-clause-ok g c =
    rw (← c.self.view_is)
    (inserted (λ key. key.items) c.in_ok-key.key.items c.args.place c.self.inside.table.entries c.insert.new.self.entries c.in_ok-insert.ensures.updates.1 c.in_ok-insert.ensures.updates.3
    ∙ ap (λ k. finite.insert (map_by_bytes (λ key. key.items) c.self.inside.table.entries) k c.args.place) c.in_ok-key.ensures.items)
