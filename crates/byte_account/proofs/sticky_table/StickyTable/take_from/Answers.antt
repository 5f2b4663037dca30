use Rattle.std.proofs.Common.{◌∙◌}
use Rattle.byte_account.specs.ByBytes.{map_by_bytes}
use Rattle.byte_account.proofs.StickyMaps.{reordered, insert_same}
use Rattle.byte_account.proofs.sticky_table.StickyTable.take_from.Goals as goal

pub returns-clause-table : goal.returns-clause-table
returns-clause-table g c = λ place found.
    insert_same c.args.self.now (map_by_bytes (λ key. key.items) c.reserve.new.self.entries) _ c.args.key.now c.in_ok-name.name.items c.in-Some.place place c.insert_spare.ensures c.in_ok-name.ensures.items
    (reordered (λ key. key.items) c.self.inside.table.entries c.reserve.new.self.entries c.in_ok-reserve.ensures.entries.2 ∙ c.self.view_is)
    (c.in-Some.ensures.place ∙ found)
