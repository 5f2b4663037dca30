use Rattle.std.proofs.Common.{◌∙◌}
use Rattle.std.specs.FinMap as finite
use Rattle.byte_account.proofs.StickyMaps.{reordered}
use Rattle.byte_account.proofs.sticky_table.StickyTable.replace_from.Goals as goal

pub returns-clause-table : goal.returns-clause-table
returns-clause-table g c = λ there.
    c.insert_spare.ensures
    ∙ (λ i. finite.insert ((reordered (λ key. key.items) c.self.inside.table.entries c.reserve.new.self.entries c.in_ok-reserve.ensures.entries.2 ∙ c.self.view_is) i) (c.in_ok-name.ensures.items i) c.args.place)
