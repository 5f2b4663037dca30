use Rattle.std.proofs.Common.{sym, ◌∙◌}
use Rattle.byte_account.proofs.StickyMaps.{len-map_by_bytes}
use Rattle.byte_account.proofs.sticky_table.StickyTable.len.Goals as goal

pub returns-clause-len : goal.returns-clause-len
returns-clause-len g c = rw (← c.self.view_is) (c.len.ensures.len ∙ sym (len-map_by_bytes (λ key. key.items) c.self.inside.table.entries c.len.ensures.unique))
