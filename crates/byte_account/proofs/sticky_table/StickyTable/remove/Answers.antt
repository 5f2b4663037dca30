use Rattle.std.proofs.Common.{sym, ◌∙◌}
use Rattle.byte_account.proofs.StickyMaps.{get-map_by_bytes, removed}
use Rattle.byte_account.proofs.sticky_table.StickyTable.remove.Goals as goal

pub returns-clause-place : goal.returns-clause-place
returns-clause-place g c = rw (← c.self.view_is) (c.remove.ensures.value ∙ sym (get-map_by_bytes (λ key. key.items) c.self.inside.table.entries c.args.key.now))

pub returns-clause-rest : goal.returns-clause-rest
returns-clause-rest g c =
    rw (← c.self.view_is) (removed (λ key. key.items) c.args.key.now c.self.inside.table.entries c.remove.new.self.entries c.remove.ensures.updates.1 c.remove.ensures.updates.3)
