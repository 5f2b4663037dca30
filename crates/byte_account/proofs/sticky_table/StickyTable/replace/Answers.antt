use Rattle.std.proofs.Common.{ap, sym, ◌∙◌}
use Rattle.byte_account.specs.ByBytes.{map_by_bytes}
use Rattle.byte_account.proofs.StickyMaps.{get-map_by_bytes, replaced}
use Rattle.byte_account.proofs.sticky_table.StickyTable.replace.Goals as goal

pub returns-clause-old : goal.returns-clause-old
returns-clause-old g c = rw (← c.self.view_is) (c.replace_in.ensures.old ∙ sym (get-map_by_bytes (λ key. key.items) c.self.inside.table.entries c.args.key.now))

pub returns-clause-new : goal.returns-clause-new
returns-clause-new g c =
    rw (← c.self.view_is)
    (ap (map_by_bytes (λ key. key.items)) c.replace_in.ensures.new ∙ replaced (λ key. key.items) c.args.key.now c.args.place c.self.inside.table.entries)
