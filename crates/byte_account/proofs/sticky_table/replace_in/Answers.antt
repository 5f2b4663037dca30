-- Where the key has no entry, there is none to replace.
use Rattle.std.proofs.Common.{ap, sym, ◌∙◌}
use Rattle.byte_account.proofs.ShelfLists.{set_value-absent}
use Rattle.byte_account.proofs.sticky_table.replace_in.Goals as goal

pub returns-in-None-clause-new : goal.returns-in-None-clause-new
returns-in-None-clause-new g c =
    ap (λ table. table.entries) c.get_mut.follows.holds-at-none ∙ sym (set_value-absent _ c.args.table.now.entries c.args.place (sym c.in-None.ensures.value))
