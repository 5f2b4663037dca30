use Rattle.std.proofs.Common.{sym, ap, ◌∙◌}
use Rattle.std.specs.Ordering.{nat_cmp}
use Rattle.std.specs.Cmp.Lexicographic.{slice_cmp}
use Rattle.std.specs.FinMap as finite
use Rattle.byte_account.proofs.StickyMaps.{get-map_by_bytes}
use Rattle.byte_account.proofs.sticky_table.StickyTable.get.Goals as goal

pub returns : goal.returns
returns g c = rw (← c.self.view_is) (c.get.ensures.value ∙ sym (get-map_by_bytes (λ key. key.items) c.self.inside.table.entries c.args.key.now))

pub returns-then-len-eq0 : goal.returns-then-len-eq0
returns-then-len-eq0 g c =
    sym (ap (λ m. finite.get m c.args.key.now) (finite.empty_of_len c.args.self.now (sym c.len.ensures.len ∙ c.if-len-eq0.true)) ∙ finite.get-empty (slice_cmp nat_cmp) c.args.key.now)
