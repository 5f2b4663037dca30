use Rattle.std.proofs.Common.{sym}
use Rattle.arc_core.proofs.FilterValueLemmas.{comma_parts-some, comma_parts-none}
use Rattle.arc_core.proofs.filters.first_part.Goals as goal

pub returns-in-Some : goal.returns-in-Some
returns-in-Some c = comma_parts-some c.args.text.now c.in-Some.place (sym c.in-Some.ensures)

pub returns-in-None : goal.returns-in-None
returns-in-None c = comma_parts-none c.args.text.now (sym c.in-None.ensures)
