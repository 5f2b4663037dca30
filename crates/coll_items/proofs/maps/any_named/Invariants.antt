use Rattle.std.proofs.Common.{◌≡◌}
use Rattle.coll_items.specs.Planning.{are_some}
use Rattle.coll_items.proofs.maps.any_named.Given as goal

-- it is known whether some of the fields so far are there
abbrev pub invariant-loop-field : goal.invariant-loop-field
invariant-loop-field l = l.found ≡ are_some l.yielded l.held.pairs
