use Rattle.std.proofs.Common.{◌≡◌, ◌%◌, ◌^◌, take}
use Rattle.arc_core.specs.CollectionSize.{pairs_size}
use Rattle.map_coll.proofs.pairs.MapColl.size_of_first.Given as goal

-- the pairs so far are counted
abbrev pub invariant-loop-place : goal.invariant-loop-place
invariant-loop-place l = l.size ≡ pairs_size (take l.place l.self.pairs) % 2 ^ 64
