use Rattle.std.proofs.Common.{◌≡◌, ◌%◌, ◌^◌, map, take}
use Rattle.arc_core.specs.CollectionSize.{values_size}
use Rattle.set_coll.proofs.values.values_size.Given as goal

-- the values so far are counted
abbrev pub invariant-loop-value : goal.invariant-loop-value
invariant-loop-value l = l.size ≡ values_size (map (λ v. v.items) (take l.value-index l.values)) % 2 ^ 64
