use Rattle.std.proofs.Common.{◌≡◌, ◌%◌, ◌^◌, map}
use Rattle.arc_core.specs.CollectionSize.{values_size}
use Rattle.list_coll.proofs.list.size_between.Given as goal

-- the elements so far are counted
abbrev pub invariant-loop-value : goal.invariant-loop-value
invariant-loop-value l = l.size ≡ values_size (map (λ value. value.now) l.yielded) % 2 ^ 64
