use Rattle.std.proofs.Common.{◌≡◌, ◌+◌, ◌-◌, length, take}
use Rattle.arc_core.specs.Places.{weight_of}
use Rattle.byte_account.specs.Weight.{place_weight}
use Rattle.byte_account.proofs.recency_list.RecencyList.pop_many.Given as goal

abbrev pub invariant-loop : goal.invariant-loop
invariant-loop g l = record {
  places : l.self ≡ take (length l.initial.self - l.counter) l.initial.self;
  freed : weight_of (place_weight g.T.Weighs.weigh) l.self + l.freed ≡ weight_of (place_weight g.T.Weighs.weigh) l.initial.self;
}
