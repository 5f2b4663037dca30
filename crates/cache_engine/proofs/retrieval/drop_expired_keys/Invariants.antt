use Rattle.std.proofs.Common.{◌≡◌}
use Rattle.arc_core.specs.Step.{unexpired}
use Rattle.cache_engine.proofs.retrieval.drop_expired_keys.Given as goal

abbrev pub invariant-loop-key : goal.invariant-loop-key
invariant-loop-key l = unexpired l.latest l.key-iterator l.items ≡ unexpired l.latest l.keys l.fn.items
