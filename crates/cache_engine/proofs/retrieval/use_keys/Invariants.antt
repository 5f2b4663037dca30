use Rattle.std.proofs.Common.{◌≡◌}
use Rattle.arc_core.specs.Step.{used}
use Rattle.cache_engine.specs.Retrieving.{AreLive}
use Rattle.cache_engine.proofs.retrieval.use_keys.Given as goal

abbrev pub invariant-loop-key : goal.invariant-loop-key
invariant-loop-key l =
    record {
      so_far : used l.latest l.key-iterator l.items ≡ used l.latest l.keys l.fn.items;
      live : AreLive l.latest l.key-iterator l.items;
    }
