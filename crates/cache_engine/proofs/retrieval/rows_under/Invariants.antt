use Rattle.std.proofs.Common.{◌≡◌, ◌++◌}
use Rattle.std.specs.Prelude.{◌||◌}
use Rattle.cache_engine.specs.Retrieving.{live_rows, some_late}
use Rattle.cache_engine.proofs.retrieval.rows_under.Given as goal

-- the rows so far, and those of the keys that are left, are those of all keys; so is it with the expired items
abbrev pub invariant-loop-key : goal.invariant-loop-key
invariant-loop-key l =
    record {
      rows : l.rows ++ live_rows l.unique l.latest l.items l.key-iterator ≡ live_rows l.unique l.latest l.items l.keys;
      late : (l.late || some_late l.latest l.items l.key-iterator) ≡ some_late l.latest l.items l.keys;
    }
