-- The last entry of a legal history was executed.
use Rattle.std.proofs.Common.{List, [], ◌∷◌, ◌++◌}
use Rattle.arc_core.specs.CacheState.{CacheState}
use Rattle.arc_core.specs.History.{Entry, Executes}
use Rattle.turn_lock.specs.Calls.{LeadsTo}

pub last_executed : (front : List Entry) (entry : Entry) (old new : CacheState) → LeadsTo old (front ++ entry ∷ []) new
    → (middle : CacheState) × (next : CacheState) × Executes middle entry.second entry.request entry.reply next
last_executed [] entry old new is = (old, is.1, is.2)
last_executed (first ∷ front) entry old new is = last_executed front entry is.1 new is.3
