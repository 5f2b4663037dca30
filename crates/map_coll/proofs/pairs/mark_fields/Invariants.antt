use Rattle.std.proofs.Common.{◌≡◌, ◌%◌, ◌^◌, All, filter}
use Rattle.indexmap.specs.IndexMap.{spare}
use Rattle.arc_core.specs.CollectionSize.{pairs_size}
use Rattle.arc_core.specs.MapReading.{is_named}
use Rattle.map_coll.specs.TableEntries.{held_pairs}
use Rattle.map_coll.proofs.pairs.mark_fields.Given as goal

-- the entries of the names so far are marked and their pairs counted, and nothing else has changed
abbrev pub invariant-loop-field : goal.invariant-loop-field
invariant-loop-field l =
    All (λ e. e.1.marked ≡ is_named l.yielded e.0.items) l.table.entries
    × (held_pairs l.table.entries ≡ held_pairs l.initial.table.entries)
    × (spare l.table ≡ spare l.initial.table)
    × (l.size ≡ pairs_size (held_pairs (filter (λ e. e.1.marked) l.table.entries)) % 2 ^ 64)
