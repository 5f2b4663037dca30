-- What a merge of walks is, and what it keeps true.
use Rattle.std.specs.Prelude.{◌≡◌, ◌^◌, ◌-◌, ◌<◌, ◌≤◌, true, length}
use Rattle.std.specs.List.{All}
use Rattle.std.specs.Option.{option_map}
use Rattle.std.specs.Vec.{vec_capacity}
use Rattle.arc_core.specs.BkeyOrder.{is_down}
use Rattle.smget_merge.specs.MergedRows.{sorted}
use Rattle.smget_merge.specs.Merges.{Merging}
use Rattle.smget_merge.specs.Tournaments.{IsRanked}
use Rattle.smget_merge.specs.Walks.{all_credit, all_rows, heads_of, IsFacing}
use Rattle.smget_merge.specs.declared.merge.Merge.TheInside.{Inside}

abbrev pub merging_of : Inside → Merging
merging_of merge = record {
  range = merge.range;
  room = length merge.winners.items - length merge.walks.items;
  left = sorted merge.down (all_rows merge.walks.items);
  last = option_map (λ element. element.now.bkey) merge.last;
  credit = all_credit merge.walks.items;
}

-- Each walk goes in the range's direction; there is room for as many walks as the tournament has; and once it was played, it
-- tells which walk is next.
pub record IsMerge (merge : Inside) : Type 0 where
  pub down : merge.down ≡ is_down merge.range
  pub few : length merge.winners.items < 2 ^ 32
  pub within : length merge.walks.items ≤ length merge.winners.items
  pub room : length merge.winners.items ≤ vec_capacity merge.walks
  pub facing : All (λ walk. IsFacing merge.down walk.elements) merge.walks.items
  pub ranked : merge.is_ranked ≡ true → IsRanked merge.down (heads_of merge.walks.items) (length merge.walks.items) merge.winners.items
