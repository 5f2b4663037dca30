-- The items that a shelf holds, as the machine's items in their places.
use Rattle.std.specs.Prelude.{Option, option_map}
use Rattle.std.specs.Borrow.{Bor}
use Rattle.arc_core.specs.Item.{Item, collection}
use Rattle.arc_core.specs.Places.{Places}
use Rattle.arc_core.specs.CacheState.{ArePlaced}
use Rattle.byte_account.specs.Filled.{map_places, items_of, IsFilled}
use Rattle.kv_items.specs.PlainItem.{plain_item}
use Rattle.cache_engine.specs.declared.stored.Stored.{Stored}
use Rattle.cache_engine.specs.declared.stored.Stored.TheVariants as stored

-- an item as the machine's
abbrev pub item_of : Stored → Item
item_of (stored.KeyValue item) = plain_item item
item_of (stored.Collection held) = collection held.value.attrs held.value.contents

-- an item that is perhaps held, as the machine's
abbrev pub held_item : Option (Bor Stored) → Option Item
held_item = option_map (λ stored. item_of stored.now)

-- the machine's items, in the places that they have on the shelf
abbrev pub items_in : Places (Option Stored) → Places Item
items_in places = map_places item_of (items_of places)

-- No place of the shelf is hollow, and its items keep their rules.
pub record Holds (places : Places (Option Stored)) : Type 0 where
  pub filled : IsFilled places
  pub placed : ArePlaced (items_in places)
