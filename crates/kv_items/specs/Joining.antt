-- What joining makes of an item.
use Rattle.std.specs.Prelude.{◌≡◌, ℕ, ◌<◌, ◌≤◌, List, ◌++◌, length, Result, Ok, Err}
use Rattle.arc_core.specs.Item.{key_value}
use Rattle.kv_items.specs.PlainItem.{plain_item}
use Rattle.kv_items.specs.declared.item.KvItem.{KvItem}
use Rattle.kv_items.specs.declared.joins.JoinFault.{JoinFault}
use Rattle.kv_items.specs.declared.joins.JoinFault.TheVariants as fault

-- The item's value between the two pieces is the value of another with this unique, where it is not too long. That it is
-- too long is told with its length. For want of memory there is none.
abbrev pub Joins : KvItem → List ℕ → List ℕ → ℕ → Result KvItem JoinFault → Type 0
Joins item front back unique (Ok joined) =
    (length (front ++ item.value ++ back) ≤ 1048576) × (plain_item joined ≡ key_value item.flags item.expiry unique (front ++ item.value ++ back))
Joins item front back unique (Err (fault.TooLong len)) = (len ≡ length (front ++ item.value ++ back)) × (1048576 < len)
Joins item front back unique (Err fault.NoMemory) = length (front ++ item.value ++ back) ≤ 1048576
