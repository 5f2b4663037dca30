-- Key-value items as the machine's items.
use Rattle.arc_core.specs.Item.{Item, key_value}
use Rattle.kv_items.specs.declared.item.KvItem.{KvItem}

-- the item as plain data
abbrev pub plain_item : KvItem → Item
plain_item item = key_value item.flags item.expiry item.unique item.value
