-- What an item is, when it expires, and how many bytes it is stated to take.
use Rattle.std.specs.Prelude.{◌≡◌, ℕ, zero, suc, ◌+◌, ◌≤◌, Bool, true, false, nat_le, if◌then◌else◌, All, List, length, ℤ, pos, negsuc}
use Rattle.arc_core.specs.declared.attributes.Attrs.{Attrs}
use Rattle.arc_core.specs.declared.collections.Action.{Action}
use Rattle.arc_core.specs.declared.collections.Action.TheVariants as action
use Rattle.arc_core.specs.declared.collections.Kind.{Kind}
use Rattle.arc_core.specs.declared.collections.Kind.TheVariants as kind
use Rattle.arc_core.specs.declared.items.Expiry.{Expiry}
use Rattle.arc_core.specs.declared.items.Expiry.TheVariants as expiry
use Rattle.arc_core.specs.CollectionSize.{values_size, pairs_size}
use Rattle.arc_core.specs.Key.{IsKey}
use Rattle.arc_core.specs.MapReading.{HaveDistinctFields}
use Rattle.arc_core.specs.SetReading.{AreDistinct}

-- What a collection holds, by its kind: the elements of a list from the head on, the values of a set and the pairs of a
-- field and its value of a map, both in the order in which they came.
pub data Contents : Type 0 where
  list : (values : List (List ℕ)) → Contents
  set : (values : List (List ℕ)) → Contents
  map : (pairs : List (List ℕ × List ℕ)) → Contents

-- A key-value item: its client flags, when it expires, its cas unique and its value. Or a collection: its attributes and
-- what it holds.
pub data Item : Type 0 where
  key_value : (flags : ℕ) → (expiry : Expiry) → (unique : ℕ) → (value : List ℕ) → Item
  collection : (attrs : Attrs) → (contents : Contents) → Item

-- the kind of a collection
abbrev pub kind_of : Contents → Kind
kind_of (list values) = kind.List
kind_of (set values) = kind.Set
kind_of (map pairs) = kind.Map

-- the number of elements
abbrev pub count_of : Contents → ℕ
count_of (list values) = length values
count_of (set values) = length values
count_of (map pairs) = length pairs

-- the stated sizes of the elements together, in bytes
abbrev pub contents_size : Contents → ℕ
contents_size (list values) = values_size values
contents_size (set values) = values_size values
contents_size (map pairs) = pairs_size pairs

-- whether a collection of this kind may have this action for inserts into a full one
abbrev pub has_action : Kind → Action → Bool
has_action kind.List action.Error = true
has_action kind.List action.HeadTrim = true
has_action kind.List action.TailTrim = true
has_action kind.Set action.Error = true
has_action kind.Map action.Error = true
has_action kind.Tree action.Error = true
has_action kind.Tree action.SmallestTrim = true
has_action kind.Tree action.LargestTrim = true
has_action kind.Tree action.SmallestSilentTrim = true
has_action kind.Tree action.LargestSilentTrim = true
has_action _ _ = false

-- the bytes of an element keep their limit
abbrev pub IsElement : List ℕ → Type 0
IsElement value = length value ≤ 32768

-- the bytes of a map's field keep theirs, and are those of a key
pub record IsField (field : List ℕ) : Type 0 where
  pub key : IsKey field
  pub short : length field ≤ 250

-- The elements keep the rules of their kind.
abbrev pub AreElements : Contents → Type 0
AreElements (list values) = All IsElement values
AreElements (set values) = All IsElement values × AreDistinct values
AreElements (map pairs) = All (λ pair. IsField pair.0 × IsElement pair.1) pairs × HaveDistinctFields pairs

-- The rules that a collection keeps.
pub record IsCollection (attrs : Attrs) (contents : Contents) : Type 0 where
  pub elements : AreElements contents
  pub action : has_action (kind_of contents) attrs.action ≡ true
  -- it holds at most maxcount elements, and maxcount is 1 to 1,000,000
  pub within : count_of contents ≤ attrs.maxcount
  pub least : 1 ≤ attrs.maxcount
  pub most : attrs.maxcount ≤ 1000000
  -- only a tree has bkeys
  pub no_bkeys : attrs.maxbkeyrange ≡ 0

-- The rules that an item keeps: a value has 1,048,576 bytes at most, and a collection keeps its own.
abbrev pub IsItem : Item → Type 0
IsItem (key_value flags expiry unique value) = length value ≤ 1048576
IsItem (collection attrs contents) = IsCollection attrs contents

-- the stated size of an item under its key, in bytes (this server's own)
abbrev pub size_of : List ℕ → Item → ℕ
size_of key (key_value flags expiry unique value) = 64 + length key + length value
size_of key (collection attrs contents) = 128 + length key + contents_size contents

-- when an item expires
abbrev pub expiry_of : Item → Expiry
expiry_of (key_value flags expiry unique value) = expiry
expiry_of (collection attrs contents) = attrs.expiry

-- the item with another expiry
abbrev pub with_expiry : Expiry → Item → Item
with_expiry expiry (key_value flags old unique value) = key_value flags expiry unique value
with_expiry expiry (collection attrs contents) = collection (record attrs { expiry = expiry }) contents

-- when what is given this exptime now expires (memcached's exptime, and ARCUS's -1): 0 never, -1 never and not evicted
-- either, any other below 0 at once, up to 30 days so many seconds from now, and above that at this second
abbrev pub expiry_at : ℕ → ℤ → Expiry
expiry_at latest (pos zero) = expiry.Never
expiry_at latest (pos (suc n)) = expiry.At (if nat_le (suc n) 2592000 then latest + suc n else suc n)
expiry_at latest (negsuc zero) = expiry.Sticky
expiry_at latest (negsuc (suc n)) = expiry.At 0

-- whether what expires then has expired: its second is at or before the latest
abbrev pub has_expired : ℕ → Expiry → Bool
has_expired latest expiry.Never = false
has_expired latest expiry.Sticky = false
has_expired latest (expiry.At second) = nat_le second latest

-- whether an item is never evicted
abbrev pub is_sticky : Expiry → Bool
is_sticky expiry.Never = false
is_sticky expiry.Sticky = true
is_sticky (expiry.At second) = false
