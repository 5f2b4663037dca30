-- The state of the machine.
use Rattle.std.specs.Prelude.{◌≡◌, ℕ, ◌^◌, ◌<◌, ◌≤◌, List, bytes_eq, true, false, Some}
use Rattle.std.specs.Map.{lookup}
use Rattle.std.specs.FinMap.{get}
use Rattle.arc_core.specs.Item.{Item, IsItem, size_of, expiry_of, is_sticky}
use Rattle.arc_core.specs.Places.{Places, empty_places, found, total_of, sticky_total_of, HasEachKeyOnce}

-- The latest second that an executed request came with, the cas counter, and the items in their places.
pub record CacheState : Type 0 where
  pub latest : ℕ
  pub counter : ℕ
  pub places : Places Item

-- nothing is held, and nothing was stored
abbrev pub opening_state : (limit share : ℕ) → CacheState
opening_state limit share = record { latest = 0; counter = 0; places = empty_places limit share }

-- the accounted bytes: the stated sizes of all held items
abbrev pub accounted : CacheState → ℕ
accounted state = total_of size_of state.places

-- the accounted bytes of the sticky items
abbrev pub accounted_sticky : CacheState → ℕ
accounted_sticky state = sticky_total_of size_of state.places

-- The rules that items in their places keep.
pub record ArePlaced (places : Places Item) : Type 0 where
  -- each item keeps the rules on items
  pub items : (key : List ℕ) (item : Item) → found key places ≡ Some item → IsItem item
  -- it is among the sticky ones exactly where it is never evicted
  pub on_shelf : (key : List ℕ) (item : Item) → lookup (bytes_eq key) places.shelf ≡ Some item → is_sticky (expiry_of item) ≡ false
  pub sticky : (key : List ℕ) (item : Item) → get places.sticky key ≡ Some item → is_sticky (expiry_of item) ≡ true
  -- no key has two places
  pub once : HasEachKeyOnce places

-- The rules that a state keeps.
pub record IsState (state : CacheState) : Type 0 where
  pub placed : ArePlaced state.places
  pub second : state.latest < 2 ^ 32
  -- the accounted bytes are within the limit, and those of the sticky items within their share
  pub within : accounted state ≤ state.places.limit
  pub share : accounted_sticky state ≤ state.places.share
