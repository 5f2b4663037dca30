-- Changes of collections that were decided.
use Rattle.std.specs.Prelude.{◌≡◌, ℕ, ◌+◌, ◌-◌, ◌≤◌, ◌<◌, slice_index_or, List, [], ◌∷◌, ◌++◌, length, insert, remove, drop, Option, Some, None}
use Rattle.std.specs.List.{remove_range}
use Rattle.arc_core.specs.CollectionSize.{value_size}
use Rattle.arc_core.specs.declared.attributes.Attrs.{Attrs}
use Rattle.arc_core.specs.declared.collections.Side.{Side}
use Rattle.arc_core.specs.declared.collections.Side.TheVariants.{Low, High}
use Rattle.arc_core.specs.Item.{Contents, list, set, map, IsElement, IsField, count_of}
use Rattle.arc_core.specs.ListRows.{trimmed}
use Rattle.arc_core.specs.MapReading as map_words
use Rattle.arc_core.specs.SetReading as set_words
use Rattle.coll_items.specs.declared.changes.Insertion.{Insertion}
use Rattle.coll_items.specs.declared.changes.Insertion.TheVariants as insertion
use Rattle.coll_items.specs.declared.changes.Removal.{Removal}
use Rattle.coll_items.specs.declared.changes.Removal.TheVariants as removal

-- the values without the one at an end, where one is to be trimmed
abbrev pub perhaps_trimmed : Option Side → List (List ℕ) → List (List ℕ)
perhaps_trimmed None values = values
perhaps_trimmed (Some side) values = trimmed side values

-- the stated size of the value at an end, or 0 where none is to be trimmed
abbrev pub end_size : Option Side → List (List ℕ) → ℕ
end_size None values = 0
end_size (Some Low) values = value_size (slice_index_or values 0 [])
end_size (Some High) values = value_size (slice_index_or values (length values - 1) [])

-- Where an end is to be trimmed, an element stands there.
abbrev pub HasEnd : Option Side → List (List ℕ) → Type 0
HasEnd None values = Unit {0}
HasEnd (Some side) values = 1 ≤ length values

-- what a collection holds with an element more
abbrev pub inserted : Insertion → Contents → Contents
inserted (insertion.IntoList place trim value) (list values) = list (perhaps_trimmed trim (insert values place value))
inserted (insertion.IntoSet value) (set values) = set (values ++ value.items ∷ [])
inserted (insertion.IntoMap field value) (map pairs) = map (pairs ++ (field, value) ∷ [])
inserted (insertion.OfField place value) (map pairs) = map (map_words.with_value_at pairs place value)
inserted _ contents = contents

-- The place is one of the list's, or behind its last; where an end is trimmed, it is not the new element's.
abbrev pub IsPlaceIn : (place n : ℕ) → Option Side → Type 0
IsPlaceIn place n None = place ≤ n
IsPlaceIn place n (Some Low) = (1 ≤ place) × (place ≤ n)
IsPlaceIn place n (Some High) = place < n

-- The element is one of the collection's kind, it keeps the rules on elements, and it is new where it is put last.
abbrev pub FitsInto : Insertion → Contents → Type 0
FitsInto (insertion.IntoList place trim value) (list values) = IsPlaceIn place (length values) trim × IsElement value
FitsInto (insertion.IntoSet value) (set values) = (set_words.place_of value.items values ≡ None) × IsElement value.items
FitsInto (insertion.IntoMap field value) (map pairs) = (map_words.place_of field pairs ≡ None) × IsField field × IsElement value
FitsInto (insertion.OfField place value) (map pairs) = (place < length pairs) × IsElement value
FitsInto _ _ = ⊥

-- The element fits, and the collection keeps its maxcount with it.
pub record SuitsInsertion (put : Insertion) (attrs : Attrs) (contents : Contents) : Type 0 where
  pub fits : FitsInto put contents
  pub within : count_of (inserted put contents) ≤ attrs.maxcount

-- for how many further elements an insertion asks room
abbrev pub room_asked : Insertion → ℕ
room_asked (insertion.OfField place value) = 0
room_asked _ = 1

-- what a collection holds without the elements that are taken out
abbrev pub taken_out : Removal → Contents → Contents
taken_out (removal.FromList low high) (list values) = list (remove_range values low (high + 1))
taken_out (removal.FromSet place) (set values) = set (remove values place)
taken_out (removal.FirstOfSet number) (set values) = set (drop number values)
taken_out (removal.FromMap names) (map pairs) = map (map_words.without names.now pairs)
taken_out removal.AllOfMap (map pairs) = map []
taken_out _ contents = contents

-- The removal is one from a collection of this kind, and its places are there.
abbrev pub FitsOut : Removal → Contents → Type 0
FitsOut (removal.FromList low high) (list values) = (low ≤ high) × (high < length values)
FitsOut (removal.FromSet place) (set values) = place < length values
FitsOut (removal.FirstOfSet number) (set values) = Unit {0}
FitsOut (removal.FromMap names) (map pairs) = Unit {0}
FitsOut removal.AllOfMap (map pairs) = Unit {0}
FitsOut _ _ = ⊥
