-- Which attribute of an item a word names, what its value is, and what setting it comes to. (The ARCUS protocol's
-- getattr and setattr; the limits are this server's own.)
use Rattle.std.specs.Prelude.{⊤, ℕ, ◌-◌, ◌^◌, ◌==◌, ◌≤◌, ◌&&◌, ◌||◌, max, Bool, true, false, not, nat_le, if◌then◌else◌, List, [], ◌∷◌, filter, bytes_eq, codes, Option, Some, None, Result, Ok, Err}
use Rattle.std.specs.Option.{option_and_then, option_map}
use Rattle.arc_core.specs.declared.attributes.Attrs.{Attrs}
use Rattle.arc_core.specs.declared.attributes.AttrName.{AttrName}
use Rattle.arc_core.specs.declared.attributes.AttrName.TheVariants as attr
use Rattle.arc_core.specs.declared.attributes.AttrNumber.{AttrNumber}
use Rattle.arc_core.specs.declared.attributes.AttrNumber.TheVariants as number
use Rattle.arc_core.specs.declared.attributes.AttrValue.{AttrValue}
use Rattle.arc_core.specs.declared.attributes.AttrView.{AttrView}
use Rattle.arc_core.specs.declared.bkeys.Bkey.{Bkey}
use Rattle.arc_core.specs.declared.bkeys.Bkey.TheVariants as bkey
use Rattle.arc_core.specs.declared.collections.Action.{Action}
use Rattle.arc_core.specs.declared.collections.Action.TheVariants as action
use Rattle.arc_core.specs.declared.collections.Kind.{Kind}
use Rattle.arc_core.specs.declared.collections.Kind.TheVariants as kind
use Rattle.arc_core.specs.declared.items.Expiry.{Expiry}
use Rattle.arc_core.specs.declared.items.Expiry.TheVariants as expiry
use Rattle.arc_core.specs.CollectionGrammar.{action_word}
use Rattle.arc_core.specs.CollectionRows.{maxcount_of}
use Rattle.arc_core.specs.Item.{expiry_at}
use Rattle.arc_core.specs.Settling.{distance}
use Rattle.arc_core.specs.Words.{number_below, exptime_word}
use Rattle.item_attrs.specs.declared.read.AttrUnknown.{AttrUnknown}
use Rattle.item_attrs.specs.declared.set.AttrFault.{AttrFault}
use Rattle.item_attrs.specs.declared.set.AttrFault.TheVariants as fault

-- the attribute that a word names
unfoldable pub attr_name_of : List ℕ → Option AttrName
attr_name_of word =
    if bytes_eq word (codes "flags") then Some attr.Flags
    else if bytes_eq word (codes "expiretime") then Some attr.ExpireTime
    else if bytes_eq word (codes "type") then Some attr.KindName
    else if bytes_eq word (codes "count") then Some attr.Count
    else if bytes_eq word (codes "maxcount") then Some attr.MaxCount
    else if bytes_eq word (codes "overflowaction") then Some attr.OverflowAction
    else if bytes_eq word (codes "readable") then Some attr.Readable
    else if bytes_eq word (codes "maxbkeyrange") then Some attr.MaxBkeyRange
    else if bytes_eq word (codes "minbkey") then Some attr.MinBkey
    else if bytes_eq word (codes "maxbkey") then Some attr.MaxBkey
    else if bytes_eq word (codes "trimmed") then Some attr.Trimmed
    else None

-- whether a kind is one of collections
abbrev pub is_collection : Kind → Bool
is_collection kind.Kv = false
is_collection _ = true

-- whether a kind is that of trees
abbrev pub is_tree : Kind → Bool
is_tree kind.Tree = true
is_tree _ = false

-- whether items of this kind have the attribute
abbrev pub has_attr : Kind → AttrName → Bool
has_attr of attr.Flags = true
has_attr of attr.ExpireTime = true
has_attr of attr.KindName = true
has_attr of attr.Count = is_collection of
has_attr of attr.MaxCount = is_collection of
has_attr of attr.OverflowAction = is_collection of
has_attr of attr.Readable = is_collection of
has_attr of attr.MaxBkeyRange = is_tree of
has_attr of attr.MinBkey = is_tree of
has_attr of attr.MaxBkey = is_tree of
has_attr of attr.Trimmed = is_tree of

-- all names, in the order in which they are answered
abbrev pub every_name : List AttrName
every_name =
    attr.Flags ∷ attr.ExpireTime ∷ attr.KindName ∷ attr.Count ∷ attr.MaxCount ∷ attr.OverflowAction ∷ attr.Readable
    ∷ attr.MaxBkeyRange ∷ attr.MinBkey ∷ attr.MaxBkey ∷ attr.Trimmed ∷ []

-- the names that items of this kind have
abbrev pub names_of : Kind → List AttrName
names_of of = filter (has_attr of) every_name

-- the name, where items of this kind have it
abbrev pub where_had : Kind → AttrName → Option AttrName
where_had of name = if has_attr of name then Some name else None

-- the attribute of items of this kind that a word names
abbrev pub named_attr : Kind → List ℕ → Option AttrName
named_attr of word = option_and_then (where_had of) (attr_name_of word)

-- how many seconds what expires then has left: 0 where it never expires, sticky where it is not evicted either
abbrev pub time_left : ℕ → Expiry → AttrNumber
time_left latest expiry.Never = number.Plain 0
time_left latest expiry.Sticky = number.Sticky
time_left latest (expiry.At second) = number.Plain (second - latest)

-- the value of an attribute
abbrev pub attr_value : AttrView → AttrName → AttrNumber
attr_value view attr.Flags = number.Plain view.attrs.flags
attr_value view attr.ExpireTime = time_left view.latest view.attrs.expiry
attr_value view attr.KindName = number.Kind view.kind
attr_value view attr.Count = number.Plain view.count
attr_value view attr.MaxCount = number.Plain view.attrs.maxcount
attr_value view attr.OverflowAction = number.Action view.attrs.action
attr_value view attr.Readable = number.OnOff view.attrs.readable
attr_value view attr.MaxBkeyRange = number.Plain view.attrs.maxbkeyrange
attr_value view attr.MinBkey = number.Bkey view.least
attr_value view attr.MaxBkey = number.Bkey view.greatest
attr_value view attr.Trimmed = number.Plain (if view.trimmed then 1 else 0)

-- the attribute that a word names, with its value
abbrev pub attr_read : List ℕ → AttrView → Option AttrValue
attr_read word view =
    option_map (λ name. record { name = name; value = attr_value view name }) (named_attr view.kind word)

-- the attribute that was read, or that there is none
abbrev pub or_unknown : Option AttrValue → Result AttrValue AttrUnknown
or_unknown None = Err (record {})
or_unknown (Some read) = Ok read

-- whether an attribute can be set
abbrev pub can_be_set : AttrName → Bool
can_be_set attr.ExpireTime = true
can_be_set attr.MaxCount = true
can_be_set attr.OverflowAction = true
can_be_set attr.Readable = true
can_be_set attr.MaxBkeyRange = true
can_be_set _ = false

-- the action of trees that a word names
abbrev pub tree_action_word : List ℕ → Option Action
tree_action_word word =
    if bytes_eq word (codes "error") then Some action.Error
    else if bytes_eq word (codes "smallest_trim") then Some action.SmallestTrim
    else if bytes_eq word (codes "largest_trim") then Some action.LargestTrim
    else if bytes_eq word (codes "smallest_silent_trim") then Some action.SmallestSilentTrim
    else if bytes_eq word (codes "largest_silent_trim") then Some action.LargestSilentTrim
    else None

-- the action that a word names, where a collection of this kind may have it
abbrev pub attr_action_word : Kind → List ℕ → Option Action
attr_action_word kind.Tree word = tree_action_word word
attr_action_word of word = action_word of word

-- the word `on`: a collection is made readable, and never unreadable again
unfoldable pub on_word : List ℕ → Option Bool
on_word word = if bytes_eq word (codes "on") then Some true else None

-- whether the least and the greatest element, where there are elements, are at most so far apart
abbrev pub are_within : ℕ → Option Bkey → Option Bkey → Bool
are_within range (Some least) (Some greatest) = nat_le (distance greatest least) range
are_within range _ _ = true

-- whether a tree may have this maxbkeyrange: 0, which is no bound, or where bkeys are numbers one that they keep
abbrev pub may_have_range : AttrView → ℕ → Bool
may_have_range view range = range == 0 || (not view.bytes && are_within range view.least view.greatest)

-- the maxbkeyrange, where the tree may have it
abbrev pub range_for : AttrView → ℕ → Option ℕ
range_for view range = if may_have_range view range then Some range else None

-- the maxbkeyrange that a word spells, where the tree may have it
abbrev pub range_word : AttrView → List ℕ → Option ℕ
range_word view word = option_and_then (range_for view) (number_below (2 ^ 64) word)

-- the maxcount that a word spells: it is never below the number of elements
abbrev pub maxcount_word : (count : ℕ) → List ℕ → Option ℕ
maxcount_word count word = option_map (λ written. max (maxcount_of written) count) (number_below (2 ^ 32) word)

-- the attributes with this one set to what a word spells. None where that is refused
abbrev pub set_value : AttrView → AttrName → List ℕ → Option Attrs
set_value view attr.ExpireTime word =
    option_map (λ exptime. record view.attrs { expiry = expiry_at view.latest exptime }) (exptime_word word)
set_value view attr.MaxCount word =
    option_map (λ maxcount. record view.attrs { maxcount = maxcount }) (maxcount_word view.count word)
set_value view attr.OverflowAction word =
    option_map (λ action. record view.attrs { action = action }) (attr_action_word view.kind word)
set_value view attr.Readable word = option_map (λ on. record view.attrs { readable = on }) (on_word word)
set_value view attr.MaxBkeyRange word =
    option_map (λ range. record view.attrs { maxbkeyrange = range }) (range_word view word)
set_value view _ word = None

-- the attributes with a value that was set, or that it was refused
abbrev pub or_bad_value : Option Attrs → Result Attrs AttrFault
or_bad_value None = Err fault.BadValue
or_bad_value (Some attrs) = Ok attrs

-- what setting the attribute comes to, where the name is one
abbrev pub attr_given : AttrView → List ℕ → Option AttrName → Result Attrs AttrFault
attr_given view value None = Err fault.Unknown
attr_given view value (Some name) =
    if can_be_set name then or_bad_value (set_value view name value) else Err fault.Unknown

-- what setting the attribute that a word names to what another one spells comes to
abbrev pub attr_set : List ℕ → List ℕ → AttrView → Result Attrs AttrFault
attr_set name value view = attr_given view value (named_attr view.kind name)

-- The least and the greatest bkey are there or not there together. Where bkeys are no byte strings they are numbers,
-- and the least is at most the greatest.
abbrev pub AreEnds : (bytes : Bool) → (least greatest : Option Bkey) → Type 0
AreEnds bytes None None = ⊤
AreEnds true (Some least) (Some greatest) = ⊤
AreEnds false (Some (bkey.Number least)) (Some (bkey.Number greatest)) = least ≤ greatest
AreEnds _ _ _ = ⊥
