-- The limits that a request keeps which some line and block spell.
use Rattle.std.specs.Prelude.{◌≡◌, ◌≤◌, true, length, Option, Some}
use Rattle.arc_core.specs.declared.attributes.CreateArgs.{CreateArgs}
use Rattle.arc_core.specs.declared.collections.Kind.{Kind}
use Rattle.arc_core.specs.declared.collections.Kind.TheVariants as kind
use Rattle.arc_core.specs.CollectionRequests.{empty_of}
use Rattle.arc_core.specs.Item.{IsElement, IsField, has_action, kind_of}
use Rattle.arc_core.specs.PlainRequest.{PlainAct, CollAct, store, make, on_collection}
use Rattle.arc_core.specs.PlainRequest as act

-- A collection of this kind may be made with these attributes: their action is one of the kind.
abbrev pub MayBeMade : Kind → CreateArgs → Type 0
MayBeMade kind args = has_action (kind_of (empty_of kind)) args.action ≡ true

-- So it may be where a request makes one.
abbrev pub MayMake : Kind → Option CreateArgs → Type 0
MayMake kind create = (args : CreateArgs) → create ≡ Some args → MayBeMade kind args

-- What a request puts into a collection keeps the limits of elements and fields, and a collection that it makes may be made.
abbrev pub CollKeepsLimits : CollAct → Type 0
CollKeepsLimits (act.list_insert index value create) = IsElement value × MayMake kind.List create
CollKeepsLimits (act.set_insert value create) = IsElement value × MayMake kind.Set create
CollKeepsLimits (act.map_insert field value create) = IsField field × IsElement value × MayMake kind.Map create
CollKeepsLimits (act.map_update field value) = IsField field × IsElement value
CollKeepsLimits (act.map_upsert field value create) = IsField field × IsElement value × MayMake kind.Map create
CollKeepsLimits _ = Unit {0}

-- The limits that a request keeps: a value has 1,048,576 bytes at most.
abbrev pub KeepsLimits : PlainAct → Type 0
KeepsLimits (store verb key flags exptime value) = length value ≤ 1048576
KeepsLimits (make kind key args) = MayBeMade kind args
KeepsLimits (on_collection key asked) = CollKeepsLimits asked
KeepsLimits _ = Unit {0}
