-- What each request asks of the collection under its key.
use Rattle.std.specs.Prelude.{true, false, [], Option, None}
use Rattle.std.specs.Option.{option_map}
use Rattle.arc_core.specs.declared.attributes.CreateArgs.{CreateArgs}
use Rattle.arc_core.specs.declared.collections.Kind.{Kind}
use Rattle.arc_core.specs.declared.collections.Kind.TheVariants as kind
use Rattle.arc_core.specs.CollectionStep.{Asked, on_list, on_set, on_map}
use Rattle.arc_core.specs.Item.{Contents, list, set, map}
use Rattle.arc_core.specs.ListRows as lists
use Rattle.arc_core.specs.MapRows as maps
use Rattle.arc_core.specs.PlainRequest.{CollAct}
use Rattle.arc_core.specs.PlainRequest as act
use Rattle.arc_core.specs.SetRows as sets

-- what a collection of a kind holds that is made. (There are no trees yet, and a key-value item holds no elements.)
abbrev pub empty_of : Kind → Contents
empty_of kind.Set = set []
empty_of kind.Map = map []
empty_of _ = list []

-- a collection of this kind that is made where a request says with which attributes
abbrev pub made : Kind → Option CreateArgs → Option (CreateArgs × Contents)
made kind create = option_map (λ args. (args, empty_of kind)) create

-- what a request asks: an insert may make the collection, and reads are refused by one that is not readable
abbrev pub asked_of : CollAct → Asked
asked_of (act.list_insert index value create) = record { reads = false; makes = made kind.List create; row = on_list (lists.list_insert index value) }
asked_of (act.list_delete range drop_empty) = record { reads = false; makes = None; row = on_list (lists.list_delete range drop_empty) }
asked_of (act.list_get range taking) = record { reads = true; makes = None; row = on_list (lists.list_get range taking) }
asked_of (act.set_insert value create) = record { reads = false; makes = made kind.Set create; row = on_set (sets.set_insert value) }
asked_of (act.set_delete value drop_empty) = record { reads = false; makes = None; row = on_set (sets.set_delete value drop_empty) }
asked_of (act.set_exist value) = record { reads = true; makes = None; row = on_set (sets.set_exist value) }
asked_of (act.set_get count taking) = record { reads = true; makes = None; row = on_set (sets.set_get count taking) }
asked_of (act.map_insert field value create) = record { reads = false; makes = made kind.Map create; row = on_map (maps.map_insert field value) }
asked_of (act.map_update field value) = record { reads = false; makes = None; row = on_map (maps.map_update field value) }
asked_of (act.map_upsert field value create) = record { reads = false; makes = made kind.Map create; row = on_map (maps.map_upsert field value) }
asked_of (act.map_delete fields drop_empty) = record { reads = false; makes = None; row = on_map (maps.map_delete fields drop_empty) }
asked_of (act.map_get fields taking) = record { reads = true; makes = None; row = on_map (maps.map_get fields taking) }
