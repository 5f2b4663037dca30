-- Which commands on collections are joined with their blocks by one function: those on lists, those on sets, and on maps
-- those on one pair and those on so many fields.
use Rattle.std.specs.Prelude.{Bool, true, false}
use Rattle.arc_core.specs.declared.coll_commands.CollCommand.{CollCommand}
use Rattle.arc_core.specs.declared.coll_commands.CollCommand.TheVariants as command

abbrev pub is_on_list : CollCommand → Bool
is_on_list (command.ListInsert key index len create) = true
is_on_list (command.ListDelete key range drop_empty) = true
is_on_list (command.ListGet key range taking) = true
is_on_list other = false

abbrev pub is_on_set : CollCommand → Bool
is_on_set (command.SetInsert key len create) = true
is_on_set (command.SetDelete key len drop_empty) = true
is_on_set (command.SetExist key len) = true
is_on_set (command.SetGet key count taking) = true
is_on_set other = false

abbrev pub is_on_pair : CollCommand → Bool
is_on_pair (command.MapInsert key field len create) = true
is_on_pair (command.MapUpdate key field len) = true
is_on_pair (command.MapUpsert key field len create) = true
is_on_pair other = false

abbrev pub is_on_fields : CollCommand → Bool
is_on_fields (command.MapDelete key len number drop_empty) = true
is_on_fields (command.MapGet key len number taking) = true
is_on_fields other = false
