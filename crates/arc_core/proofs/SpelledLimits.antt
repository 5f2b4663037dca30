-- Requests that some line and block spell keep the limits of requests.
use Rattle.std.proofs.Common.{◌≡◌, ◌≤◌, ℕ, Bool, true, false, if◌then◌else◌, List, length, Option, Some, None, option_map, refl, sym, ap, ◌∙◌, subst, arith}
use Rattle.std.specs.Prelude.{◌&&◌, bytes_eq, codes, is_none, nat_le}
use Rattle.std.specs.Option.{option_map_or, unwrap_or}
use Rattle.std.proofs.lemmas.Bool.{leb-true}
use Rattle.arc_core.specs.declared.attributes.CreateArgs.{CreateArgs}
use Rattle.arc_core.specs.declared.coll_commands.CollCommand.{CollCommand}
use Rattle.arc_core.specs.declared.coll_commands.CollCommand.TheVariants as command
use Rattle.arc_core.specs.declared.coll_commands.CollHead.{CollHead}
use Rattle.arc_core.specs.declared.coll_commands.CollHead.TheVariants as coll_head
use Rattle.arc_core.specs.declared.coll_commands.CollName.{CollName}
use Rattle.arc_core.specs.declared.coll_commands.CollName.TheVariants as named
use Rattle.arc_core.specs.declared.collections.Action.{Action}
use Rattle.arc_core.specs.declared.collections.Action.TheVariants as action
use Rattle.arc_core.specs.declared.collections.Kind.{Kind}
use Rattle.arc_core.specs.declared.collections.Kind.TheVariants as kind
use Rattle.arc_core.specs.declared.commands.Command.{Command}
use Rattle.arc_core.specs.declared.commands.Command.TheVariants as key_value
use Rattle.arc_core.specs.CollectionGrammar.{action_word, default_action, field_word, args_of, attributes_behind, ends_or_pipes}
use Rattle.arc_core.specs.CollectionLines.{CanBeSpelled, IsCollHead, coll_act_of, coll_command_needs, coll_need_of, coll_request_of, coll_row_of}
use Rattle.arc_core.specs.CollectionRequests.{empty_of}
use Rattle.arc_core.specs.Grammar.{IsBlockFor, Meets, act_of}
use Rattle.arc_core.specs.Item.{IsField, has_action, kind_of}
use Rattle.arc_core.specs.Key.{key_fault}
use Rattle.arc_core.specs.ListGrammar.{create_row, list_insert_row, list_delete_row, list_get_row}
use Rattle.arc_core.specs.MapGrammar.{map_insert_row, map_update_row, map_upsert_row, map_delete_row, map_get_row}
use Rattle.arc_core.specs.PlainRequest.{PlainAct, PlainRequest}
use Rattle.arc_core.specs.PlainRequest as act
use Rattle.arc_core.specs.RequestLimits.{MayBeMade, MayMake, KeepsLimits}
use Rattle.arc_core.specs.Rows.{Part, Row, one, both, perhaps, all_left, followed_by, gives, SpellsPart, Spells}
use Rattle.arc_core.specs.SetGrammar.{set_insert_row, set_delete_row, set_exist_row, set_get_row}
use Rattle.arc_core.specs.Words.{words, fields_counted, keys_counted}

-- WHAT ROWS SPELL

-- Some words spell this of the part.
abbrev Holds : {A : Type 0} → Part A → A → Type 0
Holds (one kind) a = (word : List ℕ) × (kind word ≡ Some a)
Holds (both first second) a = Holds first a.0 × Holds second a.1
Holds (perhaps part) None = Unit {0}
Holds (perhaps part) (Some a) = Holds part a
Holds (all_left kind) a = Unit {0}

-- All that the row spells has the property.
abbrev Gives : {A : Type 0} → (A → Type 0) → Row A → Type 0
Gives P (followed_by {B = B} part next) = (b : B) → Holds part b → Gives P (next b)
Gives P (gives result) = P result

holds_of : {A : Type 0} (part : Part A) (list : List (List ℕ)) (a : A) → SpellsPart part list a → Holds part a
holds_of (one kind) list a spelled = (spelled.0, spelled.2)
holds_of (both first second) list a spelled = (holds_of first spelled.0 a.0 spelled.3, holds_of second spelled.1 a.1 spelled.4)
holds_of (perhaps part) list None spelled = tt
holds_of (perhaps part) list (Some a) spelled = holds_of part list a spelled
holds_of (all_left kind) list a spelled = tt

spelled_has : {A : Type 0} (P : A → Type 0) (row : Row A) (list : List (List ℕ)) (a : A) → Gives P row → Spells row list a → P a
spelled_has P (followed_by part next) list a each spelled =
    spelled_has P (next spelled.0) spelled.2 a (each spelled.0 (holds_of part spelled.1 spelled.0 spelled.4)) spelled.5
spelled_has P (gives result) list a each spelled = subst P (sym spelled.1) each

-- ACTIONS AND FIELDS

same_action : (a b : Action) → Some a ≡ Some b → a ≡ b
same_action a b e = cc

one_of_list : (error head tail : Bool) (a : Action)
    → (if error then Some action.Error else if head then Some action.HeadTrim else if tail then Some action.TailTrim else None) ≡ Some a → has_action kind.List a ≡ true
one_of_list true head tail a e = ap (has_action kind.List) (sym (same_action action.Error a e))
one_of_list false true tail a e = ap (has_action kind.List) (sym (same_action action.HeadTrim a e))
one_of_list false false true a e = ap (has_action kind.List) (sym (same_action action.TailTrim a e))
one_of_list false false false a e = cc

one_plain : (of : Kind) (error : Bool) (a : Action) → has_action of action.Error ≡ true → (if error then Some action.Error else None) ≡ Some a → has_action of a ≡ true
one_plain of true a has e = ap (has_action of) (sym (same_action action.Error a e)) ∙ has
one_plain of false a has e = cc

-- the action that a word names is one of the kind
named_action : (of : Kind) (word : List ℕ) (a : Action) → action_word of word ≡ Some a → has_action (kind_of (empty_of of)) a ≡ true
unfolding action_word
named_action kind.List word a e = one_of_list (bytes_eq word (codes "error")) (bytes_eq word (codes "head_trim")) (bytes_eq word (codes "tail_trim")) a e
named_action kind.Set word a e = one_plain kind.Set (bytes_eq word (codes "error")) a refl e
named_action kind.Map word a e = one_plain kind.Map (bytes_eq word (codes "error")) a refl e
named_action kind.Kv word a e = cc
named_action kind.Tree word a e = cc

-- and so is that of a line which names none
default_is : (of : Kind) → has_action (kind_of (empty_of of)) (default_action of) ≡ true
default_is kind.List = refl
default_is kind.Set = refl
default_is kind.Map = refl
default_is kind.Kv = refl
default_is kind.Tree = refl

action_is : (of : Kind) (said : Option Action) → Holds (perhaps (one (action_word of))) said
    → has_action (kind_of (empty_of of)) (option_map_or (λ a. a) said (default_action of)) ≡ true
action_is of None holds = default_is of
action_is of (Some a) holds = named_action of holds.0 a holds.1

field_by : (none short : Bool) (word field : List ℕ) → is_none (key_fault word) ≡ none → nat_le (length word) 250 ≡ short → (if none && short then Some word else None) ≡ Some field → IsField field
field_by true true word field none short e = subst IsField same (record { key = no_fault (key_fault word) none; short = leb-true (length word) 250 short })
  where
    same : word ≡ field
    same = ap (λ o. unwrap_or {T = List ℕ} o word) e

    no_fault : {A : Type 0} (o : Option A) → is_none o ≡ true → o ≡ None
    no_fault None is = refl
    no_fault (Some a) is = cc
field_by true false word field none short e = cc
field_by false short word field none is e = cc

-- a field has 250 bytes at most
field_is : (field : List ℕ) → Holds (one field_word) field → IsField field
unfolding field_word
field_is field holds = field_by (is_none (key_fault holds.0)) (nat_le (length holds.0) 250) holds.0 field refl refl holds.1

-- WHAT LINES SPELL

-- The line's command keeps the limits as far as they are not the block's.
abbrev LineKeeps : CollCommand → Type 0
LineKeeps (command.Create kind key args) = MayBeMade kind args
LineKeeps (command.ListInsert key index len create) = MayMake kind.List create
LineKeeps (command.SetInsert key len create) = MayMake kind.Set create
LineKeeps (command.MapInsert key field len create) = IsField field × MayMake kind.Map create
LineKeeps (command.MapUpdate key field len) = IsField field
LineKeeps (command.MapUpsert key field len create) = IsField field × MayMake kind.Map create
LineKeeps _ = Unit {0}

abbrev HeadKeeps : CollHead → Type 0
HeadKeeps (coll_head.KeyValue head) = Unit {0}
HeadKeeps (coll_head.Collection asked answer) = LineKeeps asked

-- what follows the word `create`, or its absence
makes_well : (of : Kind) (asked : Option CreateArgs → CollCommand) → ((create : Option CreateArgs) → MayMake of create → LineKeeps (asked create))
    → (create : Option Bool) → Gives HeadKeeps (attributes_behind of (λ args. ends_or_pipes (asked args)) create)
makes_well of asked keeps None = λ silent holds. keeps None (λ args e. absurd (cc))
makes_well of asked keeps (Some create) =
    λ flags hf exptime he maxcount hm said ha unreadable hu silent hs.
    keeps (Some (args_of of flags exptime maxcount said unreadable))
    (λ args e. subst (MayBeMade of) (ap (λ o. unwrap_or {T = CreateArgs} o args) e) (action_is of said ha))

rows_keep : (name : CollName) → Gives HeadKeeps (coll_row_of name)
unfolding create_row list_insert_row list_delete_row list_get_row set_insert_row set_delete_row set_exist_row set_get_row map_insert_row map_update_row map_upsert_row map_delete_row map_get_row
rows_keep named.ListCreate = λ key hk flags hf exptime he maxcount hm said ha unreadable hu silent hs. action_is kind.List said ha
rows_keep named.ListInsert = λ key hk index hi len hl create hc. makes_well kind.List (command.ListInsert key index len) (λ create may. may) create
rows_keep named.ListDelete = λ key hk range hr drop hd silent hs. tt
rows_keep named.ListGet = λ key hk range hr taking ht. tt
rows_keep named.SetCreate = λ key hk flags hf exptime he maxcount hm said ha unreadable hu silent hs. action_is kind.Set said ha
rows_keep named.SetInsert = λ key hk len hl create hc. makes_well kind.Set (command.SetInsert key len) (λ create may. may) create
rows_keep named.SetDelete = λ key hk len hl drop hd silent hs. tt
rows_keep named.SetExist = λ key hk len hl sent hs. tt
rows_keep named.SetGet = λ key hk number hn taking ht. tt
rows_keep named.MapCreate = λ key hk flags hf exptime he maxcount hm said ha unreadable hu silent hs. action_is kind.Map said ha
rows_keep named.MapInsert = λ key hk field hf len hl create hc. makes_well kind.Map (command.MapInsert key field len) (λ create may. (field_is field hf, may)) create
rows_keep named.MapUpdate = λ key hk field hf len hl silent hs. field_is field hf
rows_keep named.MapUpsert = λ key hk field hf len hl create hc. makes_well kind.Map (command.MapUpsert key field len) (λ create may. (field_is field hf, may)) create
rows_keep named.MapDelete = λ key hk len hl number hn drop hd silent hs. tt
rows_keep named.MapGet = λ key hk len hl number hn taking ht. tt

-- WITH THEIR BLOCKS

some_act : (a b : PlainAct) → ◌≡◌ {A = Option PlainAct} (Some a) (Some b) → a ≡ b
some_act a b h = cc

mapped_keeps : (make : List (List ℕ) → PlainAct) → ((list : List (List ℕ)) → KeepsLimits (make list)) → (o : Option (List (List ℕ))) (a : PlainAct) → option_map make o ≡ Some a → KeepsLimits a
mapped_keeps make each None a h = cc
mapped_keeps make each (Some list) a h = subst KeepsLimits (some_act (make list) a h) (each list)

key_value_keeps : (asked : Command) (block : List ℕ) (a : PlainAct) → IsBlockFor asked block → act_of asked block ≡ Some a → KeepsLimits a
key_value_keeps (key_value.Store verb key flags exptime len) block a meets h = subst KeepsLimits (some_act (act.store verb key flags exptime block) a h) (omega (arith, meets.0, meets.1))
key_value_keeps (key_value.Get keys unique) block a meets h = subst KeepsLimits (some_act (act.get keys unique) a h) tt
key_value_keeps (key_value.GetBlock len number) block a meets h = mapped_keeps (λ keys. act.get keys false) (λ keys. tt) (keys_counted number (words block)) a h
key_value_keeps (key_value.Count up key delta initial) block a meets h = subst KeepsLimits (some_act (act.count up key delta initial) a h) tt
key_value_keeps (key_value.Delete key) block a meets h = subst KeepsLimits (some_act (act.delete key) a h) tt
key_value_keeps (key_value.Touch key exptime) block a meets h = subst KeepsLimits (some_act (act.touch key exptime) a h) tt
key_value_keeps key_value.FlushAll block a meets h = subst KeepsLimits (some_act act.flush_all a h) tt
key_value_keeps key_value.Version block a meets h = subst KeepsLimits (some_act act.version a h) tt
key_value_keeps key_value.Quit block a meets h = cc

-- an element that meets its need
element_is : (block : List ℕ) (len : ℕ) → (length block ≡ len) × (len ≤ 32768) → length block ≤ 32768
element_is block len meets = omega (arith, meets.0, meets.1)

coll_keeps : (asked : CollCommand) (block : List ℕ) (a : PlainAct) → LineKeeps asked → Meets (coll_command_needs asked) block → coll_act_of asked block ≡ Some a → KeepsLimits a
coll_keeps (command.Create of key args) block a line meets h = subst KeepsLimits (some_act (act.make of key args) a h) line
coll_keeps (command.ListInsert key index len create) block a line meets h =
    subst KeepsLimits (some_act (act.on_collection key (act.list_insert index block create)) a h) (element_is block len meets, line)
coll_keeps (command.ListDelete key range drop_empty) block a line meets h = subst KeepsLimits (some_act (act.on_collection key (act.list_delete range drop_empty)) a h) tt
coll_keeps (command.ListGet key range taking) block a line meets h = subst KeepsLimits (some_act (act.on_collection key (act.list_get range taking)) a h) tt
coll_keeps (command.SetInsert key len create) block a line meets h =
    subst KeepsLimits (some_act (act.on_collection key (act.set_insert block create)) a h) (element_is block len meets, line)
coll_keeps (command.SetDelete key len drop_empty) block a line meets h = subst KeepsLimits (some_act (act.on_collection key (act.set_delete block drop_empty)) a h) tt
coll_keeps (command.SetExist key len) block a line meets h = subst KeepsLimits (some_act (act.on_collection key (act.set_exist block)) a h) tt
coll_keeps (command.SetGet key number taking) block a line meets h = subst KeepsLimits (some_act (act.on_collection key (act.set_get number taking)) a h) tt
coll_keeps (command.MapInsert key field len create) block a line meets h =
    subst KeepsLimits (some_act (act.on_collection key (act.map_insert field block create)) a h) (line.0, element_is block len meets, line.1)
coll_keeps (command.MapUpdate key field len) block a line meets h =
    subst KeepsLimits (some_act (act.on_collection key (act.map_update field block)) a h) (line, element_is block len meets)
coll_keeps (command.MapUpsert key field len create) block a line meets h =
    subst KeepsLimits (some_act (act.on_collection key (act.map_upsert field block create)) a h) (line.0, element_is block len meets, line.1)
coll_keeps (command.MapDelete key len number drop_empty) block a line meets h =
    mapped_keeps (λ fields. act.on_collection key (act.map_delete fields drop_empty)) (λ fields. tt) (fields_counted number (words block)) a h
coll_keeps (command.MapGet key len number taking) block a line meets h =
    mapped_keeps (λ fields. act.on_collection key (act.map_get fields taking)) (λ fields. tt) (fields_counted number (words block)) a h

request_keeps : (o : Option PlainAct) (make : PlainAct → PlainRequest) (request : PlainRequest) → ((a : PlainAct) → (make a).act ≡ a) → ((a : PlainAct) → o ≡ Some a → KeepsLimits a)
    → option_map make o ≡ Some request → KeepsLimits request.act
request_keeps None make request same keeps h = cc
request_keeps (Some a) make request same keeps h = subst KeepsLimits (sym (same a) ∙ ap (λ o. (unwrap_or {T = PlainRequest} o request).act) h) (keeps a refl)

head_keeps : (line block : List ℕ) (head : CollHead) (request : PlainRequest) → IsCollHead line head → Meets (coll_need_of head) block → coll_request_of head block ≡ Some request
    → KeepsLimits request.act
head_keeps line block (coll_head.KeyValue head) request is meets h =
    request_keeps (act_of head.command block) (λ a. record { act = a; answer = head.answer }) request (λ a. refl) (λ a e. key_value_keeps head.command block a meets e) h
head_keeps line block (coll_head.Collection asked answer) request is meets h =
    let spelled : HeadKeeps (coll_head.Collection asked answer) = spelled_has HeadKeeps (coll_row_of is.0) is.1 (coll_head.Collection asked answer) (rows_keep is.0) is.3 in
    request_keeps (coll_act_of asked block) (λ a. record { act = a; answer = answer }) request (λ a. refl) (λ a e. coll_keeps asked block a spelled meets e) h

pub keeps_limits : (request : PlainRequest) → CanBeSpelled request → KeepsLimits request.act
keeps_limits request spelled = head_keeps spelled.0 spelled.1 spelled.2.0 request spelled.2.1 spelled.2.2 spelled.2.3
