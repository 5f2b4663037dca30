-- The rows of the commands on collections are clear, what is spelled by them is read; and what they spell is a command on
-- a collection.
use Rattle.std.proofs.Common.{◌≡◌, ℕ, Bool, true, false, if◌then◌else◌, List, [], ◌++◌, refl, sym, subst, Option, Some, None, bytes_eq, inl, inr}
use Rattle.std.specs.Prelude.{codes, ◌⊎◌}
use Rattle.std.specs.Bool.{Decides}
use Rattle.std.proofs.lemmas.Slice.Eq.{bytes_eq-Decides}
use Rattle.arc_core.specs.declared.attributes.CreateArgs.{CreateArgs}
use Rattle.arc_core.specs.declared.coll_commands.CollCommand.{CollCommand}
use Rattle.arc_core.specs.declared.coll_commands.CollCommand.TheVariants as command
use Rattle.arc_core.specs.declared.coll_commands.CollHead.{CollHead}
use Rattle.arc_core.specs.declared.coll_commands.CollHead.TheVariants as coll_head
use Rattle.arc_core.specs.declared.coll_commands.CollName.{CollName}
use Rattle.arc_core.specs.declared.coll_commands.CollName.TheVariants as named
use Rattle.arc_core.specs.declared.collections.Kind.{Kind}
use Rattle.arc_core.specs.declared.collections.Kind.TheVariants as kind
use Rattle.arc_core.specs.declared.commands.Head.{Head}
use Rattle.arc_core.specs.declared.requests.Answer.{Answer}
use Rattle.arc_core.specs.declared.requests.Answer.TheVariants as answer
use Rattle.arc_core.specs.CollectionGrammar.{action_word, unreadable_word, create_word, drop_word, head, ends, ends_or_pipes, pipe_word, sent_word, args_of, attributes, attributes_behind, creation}
use Rattle.arc_core.specs.CollectionLines.{coll_row_of}
use Rattle.arc_core.specs.ListGrammar.{create_row, list_insert_row, list_delete_row, list_get_row}
use Rattle.arc_core.specs.MapGrammar.{map_insert_row, map_update_row, map_upsert_row, map_delete_row, map_get_row}
use Rattle.arc_core.specs.Rows.{Row, one, perhaps, followed_by, gives, Spells, SpellsPart, part_read}
use Rattle.arc_core.specs.SetGrammar.{set_insert_row, set_delete_row, set_exist_row, set_get_row}
use Rattle.arc_core.specs.KeyValueGrammar.{noreply_word}
use Rattle.line_grammar.proofs.RowLemmas.{IsClear, IsOther, one-is_clear, perhaps-is_clear}

-- the words that may be left out are different words

action_is_no_noreply : (of : Kind) → action_word of (codes "noreply") ≡ None
unfolding action_word
action_is_no_noreply kind.Kv = refl
action_is_no_noreply kind.List = refl
action_is_no_noreply kind.Set = refl
action_is_no_noreply kind.Map = refl
action_is_no_noreply kind.Tree = refl

action_is_no_pipe : (of : Kind) → action_word of (codes "pipe") ≡ None
unfolding action_word
action_is_no_pipe kind.Kv = refl
action_is_no_pipe kind.List = refl
action_is_no_pipe kind.Set = refl
action_is_no_pipe kind.Map = refl
action_is_no_pipe kind.Tree = refl

action_is_no_unreadable : (of : Kind) → action_word of (codes "unreadable") ≡ None
unfolding action_word
action_is_no_unreadable kind.Kv = refl
action_is_no_unreadable kind.List = refl
action_is_no_unreadable kind.Set = refl
action_is_no_unreadable kind.Map = refl
action_is_no_unreadable kind.Tree = refl

unreadable_is_no_noreply : unreadable_word (codes "noreply") ≡ None
unfolding unreadable_word
unreadable_is_no_noreply = refl

unreadable_is_no_pipe : unreadable_word (codes "pipe") ≡ None
unfolding unreadable_word
unreadable_is_no_pipe = refl

create_is_no_noreply : create_word (codes "noreply") ≡ None
unfolding create_word
create_is_no_noreply = refl

create_is_no_pipe : create_word (codes "pipe") ≡ None
unfolding create_word
create_is_no_pipe = refl

drop_is_no_noreply : drop_word (codes "noreply") ≡ None
unfolding drop_word
drop_is_no_noreply = refl

drop_is_no_pipe : drop_word (codes "pipe") ≡ None
unfolding drop_word
drop_is_no_pipe = refl

-- The word is one of those that say how an answer is sent.
abbrev SaysHowSent : List ℕ → Type 0
SaysHowSent word = (word ≡ codes "noreply") ⊎ (word ≡ codes "pipe")

-- All words of the kind are.
abbrev SayHowSent : (List ℕ → Option Answer) → Type 0
SayHowSent kind = (word : List ℕ) (sent : Answer) → kind word ≡ Some sent → SaysHowSent word

from_word : {P : Type 0} (test : Bool) (said sent : Answer) → Decides test P → (if test then Some said else None) ≡ Some sent → P
from_word true said sent decides h = decides.0 refl
from_word false said sent decides h = cc

from_two_words : {P Q : Type 0} (test : Bool) (said sent : Answer) (other : Option Answer) → Decides test P → (other ≡ Some sent → Q)
    → (if test then Some said else other) ≡ Some sent → P ⊎ Q
from_two_words true said sent other decides behind h = inl (decides.0 refl)
from_two_words false said sent other decides behind h = inr (behind h)

noreply_says : SayHowSent noreply_word
unfolding noreply_word
noreply_says word sent h = inl (from_word (bytes_eq word (codes "noreply")) answer.NoReply sent (bytes_eq-Decides word (codes "noreply")) h)

is_pipe : (word : List ℕ) (sent : Answer) → pipe_word word ≡ Some sent → word ≡ codes "pipe"
unfolding pipe_word
is_pipe word sent h = from_word (bytes_eq word (codes "pipe")) answer.Pipe sent (bytes_eq-Decides word (codes "pipe")) h

sent_says : SayHowSent sent_word
unfolding sent_word
sent_says word sent h =
    from_two_words (bytes_eq word (codes "noreply")) answer.NoReply sent (pipe_word word) (bytes_eq-Decides word (codes "noreply")) (is_pipe word sent) h

from_test : {P : Type 0} (test answer : Bool) → Decides test P → (if test then Some true else None) ≡ Some answer → P
from_test true answer decides h = decides.0 refl
from_test false answer decides h = cc

is_unreadable : (word : List ℕ) (answer : Bool) → unreadable_word word ≡ Some answer → word ≡ codes "unreadable"
unfolding unreadable_word
is_unreadable word answer h = from_test (bytes_eq word (codes "unreadable")) answer (bytes_eq-Decides word (codes "unreadable")) h

-- so what follows a part that may be left out is not read as that part

-- a kind of words to which both words that say how an answer is sent do not belong
pub record RefusesBoth {B : Type 0} (kind : List ℕ → Option B) : Type 0 where
  pub noreply : kind (codes "noreply") ≡ None
  pub pipe : kind (codes "pipe") ≡ None

said-is_other : {B : Type 0} (kind : List ℕ → Option B) → RefusesBoth kind → (word : List ℕ) → SaysHowSent word → kind word ≡ None
said-is_other kind refuses word (inl at) = rw (at, refuses.noreply) refl
said-is_other kind refuses word (inr at) = rw (at, refuses.pipe) refl

last_word-is_other : {B : Type 0} (kind : List ℕ → Option B) (last : List ℕ → Option Answer) → RefusesBoth kind → SayHowSent last
    → (sent : Option Answer) (list front back : List (List ℕ)) → list ≡ front ++ back → SpellsPart (perhaps (one last)) front sent → back ≡ []
    → part_read (one kind) list ≡ None
last_word-is_other kind last refuses say None list front back at spelled end = rw (at, spelled, end) refl
last_word-is_other kind last refuses say (Some sent) list front back at spelled end =
    rw (at, spelled.1, said-is_other kind refuses spelled.0 (say spelled.0 sent spelled.2)) refl

sent-is_other : {A B : Type 0} (kind : List ℕ → Option B) (last : List ℕ → Option Answer) (result : Option Answer → A) → RefusesBoth kind → SayHowSent last
    → IsOther (one kind) (followed_by (perhaps (one last)) (λ sent. gives (result sent)))
sent-is_other kind last result refuses say =
    λ back a spelled. last_word-is_other kind last refuses say spelled.0 back spelled.1 spelled.2 spelled.3 spelled.4 spelled.5.0

first_word-is_other : {A B : Type 0} (kind : List ℕ → Option B) (next : Option Bool → Row A) → kind (codes "unreadable") ≡ None
    → IsOther (one kind) (next None)
    → (unreadable : Option Bool) (list front back : List (List ℕ)) (a : A) → list ≡ front ++ back → SpellsPart (perhaps (one unreadable_word)) front unreadable
    → Spells (next unreadable) back a → part_read (one kind) list ≡ None
first_word-is_other kind next refused other None list front back a at spelled behind = rw (at, spelled) (other back a behind)
first_word-is_other kind next refused other (Some answer) list front back a at spelled behind =
    rw (at, spelled.1, is_unreadable spelled.0 answer spelled.2, refused) refl

unreadable-is_other : {A B : Type 0} (kind : List ℕ → Option B) (next : Option Bool → Row A) → kind (codes "unreadable") ≡ None
    → IsOther (one kind) (next None) → IsOther (one kind) (followed_by (perhaps (one unreadable_word)) next)
unreadable-is_other kind next refused other =
    λ back a spelled. first_word-is_other kind next refused other spelled.0 back spelled.1 spelled.2 a spelled.3 spelled.4 spelled.5

-- a last word that may be left out is clear
last-is_clear : {A B : Type 0} (kind : List ℕ → Option B) (result : Option B → A) → IsClear (followed_by (perhaps (one kind)) (λ b. gives (result b)))
last-is_clear kind result = (perhaps-is_clear _ _ (one-is_clear _ _) (λ back a spelled. rw (spelled.0) refl), λ b. tt)

action-refuses : (of : Kind) → RefusesBoth (action_word of)
action-refuses of = record { noreply = action_is_no_noreply of; pipe = action_is_no_pipe of }

unreadable-refuses : RefusesBoth unreadable_word
unreadable-refuses = record { noreply = unreadable_is_no_noreply; pipe = unreadable_is_no_pipe }

create-refuses : RefusesBoth create_word
create-refuses = record { noreply = create_is_no_noreply; pipe = create_is_no_pipe }

drop-refuses : RefusesBoth drop_word
drop-refuses = record { noreply = drop_is_no_noreply; pipe = drop_is_no_pipe }

-- attributes are clear before the end of the line
module _ (last : List ℕ → Option Answer) (say : SayHowSent last) where
  abbrev ending : CollCommand → Row CollHead
  ending asked = followed_by (perhaps (one last)) (λ sent. gives (head asked sent))

  attributes-is_clear : (of : Kind) (asked : CreateArgs → CollCommand) → IsClear (attributes of (λ args. ending (asked args)))
  attributes-is_clear of asked = (
    one-is_clear _ _,
    λ flags. (
      one-is_clear _ _,
      λ exptime. (
        one-is_clear _ _,
        λ maxcount. (
          perhaps-is_clear _ _ (one-is_clear _ _)
              (unreadable-is_other (action_word of) (λ unreadable. ending (asked (args_of of flags exptime maxcount None unreadable))) (action_is_no_unreadable of)
              (sent-is_other (action_word of) last (head (asked (args_of of flags exptime maxcount None None))) (action-refuses of) say)),
          λ action. (perhaps-is_clear _ _ (one-is_clear _ _) (sent-is_other unreadable_word last _ unreadable-refuses say), λ unreadable. last-is_clear _ _),
        ),
      ),
    ),
  )

behind-is_clear : (of : Kind) (asked : Option CreateArgs → CollCommand) (create : Option Bool) → IsClear (attributes_behind of (λ args. ends_or_pipes (asked args)) create)
behind-is_clear of asked None = last-is_clear _ _
behind-is_clear of asked (Some create) = attributes-is_clear sent_word sent_says of (λ args. asked (Some args))

-- and so are those behind `create`, and their absence
creation-is_clear : (of : Kind) (asked : Option CreateArgs → CollCommand) → IsClear (creation of (λ args. ends_or_pipes (asked args)))
creation-is_clear of asked =
    (perhaps-is_clear _ _ (one-is_clear _ _) (sent-is_other create_word sent_word _ create-refuses sent_says), λ create. behind-is_clear of asked create)

-- `[drop] [noreply|pipe]` is clear before the end of the line
drop-is_clear : (asked : Option Bool → CollCommand) → IsClear (followed_by (perhaps (one drop_word)) (λ drop. ends_or_pipes (asked drop)))
drop-is_clear asked = (perhaps-is_clear _ _ (one-is_clear _ _) (sent-is_other drop_word sent_word _ drop-refuses sent_says), λ drop. last-is_clear _ _)

-- the rows

create_row-is_clear : (of : Kind) → IsClear (create_row of)
unfolding create_row
create_row-is_clear of = (one-is_clear _ _, λ key. attributes-is_clear noreply_word noreply_says of (command.Create of key))

list_insert_row-is_clear : IsClear list_insert_row
unfolding list_insert_row
list_insert_row-is_clear = (one-is_clear _ _, λ key. (one-is_clear _ _, λ index. (one-is_clear _ _, λ len. creation-is_clear kind.List (command.ListInsert key index len))))

list_delete_row-is_clear : IsClear list_delete_row
unfolding list_delete_row
list_delete_row-is_clear = (one-is_clear _ _, λ key. (one-is_clear _ _, λ range. drop-is_clear _))

list_get_row-is_clear : IsClear list_get_row
unfolding list_get_row
list_get_row-is_clear = (one-is_clear _ _, λ key. (one-is_clear _ _, λ range. last-is_clear _ _))

set_insert_row-is_clear : IsClear set_insert_row
unfolding set_insert_row
set_insert_row-is_clear = (one-is_clear _ _, λ key. (one-is_clear _ _, λ len. creation-is_clear kind.Set (command.SetInsert key len)))

set_delete_row-is_clear : IsClear set_delete_row
unfolding set_delete_row
set_delete_row-is_clear = (one-is_clear _ _, λ key. (one-is_clear _ _, λ len. drop-is_clear _))

set_exist_row-is_clear : IsClear set_exist_row
unfolding set_exist_row
set_exist_row-is_clear = (one-is_clear _ _, λ key. (one-is_clear _ _, λ len. last-is_clear _ _))

set_get_row-is_clear : IsClear set_get_row
unfolding set_get_row
set_get_row-is_clear = (one-is_clear _ _, λ key. (one-is_clear _ _, λ count. last-is_clear _ _))

map_insert_row-is_clear : IsClear map_insert_row
unfolding map_insert_row
map_insert_row-is_clear = (one-is_clear _ _, λ key. (one-is_clear _ _, λ field. (one-is_clear _ _, λ len. creation-is_clear kind.Map (command.MapInsert key field len))))

map_update_row-is_clear : IsClear map_update_row
unfolding map_update_row
map_update_row-is_clear = (one-is_clear _ _, λ key. (one-is_clear _ _, λ field. (one-is_clear _ _, λ len. last-is_clear _ _)))

map_upsert_row-is_clear : IsClear map_upsert_row
unfolding map_upsert_row
map_upsert_row-is_clear = (one-is_clear _ _, λ key. (one-is_clear _ _, λ field. (one-is_clear _ _, λ len. creation-is_clear kind.Map (command.MapUpsert key field len))))

map_delete_row-is_clear : IsClear map_delete_row
unfolding map_delete_row
map_delete_row-is_clear = (one-is_clear _ _, λ key. (one-is_clear _ _, λ len. (one-is_clear _ _, λ number. drop-is_clear _)))

map_get_row-is_clear : IsClear map_get_row
unfolding map_get_row
map_get_row-is_clear = (one-is_clear _ _, λ key. (one-is_clear _ _, λ len. (one-is_clear _ _, λ number. last-is_clear _ _)))

pub coll_row_of-is_clear : (name : CollName) → IsClear (coll_row_of name)
coll_row_of-is_clear named.ListCreate = create_row-is_clear kind.List
coll_row_of-is_clear named.ListInsert = list_insert_row-is_clear
coll_row_of-is_clear named.ListDelete = list_delete_row-is_clear
coll_row_of-is_clear named.ListGet = list_get_row-is_clear
coll_row_of-is_clear named.SetCreate = create_row-is_clear kind.Set
coll_row_of-is_clear named.SetInsert = set_insert_row-is_clear
coll_row_of-is_clear named.SetDelete = set_delete_row-is_clear
coll_row_of-is_clear named.SetExist = set_exist_row-is_clear
coll_row_of-is_clear named.SetGet = set_get_row-is_clear
coll_row_of-is_clear named.MapCreate = create_row-is_clear kind.Map
coll_row_of-is_clear named.MapInsert = map_insert_row-is_clear
coll_row_of-is_clear named.MapUpdate = map_update_row-is_clear
coll_row_of-is_clear named.MapUpsert = map_upsert_row-is_clear
coll_row_of-is_clear named.MapDelete = map_delete_row-is_clear
coll_row_of-is_clear named.MapGet = map_get_row-is_clear

-- The head is a command on a collection.
abbrev IsCollection : CollHead → Type 0
IsCollection (coll_head.KeyValue head) = ⊥
IsCollection (coll_head.Collection asked answer) = Unit {0}

-- All that the row spells are commands on collections.
abbrev IsOfCollections : Row CollHead → Type 0
IsOfCollections (followed_by {B = B} part next) = (b : B) → IsOfCollections (next b)
IsOfCollections (gives result) = IsCollection result

-- such a row spells no key-value command
no_key_value : (row : Row CollHead) (list : List (List ℕ)) (head : Head) → IsOfCollections row → Spells row list (coll_head.KeyValue head) → ⊥
no_key_value (followed_by part next) list head are spelled = no_key_value (next spelled.0) spelled.2 head (are spelled.0) spelled.5
no_key_value (gives result) list head are spelled = subst IsCollection (sym spelled.1) are

behind-is_of_collections : (of : Kind) (asked : Option CreateArgs → CollCommand) (create : Option Bool)
    → IsOfCollections (attributes_behind of (λ args. ends_or_pipes (asked args)) create)
behind-is_of_collections of asked None = λ silent. tt
behind-is_of_collections of asked (Some create) = λ flags exptime maxcount action unreadable silent. tt

coll_row_of-is_of_collections : (name : CollName) → IsOfCollections (coll_row_of name)
unfolding create_row list_insert_row list_delete_row list_get_row set_insert_row set_delete_row set_exist_row set_get_row map_insert_row map_update_row map_upsert_row map_delete_row map_get_row
coll_row_of-is_of_collections named.ListCreate = λ key flags exptime maxcount action unreadable silent. tt
coll_row_of-is_of_collections named.ListInsert = λ key index len create. behind-is_of_collections kind.List (command.ListInsert key index len) create
coll_row_of-is_of_collections named.ListDelete = λ key range drop silent. tt
coll_row_of-is_of_collections named.ListGet = λ key range taking. tt
coll_row_of-is_of_collections named.SetCreate = λ key flags exptime maxcount action unreadable silent. tt
coll_row_of-is_of_collections named.SetInsert = λ key len create. behind-is_of_collections kind.Set (command.SetInsert key len) create
coll_row_of-is_of_collections named.SetDelete = λ key len drop silent. tt
coll_row_of-is_of_collections named.SetExist = λ key len sent. tt
coll_row_of-is_of_collections named.SetGet = λ key count taking. tt
coll_row_of-is_of_collections named.MapCreate = λ key flags exptime maxcount action unreadable silent. tt
coll_row_of-is_of_collections named.MapInsert = λ key field len create. behind-is_of_collections kind.Map (command.MapInsert key field len) create
coll_row_of-is_of_collections named.MapUpdate = λ key field len silent. tt
coll_row_of-is_of_collections named.MapUpsert = λ key field len create. behind-is_of_collections kind.Map (command.MapUpsert key field len) create
coll_row_of-is_of_collections named.MapDelete = λ key len number drop silent. tt
coll_row_of-is_of_collections named.MapGet = λ key len number taking. tt

pub row_spells_no_key_value : (name : CollName) (list : List (List ℕ)) (head : Head) → Spells (coll_row_of name) list (coll_head.KeyValue head) → ⊥
row_spells_no_key_value name list head = no_key_value (coll_row_of name) list head (coll_row_of-is_of_collections name)
