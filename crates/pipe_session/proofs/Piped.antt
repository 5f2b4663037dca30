-- Commands that may be piped ask for changes.
use Rattle.std.proofs.Common.{◌≡◌, ℕ, Bool, true, List, Option, Some, None, option_map, refl, sym, ap, ◌∙◌, subst}
use Rattle.std.proofs.lemmas.Bool.{and_parts}
use Rattle.arc_core.specs.declared.coll_commands.CollCommand.{CollCommand}
use Rattle.arc_core.specs.declared.coll_commands.CollCommand.TheVariants as command
use Rattle.arc_core.specs.declared.coll_commands.CollHead.{CollHead}
use Rattle.arc_core.specs.declared.coll_commands.CollHead.TheVariants as coll_head
use Rattle.arc_core.specs.CollectionLines.{coll_act_of, coll_is_marked, coll_request_of}
use Rattle.arc_core.specs.PlainRequest.{CollAct, PlainAct, PlainRequest}
use Rattle.arc_core.specs.PlainRequest as act
use Rattle.arc_core.specs.Words.{words, fields_counted}
use Rattle.pipe_session.specs.SessionText.{act_may_be_piped, command_may_be_piped, head_is_piped}

same_act : (one other : PlainAct) → ◌≡◌ {A = Option PlainAct} (Some one) (Some other) → act_may_be_piped one ≡ true → act_may_be_piped other ≡ true
same_act one other e is =
    let same : one ≡ other = cc in
    subst (λ a. act_may_be_piped a ≡ true) same is

-- the deletion of fields that a block names
same_deletion : (key : List ℕ) (drop_empty : Bool) (fields : Option (List (List ℕ))) (other : PlainAct) → option_map (λ fields. act.on_collection key (act.map_delete fields drop_empty)) fields ≡ Some other
    → act_may_be_piped other ≡ true
same_deletion key drop_empty None other e = absurd cc
same_deletion key drop_empty (Some fields) other e = same_act (act.on_collection key (act.map_delete fields drop_empty)) other e refl

asks_for_a_change : (asked : CollCommand) (block : List ℕ) (other : PlainAct) → command_may_be_piped asked ≡ true → coll_act_of asked block ≡ Some other → act_may_be_piped other ≡ true
asks_for_a_change (command.Create kind key args) block other may e = absurd cc
asks_for_a_change (command.ListInsert key index len create) block other may e = same_act (act.on_collection key (act.list_insert index block create)) other e refl
asks_for_a_change (command.ListDelete key range drop_empty) block other may e = same_act (act.on_collection key (act.list_delete range drop_empty)) other e refl
asks_for_a_change (command.ListGet key range taking) block other may e = absurd cc
asks_for_a_change (command.SetInsert key len create) block other may e = same_act (act.on_collection key (act.set_insert block create)) other e refl
asks_for_a_change (command.SetDelete key len drop_empty) block other may e = same_act (act.on_collection key (act.set_delete block drop_empty)) other e refl
asks_for_a_change (command.SetExist key len) block other may e = same_act (act.on_collection key (act.set_exist block)) other e refl
asks_for_a_change (command.SetGet key number taking) block other may e = absurd cc
asks_for_a_change (command.MapInsert key field len create) block other may e = same_act (act.on_collection key (act.map_insert field block create)) other e refl
asks_for_a_change (command.MapUpdate key field len) block other may e = same_act (act.on_collection key (act.map_update field block)) other e refl
asks_for_a_change (command.MapUpsert key field len create) block other may e = same_act (act.on_collection key (act.map_upsert field block create)) other e refl
asks_for_a_change (command.MapDelete key len number drop_empty) block other may e = same_deletion key drop_empty (fields_counted number (words block)) other e
asks_for_a_change (command.MapGet key len number taking) block other may e = absurd cc

with_answer : (o : Option PlainAct) (make : PlainAct → PlainRequest) (request : PlainRequest) → ((a : PlainAct) → (make a).act ≡ a) → ((a : PlainAct) → o ≡ Some a → act_may_be_piped a ≡ true)
    → option_map make o ≡ Some request → act_may_be_piped request.act ≡ true
with_answer None make request same each e = absurd cc
with_answer (Some a) make request same each e =
    let is : make a ≡ request = cc in
    subst (λ (r : PlainRequest). act_may_be_piped r.act ≡ true) is (ap act_may_be_piped (same a) ∙ each a refl)

-- the request of a piped command
pub piped_is_a_change : (head : CollHead) (block : List ℕ) (request : PlainRequest) → head_is_piped head ≡ true → Some request ≡ coll_request_of head block → act_may_be_piped request.act ≡ true
piped_is_a_change (coll_head.KeyValue head) block request piped is = absurd cc
piped_is_a_change (coll_head.Collection asked answer) block request piped is =
    let may = and_parts (coll_is_marked (coll_head.Collection asked answer)) (command_may_be_piped asked) piped in
    with_answer (coll_act_of asked block) (λ a. record { act = a; answer = answer }) request (λ a. refl) (λ a e. asks_for_a_change asked block a may.1 e) (sym is)
