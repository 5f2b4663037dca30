-- The tests' executor, which holds nothing, and their one request.
use Rattle.std.proofs.Common.{◌≡◌, ℕ, ◌<◌, ◌^◌, max, ℤ, List, [], ◌∷◌, length, codes, bytes_eq, Some, None, Option, sym, refl, ap, ◌∙◌, arith}
use Rattle.std.specs.Ordering.{nat_cmp}
use Rattle.std.specs.Cmp.Lexicographic.{slice_cmp}
use Rattle.std.specs.FinMap as finite
use Rattle.std.specs.List.{IsDistinct}
use Rattle.arc_core.specs.declared.requests.Answer.{Answer}
use Rattle.arc_core.specs.declared.requests.Answer.TheVariants as answer
use Rattle.arc_core.specs.declared.replies.Reply.TheVariants as reply
use Rattle.arc_core.specs.declared.replies.Word.TheVariants as word
use Rattle.arc_core.specs.Item.{Item, size_of}
use Rattle.arc_core.specs.Places.{weight_of}
use Rattle.arc_core.specs.CacheState.{IsState}
use Rattle.arc_core.specs.CollectionRequests.{asked_of}
use Rattle.arc_core.specs.PlainRequest.{CollAct, delete, touch, flush_all, version, on_collection}
use Rattle.arc_core.specs.declared.commands.CommandName.TheVariants as named
use Rattle.arc_core.specs.declared.commands.Command.TheVariants as command
use Rattle.arc_core.specs.declared.coll_commands.CollHead.TheVariants as coll_head
use Rattle.arc_core.specs.CollectionLines.{CanBeSpelled}
use Rattle.arc_core.specs.Grammar.{command_of}
use Rattle.arc_core.specs.Step.{step}
use Rattle.turn_lock.specs.Trials.{vacant_state}

nothing_under : (key : List ℕ) → finite.get (finite.empty {X = Item} {R = slice_cmp nat_cmp}) key ≡ None
nothing_under key = finite.get-empty (slice_cmp nat_cmp) key

none_there : (x : Item) (o : Option Item) → o ≡ None → o ≡ Some x → ⊥
none_there x o h k = cc

is_nil : (xs : List (List ℕ × Item)) → length xs ≡ 0 → xs ≡ []
is_nil [] z = refl
is_nil (x ∷ xs) z = absurd (omega arith)

no_entries : finite.entries (finite.empty {X = Item} {R = slice_cmp nat_cmp}) ≡ []
no_entries = is_nil (finite.entries (finite.empty {X = Item} {R = slice_cmp nat_cmp})) (sym (finite.len-entries finite.empty) ∙ finite.len-empty (slice_cmp nat_cmp) Item)

no_key_twice : IsDistinct bytes_eq []
unfolding IsDistinct
no_key_twice = tt

pub vacant_rules : (latest : ℕ) → latest < 2 ^ 32 → IsState (vacant_state latest)
vacant_rules latest small =
    let none : weight_of size_of (finite.entries (finite.empty {X = Item} {R = slice_cmp nat_cmp})) ≡ 0 = ap (weight_of size_of) no_entries in record {
      placed = record {
        items = λ key item h. absurd (none_there item (finite.get finite.empty key) (nothing_under key) h);
        on_shelf = λ key item h. absurd (cc);
        sticky = λ key item h. absurd (none_there item (finite.get finite.empty key) (nothing_under key) h);
        once = record { on_shelf = no_key_twice; on_one_side = λ key there. absurd (cc) };
      };
      second = small;
      within = omega arith;
      share = omega arith;
    }

pub deletes : (latest now : ℕ) (key : List ℕ) (a : Answer) → step (vacant_state latest) now (record { act = delete key; answer = a }) ≡ (vacant_state (max latest now), reply.Word word.NotFound)
deletes latest now key a = rw (nothing_under key, nothing_under key, nothing_under key) refl

pub spelled : CanBeSpelled (record { act = version; answer = answer.Plain })
unfolding command_of
spelled = (
  codes "version",
  [],
  (
    coll_head.KeyValue (record { command = command.Version; answer = answer.Plain }),
    (named.Version, [], record { first = codes "version"; words_are = refl; is_command = refl }, (refl, refl)),
    refl,
    refl,
  ),
)

pub touches : (latest now : ℕ) (key : List ℕ) (exptime : ℤ) (a : Answer) → step (vacant_state latest) now (record { act = touch key exptime; answer = a }) ≡ (vacant_state (max latest now), reply.Word word.NotFound)
touches latest now key exptime a = rw (nothing_under key, nothing_under key, nothing_under key) refl

-- what makes no collection finds none
pub asks : (latest now : ℕ) (key : List ℕ) (asked : CollAct) (a : Answer) → (asked_of asked).makes ≡ None
    → step (vacant_state latest) now (record { act = on_collection key asked; answer = a }) ≡ (vacant_state (max latest now), reply.Word word.NotFound)
asks latest now key asked a none = rw (nothing_under key, nothing_under key, none, nothing_under key) refl

pub flushes : (latest now : ℕ) (a : Answer) → step (vacant_state latest) now (record { act = flush_all; answer = a }) ≡ (vacant_state (max latest now), reply.Word word.Ok)
flushes latest now a = refl

pub versions : (latest now : ℕ) (a : Answer) → step (vacant_state latest) now (record { act = version; answer = a }) ≡ (vacant_state (max latest now), reply.Word word.Version)
versions latest now a = refl
