-- What the commands on one key want done, as the code has it.
use Rattle.std.specs.Prelude.{◌≡◌, ◌<◌, ◌^◌, ℕ, length, List, Result, Ok, Err}
use Rattle.arc_core.specs.declared.replies.Reply.TheVariants as reply
use Rattle.arc_core.specs.declared.replies.Word.TheVariants as word
use Rattle.arc_core.specs.Item.{Item}
use Rattle.arc_core.specs.Places.{Places}
use Rattle.arc_core.specs.CacheState.{CacheState}
use Rattle.arc_core.specs.Plan.{Plan, answer_only, put}
use Rattle.arc_core.specs.ReplyText.{reply_text}
use Rattle.kv_items.specs.PlainItem.{plain_item}
use Rattle.kv_items.specs.declared.item.KvItem.{KvItem}
use Rattle.kv_items.specs.declared.joins.JoinFault.{JoinFault}
use Rattle.kv_items.specs.declared.joins.JoinFault.TheVariants as fault
use Rattle.cache_engine.specs.declared.plans.Planned.{Planned}
use Rattle.cache_engine.specs.declared.plans.Planned.TheVariants as planned

-- a state of the machine
abbrev pub state_at : ℕ → ℕ → Places Item → CacheState
state_at latest counter places = record { latest = latest; counter = counter; places = places }

-- What is planned is this plan of the machine, or memory was refused.
abbrev pub Plans : List ℕ → Plan → Planned → Type 0
Plans key plan (planned.Answer w) = plan ≡ answer_only (reply.Word w)
Plans key plan (planned.Put item answer) = plan ≡ put key (plain_item item) item.unique answer
Plans key plan planned.NoMemory = Unit {0}

-- The answer that is planned has fewer than 2^64 bytes.
abbrev pub IsShort : Planned → Type 0
IsShort (planned.Answer w) = Unit {0}
IsShort (planned.Put item answer) = length (reply_text answer) < 2 ^ 64
IsShort planned.NoMemory = Unit {0}

-- What is planned of a value that was joined, or was not.
abbrev pub IsJoinedPlan : Result KvItem JoinFault → Planned → Type 0
IsJoinedPlan (Ok item) plan = plan ≡ planned.Put item (reply.Word word.Stored)
IsJoinedPlan (Err (fault.TooLong len)) plan = plan ≡ planned.Answer word.TooLarge
IsJoinedPlan (Err fault.NoMemory) plan = plan ≡ planned.NoMemory
