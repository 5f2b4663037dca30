-- What a session's requests go to, and how they follow one another there.
use Rattle.std.specs.Prelude.{◌≡◌, ℕ, ◌<◌, ◌^◌, List, [], ◌∷◌, Option}
use Rattle.arc_core.specs.declared.replies.Reply.{Reply}
use Rattle.arc_core.specs.PlainRequest.{PlainRequest}
use Rattle.arc_core.specs.CacheState.{CacheState}
use Rattle.arc_core.specs.History.{Entry, Executes}
use Rattle.arc_core.specs.Outside.{Ticks}

-- A desk had this request answered so at this second: by the entry that it tells of it.
abbrev pub Answered : {D : Type 0} → (D → Entry → D → Type 0) → D → ℕ → PlainRequest → Reply → D → Type 0
Answered answers from now request reply to =
    (entry : Entry) × (entry.second ≡ now) × (entry.request ≡ request) × (entry.reply ≡ reply) × answers from entry to

-- The entries lead from the one state of the desk to the other, one after another.
abbrev pub Serves : {D : Type 0} → (D → Entry → D → Type 0) → D → List Entry → D → Type 0
Serves answers from [] to = to ≡ from
Serves {D} answers from (entry ∷ entries) to = (middle : D) × answers from entry middle × Serves answers middle entries to

-- The entries' seconds are the clock's answers in order, one for each.
abbrev pub TicksThrough : Option (List ℕ) → List Entry → Option (List ℕ) → Type 0
TicksThrough coming [] coming' = coming' ≡ coming
TicksThrough coming (entry ∷ entries) coming' = (middle : Option (List ℕ)) × Ticks coming entry.second middle × TicksThrough middle entries coming'

-- The entry is of the only session, which has number 0 and seat 0, and came at a second of 32 bits.
pub record IsOwn (entry : Entry) : Type 0 where
  pub seat : entry.seat ≡ 0
  pub session : entry.session ≡ 0
  pub second : entry.second < 2 ^ 32

-- The only session had this entry's request executed, from the one state of the machine to the other.
pub record ExecutesAlone (from : CacheState) (entry : Entry) (to : CacheState) : Type 0 where
  pub own : IsOwn entry
  pub executed : Executes from entry.second entry.request entry.reply to
