-- Text that a session owes to its link, and how it is sent.
use Rattle.std.specs.Prelude.{◌≡◌, ℕ, ◌<◌, ◌≤◌, ◌^◌, Bool, List, [], ◌++◌, length, drop, Option, Some, None, Result, Ok, Err, ◌⊎◌, false}
use Rattle.arc_core.specs.declared.replies.Reply.{Reply}
use Rattle.arc_core.specs.Outside.{Outgoing, then_sent}
use Rattle.arc_core.specs.ReplyText.{reply_text}
use Rattle.reply_print.specs.Writing.{CountsStay, CountsFault, CountsRefusal, CountsAgain}
use Rattle.pipe_session.specs.Runs.{Kept}
use Rattle.pipe_session.specs.declared.owed.Unsent.{Unsent}
use Rattle.pipe_session.specs.declared.owed.Unsent.TheVariants as unsent

-- The text that is owed, in order; whether so much waits that something has to be sent before the next unit is handled;
-- whether its end is a reply that has no room among the texts that wait, behind which no further text has room; and the run
-- of piped commands that is open, whose answer is not owed yet.
pub record Owing : Type 0 where
  pub text : List ℕ
  pub is_full : Bool
  pub has_long : Bool
  pub run : Kept

-- One more text has room.
abbrev pub HasRoom : Owing → Type 0
HasRoom owing = (owing.is_full ≡ false) ⊎ (owing.has_long ≡ false)

-- the text of a reply from this offset on, where there is one
abbrev pub rest_of : Option Reply → ℕ → List ℕ
rest_of None at = []
rest_of (Some reply) at = drop at (reply_text reply)

-- The offset stands within that text, or at its end. It has fewer than 2^64 bytes.
abbrev pub IsRestOf : Option Reply → ℕ → Type 0
IsRestOf None at = Unit {0}
IsRestOf (Some reply) at = (at ≤ length (reply_text reply)) × (length (reply_text reply) < 2 ^ 64)

-- A front of what was owed was sent, and the rest is still owed.
pub record SentUpto (before after : Outgoing) (owed owed' : List ℕ) : Type 0 where
  pub front : List ℕ
  pub parts : owed ≡ front ++ owed'
  pub sent : after.sent ≡ then_sent before.sent front

-- Which count rose, where not all was sent.
abbrev pub HasCause : (before after : Outgoing) (agains agains' : ℕ) → Unsent → Type 0
HasCause before after agains agains' unsent.Again = CountsAgain before after agains agains'
HasCause before after agains agains' unsent.Failed = CountsFault before after agains agains'
HasCause before after agains agains' unsent.NoMemory = CountsRefusal before after agains agains'

-- What sending leaves, by its answer: no count rose, or the one of the cause.
abbrev pub Sends : (before after : Outgoing) (agains agains' : ℕ) (owed owed' : List ℕ) → Result Prim.Unit Unsent → Type 0
Sends before after agains agains' owed owed' (Ok _) = SentUpto before after owed owed' × CountsStay before after agains agains'
Sends before after agains agains' owed owed' (Err cause) = SentUpto before after owed owed' × HasCause before after agains agains' cause
