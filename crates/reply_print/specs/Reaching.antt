-- How far a text has reached a link, while it is written.
use Rattle.std.specs.Prelude.{◌≡◌, ℕ, ◌+◌, ◌<◌, ◌≤◌, ◌^◌, List, ◌++◌, length, drop, Result, Ok, Err}
use Rattle.arc_core.specs.Outside.{Linked, then_sent}
use Rattle.reply_print.specs.Writing.{IsSentFrom, CountsStay, CountsFault, CountsRefusal, CountsAgain}
use Rattle.reply_print.specs.declared.wrote.Wrote.{Wrote}
use Rattle.reply_print.specs.declared.wrote.Wrote.TheVariants as wrote
use Rattle.reply_print.specs.declared.gatherer.Gatherer.{Gatherer}
use Rattle.reply_print.specs.declared.sending.Unsent.{Unsent}
use Rattle.reply_print.specs.declared.sending.Unsent.TheVariants as unsent

-- The link took the text from the one offset up to the other, these bytes of it are still to be sent, and nothing else
-- has changed.
pub record Reached (start now : Linked) (from at : ℕ) (text unsent : List ℕ) : Type 0 where
  pub front : List ℕ
  pub parts : drop from text ≡ front ++ unsent
  pub sent : now.outgoing.sent ≡ then_sent start.outgoing.sent front
  pub at_is : at ≡ from + length front
  pub within : from ≤ length text
  pub fits : length text < 2 ^ 64
  pub counts : CountsStay start.outgoing now.outgoing start.agains now.agains
  pub incoming : now.incoming ≡ start.incoming

-- Which count rose.
abbrev pub HasCause : (start now : Linked) → Unsent → Type 0
HasCause start now (unsent.Failed upto) = CountsFault start.outgoing now.outgoing start.agains now.agains
HasCause start now (unsent.NoMemory upto) = CountsRefusal start.outgoing now.outgoing start.agains now.agains
HasCause start now (unsent.Again upto) = CountsAgain start.outgoing now.outgoing start.agains now.agains

-- up to which offset the text was sent
abbrev pub upto_of : Unsent → ℕ
upto_of (unsent.Failed upto) = upto
upto_of (unsent.NoMemory upto) = upto
upto_of (unsent.Again upto) = upto

-- The text was sent in part.
pub record Stopped (start now : Linked) (from : ℕ) (text : List ℕ) (cause : Unsent) : Type 0 where
  pub sent : IsSentFrom start.outgoing.sent now.outgoing.sent text from (upto_of cause)
  pub counted : HasCause start now cause
  pub incoming : now.incoming ≡ start.incoming

-- The text was sent up to the offset that is told, with these bytes still to be sent, or the sending stopped.
abbrev pub Sends : (start now : Linked) (from : ℕ) (text unsent : List ℕ) → Result ℕ Unsent → Type 0
Sends start now from text unsent (Ok at) = Reached start now from at text unsent
Sends start now from text unsent (Err cause) = Stopped start now from text cause

-- the answer of a writing that stopped
abbrev pub wrote_of : Unsent → Wrote
wrote_of (unsent.Failed at) = wrote.Failed at
wrote_of (unsent.NoMemory at) = wrote.NoMemory at
wrote_of (unsent.Again at) = wrote.Again at

-- What waits and then the rest are still to be sent.
abbrev pub Holds : (start now : Linked) (from : ℕ) (text rest : List ℕ) → Gatherer → Type 0
Holds start now from text rest gatherer = Reached start now from gatherer.at text (gatherer.waiting ++ rest)

-- What waits and then the rest are still to be sent, or the sending stopped.
abbrev pub Keeps : (start now : Linked) (from : ℕ) (text rest : List ℕ) → Gatherer → Result Prim.Unit Unsent → Type 0
Keeps start now from text rest gatherer (Ok _) = Holds start now from text rest gatherer
Keeps start now from text rest gatherer (Err cause) = Stopped start now from text cause

-- The piece went out or waits, but for what of it is passed over, whatever comes behind it.
abbrev pub PutsOut : (before now : Linked) (gatherer gatherer' : Gatherer) (piece : List ℕ) → Result Prim.Unit Unsent → Type 0
PutsOut before now gatherer gatherer' piece result =
    (start : Linked) (from : ℕ) (text rest : List ℕ) → Holds start before from text (drop gatherer.skip (piece ++ rest)) gatherer
    → Keeps start now from text (drop gatherer'.skip rest) gatherer' result
