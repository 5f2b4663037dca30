-- What the writing of a text to a link leaves.
use Rattle.std.specs.Prelude.{◌≡◌, ℕ, ◌-◌, ◌≤◌, List, length, take, drop, Option}
use Rattle.arc_core.specs.Outside.{Rose, Outgoing, then_sent}
use Rattle.reply_print.specs.declared.wrote.Wrote.{Wrote}
use Rattle.reply_print.specs.declared.wrote.Wrote.TheVariants as wrote

-- The bytes of the text from the one offset up to the other were sent.
pub record IsSentFrom (sent sent' : Option (List ℕ)) (text : List ℕ) (from upto : ℕ) : Type 0 where
  pub forward : from ≤ upto
  pub within : upto ≤ length text
  pub bytes : sent' ≡ then_sent sent (take (upto - from) (drop from text))

-- No push failed, memory was not refused, the link had not to be asked again.
pub record CountsStay (before after : Outgoing) (agains agains' : ℕ) : Type 0 where
  pub same_faults : after.faults ≡ before.faults
  pub same_refusals : after.refusals ≡ before.refusals
  pub same_agains : agains' ≡ agains

-- A push failed, and nothing else was counted.
pub record CountsFault (before after : Outgoing) (agains agains' : ℕ) : Type 0 where
  pub rose : Rose before.faults after.faults
  pub same_refusals : after.refusals ≡ before.refusals
  pub same_agains : agains' ≡ agains

-- Memory was refused, and nothing else was counted.
pub record CountsRefusal (before after : Outgoing) (agains agains' : ℕ) : Type 0 where
  pub same_faults : after.faults ≡ before.faults
  pub rose : Rose before.refusals after.refusals
  pub same_agains : agains' ≡ agains

-- The link has to be asked again, and nothing else was counted.
pub record CountsAgain (before after : Outgoing) (agains agains' : ℕ) : Type 0 where
  pub same_faults : after.faults ≡ before.faults
  pub same_refusals : after.refusals ≡ before.refusals
  pub rose : Rose agains agains'

-- What the writing of a text from an offset on leaves, by its answer: all of it was sent and no count rose, or a part was
-- sent and the one count of the cause rose.
abbrev pub Writes : (before after : Outgoing) (agains agains' : ℕ) (text : List ℕ) (from : ℕ) → Wrote → Type 0
Writes before after agains agains' text from wrote.Done =
    (after.sent ≡ then_sent before.sent (drop from text)) × CountsStay before after agains agains'
Writes before after agains agains' text from (wrote.Failed upto) =
    IsSentFrom before.sent after.sent text from upto × CountsFault before after agains agains'
Writes before after agains agains' text from (wrote.NoMemory upto) =
    IsSentFrom before.sent after.sent text from upto × CountsRefusal before after agains agains'
Writes before after agains agains' text from (wrote.Again upto) =
    IsSentFrom before.sent after.sent text from upto × CountsAgain before after agains agains'
