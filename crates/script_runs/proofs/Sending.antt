-- Texts that are written piece by piece.
use Rattle.std.proofs.Common.{◌≡◌, ◌∙◌, List, ℕ, ◌++◌, Result, Err, ap, subst}
use Rattle.arc_core.specs.Outside.{Outgoing, sent_more}
use Rattle.sink_writes.specs.declared.write.Unwritten.{Unwritten}
use Rattle.sink_writes.specs.Writing.{Writes}
use Rattle.sink_writes.proofs.Sending.{writes_behind, writes_no_more}

-- The first of a record's three pieces was not written whole; or the second; or the third is what is left.
module _ (A : Type 0) (before : Outgoing) (line head sent feed : List ℕ) (is : line ≡ head) where
  pub no_line : (after : Outgoing) (why : Unwritten) → Writes {A = A} before line after (Err why) → Writes {A = A} before (head ++ (sent ++ feed)) after (Err why)
  no_line after why writes = writes_no_more A A before after head (sent ++ feed) why (subst (λ l. Writes {A = A} before l after (Err why)) is writes)

  pub no_bytes : (middle after : Outgoing) (why : Unwritten) → middle ≡ sent_more before line → Writes {A = A} middle sent after (Err why) → Writes {A = A} before (head ++ (sent ++ feed)) after (Err why)
  no_bytes middle after why at writes =
      writes_behind {A = A} before middle after head (sent ++ feed) (Err why) (at ∙ ap (sent_more before) is) (writes_no_more A A middle after sent feed why writes)

  pub last_piece : (middle later after : Outgoing) (piece : List ℕ) (r : Result A Unwritten) → middle ≡ sent_more before line → later ≡ sent_more middle sent → piece ≡ feed
      → Writes later piece after r → Writes before (head ++ (sent ++ feed)) after r
  last_piece middle later after piece r at behind feed_is writes =
      writes_behind before middle after head (sent ++ feed) r (at ∙ ap (sent_more before) is)
      (writes_behind middle later after sent feed r behind (subst (λ p. Writes later p after r) feed_is writes))
