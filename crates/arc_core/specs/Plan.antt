-- What the table wants done for a request.
use Rattle.std.specs.Prelude.{ℕ, List}
use Rattle.arc_core.specs.declared.replies.Reply.{Reply}
use Rattle.arc_core.specs.Item.{Item}

-- What a row of the table wants done.
pub data Plan : Type 0 where
  -- to answer, and leave all items as they are
  answer_only : Reply → Plan
  -- to put an item under the key, let the cas counter be this, and answer
  put : (key : List ℕ) → Item → (counter : ℕ) → Reply → Plan
  -- to take the item under the key away, and answer
  take_away : (key : List ℕ) → Reply → Plan
  -- to take all items away, and answer
  take_all : Reply → Plan
