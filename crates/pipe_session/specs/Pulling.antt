-- What a pull leaves of the bytes that are to be read.
use Rattle.std.specs.Prelude.{◌≡◌, ℕ, ◌<◌, ◌≤◌, List, [], length}
use Rattle.arc_core.specs.declared.outside.Pull.{Pull}
use Rattle.arc_core.specs.declared.outside.Pull.TheVariants as pull
use Rattle.arc_core.specs.Outside.{Rose, Incoming, first_then, CameToEnd, FailedToPull}

-- The next bytes came, at least one and at most so many, and are those that are to be read.
pub record Came (before after : Incoming) (most : ℕ) (ahead : List ℕ) : Type 0 where
  pub some : 0 < length ahead
  pub few : length ahead ≤ most
  pub bytes : before.left ≡ first_then ahead after.left
  pub same_faults : after.faults ≡ before.faults

-- What a pull of at most so many bytes leaves, by its answer.
abbrev pub Fills : (before after : Incoming) (agains agains' most : ℕ) (ahead : List ℕ) → Pull → Type 0
Fills before after agains agains' most ahead (pull.Got n) = Came before after most ahead × (n ≡ length ahead) × (agains' ≡ agains)
Fills before after agains agains' most ahead pull.End = CameToEnd before after × (ahead ≡ []) × (agains' ≡ agains)
Fills before after agains agains' most ahead pull.Failed = FailedToPull before after × (ahead ≡ []) × (agains' ≡ agains)
Fills before after agains agains' most ahead pull.Again = (after ≡ before) × (ahead ≡ []) × Rose agains agains'
