-- What a session keeps of the run of piped commands that is open.
use Rattle.std.specs.Prelude.{◌≡◌, ◌⊎◌, ℕ, Bool, true, false, ◌&&◌, nat_lt, if◌then◌else◌, List, [], ◌∷◌, ◌++◌, length, take}
use Rattle.arc_core.specs.declared.pipes.PipeFault.{PipeFault}
use Rattle.arc_core.specs.declared.pipes.PipeFault.TheVariants as fault
use Rattle.arc_core.specs.declared.pipes.PipeStatus.{PipeStatus}
use Rattle.arc_core.specs.Framing.{Whole}
use Rattle.arc_core.specs.History.{Entry}
use Rattle.reply_print.specs.PipeText.{pipe_text}
use Rattle.pipe_session.specs.SessionText.{HaveStatuses, TellsGroups, fails, fault_of, groups_before, open_behind}

-- Whether a run is open, the statuses of its units, and why the next ones are not executed, if they are not.
pub record Kept : Type 0 where
  pub is_open : Bool
  pub statuses : List PipeStatus
  pub fault : PipeFault

-- no run is open
abbrev pub no_run : Kept
no_run = record { is_open = false; statuses = []; fault = fault.Nothing }

-- whether nothing has gone wrong
abbrev pub is_fine : PipeFault → Bool
is_fine fault.Nothing = true
is_fine other = false

-- whether the next unit of the run is executed, and has a status
abbrev pub takes_one : Kept → Bool
takes_one kept = is_fine kept.fault && nat_lt (length kept.statuses) 500

-- what is kept behind a unit that had this status
abbrev pub with_status : Kept → PipeStatus → Kept
with_status kept told = record {
  is_open = true;
  statuses = kept.statuses ++ told ∷ [];
  fault = if fails told then fault.BadError else fault.Nothing;
}

-- what is kept behind a unit that was not executed: where nothing else has gone wrong there are too many
abbrev pub passed_over : Kept → Kept
passed_over kept = record { is_open = true; statuses = kept.statuses; fault = if is_fine kept.fault then fault.Overflow else kept.fault }

-- The next unit of the run was executed and had a status, or was passed over.
abbrev pub TakesOne : (List Entry → PipeStatus → Type 0) → (kept kept' : Kept) → List Entry → Type 0
TakesOne Status kept kept' entries =
    ((takes_one kept ≡ true) × (told : PipeStatus) × Status entries told × (kept' ≡ with_status kept told))
    ⊎ ((takes_one kept ≡ false) × (entries ≡ []) × (kept' ≡ passed_over kept))

-- why a run was broken off by a unit that does not belong to it
abbrev pub broken_off : PipeFault → PipeFault
broken_off fault.Nothing = fault.BadError
broken_off other = other

-- the answer to a run that its last unit has ended, and to one that was broken off
abbrev pub answer_of : Kept → List ℕ
answer_of kept = pipe_text kept.statuses kept.fault

abbrev pub broken_answer_of : Kept → List ℕ
broken_answer_of kept = pipe_text kept.statuses (broken_off kept.fault)

-- The session keeps this of the units of the open run, which have executed these requests.
abbrev pub KeepsRun : Kept → List Whole → List Entry → Type 0
KeepsRun kept [] entries = (kept ≡ no_run) × (entries ≡ [])
KeepsRun kept (first ∷ more) entries =
    (kept.is_open ≡ true) × HaveStatuses (take 500 (first ∷ more)) entries kept.statuses
    × (kept.fault ≡ fault_of kept.statuses (length (first ∷ more)) true)

-- What units have executed, and the text of all that is answered: all but the run that is open behind them, of which this
-- is kept.
abbrev pub TellsSoFar : Kept → List Whole → List Entry → List ℕ → Type 0
TellsSoFar kept units entries text =
    (told : List Entry) × (own : List Entry) × (entries ≡ told ++ own)
    × TellsGroups (groups_before [] units) told text × KeepsRun kept (open_behind [] units) own
