-- The rule of the turn lock: what holds of its table between any two steps of its threads.
--
-- The table has two words, `ticket` and `serving`, one slot with the executor, and the view of each seat. There is one
-- history. It exists in this rule alone, and no thread stores it.
-- (a) The history is legal from the opening state, and each view has seen a beginning of it.
-- (b) The calls that a view keeps under a number are the history's calls with that number, in order, and it has seen them.
-- (c) Each number that was given is with one view, once; no other number is with a view or in the history. One view has
--     the register, which has the next number.
-- (d) The tickets that are out are the next places of the history, each once. The words have the next ticket and the one
--     that is served, modulo 2^64.
-- (e) At most one view has the turn. Its ticket is served, it has seen the whole history, and its seat holds the slot.
-- (f) Where no view has the turn, the slot is at home with an executor that stands for the state after the history.
-- A view that a join has spent knows nothing, and is excepted.
use Rattle.std.specs.Prelude.{◌≡◌, ℕ, zero, suc, ◌+◌, ◌%◌, ◌^◌, ◌≤◌, List, [], ◌∷◌, length, slice_index, IfSome, None, ltb, leb, ◌&&◌, if◌then◌else◌}
use Rattle.std.specs.List.{AllByRecursion}
use mathlib.Core.Option.{Option, none, some}
use lib.ListN.{get_elem?}
use Rattle.arc_core.specs.CacheState.{CacheState}
use Rattle.arc_core.specs.History.{Entry}
use Rattle.atomic_table.specs.Table.{State}
use Rattle.turn_lock.specs.Calls.{Begins, calls_of, LeadsTo}
use Rattle.turn_lock.specs.View.{Kind, numbered, copy, spent, Turn, outside, waits, served, View, spent_view, numbers_of, tickets_of, turns_of, registers_of, times, total}

-- at most so many numbers are ever given: that of the first seat, and one for each of 4,096 splits
abbrev pub most_numbers : ℕ
most_numbers = 4097

-- The calls kept under a number are those with that number in the history, in order, and they stand in what was seen.
abbrev pub Keeps : List Entry → List Entry → ℕ × List Entry → Type 0
Keeps history seen kept = (calls_of kept.0 history ≡ kept.1) × (calls_of kept.0 seen ≡ kept.1)

-- who has the turn has the ticket that is served, and has seen the whole history
abbrev pub IsInTurn : List Entry → List Entry → Turn → Type 0
IsInTurn history seen outside = Unit {0}
IsInTurn history seen (waits ticket) = Unit {0}
IsInTurn history seen (served ticket) = (ticket ≡ length history) × (seen ≡ history)

-- A view stands in the history.
pub record IsIn (state : CacheState) (history : List Entry) (view : View) : Type 0 where
  pub opening : view.opening ≡ state
  -- what was seen is a beginning of the history
  pub seen : Begins view.seen history
  pub told : Begins view.told view.seen

-- A view with a number: what is kept under its own number and the ended ones is right, a register has the next number.
pub record IsNumbered (opening : CacheState) (history : List Entry) (next : ℕ) (view : View) : Type 0 where
  pub place : IsIn opening history view
  pub own : Keeps history view.seen (view.number, view.mine)
  pub ended : AllByRecursion (Keeps history view.seen) view.ended
  pub register : IfSome view.register (λ number. number ≡ next)
  pub turn : IsInTurn history view.seen view.turn

-- A view without a number has no ticket, no calls, no ended numbers and no register.
pub record IsCopy (opening : CacheState) (history : List Entry) (view : View) : Type 0 where
  pub place : IsIn opening history view
  pub mine : view.mine ≡ []
  pub ended : view.ended ≡ []
  pub register : view.register ≡ None
  pub turn : view.turn ≡ outside

abbrev pub Fits : CacheState → List Entry → ℕ → Kind → View → Type 0
Fits opening history next numbered view = IsNumbered opening history next view
Fits opening history next copy view = IsCopy opening history view
Fits opening history next spent view = view ≡ spent_view

-- 1 for the numbers from `low` on and below `high`
abbrev pub once_within : ℕ → ℕ → ℕ → ℕ
once_within low high n = if leb low n && ltb n high then 1 else 0

module _ {E : Type 0} (state_of : E → CacheState) where
  -- Where nobody has the turn, the slot is at home with an executor that stands for the current state. Where one seat
  -- has it, the slot is out with that seat. Two never have it.
  abbrev pub IsSlot : CacheState → ℕ → List (Option E) → Type 0
  IsSlot current zero homes = (executor : E) × (homes ≡ some executor ∷ []) × (state_of executor ≡ current)
  IsSlot current (suc zero) homes = homes ≡ none ∷ []
  IsSlot current (suc (suc more)) homes = ⊥

  pub record IsKept (table : State E View) : Type 0 where
    pub opening : CacheState
    pub history : List Entry
    pub current : CacheState
    -- the next number to give
    pub next : ℕ
    -- how many tickets are out
    pub waiting : ℕ
    -- (a)
    pub legal : LeadsTo opening history current
    -- (a), (b), and of each view (c) and (e)
    pub fits : (id : ℕ) (view : View) → get_elem? table.views id ≡ some view → Fits opening history next view.kind view
    -- (c): the views have as many numbers as were given, and each of these once
    pub few : next ≤ most_numbers
    pub count : total (λ view. length (numbers_of view)) table.views ≡ next
    pub once : (number : ℕ) → total (λ view. times number (numbers_of view)) table.views ≡ once_within 0 next number
    pub known : (number : ℕ) → next ≤ number → calls_of number history ≡ []
    pub register : total (λ view. registers_of view.register) table.views ≡ 1
    -- (d)
    pub words : length table.words ≡ 2
    pub ticket : slice_index table.words 0 ≡ (length history + waiting) % 2 ^ 64
    pub serving : slice_index table.words 1 ≡ length history % 2 ^ 64
    pub out : total (λ view. length (tickets_of view.turn)) table.views ≡ waiting
    pub tickets : (ticket : ℕ) → total (λ view. times ticket (tickets_of view.turn)) table.views ≡ once_within (length history) (length history + waiting) ticket
    -- (e), (f)
    pub slot : IsSlot current (total (λ view. turns_of view.turn) table.views) table.homes
