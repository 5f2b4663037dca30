-- The moves of a seat, and what each tells the thread that makes it. The words are `ticket`, 0, and `serving`, 1.
use Rattle.std.specs.Prelude.{◌≡◌, ℕ, ◌+◌, ◌%◌, ◌^◌, Bool, false, List, [], ◌∷◌, ◌++◌, Some, None, Option, MatchBool, ◌==◌}
use Rattle.std.specs.Option.{option_map}
use Rattle.arc_core.specs.CacheState.{CacheState}
use Rattle.arc_core.specs.History.{Entry}
use Rattle.atomic_table.specs.Table.{Me, Step}
use Rattle.turn_lock.specs.Calls.{Begins, calls_of, LeadsTo, IsLegal}
use Rattle.turn_lock.specs.View.{Kind, numbered, copy, spent, Turn, outside, waits, served, View, longer, shorter}

-- the ticket is noted
abbrev pub waiting_as : View → ℕ → View
waiting_as view ticket = record view { turn = waits ticket }

-- whether the word that was found is the seat's ticket
abbrev pub is_next : Turn → ℕ → Bool
is_next outside found = false
is_next (waits ticket) found = found == ticket % 2 ^ 64
is_next (served ticket) found = false

abbrev pub its_turn : Turn → Turn
its_turn outside = outside
its_turn (waits ticket) = served ticket
its_turn (served ticket) = served ticket

-- the history so far was seen
abbrev pub seen_as : View → List Entry → View
seen_as view history = record view { seen = history }

-- the history so far was seen, and the turn has come
abbrev pub served_as : View → List Entry → View
served_as view history = record view { seen = history; turn = its_turn view.turn }

-- the call was made
abbrev pub passed_as : View → Entry → View
passed_as view entry = record view { seen = view.seen ++ entry ∷ []; mine = view.mine ++ entry ∷ []; turn = outside }

-- the seat has given the next number away
abbrev pub split_left : View → View
split_left view = record view { register = option_map (λ next. next + 1) view.register }

abbrev pub next_number : Option ℕ → ℕ
next_number (Some next) = next
next_number None = 0

-- the new seat has that number, has seen as much, and has made no calls
abbrev pub split_right : View → View
split_right view =
    record { kind = numbered; number = next_number view.register; opening = view.opening; seen = view.seen; told = view.seen; mine = []; ended = []; register = None; turn = outside }

-- what another seat is given to see
abbrev pub copied : View → View
copied view = record { kind = copy; number = 0; opening = view.opening; seen = view.seen; told = view.seen; mine = []; ended = []; register = None; turn = outside }

-- what a view hands over where it is taken in: its number and its ended numbers, each with its calls
abbrev pub handed_over : Kind → View → List (ℕ × List Entry)
handed_over numbered view = (view.number, view.mine) ∷ view.ended
handed_over copy view = []
handed_over spent view = []

abbrev pub first_register : Option ℕ → Option ℕ → Option ℕ
first_register (Some next) other = Some next
first_register None other = other

-- the other view was taken in
abbrev pub joined_with : View → View → View
joined_with view other =
    record view {
      seen = longer view.seen other.seen;
      told = shorter view.seen other.seen;
      ended = view.ended ++ handed_over other.kind other;
      register = first_register view.register other.register;
    }

-- What a seat has seen are beginnings of this history, in which the calls of its number are its own.
pub record SeesMore (view : View) (history : List Entry) : Type 0 where
  pub seen : Begins view.seen history
  pub told : Begins view.told view.seen
  pub own : view.kind ≡ numbered → (calls_of view.number view.seen ≡ view.mine) × (calls_of view.number history ≡ view.mine)

module _ {E : Type 0} where
  -- a ticket was drawn
  abbrev pub drawn : Step E → Me E View → ℕ → Me E View → Type 0
  drawn step before found after =
      (ticket : ℕ) × (found ≡ ticket % 2 ^ 64) × (after ≡ (waiting_as before.0 ticket, before.1)) × SeesMore before.0 before.0.seen

  -- The history so far, which is legal, was seen. Where the ticket is the one that is served, the seat has the turn, and holds the slot
  -- with an executor that stands for the state after that history.
  abbrev pub looked : (E → CacheState) → Step E → Me E View → ℕ → Me E View → Type 0
  looked state_of step before found after =
      (history : List Entry) × SeesMore before.0 history × IsLegal before.0.opening history
      × MatchBool (is_next before.0.turn found)
      ((executor : E) × (after ≡ (served_as before.0 history, (0, executor) ∷ [])) × LeadsTo before.0.opening history (state_of executor))
      (after ≡ (seen_as before.0 history, before.1))

  -- the call was made, and the slot is at home again
  abbrev pub passed : Entry → Step E → Me E View → ℕ → Me E View → Type 0
  passed entry step before found after =
      (after ≡ (passed_as before.0 entry, [])) × (calls_of before.0.number (before.0.seen ++ entry ∷ []) ≡ before.0.mine ++ entry ∷ [])

  -- nothing changed; what was told is a beginning of what was seen, which is legal
  abbrev pub recalled : Step E → Me E View → ℕ → Me E View → Type 0
  recalled step before found after = (after ≡ before) × Begins before.0.told before.0.seen × IsLegal before.0.opening before.0.seen

  -- The seat has the turn. It has seen the history so far, and holds the executor, which stands for the state after it.
  pub record HasTurn (state_of : E → CacheState) (view : View) (now : Me E View) : Type 0 where
    pub history : List Entry
    pub ticket : ℕ
    pub executor : E
    pub sees : SeesMore view history
    pub holds : now ≡ (record view { seen = history; turn = served ticket }, (0, executor) ∷ [])
    pub leads : LeadsTo view.opening history (state_of executor)

  -- the seat holds an executor that stands for the state after this history
  abbrev pub HoldsAfter : (E → CacheState) → List Entry → Me E View → Type 0
  HoldsAfter state_of history me = (executor : E) × (me.1 ≡ (0, executor) ∷ []) × LeadsTo me.0.opening history (state_of executor)
