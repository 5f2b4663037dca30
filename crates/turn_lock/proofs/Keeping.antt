-- A move of one seat keeps the rule: what is common to all moves.
use Rattle.std.proofs.Common.{◌≡◌, ◌≢◌, ℕ, ◌+◌, ◌%◌, ◌^◌, ◌<◌, ◌≤◌, List, [], ◌∷◌, map, length, get_or, set, sym, refl, ap, ◌∙◌, subst, ⊎_elim, arith}
use mathlib.Core.Option.{Option, some}
use mathlib.Core.Logic.{dite}
use native.Mathlib.Decide.{dec_le}
use lib.ListN.{get_elem?}
use Rattle.arc_core.specs.CacheState.{CacheState}
use Rattle.arc_core.specs.History.{Entry}
use Rattle.atomic_table.specs.Table.{State}
use Rattle.atomic_table.proofs.Lists.{at_set}
use Rattle.turn_lock.specs.Calls.{calls_of, LeadsTo}
use Rattle.turn_lock.specs.View.{Kind, numbered, copy, spent, Turn, outside, waits, served, View, numbers_by, numbers_of, tickets_of, turns_of, registers_of, times, total}
use Rattle.turn_lock.specs.Rule.{most_numbers, IsNumbered, Fits, once_within, IsSlot, IsKept}
use Rattle.turn_lock.specs.Moves.{SeesMore}
use Rattle.turn_lock.proofs.Totals.{total_set, total_same, total_le, total_at, within_below, within_above}

pub as_numbered : (opening : CacheState) (history : List Entry) (next : ℕ) (v : View) → v.kind ≡ numbered → Fits opening history next v.kind v → IsNumbered opening history next v
as_numbered opening history next v is f = subst (λ (k : Kind). Fits opening history next k v) is f

pub of_numbered : (opening : CacheState) (history : List Entry) (next : ℕ) (k : Kind) (v : View) → k ≡ numbered → IsNumbered opening history next v → Fits opening history next k v
of_numbered opening history next k v is f = subst (λ (k : Kind). Fits opening history next k v) (sym is) f

pub numbers_kept : (k : Kind) (v w : View) → w.number ≡ v.number → w.ended ≡ v.ended → numbers_by k w ≡ numbers_by k v
numbers_kept numbered v w n e = λ i. n i ∷ map (λ x. x.0) (e i)
numbers_kept copy v w n e = refl
numbers_kept spent v w n e = refl

-- the numbers of a view with a number
pub own_numbers : (v : View) → v.kind ≡ numbered → numbers_of v ≡ v.number ∷ map (λ x. x.0) v.ended
own_numbers v is = ap (λ (k : Kind). numbers_by k v) is

tickets_one : (t : Turn) → length (tickets_of t) ≤ 1
tickets_one outside = omega arith
tickets_one (waits k) = omega arith
tickets_one (served k) = omega arith

pub tickets_few : (opening : CacheState) (history : List Entry) (next : ℕ) (v : View) (k : Kind) → v.kind ≡ k → Fits opening history next k v → length (tickets_of v.turn) ≤ length (numbers_by k v)
tickets_few opening history next v numbered is f = let one = tickets_one v.turn in omega arith
tickets_few opening history next v copy is f = let none = ap (λ (t : Turn). length (tickets_of t)) f.turn in omega arith
tickets_few opening history next v spent is f = let none = ap (λ (u : View). length (tickets_of u.turn)) f in omega arith

pub seen_more : (opening : CacheState) (history : List Entry) (next : ℕ) (v : View) → IsNumbered opening history next v → SeesMore v history
seen_more opening history next v n = record { seen = n.place.seen; told = n.place.told; own = λ _. (n.own.1, n.own.0) }

-- the one view that has changed fits, and the others still do
pub all_fit : (F : View → Type 0) (views : List View) (id : ℕ) (w : View) → F w → ((j : ℕ) (u : View) → j ≢ id → get_elem? views j ≡ some u → F u)
    → (j : ℕ) (u : View) → get_elem? (set views id w) j ≡ some u → F u
all_fit F views id w here others j u e =
    ⊎_elim (λ (t : (j ≡ id) × (w ≡ u)). subst F t.1 here) (λ (t : (j ≢ id) × (get_elem? views j ≡ some u)). others j u t.0 t.1) (at_set views id j w u e)

pub within_bounds : (low high n : ℕ) → 1 ≤ once_within low high n → (low ≤ n) × (n < high)
within_bounds low high n h = (
  dite (dec_le low n) (λ yes. yes) (λ not. absurd (let z = within_below low high n (omega arith) in omega arith)),
  dite (dec_le high n) (λ yes. absurd (let z = within_above low high n yes in omega arith)) (λ not. omega arith),
)

module _ {E : Type 0} (state_of : E → CacheState) where
  abbrev pub Rule : State E View → Type 0
  Rule = IsKept state_of

  -- few tickets are out
  pub few_out : (s : State E View) (r : Rule s) → r.waiting ≤ most_numbers
  few_out s r =
      let le = total_le (λ v. length (tickets_of v.turn)) (λ v. length (numbers_of v)) s.views
      (λ id v at. tickets_few r.opening r.history r.next v v.kind refl (r.fits id v at)) in
      let few = r.few in let count = r.count in let out = r.out in omega arith

  -- the ticket of a view is one of those that are out
  pub is_out : (s : State E View) (r : Rule s) (id : ℕ) (v : View) (ticket : ℕ) → get_elem? s.views id ≡ some v → 1 ≤ times ticket (tickets_of v.turn)
      → (length r.history ≤ ticket) × (ticket < length r.history + r.waiting)
  is_out s r id v ticket at mine =
      let all = total_at (λ u. times ticket (tickets_of u.turn)) s.views id v at in
      let is = r.tickets ticket in
      within_bounds (length r.history) (length r.history + r.waiting) ticket (omega arith)

  -- One view has changed, but not its numbers and its register; and the words and the slot fit the history as it is now.
  pub moved : (s : State E View) (r : Rule s) (id : ℕ) (v w : View) → get_elem? s.views id ≡ some v → numbers_of w ≡ numbers_of v → w.register ≡ v.register
      → (history : List Entry) (current : CacheState) (waiting : ℕ) (words : List ℕ) (homes : List (Option E))
      → LeadsTo r.opening history current
      → Fits r.opening history r.next w.kind w
      → ((j : ℕ) (u : View) → j ≢ id → get_elem? s.views j ≡ some u → Fits r.opening history r.next u.kind u)
      → ((number : ℕ) → r.next ≤ number → calls_of number history ≡ [])
      → length words ≡ 2 → get_or words 0 0 ≡ (length history + waiting) % 2 ^ 64 → get_or words 1 0 ≡ length history % 2 ^ 64
      → r.waiting + length (tickets_of w.turn) ≡ waiting + length (tickets_of v.turn)
      → ((t : ℕ) → once_within (length r.history) (length r.history + r.waiting) t + times t (tickets_of w.turn) ≡ once_within (length history) (length history + waiting) t + times t (tickets_of v.turn))
      → IsSlot state_of current (total (λ u. turns_of u.turn) (set s.views id w)) homes
      → Rule record { words = words; homes = homes; views = set s.views id w }
  moved s r id v w at numbers register history current waiting words homes legal here others known two first second out tickets slot = record {
    opening = r.opening;
    history = history;
    current = current;
    next = r.next;
    waiting = waiting;
    legal = legal;
    fits = all_fit (λ u. Fits r.opening history r.next u.kind u) s.views id w here others;
    few = r.few;
    count = total_same (λ u. length (numbers_of u)) s.views id v w at (ap length numbers) ∙ r.count;
    once = λ number. total_same (λ u. times number (numbers_of u)) s.views id v w at (ap (times number) numbers) ∙ r.once number;
    known = known;
    register = total_same (λ u. registers_of u.register) s.views id v w at (ap registers_of register) ∙ r.register;
    words = two;
    ticket = first;
    serving = second;
    out = (let e = total_set (λ u. length (tickets_of u.turn)) s.views id v w at in let o = r.out in omega arith);
    tickets = λ t. (let e = total_set (λ u. times t (tickets_of u.turn)) s.views id v w at in let o = r.tickets t in let d = tickets t in omega arith);
    slot = slot;
  }
