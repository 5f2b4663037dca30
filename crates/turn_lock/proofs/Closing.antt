-- The lock is made, and closed.
use Rattle.std.proofs.Common.{◌≡◌, ◌≢◌, ℕ, zero, suc, ◌≤◌, Bool, cond, List, [], ◌∷◌, ◌++◌, map, length, sym, refl, ap, ◌∙◌, subst, eq-eqb, append-nil, arith, Option, IfSome}
use Rattle.std.specs.List.{AllByRecursion}
use mathlib.Core.Logic.{dite}
use native.Mathlib.Decide.{dec_le, ℕ_discrete}
use mathlib.Core.Option.{Option as Home, some, some-injective, some-ne-none}
use lib.ListN.{get_elem?}
use Rattle.arc_core.specs.CacheState.{CacheState, IsState}
use Rattle.arc_core.specs.History.{Entry}
use Rattle.atomic_table.specs.Seated.{TableId}
use Rattle.atomic_table.specs.Table.{State, opening, Final, Seen}
use Rattle.turn_lock.specs.Calls.{calls_of, LeadsTo}
use Rattle.turn_lock.specs.View.{numbered, outside, Turn, View, first_view, numbers_of, tickets_of, turns_of, times, total}
use Rattle.turn_lock.specs.Rule.{Keeps, IsNumbered, Fits, once_within, IsSlot, IsKept}
use Rattle.turn_lock.specs.Moves.{next_number}
use Rattle.turn_lock.specs.Seats.{seat_view, HasAll, IsWhole}
use Rattle.turn_lock.proofs.Totals.{total_two, times_no, times-append, within_yes, within_above}
use Rattle.turn_lock.proofs.Histories.{calls_before, calls_rest, all_keep, nothing}
use Rattle.turn_lock.proofs.Keeping.{as_numbered, own_numbers, tickets_few}
use Rattle.turn_lock.proofs.Sharing.{once_more, some_and}

total_none : (f : View → ℕ) (views : List View) → ((j : ℕ) (u : View) → get_elem? views j ≡ some u → f u ≡ 0) → total f views ≡ 0
total_none f [] zeros = refl
total_none f (x ∷ xs) zeros = let a = total_none f xs (λ j. zeros (suc j)) in let b = zeros 0 x refl in omega arith

-- only one view counts
total_only : (f : View → ℕ) (views : List View) (id : ℕ) (v : View) → get_elem? views id ≡ some v → ((j : ℕ) (u : View) → j ≢ id → get_elem? views j ≡ some u → f u ≡ 0) → total f views ≡ f v
total_only f [] id v at zeros = absurd (some-ne-none v (sym at))
total_only f (x ∷ xs) zero v at zeros =
    let a = total_none f xs (λ j u. zeros (suc j) u (λ e. omega arith)) in let b = ap f (some-injective x v at) in omega arith
total_only f (x ∷ xs) (suc id) v at zeros =
    let a = total_only f xs id v at (λ j u apart. zeros (suc j) u (λ e. apart (omega arith))) in let b = zeros 0 x (λ e. omega arith) refl in omega arith

turns_few : (t : Turn) → turns_of t ≤ length (tickets_of t)
turns_few t = elim t as (λ x. turns_of x ≤ length (tickets_of x)) [ outside ↦ omega arith | _ ↦ omega arith ]

-- a number that stands in the list is kept with its calls
kept_there : (P : ℕ × List Entry → Type 0) (m : ℕ) (xs : List (ℕ × List Entry)) → 1 ≤ times m (map (λ x. x.0) xs) → AllByRecursion P xs → (x : ℕ × List Entry) × (x.0 ≡ m) × P x
kept_there P m [] some_there all = absurd (omega arith)
kept_there P m (x ∷ xs) some_there all = dite (ℕ_discrete x.0 m)
    (λ e. (x, e, all.0))
    (λ e. kept_there P m xs (let a = times_no m x.0 e in let b = times-append m (x.0 ∷ []) (map (λ y. y.0) xs) in omega arith) all.1)

-- a history that has no calls of any number is empty
no_calls : (rest : List Entry) → ((m : ℕ) → calls_of m rest ≡ []) → rest ≡ []
no_calls [] none_of = refl
no_calls (e ∷ es) none_of =
    let first : calls_of e.seat (e ∷ es) ≡ e ∷ calls_of e.seat es = ap (λ (b : Bool). cond b (e ∷ calls_of e.seat es) (calls_of e.seat es)) (eq-eqb e.seat e.seat refl) in
    let l = ap length (sym first ∙ none_of e.seat) in absurd (omega arith)

module _ {E : Type 0} (state_of : E → CacheState) where
  abbrev R : State E View → Type 0
  R = IsKept state_of

  first_fits : (state : CacheState) → IsNumbered state [] 1 (first_view state)
  first_fits state = record {
    place = record { opening = refl; seen = ([], refl); told = ([], refl) };
    own = (refl, refl);
    ended = tt;
    register = refl;
    turn = tt;
  }

  first_once : (n : ℕ) → times n (0 ∷ []) ≡ once_within 0 1 n
  first_once n = let a = once_more 0 n in let b = within_above 0 0 n (omega arith) in omega arith

  only_first : (state : CacheState) (id : ℕ) (u : View) → get_elem? (first_view state ∷ []) id ≡ some u → Fits state [] 1 u.kind u
  only_first state zero u at = subst (λ (x : View). Fits state [] 1 x.kind x) (some-injective (first_view state) u at) (first_fits state)
  only_first state (suc id) u at = absurd (some-ne-none u (sym at))

  opens_at : (e : E) → IsState (state_of e) → R (opening (0 ∷ 0 ∷ []) (e ∷ []) (first_view (state_of e)))
  opens_at e is = record {
    opening = state_of e;
    history = [];
    current = state_of e;
    next = 1;
    waiting = 0;
    legal = (refl, is);
    fits = only_first (state_of e);
    few = omega arith;
    count = refl;
    once = λ n. (let a = first_once n in omega arith);
    known = λ m _. refl;
    register = refl;
    words = refl;
    ticket = refl;
    serving = refl;
    out = refl;
    tickets = λ t. sym (within_above 0 0 t (omega arith));
    slot = (e, refl, refl);
  }

  pub opens : (e seen : E) (slots : List E) → IsState (state_of e) → slots ≡ e ∷ [] → seen ≡ e → R (opening (0 ∷ 0 ∷ []) slots (first_view (state_of seen)))
  opens e seen slots is there same =
      subst (λ (x : E). R (opening (0 ∷ 0 ∷ []) slots (first_view (state_of x)))) (sym same)
      (subst (λ (x : List E). R (opening (0 ∷ 0 ∷ []) x (first_view (state_of e)))) (sym there) (opens_at e is))

  -- what has no numbers has no ticket, so it does not have the turn
  no_turn : (s : State E View) (r : R s) (j : ℕ) (u : View) → get_elem? s.views j ≡ some u → length (numbers_of u) ≡ 0 → turns_of u.turn ≡ 0
  no_turn s r j u there none_of =
      let a = tickets_few r.opening r.history r.next u u.kind refl (r.fits j u there) in let b = turns_few u.turn in omega arith

  -- all numbers are with one seat: no other has any
  alone : (s : State E View) (r : R s) (id : ℕ) (v : View) → get_elem? s.views id ≡ some v → length (numbers_of v) ≡ r.next
      → (j : ℕ) (u : View) → j ≢ id → get_elem? s.views j ≡ some u → length (numbers_of u) ≡ 0
  alone s r id v at all j u apart there = let two = total_two (λ x. length (numbers_of x)) s.views id j v u at there apart in let c = r.count in omega arith

  times_none : (m : ℕ) (xs : List ℕ) → length xs ≡ 0 → times m xs ≡ 0
  times_none m xs z = ap (times m) (nothing xs z)

  -- the seat with all numbers has seen the whole history
  whole : (s : State E View) (r : R s) (v : View) → IsNumbered r.opening r.history r.next v → v.kind ≡ numbered
      → ((m : ℕ) → times m (numbers_of v) ≡ once_within 0 r.next m) → r.history ≡ v.seen
  whole s r v f kind each =
      let rest = f.place.seen.0 in let is = f.place.seen.1 in
      let kept : AllByRecursion (Keeps r.history v.seen) ((v.number, v.mine) ∷ v.ended) = (f.own, f.ended) in
      let none_of : (m : ℕ) → calls_of m rest ≡ [] = λ m. dite (dec_le r.next m)
      (λ above. calls_rest m v.seen rest [] (calls_before m v.seen r.history f.place.seen (r.known m above)) (ap (calls_of m) (sym is) ∙ r.known m above))
      (λ below. let e = each m in let one = within_yes 0 r.next m (omega arith) (omega arith) in let o = ap (times m) (own_numbers v kind) in
      let k = kept_there (Keeps r.history v.seen) m ((v.number, v.mine) ∷ v.ended) (omega arith) kept in
      let keeps : (calls_of m r.history ≡ k.0.1) × (calls_of m v.seen ≡ k.0.1) = subst (λ (x : ℕ). (calls_of x r.history ≡ k.0.1) × (calls_of x v.seen ≡ k.0.1)) k.1 k.2 in
      calls_rest m v.seen rest k.0.1 keeps.1 (ap (calls_of m) (sym is) ∙ keeps.0)) in
      is ∙ (ap (λ (l : List Entry). v.seen ++ l) (no_calls rest none_of) ∙ append-nil v.seen)

  pub closes : (id : ℕ) (v : View) (lock : TableId) (words : List ℕ) (slots : List E) (y : E) → v.kind ≡ numbered → v.turn ≡ outside → HasAll (seat_view lock v)
      → Final (Seen R id v) words slots → get_elem? slots 0 ≡ some y → IsWhole (seat_view lock v) (state_of y)
  closes id v lock words slots y kind free has final there =
      let s = final.0 in let r : R s = final.1.0 in let at : get_elem? s.views id ≡ some v = final.1.1 in
      let f = as_numbered r.opening r.history r.next v kind (r.fits id v at) in
      let n = some_and state_of v.register (λ next. length (v.number ∷ map (λ kept. kept.0) v.ended) ≡ next) has in
      let next : n.0 ≡ r.next = subst (λ (x : Option ℕ). IfSome x (λ m. m ≡ r.next)) n.1 f.register in
      let given : next_number v.register ≡ r.next = ap next_number n.1 ∙ next in
      let all : length (numbers_of v) ≡ r.next = ap length (own_numbers v kind) ∙ (n.2 ∙ next) in
      let none_else = alone s r id v at all in
      let turns = total_only (λ u. turns_of u.turn) s.views id v at (λ j u apart it. no_turn s r j u it (none_else j u apart it)) ∙ ap turns_of free in
      let each : (m : ℕ) → times m (numbers_of v) ≡ once_within 0 r.next m
      = λ m. sym (total_only (λ u. times m (numbers_of u)) s.views id v at (λ j u apart it. times_none m (numbers_of u) (none_else j u apart it))) ∙ r.once m in
      let slot : IsSlot state_of r.current 0 s.homes = subst (λ (c : ℕ). IsSlot state_of r.current c s.homes) turns r.slot in
      let home = final.4 0 slot.0 (ap (λ (h : List (Home E)). get_elem? h 0) slot.1) in
      let same : slot.0 ≡ y = some-injective slot.0 y (sym home ∙ there) in
      let saw = whole s r v f kind each in record {
        legal = subst (λ (e : E). LeadsTo v.opening v.seen (state_of e)) same
            (subst (λ (x : CacheState). LeadsTo v.opening v.seen x) (sym slot.2)
            (subst (λ (h : List Entry). LeadsTo v.opening h r.current) saw
            (subst (λ (x : CacheState). LeadsTo x r.history r.current) (sym f.place.opening) r.legal)));
        own = f.own.1;
        ended = all_keep (Keeps r.history v.seen) (λ kept. calls_of kept.0 v.seen ≡ kept.1) v.ended (λ kept k. k.1) f.ended;
        numbers = λ m. ap (times m) (sym (own_numbers v kind)) ∙ (each m ∙ ap (λ (x : ℕ). once_within 0 x m) (sym given));
        others = λ m above. calls_before m v.seen r.history f.place.seen (r.known m (omega arith));
      }
