-- The moves of a call keep the rule: draw, look, pass.
use Rattle.std.proofs.Common.{◌≡◌, ◌≢◌, ℕ, zero, suc, ◌+◌, ◌-◌, ◌%◌, ◌^◌, ◌<◌, ◌≤◌, Bool, true, false, cond, ltb, leb, ◌&&◌, MatchBool, List, [], ◌∷◌, ◌++◌, map, length, get_or, set, sym, refl, ap, ◌∙◌, subst, eqb-true, length-set, get_or-set_same, get_or-set_other, length-append, arith}
use Rattle.std.proofs.Math.Nat.{mod-add-mod}
use Rattle.std.proofs.lemmas.List.{set-get_or}
use mathlib.Core.Logic.{dite}
use native.Mathlib.Decide.{dec_le, ℕ_discrete}
use mathlib.Core.Option.{Option, none, some}
use lib.ListN.{get_elem?}
use Rattle.arc_core.specs.CacheState.{CacheState}
use Rattle.arc_core.specs.History.{Entry}
use Rattle.atomic_table.specs.Table.{State, Me, Act, step, keeps, takes, gives, stepped, Valid, carried_after, homes_after, put_back, rest, Allows}
use Rattle.atomic_table.proofs.Lists.{one_turn}
use Rattle.turn_lock.specs.Calls.{Begins, calls_of, LeadsTo, IsLegal}
use Rattle.turn_lock.specs.View.{Kind, numbered, copy, spent, Turn, outside, waits, served, View, numbers_by, numbers_of, tickets_of, turns_of, times, total}
use Rattle.turn_lock.specs.Rule.{Keeps, IsInTurn, IsNumbered, Fits, once_within, IsSlot, IsKept}
use Rattle.turn_lock.specs.Moves.{waiting_as, is_next, its_turn, seen_as, served_as, passed_as, drawn, looked, passed, HoldsAfter}
use Rattle.turn_lock.proofs.Totals.{total_set, total_same, total_below, total_at, total_two, times-append, times_yes, times_no, within_yes, within_below, within_above}
use Rattle.turn_lock.proofs.Histories.{begins_itself, begins_trans, begins_more, calls_more, calls_other, all_keep, all_apart, not_head}
use Rattle.turn_lock.proofs.Keeping.{as_numbered, of_numbered, numbers_kept, own_numbers, seen_more, few_out, is_out, moved, within_bounds}

-- one ticket more is out
drawn_ticket : (low n t : ℕ) → once_within low (low + n) t + times t ((low + n) ∷ []) ≡ once_within low (low + (n + 1)) t
drawn_ticket low n t = dite (ℕ_discrete (low + n) t)
    (λ e. let a = times_yes t (low + n) e in let b = within_above low (low + n) t (omega arith) in let c = within_yes low (low + (n + 1)) t (omega arith) (omega arith) in omega arith)
    (λ e. let a = times_no t (low + n) e in dite (dec_le low t)
    (λ l. dite (dec_le (low + n) t)
    (λ m. let b = within_above low (low + n) t m in let c = within_above low (low + (n + 1)) t (omega arith) in omega arith)
    (λ m. let b = within_yes low (low + n) t l (omega arith) in let c = within_yes low (low + (n + 1)) t l (omega arith) in omega arith))
    (λ l. let b = within_below low (low + n) t (omega arith) in let c = within_below low (low + (n + 1)) t (omega arith) in omega arith))

-- the first ticket is no longer out
passed_ticket : (low n t : ℕ) → once_within low (low + (n + 1)) t ≡ once_within (low + 1) ((low + 1) + n) t + times t (low ∷ [])
passed_ticket low n t = dite (ℕ_discrete low t)
    (λ e. let a = times_yes t low e in let b = within_below (low + 1) ((low + 1) + n) t (omega arith) in let c = within_yes low (low + (n + 1)) t (omega arith) (omega arith) in omega arith)
    (λ e. let a = times_no t low e in dite (dec_le (low + 1) t)
    (λ l. dite (dec_le ((low + 1) + n) t)
    (λ m. let b = within_above (low + 1) ((low + 1) + n) t m in let c = within_above low (low + (n + 1)) t (omega arith) in omega arith)
    (λ m. let b = within_yes (low + 1) ((low + 1) + n) t l (omega arith) in let c = within_yes low (low + (n + 1)) t (omega arith) (omega arith) in omega arith))
    (λ l. let b = within_below (low + 1) ((low + 1) + n) t (omega arith) in let c = within_below low (low + (n + 1)) t (omega arith) in omega arith))

-- a word that a ticket or an entry raises by one
raised : (w n : ℕ) → w ≡ n % 2 ^ 64 → (w + 1) % 2 ^ 64 ≡ (n + 1) % 2 ^ 64
raised w n e = ap (λ (x : ℕ). (x + 1) % 2 ^ 64) e ∙ mod-add-mod n (2 ^ 64) 1

next_waits : (t : Turn) (found : ℕ) → is_next t found ≡ true → (ticket : ℕ) × (t ≡ waits ticket) × (found ≡ ticket % 2 ^ 64)
next_waits outside found e = cc
next_waits (waits k) found e = (k, refl, eqb-true found (k % 2 ^ 64) e)
next_waits (served k) found e = cc

-- who has the turn has the ticket that is served
turns_ticket : (history seen : List Entry) (t : Turn) → IsInTurn history seen t → turns_of t ≤ times (length history) (tickets_of t)
turns_ticket history seen outside i = omega arith
turns_ticket history seen (waits k) i = omega arith
turns_ticket history seen (served k) i = let e = times_yes (length history) k i.0 in omega arith

turns_seen : (history seen : List Entry) (t : Turn) (k : ℕ) → t ≡ served k → IsInTurn history seen t → (k ≡ length history) × (seen ≡ history)
turns_seen history seen t k e i = subst (IsInTurn history seen) e i

-- a view that has seen the whole history and does not have the turn, or has it
in_turn_whole : (history seen : List Entry) (t : Turn) → IsInTurn history seen t → IsInTurn history history t
in_turn_whole history seen outside i = tt
in_turn_whole history seen (waits k) i = tt
in_turn_whole history seen (served k) i = (i.0, refl)

-- others stay where the history grows by an entry of a number that is not theirs
in_turn_none : (history seen : List Entry) (t : Turn) (more : List Entry) → turns_of t ≡ 0 → IsInTurn more seen t
in_turn_none history seen outside more z = tt
in_turn_none history seen (waits k) more z = tt
in_turn_none history seen (served k) more z = absurd (omega arith)

-- the history is legal from the state that the view has
pub legal_from : (opening mine : CacheState) (history : List Entry) (current : CacheState) → mine ≡ opening → LeadsTo opening history current → IsLegal mine history
legal_from opening mine history current same legal = (current, subst (λ (x : CacheState). LeadsTo x history current) (sym same) legal)

within_most : (low high n : ℕ) → once_within low high n ≤ 1
within_most low high n = elim (leb low n && ltb n high) as (λ b. cond b 1 0 ≤ 1) [ true ↦ omega arith | false ↦ omega arith ]

turns_fit : (opening : CacheState) (history : List Entry) (next : ℕ) (u : View) (k : Kind) → Fits opening history next k u → turns_of u.turn ≤ times (length history) (tickets_of u.turn)
turns_fit opening history next u numbered f = turns_ticket history u.seen u.turn f.turn
turns_fit opening history next u copy f = let z = ap turns_of f.turn in omega arith
turns_fit opening history next u spent f = let z = ap (λ (x : View). turns_of x.turn) f in omega arith

-- A view with none of this entry's number fits the history with the entry, too.
fits_further : (opening : CacheState) (history : List Entry) (next : ℕ) (u : View) (k : Kind) (entry : Entry) → Fits opening history next k u → times entry.seat (numbers_by k u) ≡ 0 → turns_of u.turn ≡ 0
    → Fits opening (history ++ entry ∷ []) next k u
fits_further opening history next u numbered entry f absent away =
    let apart = not_head entry.seat u.number (map (λ x. x.0) u.ended) absent in record {
      place = record { opening = f.place.opening; seen = begins_more u.seen history (entry ∷ []) f.place.seen; told = f.place.told };
      own = (calls_other u.number history entry apart ∙ f.own.0, f.own.1);
      ended = all_apart (Keeps history u.seen) (Keeps (history ++ entry ∷ []) u.seen) entry.seat u.ended (omega arith)
          (λ kept other k. (calls_other kept.0 history entry other ∙ k.0, k.1)) f.ended;
      register = f.register;
      turn = in_turn_none history u.seen u.turn (history ++ entry ∷ []) away;
    }
fits_further opening history next u copy entry f absent away = record {
  place = record { opening = f.place.opening; seen = begins_more u.seen history (entry ∷ []) f.place.seen; told = f.place.told };
  mine = f.mine;
  ended = f.ended;
  register = f.register;
  turn = f.turn;
}
fits_further opening history next u spent entry f absent away = f

times_head : (n x : ℕ) (xs : List ℕ) → x ≡ n → times n (x ∷ xs) ≡ 1 + times n xs
times_head n x xs e = let a = times_yes n x e in let b = times-append n (x ∷ []) xs in omega arith

module _ {E : Type 0} (state_of : E → CacheState) where
  abbrev R : State E View → Type 0
  R = IsKept state_of

  pub draws : (slots id : ℕ) (me : Me E View) → me.0.kind ≡ numbered → me.0.turn ≡ outside
      → Allows R slots id me 0 (λ n. (n + 1) % 2 ^ 64) (drawn (step slots 0 1 0 none) me)
  draws slots id me kind free s r len at small =
      let v : View = me.0 in let k : ℕ = length r.history + r.waiting in let w : View = waiting_as v k in
      let n = as_numbered r.opening r.history r.next v kind (r.fits id v at) in
      let none_out : length (tickets_of v.turn) ≡ 0 = ap (λ (t : Turn). length (tickets_of t)) free in
      let here : Fits r.opening r.history r.next w.kind w = of_numbered r.opening r.history r.next v.kind w kind
      (record { place = record { opening = n.place.opening; seen = n.place.seen; told = n.place.told }; own = n.own; ended = n.ended; register = n.register; turn = tt }) in
      let two = r.words in let first = r.ticket in
      let same : total (λ u. turns_of u.turn) (set s.views id w) ≡ total (λ u. turns_of u.turn) s.views
      = total_same (λ u. turns_of u.turn) s.views id v w at (sym (ap turns_of free)) in (
        w,
        keeps,
        tt,
        moved state_of s r id v w at (numbers_kept v.kind v w refl refl) refl r.history r.current (r.waiting + 1) (set s.words 0 ((get_or s.words 0 0 + 1) % 2 ^ 64)) s.homes
            r.legal here (λ j u _ there. r.fits j u there) r.known
            (length-set s.words 0 _ ∙ two)
            (get_or-set_same s.words 0 _ 0 (omega arith) ∙ (raised (get_or s.words 0 0) k first ∙ ap (λ (x : ℕ). x % 2 ^ 64) (omega arith)))
            (get_or-set_other s.words 0 1 _ 0 (λ e. omega arith) ∙ r.serving)
            (omega arith)
            (λ t. let d = drawn_ticket (length r.history) r.waiting t in let z = ap (λ (x : Turn). times t (tickets_of x)) free in omega arith)
            (subst (λ (c : ℕ). IsSlot state_of r.current c s.homes) (sym same) r.slot),
        (k, first, refl, record { seen = begins_itself v.seen; told = n.place.told; own = λ _. (n.own.1, n.own.1) }),
      )

  -- a view that has now seen the whole history, with a turn that fits
  sees_whole : (s : State E View) (r : R s) (v : View) (t : Turn) → v.kind ≡ numbered → IsNumbered r.opening r.history r.next v → IsInTurn r.history r.history t
      → Fits r.opening r.history r.next v.kind (record v { seen = r.history; turn = t })
  sees_whole s r v t kind n turn = of_numbered r.opening r.history r.next v.kind (record v { seen = r.history; turn = t }) kind
      (record {
        place = record { opening = n.place.opening; seen = begins_itself r.history; told = begins_trans v.told v.seen r.history n.place.told n.place.seen };
        own = (n.own.0, n.own.0);
        ended = all_keep (Keeps r.history v.seen) (Keeps r.history r.history) v.ended (λ kept k. (k.0, k.0)) n.ended;
        register = n.register;
        turn = turn;
      })

  -- nobody has the turn while the ticket that is served waits
  none_in_turn : (s : State E View) (r : R s) (id : ℕ) (v : View) → get_elem? s.views id ≡ some v → v.turn ≡ waits (length r.history) → total (λ u. turns_of u.turn) s.views ≡ 0
  none_in_turn s r id v at mine =
      let l : ℕ = length r.history in
      let z : turns_of v.turn ≡ 0 = ap turns_of mine in
      let o : times l (tickets_of v.turn) ≡ 1 = ap (λ (t : Turn). times l (tickets_of t)) mine ∙ times_yes l l refl in
      let below = total_below (λ u. turns_of u.turn) (λ u. times l (tickets_of u.turn)) s.views id v 1 at (omega arith)
      (λ j u there. turns_fit r.opening r.history r.next u u.kind (r.fits j u there)) in
      let all = r.tickets l in
      let most = within_most l (l + r.waiting) l in
      omega arith

  -- with the words as they were
  pub loaded : (s : State E View) (r : R s) (id : ℕ) (v w : View) → get_elem? s.views id ≡ some v → numbers_of w ≡ numbers_of v → w.register ≡ v.register → (homes : List (Option E))
      → Fits r.opening r.history r.next w.kind w → length (tickets_of w.turn) ≡ length (tickets_of v.turn) → ((t : ℕ) → times t (tickets_of w.turn) ≡ times t (tickets_of v.turn))
      → IsSlot state_of r.current (total (λ u. turns_of u.turn) (set s.views id w)) homes
      → R record { words = set s.words 1 (get_or s.words 1 0); homes = homes; views = set s.views id w }
  loaded s r id v w at numbers register homes here length_is each slot =
      subst (λ (words : List ℕ). R record { words = words; homes = homes; views = set s.views id w }) (sym (set-get_or s.words 1 0))
      (moved state_of s r id v w at numbers register r.history r.current r.waiting s.words homes r.legal here (λ j u _ there. r.fits j u there) r.known
      r.words r.ticket r.serving (omega arith) (λ t. let e = each t in omega arith) slot)

  abbrev Looks : Me E View → List Entry → Me E View → Bool → Type 0
  Looks before history after b =
      MatchBool b ((executor : E) × (after ≡ (served_as before.0 history, (0, executor) ∷ [])) × LeadsTo before.0.opening history (state_of executor)) (after ≡ (seen_as before.0 history, before.1))

  looks_by : (slots id : ℕ) (me : Me E View) → me.0.kind ≡ numbered → me.1 ≡ [] → (s : State E View) (r : R s) → get_elem? s.views id ≡ some me.0
      → (b : Bool) → is_next me.0.turn (get_or s.words 1 0) ≡ b
      → (w : View) × (a : Act E) × Valid s.homes me.1 a × R (stepped s 1 (get_or s.words 1 0) id me.1 w a)
      × looked state_of (step slots 1 0 0 none) me (get_or s.words 1 0) (w, carried_after me.1 a)
  looks_by slots id me kind free s r at false is =
      let v : View = me.0 in let w : View = seen_as v r.history in
      let n = as_numbered r.opening r.history r.next v kind (r.fits id v at) in (
        w,
        keeps,
        tt,
        loaded s r id v w at (numbers_kept v.kind v w refl refl) refl s.homes
            (sees_whole s r v v.turn kind n (in_turn_whole r.history v.seen v.turn n.turn)) refl (λ t. refl)
            (subst (λ (c : ℕ). IsSlot state_of r.current c s.homes) (sym (total_same (λ u. turns_of u.turn) s.views id v w at refl)) r.slot),
        (r.history, seen_more r.opening r.history r.next v n, legal_from r.opening v.opening r.history r.current n.place.opening r.legal, subst (Looks me r.history (w, me.1)) (sym is) refl),
      )
  looks_by slots id me kind free s r at true is =
      let v : View = me.0 in let w : View = served_as v r.history in
      let n = as_numbered r.opening r.history r.next v kind (r.fits id v at) in
      let t = next_waits v.turn (get_or s.words 1 0) is in
      let out = is_out state_of s r id v t.0 at (let o = ap (λ (x : Turn). times t.0 (tickets_of x)) t.1 in let y = times_yes t.0 t.0 refl in omega arith) in
      let few = few_out state_of s r in
      let same : length r.history ≡ t.0 = one_turn (length r.history) t.0 (2 ^ 64) out.0 (omega arith) (sym r.serving ∙ t.2) in
      let mine : v.turn ≡ waits (length r.history) = t.1 ∙ ap waits (sym same) in
      let turn : w.turn ≡ served (length r.history) = ap its_turn mine in
      let none_yet = none_in_turn s r id v at mine in
      let slot : IsSlot state_of r.current 0 s.homes = subst (λ (c : ℕ). IsSlot state_of r.current c s.homes) none_yet r.slot in
      let one : total (λ u. turns_of u.turn) (set s.views id w) ≡ 1
      = (let e = total_set (λ u. turns_of u.turn) s.views id v w at in let a = ap turns_of turn in let b = ap turns_of mine in omega arith) in
      let homes : set s.homes 0 none ≡ none ∷ [] = ap (λ (h : List (Option E)). set h 0 none) slot.1 in
      let tickets : tickets_of w.turn ≡ tickets_of v.turn = ap tickets_of turn ∙ sym (ap tickets_of mine) in (
        w,
        takes 0 slot.0,
        ap (λ (h : List (Option E)). get_elem? h 0) slot.1,
        loaded s r id v w at (numbers_kept v.kind v w refl refl) refl (set s.homes 0 none)
            (sees_whole s r v (its_turn v.turn) kind n (subst (IsInTurn r.history r.history) (sym turn) (refl, refl)))
            (ap length tickets) (λ x. ap (times x) tickets)
            (subst (λ (c : ℕ). IsSlot state_of r.current c (set s.homes 0 none)) (sym one) homes),
        (
          r.history,
          seen_more r.opening r.history r.next v n,
          legal_from r.opening v.opening r.history r.current n.place.opening r.legal,
          subst (Looks me r.history (w, (0, slot.0) ∷ me.1)) (sym is)
              (slot.0, (λ i. (w, (0, slot.0) ∷ free i)), subst (λ (x : CacheState). LeadsTo x r.history (state_of slot.0)) (sym n.place.opening) (subst (LeadsTo r.opening r.history) (sym slot.2) r.legal)),
        ),
      )

  pub looks : (slots id : ℕ) (me : Me E View) → me.0.kind ≡ numbered → me.1 ≡ []
      → Allows R slots id me 1 (λ n. n) (looked state_of (step slots 1 0 0 none) me)
  looks slots id me kind free s r len at small = looks_by slots id me kind free s r at (is_next me.0.turn (get_or s.words 1 0)) refl

  slot_out : (current : CacheState) (n : ℕ) (homes : List (Option E)) → 1 ≤ n → IsSlot state_of current n homes → (n ≡ 1) × (homes ≡ none ∷ [])
  slot_out current zero homes one slot = absurd (omega arith)
  slot_out current (suc zero) homes one slot = (refl, slot)
  slot_out current (suc (suc n)) homes one slot = absurd slot

  -- the number is with this view alone
  pub its_number : (s : State E View) (r : R s) (id : ℕ) (v : View) → get_elem? s.views id ≡ some v → v.kind ≡ numbered
      → (v.number < r.next) × (times v.number (map (λ x. x.0) v.ended) ≡ 0)
      × ((j : ℕ) (u : View) → j ≢ id → get_elem? s.views j ≡ some u → times v.number (numbers_of u) ≡ 0)
  its_number s r id v at kind =
      let m : ℕ = v.number in
      let own = ap (times m) (own_numbers v kind) in let head = times_head m m (map (λ x. x.0) v.ended) refl in
      let all = total_at (λ u. times m (numbers_of u)) s.views id v at in let is = r.once m in let most = within_most 0 r.next m in (
        (within_bounds 0 r.next m (omega arith)).1,
        omega arith,
        (λ j u apart there. let two = total_two (λ x. times m (numbers_of x)) s.views id j v u at there apart in omega arith),
      )

  -- the view of the seat that has the turn, after its call
  has_called : (s : State E View) (r : R s) (id : ℕ) (v : View) (entry : Entry) → get_elem? s.views id ≡ some v → v.kind ≡ numbered → entry.seat ≡ v.number → v.seen ≡ r.history
      → IsNumbered r.opening r.history r.next v → IsNumbered r.opening (r.history ++ entry ∷ []) r.next (passed_as v entry)
  has_called s r id v entry at kind seat whole n =
      let more : List Entry = entry ∷ [] in
      let apart : times entry.seat (map (λ x. x.0) v.ended) ≡ 0 = ap (λ (m : ℕ). times m (map (λ x. x.0) v.ended)) seat ∙ (its_number s r id v at kind).1 in record {
        place = record {
          opening = n.place.opening;
          seen = subst (λ (h : List Entry). Begins (v.seen ++ more) (h ++ more)) whole (begins_itself (v.seen ++ more));
          told = begins_more v.told v.seen more n.place.told;
        };
        own = (
          calls_more v.number r.history entry seat ∙ ap (λ (l : List Entry). l ++ more) n.own.0,
          calls_more v.number v.seen entry seat ∙ ap (λ (l : List Entry). l ++ more) n.own.1,
        );
        ended = all_apart (Keeps r.history v.seen) (Keeps (r.history ++ more) (v.seen ++ more)) entry.seat v.ended apart
            (λ kept other k. (calls_other kept.0 r.history entry other ∙ k.0, calls_other kept.0 v.seen entry other ∙ k.1)) n.ended;
        register = n.register;
        turn = tt;
      }

  pub passes : (slots id : ℕ) (me : Me E View) (entry : Entry) (ticket : ℕ) → me.0.kind ≡ numbered → me.0.turn ≡ served ticket → entry.seat ≡ me.0.number
      → HoldsAfter state_of (me.0.seen ++ entry ∷ []) me → Allows R slots id me 1 (λ n. (n + 1) % 2 ^ 64) (passed entry (step slots 1 1 0 none) me)
  passes slots id me entry ticket kind turn seat held s r len at small =
      let v : View = me.0 in let w : View = passed_as v entry in let more : List Entry = entry ∷ [] in let l : ℕ = length r.history in let left : ℕ = r.waiting - 1 in
      let n = as_numbered r.opening r.history r.next v kind (r.fits id v at) in
      let its = turns_seen r.history v.seen v.turn ticket turn n.turn in
      let tickets : tickets_of v.turn ≡ l ∷ [] = ap tickets_of turn ∙ ap (λ (k : ℕ). k ∷ []) its.0 in
      let first = ap (times l) tickets ∙ times_yes l l refl in
      let out = is_out state_of s r id v l at (omega arith) in
      let longer : length (r.history ++ more) ≡ l + 1 = length-append r.history more in
      let number = its_number s r id v at kind in
      let turns : turns_of v.turn ≡ 1 = ap turns_of turn in
      let some_turn = total_at (λ u. turns_of u.turn) s.views id v at in
      let slot = slot_out r.current (total (λ u. turns_of u.turn) s.views) s.homes (omega arith) r.slot in
      let no_turn : total (λ u. turns_of u.turn) (set s.views id w) ≡ 0 = (let e = total_set (λ u. turns_of u.turn) s.views id v w at in let one = slot.0 in omega arith) in
      let homes : homes_after s.homes me.1 gives ≡ some held.0 ∷ [] = λ i. put_back (slot.1 i) (held.1 i) in (
        w,
        gives,
        tt,
        moved state_of s r id v w at (numbers_kept v.kind v w refl refl) refl (r.history ++ more) (state_of held.0) left (set s.words 1 ((get_or s.words 1 0 + 1) % 2 ^ 64)) (homes_after s.homes me.1 gives)
            (subst (λ (x : CacheState). LeadsTo x (r.history ++ more) (state_of held.0)) n.place.opening (subst (λ (h : List Entry). LeadsTo v.opening (h ++ more) (state_of held.0)) its.1 held.2))
            (of_numbered r.opening (r.history ++ more) r.next v.kind w kind (has_called s r id v entry at kind seat its.1 n))
            (λ j u apart there. fits_further r.opening r.history r.next u u.kind entry (r.fits j u there)
            (ap (λ (m : ℕ). times m (numbers_of u)) seat ∙ number.2 j u apart there)
            (let two = total_two (λ x. turns_of x.turn) s.views id j v u at there apart in let one = slot.0 in omega arith))
            (λ m above. calls_other m r.history entry (λ e. let a = number.0 in let b = seat in omega arith) ∙ r.known m above)
            (length-set s.words 1 _ ∙ r.words)
            (get_or-set_other s.words 1 0 _ 0 (λ e. omega arith) ∙ (r.ticket ∙ ap (λ (x : ℕ). x % 2 ^ 64) (omega arith)))
            (get_or-set_same s.words 1 _ 0 (let two = r.words in omega arith) ∙ (raised (get_or s.words 1 0) l r.serving ∙ ap (λ (x : ℕ). x % 2 ^ 64) (sym longer)))
            (let one = ap length tickets in omega arith)
            (λ t. let p = passed_ticket l left t in let o = ap (times t) tickets in
            let a : left + 1 ≡ r.waiting = omega arith in
            let b = ap (λ (x : ℕ). once_within l (l + x) t) a in
            let c = ap (λ (x : ℕ). once_within x (x + left) t) longer in omega arith)
            (subst (λ (c : ℕ). IsSlot state_of (state_of held.0) c (homes_after s.homes me.1 gives)) (sym no_turn) (held.0, homes, refl)),
        ((λ i. (w, rest (held.1 i))), calls_more v.number v.seen entry seat ∙ ap (λ (x : List Entry). x ++ more) n.own.1),
      )
