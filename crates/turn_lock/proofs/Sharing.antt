-- A view is split, joined or recalled: the rule is kept.
use Rattle.std.proofs.Common.{◌≡◌, ◌≢◌, ℕ, ◌+◌, ◌≤◌, List, [], ◌∷◌, ◌++◌, map, length, set, sym, refl, ap, ◌∙◌, subst, ⊎_elim, length-append, arith, Option, Some, None, IfSome, IsSomeAnd, option_map}
use Rattle.std.specs.List.{AllByRecursion}
use mathlib.Core.Logic.{dite}
use mathlib.Core.List.{map-append}
use native.Mathlib.Decide.{dec_le, ℕ_discrete}
use mathlib.Core.Option.{none, some}
use lib.ListN.{get_elem?}
use Rattle.arc_core.specs.CacheState.{CacheState}
use Rattle.arc_core.specs.History.{Entry}
use Rattle.atomic_table.specs.Table.{State, Me, step, keeps, Splits, Joins, Allows}
use Rattle.atomic_table.proofs.Lists.{at_snoc, set_else}
use Rattle.turn_lock.specs.Calls.{Begins, calls_of, LeadsTo, IsLegal}
use Rattle.turn_lock.specs.View.{Kind, numbered, copy, spent, Turn, outside, View, spent_view, numbers_by, numbers_of, tickets_of, turns_of, registers_of, times, total, longer}
use Rattle.turn_lock.specs.Rule.{most_numbers, Keeps, IsInTurn, IsNumbered, Fits, once_within, IsSlot, IsKept}
use Rattle.turn_lock.specs.Moves.{split_left, split_right, next_number, copied, handed_over, first_register, joined_with, recalled}
use Rattle.turn_lock.proofs.Totals.{total_set, total_snoc, total_same, total_two, times-append, times_yes, times_no, within_yes, within_above}
use Rattle.turn_lock.proofs.Histories.{begins_itself, shorter_begins, longer_begins, first_begins, second_begins, calls_between, calls_before, all_keep, all_append, each_place}
use Rattle.turn_lock.proofs.Keeping.{as_numbered, of_numbered, numbers_kept, own_numbers, all_fit}
use Rattle.turn_lock.proofs.Calling.{loaded, legal_from}

-- one number more is given
pub once_more : (n t : ℕ) → once_within 0 n t + times t (n ∷ []) ≡ once_within 0 (n + 1) t
once_more n t = dite (ℕ_discrete n t)
    (λ e. let a = times_yes t n e in let b = within_above 0 n t (omega arith) in let c = within_yes 0 (n + 1) t (omega arith) (omega arith) in omega arith)
    (λ e. let a = times_no t n e in dite (dec_le n t)
    (λ l. let b = within_above 0 n t l in let c = within_above 0 (n + 1) t (omega arith) in omega arith)
    (λ l. let b = within_yes 0 n t (omega arith) (omega arith) in let c = within_yes 0 (n + 1) t (omega arith) (omega arith) in omega arith))

no_register : (r : Option ℕ) → registers_of r ≡ 0 → r ≡ None
no_register None z = refl
no_register (Some n) z = absurd (omega arith)

-- a view without the register fits whatever the next number is
fits_next : (opening : CacheState) (history : List Entry) (next later : ℕ) (u : View) (k : Kind) → registers_of u.register ≡ 0 → Fits opening history next k u → Fits opening history later k u
fits_next opening history next later u numbered free f = record {
  place = f.place;
  own = f.own;
  ended = f.ended;
  register = subst (λ (r : Option ℕ). IfSome r (λ n. n ≡ later)) (sym (no_register u.register free)) tt;
  turn = f.turn;
}
fits_next opening history next later u copy free f = f
fits_next opening history next later u spent free f = f

-- what a view hands over stands in what it has seen
handed : (opening : CacheState) (history : List Entry) (next : ℕ) (w : View) (k : Kind) → Fits opening history next k w
    → Begins w.seen history × AllByRecursion (Keeps history w.seen) (handed_over k w) × IfSome w.register (λ n. n ≡ next)
handed opening history next w numbered f = (f.place.seen, (f.own, f.ended), f.register)
handed opening history next w copy f = (f.place.seen, tt, subst (λ (r : Option ℕ). IfSome r (λ n. n ≡ next)) (sym f.register) tt)
handed opening history next w spent f = subst (λ (u : View). Begins u.seen history × Unit {0} × IfSome u.register (λ n. n ≡ next)) (sym f) ((history, refl), tt, tt)

handed_numbers : (k : Kind) (w : View) → numbers_by k w ≡ map (λ x. x.0) (handed_over k w)
handed_numbers numbered w = refl
handed_numbers copy w = refl
handed_numbers spent w = refl

register_joined : (a b : Option ℕ) (next : ℕ) → IfSome a (λ n. n ≡ next) → IfSome b (λ n. n ≡ next) → IfSome (first_register a b) (λ n. n ≡ next)
register_joined None b next f g = g
register_joined (Some n) b next f g = f

registers_joined : (a b : Option ℕ) → registers_of a + registers_of b ≤ 1 → registers_of (first_register a b) ≡ registers_of a + registers_of b
registers_joined None b h = omega arith
registers_joined (Some n) None h = refl
registers_joined (Some n) (Some m) h = absurd (omega arith)

-- both views together count as the joined one, and a spent one counts nothing
total_joined : (f : View → ℕ) (views : List View) (id other : ℕ) (v w both : View) → get_elem? views id ≡ some v → get_elem? (set views id both) other ≡ some w
    → f both ≡ f v + f w → f spent_view ≡ 0 → total f (set (set views id both) other spent_view) ≡ total f views
total_joined f views id other v w both at there sum zero_spent =
    let a = total_set f views id v both at in let b = total_set f (set views id both) other w spent_view there in omega arith

-- a beginning of a legal history is legal
seen_legal : (opening mine : CacheState) (seen history : List Entry) (current : CacheState) → mine ≡ opening → Begins seen history → LeadsTo opening history current → IsLegal mine seen
seen_legal opening mine seen history current same front legal =
    let m = each_place opening seen front.0 current (subst (λ (h : List Entry). LeadsTo opening h current) front.1 legal) in
    legal_from opening mine seen m.0 same m.1

module _ {E : Type 0} (state_of : E → CacheState) where
  abbrev R : State E View → Type 0
  R = IsKept state_of

  -- One view becomes two, which have its numbers, its register and its turn, and the second may have new numbers.
  parted : (s : State E View) (r : R s) (id : ℕ) (v left right : View) → get_elem? s.views id ≡ some v → (next : ℕ) → next ≤ most_numbers
      → Fits r.opening r.history next left.kind left → Fits r.opening r.history next right.kind right
      → ((j : ℕ) (u : View) → j ≢ id → get_elem? s.views j ≡ some u → Fits r.opening r.history next u.kind u)
      → (length (numbers_of left) + length (numbers_of right)) + r.next ≡ next + length (numbers_of v)
      → ((m : ℕ) → (times m (numbers_of left) + times m (numbers_of right)) + once_within 0 r.next m ≡ once_within 0 next m + times m (numbers_of v))
      → ((m : ℕ) → next ≤ m → calls_of m r.history ≡ [])
      → registers_of left.register + registers_of right.register ≡ registers_of v.register
      → left.turn ≡ v.turn → right.turn ≡ outside
      → R record { words = s.words; homes = s.homes; views = set s.views id left ++ right ∷ [] }
  parted s r id v left right at next few fits_left fits_right others count once known register same free =
      let grown : (f : View → ℕ) → total f (set s.views id left ++ right ∷ []) + f v ≡ total f s.views + (f left + f right)
      = λ f. let a = total_set f s.views id v left at in let b = total_snoc f (set s.views id left) right in omega arith in
      let turns : total (λ u. turns_of u.turn) (set s.views id left ++ right ∷ []) ≡ total (λ u. turns_of u.turn) s.views
      = (let g = grown (λ u. turns_of u.turn) in let a = ap turns_of same in let b = ap turns_of free in omega arith) in record {
        opening = r.opening;
        history = r.history;
        current = r.current;
        next = next;
        waiting = r.waiting;
        legal = r.legal;
        fits = λ j u there. ⊎_elim (λ old. all_fit (λ (x : View). Fits r.opening r.history next x.kind x) s.views id left fits_left others j u old)
            (λ new. subst (λ (x : View). Fits r.opening r.history next x.kind x) new fits_right) (at_snoc (set s.views id left) right u j there);
        few = few;
        count = (let g = grown (λ u. length (numbers_of u)) in let c = r.count in omega arith);
        once = λ m. (let g = grown (λ u. times m (numbers_of u)) in let c = r.once m in let o = once m in omega arith);
        known = known;
        register = (let g = grown (λ u. registers_of u.register) in let c = r.register in omega arith);
        words = r.words;
        ticket = r.ticket;
        serving = r.serving;
        out = (let g = grown (λ u. length (tickets_of u.turn)) in let c = r.out in let a = ap (λ (t : Turn). length (tickets_of t)) same in let b = ap (λ (t : Turn). length (tickets_of t)) free in omega arith);
        tickets = λ t. (let g = grown (λ u. times t (tickets_of u.turn)) in let c = r.tickets t in let a = ap (λ (x : Turn). times t (tickets_of x)) same in let b = ap (λ (x : Turn). times t (tickets_of x)) free in omega arith);
        slot = subst (λ (c : ℕ). IsSlot state_of r.current c s.homes) (sym turns) r.slot;
      }

  pub splits : (id : ℕ) (v : View) (n : ℕ) → v.kind ≡ numbered → v.register ≡ Some n → n ≤ 4096 → Splits R id v (split_left v) (split_right v)
  splits id v n kind has few s r at =
      let f = as_numbered r.opening r.history r.next v kind (r.fits id v at) in
      let is : n ≡ r.next = subst (λ (x : Option ℕ). IfSome x (λ m. m ≡ r.next)) has f.register in
      let given : next_number v.register ≡ n = ap next_number has in
      let one = ap registers_of has in
      let fresh : calls_of (next_number v.register) r.history ≡ [] = r.known (next_number v.register) (omega arith) in
      let own = own_numbers v kind in let left_numbers = numbers_kept v.kind v (split_left v) refl refl in
      parted s r id v (split_left v) (split_right v) at (n + 1) (omega arith)
      (of_numbered r.opening r.history (n + 1) v.kind (split_left v) kind (record {
        place = record { opening = f.place.opening; seen = f.place.seen; told = f.place.told };
        own = f.own;
        ended = f.ended;
        register = subst (λ (x : Option ℕ). IfSome (option_map (λ m. m + 1) x) (λ m. m ≡ n + 1)) (sym has) refl;
        turn = f.turn;
      }))
      (record {
        place = record { opening = f.place.opening; seen = f.place.seen; told = begins_itself v.seen };
        own = (fresh, calls_before (next_number v.register) v.seen r.history f.place.seen fresh);
        ended = tt;
        register = tt;
        turn = tt;
      })
      (λ j u apart there. fits_next r.opening r.history r.next (n + 1) u u.kind
      (let two = total_two (λ x. registers_of x.register) s.views id j v u at there apart in let all = r.register in omega arith)
      (r.fits j u there))
      (let l = ap length left_numbers in omega arith)
      (λ m. let l = ap (times m) left_numbers in let o = once_more n m in let g = ap (λ (x : ℕ). times m (x ∷ [])) given in let w = ap (λ (x : ℕ). once_within 0 x m) is in omega arith)
      (λ m above. r.known m (omega arith))
      (let a = ap (λ (x : Option ℕ). registers_of (option_map (λ m. m + 1) x)) has in omega arith)
      refl
      refl

  pub copies : (id : ℕ) (v : View) → v.kind ≡ numbered → Splits R id v v (copied v)
  copies id v kind s r at =
      let f = as_numbered r.opening r.history r.next v kind (r.fits id v at) in
      parted s r id v v (copied v) at r.next r.few (r.fits id v at)
      (record {
        place = record { opening = f.place.opening; seen = f.place.seen; told = begins_itself v.seen };
        mine = refl;
        ended = refl;
        register = refl;
        turn = refl;
      })
      (λ j u _ there. r.fits j u there) (omega arith) (λ m. omega arith) r.known (omega arith) refl refl

  -- the joined view fits
  joined_fits : (s : State E View) (r : R s) (v w : View) → v.kind ≡ numbered → v.turn ≡ outside → IsNumbered r.opening r.history r.next v → Fits r.opening r.history r.next w.kind w
      → IsNumbered r.opening r.history r.next (joined_with v w)
  joined_fits s r v w kind free f g =
      let h : List Entry = r.history in let l : List Entry = longer v.seen w.seen in
      let other = handed r.opening h r.next w w.kind g in
      let both = shorter_begins v.seen w.seen h f.place.seen other.0 in
      let whole = longer_begins v.seen w.seen h f.place.seen other.0 in
      let from_own : (kept : ℕ × List Entry) → Keeps h v.seen kept → Keeps h l kept
      = λ kept k. (k.0, calls_between kept.0 v.seen l h kept.1 (first_begins v.seen w.seen both) whole k.1 k.0) in
      let from_other : (kept : ℕ × List Entry) → Keeps h w.seen kept → Keeps h l kept
      = λ kept k. (k.0, calls_between kept.0 w.seen l h kept.1 (second_begins v.seen w.seen both) whole k.1 k.0) in record {
        place = record { opening = f.place.opening; seen = whole; told = both };
        own = from_own (v.number, v.mine) f.own;
        ended = all_append (Keeps h l) v.ended (handed_over w.kind w) (all_keep (Keeps h v.seen) (Keeps h l) v.ended from_own f.ended)
            (all_keep (Keeps h w.seen) (Keeps h l) (handed_over w.kind w) from_other other.1);
        register = register_joined v.register w.register r.next f.register other.2;
        turn = subst (IsInTurn h l) (sym free) tt;
      }

  joined_numbers : (v w : View) → v.kind ≡ numbered → numbers_of (joined_with v w) ≡ numbers_of v ++ numbers_of w
  joined_numbers v w kind =
      let a : numbers_of (joined_with v w) ≡ v.number ∷ map (λ x. x.0) (v.ended ++ handed_over w.kind w) = own_numbers (joined_with v w) kind in
      let b = map-append (λ (x : ℕ × List Entry). x.0) v.ended (handed_over w.kind w) in
      a ∙ ((λ i. v.number ∷ b i) ∙ (λ i. sym (own_numbers v kind) i ++ sym (handed_numbers w.kind w) i))

  pub some_and : (o : Option ℕ) (P : ℕ → Type 0) → IsSomeAnd o P → (n : ℕ) × (o ≡ Some n) × P n
  some_and None P h = absurd h
  some_and (Some n) P h = (n, refl, h)

  pub splits_register : (id : ℕ) (v : View) → v.kind ≡ numbered → IsSomeAnd v.register (λ n. n ≤ 4096) → Splits R id v (split_left v) (split_right v)
  splits_register id v kind can = let n = some_and v.register (λ n. n ≤ 4096) can in splits id v n.0 kind n.1 n.2

  pub joins : (id : ℕ) (v : View) (other : ℕ) (w : View) → v.kind ≡ numbered → v.turn ≡ outside → w.turn ≡ outside → Joins R id v other w (joined_with v w) spent_view
  joins id v other w kind free away s r at apart there =
      let both : View = joined_with v w in
      let f = as_numbered r.opening r.history r.next v kind (r.fits id v at) in
      let old : get_elem? s.views other ≡ some w = sym (set_else s.views id other both apart) ∙ there in
      let g = r.fits other w old in
      let numbers = joined_numbers v w kind in
      let sums : (h : View → ℕ) → h both ≡ h v + h w → h spent_view ≡ 0 → total h (set (set s.views id both) other spent_view) ≡ total h s.views
      = λ h sum zero_spent. total_joined h s.views id other v w both at there sum zero_spent in
      let all = r.register in
      let two = total_two (λ x. registers_of x.register) s.views id other v w at old apart in
      let turns = sums (λ u. turns_of u.turn) (let a = ap turns_of away in omega arith) refl in record {
        opening = r.opening;
        history = r.history;
        current = r.current;
        next = r.next;
        waiting = r.waiting;
        legal = r.legal;
        fits = all_fit (λ (x : View). Fits r.opening r.history r.next x.kind x) (set s.views id both) other spent_view refl
            (λ j u _ here. all_fit (λ (x : View). Fits r.opening r.history r.next x.kind x) s.views id both
            (of_numbered r.opening r.history r.next v.kind both kind (joined_fits s r v w kind free f g)) (λ i x _ it. r.fits i x it) j u here);
        few = r.few;
        count = sums (λ u. length (numbers_of u)) (ap length numbers ∙ length-append (numbers_of v) (numbers_of w)) refl ∙ r.count;
        once = λ m. sums (λ u. times m (numbers_of u)) (ap (times m) numbers ∙ times-append m (numbers_of v) (numbers_of w)) refl ∙ r.once m;
        known = r.known;
        register = sums (λ u. registers_of u.register) (registers_joined v.register w.register (omega arith)) refl ∙ all;
        words = r.words;
        ticket = r.ticket;
        serving = r.serving;
        out = sums (λ u. length (tickets_of u.turn)) (let a = ap (λ (t : Turn). length (tickets_of t)) away in omega arith) refl ∙ r.out;
        tickets = λ t. sums (λ u. times t (tickets_of u.turn)) (let a = ap (λ (x : Turn). times t (tickets_of x)) away in omega arith) refl ∙ r.tickets t;
        slot = subst (λ (c : ℕ). IsSlot state_of r.current c s.homes) (sym turns) r.slot;
      }

  pub recalls : (slots id : ℕ) (me : Me E View) → me.0.kind ≡ numbered → Allows R slots id me 1 (λ n. n) (recalled (step slots 1 0 0 none) me)
  recalls slots id me kind s r len at small =
      let v : View = me.0 in
      let f = as_numbered r.opening r.history r.next v kind (r.fits id v at) in (
        v,
        keeps,
        tt,
        loaded state_of s r id v v at refl refl s.homes (r.fits id v at) refl (λ t. refl)
            (subst (λ (c : ℕ). IsSlot state_of r.current c s.homes) (sym (total_same (λ u. turns_of u.turn) s.views id v v at refl)) r.slot),
        (refl, f.place.told, seen_legal r.opening v.opening v.seen r.history r.current f.place.opening f.place.seen r.legal),
      )
