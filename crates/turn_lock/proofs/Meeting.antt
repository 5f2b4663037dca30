-- What a join and a meeting come to, in the words of the contracts.
use Rattle.std.proofs.Common.{◌≡◌, ℕ, Bool, false, MatchBool, List, [], ◌∷◌, sym, refl, ap, ◌∙◌, subst, append-nil, Option, Some, None}
use Rattle.arc_core.specs.CacheState.{CacheState}
use Rattle.arc_core.specs.History.{Entry}
use Rattle.atomic_table.specs.Seated.{TableId}
use mathlib.Core.Option.{none}
use Rattle.atomic_table.specs.Table.{Me, step}
use Rattle.turn_lock.specs.Calls.{Begins, calls_of, LeadsTo, IsLegal}
use Rattle.turn_lock.specs.View.{numbered, outside, Turn, View, longer, shorter}
use Rattle.turn_lock.specs.Moves.{is_next, served_as, seen_as, copied, first_register, joined_with, looked}
use Rattle.turn_lock.specs.Seats.{SeatView, seat_view, IsMet}
use Rattle.turn_lock.proofs.Histories.{begins_trans, first_begins, second_begins}

kept_register : (r : Option ℕ) → first_register r None ≡ r
kept_register None = refl
kept_register (Some n) = refl

-- a view that took a copy in, and then saw this history
abbrev met_with : View → View → List Entry → View
met_with v u history = seen_as (joined_with v (copied u)) history

-- the same with what a copy leaves alone
abbrev only_seen : View → View → List Entry → View
only_seen v u history = record v { seen = history; told = shorter v.seen u.seen }

met_as : (lock : TableId) (v u : View) (history : List Entry) → seat_view lock (met_with v u history) ≡ record (seat_view lock v) { seen = history }
met_as lock v u history = λ i. record (seat_view lock v) { seen = history; ended = append-nil v.ended i; register = kept_register v.register i }

module _ {E : Type 0} (state_of : E → CacheState) where
  pub met : (old other : SeatView) (lock lock' last : TableId) (v u : View) (copy joined after : Me E View) (held : List (ℕ × E)) (found : ℕ) → seat_view lock v ≡ old → seat_view lock' u ≡ other → last ≡ lock
      → v.kind ≡ numbered → v.turn ≡ outside → copy ≡ (copied u, []) → joined ≡ (joined_with v copy.0, held) → looked state_of (step 0 0 0 0 none) joined found after → IsMet old other (seat_view last after.0)
  met old other lock lock' last v u copy joined after held found is is' same kind free c j l =
      let w : View = joined_with v (copied u) in
      let at : joined ≡ (w, held) = j ∙ (λ i. (joined_with v ((c i).0), held)) in
      let k = subst (λ (m : Me E View). looked state_of (step 0 0 0 0 none) m found after) at l in
      let history = k.0 in
      let stays : is_next v.turn found ≡ false = ap (λ (t : Turn). is_next t found) free in
      let now = subst (λ (b : Bool). MatchBool b ((executor : E) × (after ≡ (served_as w history, (0, executor) ∷ [])) × LeadsTo v.opening history (state_of executor)) (after ≡ (seen_as w history, held))) stays k.3 in
      let new : seat_view last after.0 ≡ record (seat_view lock v) { seen = history } = (λ i. seat_view (same i) ((now i).0)) ∙ met_as lock v u history in
      let view : seat_view last after.0 ≡ record old { seen = history } = new ∙ ap (λ (s : SeatView). record s { seen = history }) is in
      let seen : (seat_view last after.0).seen ≡ history = ap (λ (s : SeatView). s.seen) view in
      let told : Begins (shorter v.seen u.seen) (longer v.seen u.seen) = k.1.told in
      let one = begins_trans v.seen (longer v.seen u.seen) history (first_begins v.seen u.seen told) k.1.seen in
      let two = begins_trans u.seen (longer v.seen u.seen) history (second_begins v.seen u.seen told) k.1.seen in record {
        seat = view ∙ (λ i. record old { seen = sym seen i });
        own = subst (λ (s : SeatView). Begins s.seen (seat_view last after.0).seen) is (subst (Begins v.seen) (sym seen) one);
        other = subst (λ (s : SeatView). Begins s.seen (seat_view last after.0).seen) is' (subst (Begins u.seen) (sym seen) two);
        legal = subst (λ (s : SeatView). IsLegal s.opening (seat_view last after.0).seen) is (subst (IsLegal v.opening) (sym seen) k.2);
        calls = subst (λ (s : SeatView). calls_of s.number (seat_view last after.0).seen ≡ s.mine) is (subst (λ (h : List Entry). calls_of v.number h ≡ v.mine) (sym seen) (k.1.own kind).1);
      }
