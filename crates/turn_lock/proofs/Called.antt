-- What the moves of one call come to, in the words of the contract.
use Rattle.std.proofs.Common.{◌≡◌, ℕ, List, [], ◌∷◌, ◌++◌, sym, ap, ◌∙◌, subst}
use Rattle.arc_core.specs.CacheState.{CacheState}
use Rattle.arc_core.specs.History.{Entry}
use Rattle.arc_core.specs.PlainRequest.{PlainRequest}
use Rattle.arc_core.specs.declared.replies.Reply.{Reply}
use Rattle.atomic_table.specs.Seated.{TableId}
use Rattle.atomic_table.specs.Table.{Me}
use Rattle.turn_lock.specs.Calls.{calls_of, LeadsTo, IsLegal}
use Rattle.turn_lock.specs.View.{numbered, served, View}
use Rattle.turn_lock.specs.Moves.{SeesMore, passed_as, HasTurn, HoldsAfter}
use Rattle.turn_lock.specs.Seats.{SeatView, seat_view, entry_of, entry_by, IsCalled}
use Rattle.turn_lock.proofs.Histories.{calls_rest}

module _ {E : Type 0} (state_of : E → CacheState) (session second : ℕ) (request : PlainRequest) (reply : Reply) where
  abbrev by : View → Entry
  by v = entry_by v session second request reply

  abbrev in_turn : View → List Entry → ℕ → View
  in_turn v history ticket = record v { seen = history; turn = served ticket }

  pub held_at : (u w : View) (now : Me E View) → w ≡ u → HoldsAfter state_of (u.seen ++ by u ∷ []) now → HoldsAfter state_of (w.seen ++ by w ∷ []) now
  held_at u w now e held = subst (λ (x : View). HoldsAfter state_of (x.seen ++ by x ∷ []) now) (sym e) held

  -- in the words of the view before the call, with the history that was seen at the turn
  from_view : (lock : TableId) (v : View) (history : List Entry) (ticket : ℕ) (after : View) (now : Me E View) → v.kind ≡ numbered → SeesMore v history
      → HoldsAfter state_of (history ++ by v ∷ []) now → now.0 ≡ in_turn v history ticket → after ≡ passed_as (in_turn v history ticket) (by v)
      → calls_of v.number (history ++ by v ∷ []) ≡ v.mine ++ by v ∷ []
      → IsCalled (seat_view lock v) (by v) (seat_view lock after)
  from_view lock v history ticket after now kind sees held view passed calls =
      let between = sees.seen.0 in let whole = sees.seen.1 in let own = sees.own kind in record {
        between = between;
        others = calls_rest v.number v.seen between v.mine own.0 (ap (calls_of v.number) (sym whole) ∙ own.1);
        seat = ap (seat_view lock) passed
            ∙ ap (λ (h : List Entry). record (seat_view lock v) { seen = h ++ by v ∷ []; mine = v.mine ++ by v ∷ [] }) whole;
        legal = subst (λ (h : List Entry). IsLegal v.opening (h ++ by v ∷ [])) whole
            (state_of held.0, subst (λ (w : View). LeadsTo w.opening (history ++ by v ∷ []) (state_of held.0)) view held.2);
        own = subst (λ (h : List Entry). calls_of v.number (h ++ by v ∷ []) ≡ v.mine ++ by v ∷ []) whole calls;
      }

  pub called : (old : SeatView) (lock last : TableId) (v : View) (turn step pass : Me E View) → seat_view lock v ≡ old → last ≡ lock → v.kind ≡ numbered → HasTurn state_of v turn
      → step.0 ≡ turn.0 → HoldsAfter state_of (turn.0.seen ++ by turn.0 ∷ []) step → pass ≡ (passed_as step.0 (by step.0), [])
      → calls_of step.0.number (step.0.seen ++ by step.0 ∷ []) ≡ step.0.mine ++ by step.0 ∷ []
      → IsCalled old (entry_of old.number session second request reply) (seat_view last pass.0)
  called old lock last v turn step pass is same kind t view held passed calls =
      let w : View = in_turn v t.history t.ticket in
      let at_turn : turn.0 ≡ w = ap (λ (m : Me E View). m.0) t.holds in
      let at_step : step.0 ≡ w = view ∙ at_turn in
      let after : pass.0 ≡ passed_as w (by w) = ap (λ (m : Me E View). m.0) passed ∙ ap (λ (u : View). passed_as u (by u)) at_step in
      subst (λ (o : SeatView). IsCalled o (entry_of o.number session second request reply) (seat_view last pass.0)) is
      (subst (λ (l : TableId). IsCalled (seat_view lock v) (by v) (seat_view l pass.0)) (sym same)
      (from_view lock v t.history t.ticket pass.0 step kind t.sees
      (subst (λ (u : View). HoldsAfter state_of (u.seen ++ by u ∷ []) step) at_turn held)
      at_step
      after
      (subst (λ (u : View). calls_of u.number (u.seen ++ by u ∷ []) ≡ u.mine ++ by u ∷ []) at_step calls)))
