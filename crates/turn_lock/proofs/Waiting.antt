-- A seat that waits for its turn: one look after another.
use Rattle.std.proofs.Common.{◌≡◌, ◌≢◌, ℕ, ◌%◌, ◌^◌, Bool, true, false, MatchBool, List, [], ◌∷◌, sym, ap, ◌∙◌, subst, eq-eqb, ne_eqb}
use Rattle.arc_core.specs.CacheState.{CacheState}
use Rattle.arc_core.specs.History.{Entry}
use mathlib.Core.Option.{none}
use Rattle.atomic_table.specs.Table.{Me, Step, step}
use Rattle.turn_lock.specs.Calls.{LeadsTo}
use Rattle.turn_lock.specs.View.{waits, served, View}
use Rattle.turn_lock.specs.Moves.{SeesMore, waiting_as, is_next, drawn, looked, HasTurn}
use Rattle.turn_lock.proofs.Histories.{begins_trans}

-- It has drawn the ticket that this word tells, has seen some history, and is otherwise as it was.
pub record StillWaits {E : Type 0} (view : View) (word : ℕ) (now : Me E View) : Type 0 where
  pub history : List Entry
  pub ticket : ℕ
  pub sees : SeesMore view history
  pub is : word ≡ ticket % 2 ^ 64
  pub holds : now ≡ (record view { seen = history; turn = waits ticket }, [])

-- a view that has seen some history and waits
abbrev pub waiting_at : View → List Entry → ℕ → View
waiting_at view history ticket = record view { seen = history; turn = waits ticket }

module _ {E : Type 0} (state_of : E → CacheState) where
  -- a play here does not read its step
  abbrev any : Step E
  any = step 0 0 0 0 none

  pub starts_waiting : (before after : Me E View) (word : ℕ) → before.1 ≡ [] → drawn any before word after → StillWaits before.0 word after
  starts_waiting before after word free d = record {
    history = before.0.seen;
    ticket = d.0;
    sees = d.3;
    is = d.1;
    holds = d.2 ∙ (λ i. (waiting_as before.0 d.0, free i));
  }

  -- a look at a waiting view, in the words of the view before the draw
  look_at : (view : View) (word found : ℕ) (now after : Me E View) (w : StillWaits view word now) → looked state_of any now found after
      → looked state_of any (waiting_at view w.history w.ticket, []) found after
  look_at view word found now after w l = subst (λ (m : Me E View). looked state_of any m found after) w.holds l

  sees_on : (view : View) (history more : List Entry) (ticket : ℕ) → SeesMore view history → SeesMore (waiting_at view history ticket) more → SeesMore view more
  sees_on view history more ticket s t = record {
    seen = begins_trans view.seen history more s.seen t.seen;
    told = s.told;
    own = λ is. ((s.own is).0, (t.own is).1);
  }

  pub waits_on : (view : View) (word found : ℕ) (now after : Me E View) → StillWaits view word now → looked state_of any now found after → found ≢ word → StillWaits view word after
  waits_on view word found now after w l apart =
      let k = look_at view word found now after w l in
      let no : is_next (waits w.ticket) found ≡ false = ne_eqb found (w.ticket % 2 ^ 64) (λ e. apart (e ∙ sym w.is)) in record {
        history = k.0;
        ticket = w.ticket;
        sees = sees_on view w.history k.0 w.ticket w.sees k.1;
        is = w.is;
        holds = subst (λ (b : Bool). MatchBool b ((executor : E) × (after ≡ (record view { seen = k.0; turn = served w.ticket }, (0, executor) ∷ [])) × LeadsTo view.opening k.0 (state_of executor)) (after ≡ (waiting_at view k.0 w.ticket, []))) no k.3;
      }

  pub gets_turn : (view : View) (word found : ℕ) (now after : Me E View) → StillWaits view word now → looked state_of any now found after → found ≡ word → HasTurn state_of view after
  gets_turn view word found now after w l same =
      let k = look_at view word found now after w l in
      let yes : is_next (waits w.ticket) found ≡ true = eq-eqb found (w.ticket % 2 ^ 64) (same ∙ w.is) in
      let t = subst (λ (b : Bool). MatchBool b ((executor : E) × (after ≡ (record view { seen = k.0; turn = served w.ticket }, (0, executor) ∷ [])) × LeadsTo view.opening k.0 (state_of executor)) (after ≡ (waiting_at view k.0 w.ticket, []))) yes k.3 in record {
        history = k.0;
        ticket = w.ticket;
        executor = t.0;
        sees = sees_on view w.history k.0 w.ticket w.sees k.1;
        holds = t.1;
        leads = t.2;
      }

  pub waiting_kind : (view : View) (word : ℕ) (now : Me E View) → StillWaits view word now → now.0.kind ≡ view.kind
  waiting_kind view word now w = ap (λ (m : Me E View). m.0.kind) w.holds

  pub waiting_free : (view : View) (word : ℕ) (now : Me E View) → StillWaits view word now → now.1 ≡ []
  waiting_free view word now w = ap (λ (m : Me E View). m.1) w.holds
