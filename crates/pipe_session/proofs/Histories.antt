-- One history after another, and one unit after others.
use Rattle.std.proofs.Common.{ℕ, List, [], ◌∷◌, ◌++◌, Option, ap, ◌∙◌, refl, subst, append_assoc}
use Rattle.arc_core.specs.declared.outside.Need.{Need}
use Rattle.arc_core.specs.History.{Entry}
use Rattle.arc_core.specs.Framing.{Whole, BeginsWith, IsSpan}
use Rattle.pipe_session.specs.Desks.{Serves, TicksThrough}
use Rattle.pipe_session.specs.Units.{IsFinal, NoneFinal, OnlyLastFinal}

pub serves_on : {D : Type 0} (answers : D → Entry → D → Type 0) (old middle new : D) (first next : List Entry) → Serves answers old first middle → Serves answers middle next new → Serves answers old (first ++ next) new
serves_on answers old middle new [] next is then = subst (λ s. Serves answers s next new) is then
serves_on answers old middle new (entry ∷ first) next is then = (is.0, is.1, serves_on answers is.0 middle new first next is.2 then)

pub ticks_on : (old middle new : Option (List ℕ)) (first next : List Entry) → TicksThrough old first middle → TicksThrough middle next new → TicksThrough old (first ++ next) new
ticks_on old middle new [] next is then = subst (λ s. TicksThrough s next new) is then
ticks_on old middle new (entry ∷ first) next is then = (is.0, is.1, ticks_on is.0 middle new first next is.2 then)

-- a unit behind others, whose span is the front of their tail
pub spans_on : (needs : List ℕ → Need) (bytes : List ℕ) (units : List Whole) (unit : Whole) (span rest : List ℕ) → BeginsWith needs bytes units (span ++ rest) → IsSpan needs span unit → BeginsWith needs bytes (units ++ unit ∷ []) rest
spans_on needs bytes [] unit span rest is next = (span, rest, is, next, refl)
spans_on needs bytes (first ∷ units) unit span rest is next = (is.0, is.1, is.2, is.3, spans_on needs is.1 units unit span rest is.4 next)

-- bytes behind the tail
pub spans_more : (needs : List ℕ → Need) (bytes : List ℕ) (units : List Whole) (tail more : List ℕ) → BeginsWith needs bytes units tail → BeginsWith needs (bytes ++ more) units (tail ++ more)
spans_more needs bytes [] tail more is = ap (λ b. b ++ more) is
spans_more needs bytes (unit ∷ units) tail more is = (is.0, is.1 ++ more, ap (λ b. b ++ more) is.2 ∙ append_assoc is.0 is.1 more, is.3, spans_more needs is.1 units tail more is.4)

-- a unit that is not final behind others that are not
pub none_on : (units : List Whole) (unit : Whole) → NoneFinal units → (IsFinal unit → ⊥) → NoneFinal (units ++ unit ∷ [])
none_on [] unit is next = (next, tt)
none_on (first ∷ units) unit is next = (is.0, none_on units unit is.1 next)

-- a unit behind others that are not final may be final
pub only_last : (units : List Whole) (unit : Whole) → NoneFinal units → OnlyLastFinal (units ++ unit ∷ [])
only_last [] unit is = tt
only_last (first ∷ []) unit is = (is.0, tt)
only_last (first ∷ second ∷ units) unit is = (is.0, only_last (second ∷ units) unit is.1)

-- where none is final, none but the last is
pub only_of_none : (units : List Whole) → NoneFinal units → OnlyLastFinal units
only_of_none [] is = tt
only_of_none (first ∷ []) is = tt
only_of_none (first ∷ second ∷ units) is = (is.0, only_of_none (second ∷ units) is.1)
