-- How a clock goes on through the calls of several sessions.
use Rattle.std.proofs.Common.{◌≡◌, ◌∙◌, ℕ, List, [], ◌∷◌, ◌++◌, map, Option, Some, None, refl, sym, subst}
use Rattle.arc_core.specs.History.{Entry}
use Rattle.arc_core.specs.Outside.{Ticks}
use Rattle.pipe_session.specs.Desks.{TicksThrough}
use Rattle.event_port.specs.Running.{HasSecond, GoesOnTicking}

pub none_tick : (entries : List Entry) → TicksThrough None entries None
none_tick [] = refl
none_tick (entry ∷ entries) = (None, refl, none_tick entries)

-- the seconds of these entries, and then those that are to come
some_tick : (entries : List Entry) (second : ℕ) (seconds : List ℕ)
    → TicksThrough (Some (map (λ e. e.second) entries ++ second ∷ seconds)) entries (Some (second ∷ seconds))
some_tick [] second seconds = refl
some_tick (entry ∷ []) second seconds = (Some (second ∷ seconds), (refl, refl), refl)
some_tick (entry ∷ next ∷ entries) second seconds =
    (Some (map (λ e. e.second) (next ∷ entries) ++ second ∷ seconds), (refl, refl), some_tick (next ∷ entries) second seconds)

-- There is a clock that would have ticked so.
pub ticked_before : (entries : List Entry) (coming : Option (List ℕ)) → GoesOnTicking entries coming → (began : Option (List ℕ)) × TicksThrough began entries coming
ticked_before [] coming goes = (coming, refl)
ticked_before (entry ∷ entries) None goes = (None, none_tick (entry ∷ entries))
ticked_before (entry ∷ entries) (Some []) goes = absurd goes
ticked_before (entry ∷ entries) (Some (second ∷ seconds)) goes =
    (Some (map (λ e. e.second) (entry ∷ entries) ++ second ∷ seconds), some_tick (entry ∷ entries) second seconds)

tick_once : (coming : Option (List ℕ)) (second : ℕ) (one other : Option (List ℕ)) → Ticks coming second one → Ticks coming second other → one ≡ other
tick_once None second one other is is' = is ∙ sym is'
tick_once (Some []) second one other is is' = absurd is
tick_once (Some (s ∷ [])) second one other is is' = is.1 ∙ sym is'.1
tick_once (Some (s ∷ t ∷ later)) second one other is is' = is.1 ∙ sym is'.1

-- what ticked behind these
pub ticked_behind : (front back : List Entry) (began middle coming : Option (List ℕ)) → TicksThrough began front middle → TicksThrough began (front ++ back) coming
    → TicksThrough middle back coming
ticked_behind [] back began middle coming is whole = subst (λ m. TicksThrough m back coming) (sym is) whole
ticked_behind (entry ∷ front) back began middle coming (at, tick, is) (at', tick', whole) =
    ticked_behind front back at middle coming is (subst (λ m. TicksThrough m (front ++ back) coming) (tick_once began entry.second at' at tick' tick) whole)

pub ticks_on : (front back : List Entry) (began middle coming : Option (List ℕ)) → TicksThrough began front middle → TicksThrough middle back coming → TicksThrough began (front ++ back) coming
ticks_on [] back began middle coming is more = subst (λ m. TicksThrough m back coming) is more
ticks_on (entry ∷ front) back began middle coming (at, tick, is) more = (at, tick, ticks_on front back at middle coming is more)

tick_leaves : (coming : Option (List ℕ)) (second : ℕ) (coming' : Option (List ℕ)) → Ticks coming second coming' → HasSecond coming'
tick_leaves None second coming' is = subst HasSecond (sym is) tt
tick_leaves (Some []) second coming' is = absurd is
tick_leaves (Some (s ∷ [])) second coming' is = subst HasSecond (sym is.1) tt
tick_leaves (Some (s ∷ t ∷ later)) second coming' is = subst HasSecond (sym is.1) tt

-- a clock that has ticked goes on
pub has_second : (entry : Entry) (entries : List Entry) (began coming : Option (List ℕ)) → TicksThrough began (entry ∷ entries) coming → HasSecond coming
has_second entry [] began coming (at, tick, is) = subst HasSecond (sym is) (tick_leaves began entry.second at tick)
has_second entry (next ∷ entries) began coming (at, tick, is) = has_second next entries at coming is

pub goes_on : (told more : List Entry) (coming coming' : Option (List ℕ)) → GoesOnTicking told coming → TicksThrough coming more coming' → GoesOnTicking (told ++ more) coming'
goes_on [] [] coming coming' goes is = tt
goes_on [] (entry ∷ more) coming coming' goes is = has_second entry more coming coming' is
goes_on (entry ∷ told) [] coming coming' goes is = subst HasSecond (sym is) goes
goes_on (entry ∷ told) (first ∷ more) coming coming' goes is = has_second first more coming coming' is
