-- Plans with collections that are carried out.
use Rattle.std.proofs.Common.{◌≡◌, ℕ, Bool, true, false, cond, max, List, [], ◌∷◌, length, Some, option_map, sym, ap, ◌∙◌, subst}
use Rattle.arc_core.specs.declared.attributes.Attrs.{Attrs}
use Rattle.arc_core.specs.declared.replies.Reply.{Reply}
use Rattle.arc_core.specs.CacheState.{CacheState}
use Rattle.arc_core.specs.Item.{Item, Contents, collection}
use Rattle.arc_core.specs.Places.{Places, found, without}
use Rattle.arc_core.specs.Plan.{Plan, put, take_away}
use Rattle.arc_core.specs.Step.{carried_out, ended, put_behind}
use Rattle.byte_account.proofs.FoundLaws.{found-without}
use Rattle.coll_items.specs.Changing.{taken_out}
use Rattle.coll_items.specs.Holding.{Held}
use Rattle.coll_items.specs.Planning.{IsPlan, SuitsPlan, plan_of_removal, reply_of}
use Rattle.coll_items.specs.declared.changes.Removal.{Removal}
use Rattle.coll_items.specs.declared.planned.Planned.{Planned}
use Rattle.coll_items.specs.declared.planned.Planned.TheVariants as planned
use Rattle.coll_items.specs.declared.planned.Removed.{Removed}
use Rattle.cache_engine.specs.Acting.{start_at}
use Rattle.cache_engine.specs.Asking.{SuitsHeld}
use Rattle.cache_engine.specs.Changes.{FitsUnder}
use Rattle.cache_engine.specs.Starting.{IsLiveUnder, IsPutInStep, LeavesInStep, RemovesInStep}
use Rattle.cache_engine.proofs.Finishing.{start_live, used_absent}

-- a removal that is planned fits what the key holds
pub fits_under : (key : List ℕ) (plan : Planned) (places : Places Item) (removal : Removal) (drop_empty : Bool) (said : Removed)
    → SuitsHeld key plan places → plan ≡ planned.Removes removal drop_empty said → FitsUnder key removal places
fits_under key plan places removal drop_empty said suits is =
    record { attrs = suits.held.attrs; contents = suits.held.contents; held = suits.there; fits = subst (SuitsPlan suits.held) is suits.suits }

module _ (old : CacheState) (now : ℕ) (key : List ℕ) (live : IsLiveUnder (max old.latest now) key old.places) where
  abbrev here : CacheState
  here = record old { latest = max old.latest now }

  live_start : start_at old now key ≡ here
  live_start = ap (λ p. record old { latest = max old.latest now; places = p }) (start_live (max old.latest now) key old.places live.item live.held live.lives)

  -- the key's item was taken away
  taken_away : (answer : Reply) (new : CacheState) → new ≡ record here { places = without key old.places }
      → ended (start_at old now key) (key ∷ []) (carried_out (start_at old now key) (take_away key answer)) ≡ (new, answer)
  taken_away answer new e =
      let gone = record here { places = without key old.places } in
      ap (λ s. ended s (key ∷ []) (carried_out s (take_away key answer))) live_start
      ∙ ap (λ p. (record gone { places = p }, answer)) (used_absent (max old.latest now) key (without key old.places) (found-without key old.places))
      ∙ ap (λ s. (s, answer)) (sym e)

  -- an item was put
  was_put : (item : Item) (counter : ℕ) (answer : Reply) (places : Places Item) (new : CacheState) → IsPutInStep (max old.latest now) key item old.places places
      → new ≡ record here { counter = counter; places = places }
      → ended (start_at old now key) (key ∷ []) (carried_out (start_at old now key) (put key item counter answer)) ≡ (new, answer)
  was_put item counter answer places new done e =
      let start = start_at old now key in
      ap (λ o. ended start (key ∷ []) (option_map (λ gone. (record start { counter = counter; places = put_behind (length gone) key item start.places }, answer)) o)) done.fits
      ∙ ap (λ p. (record here { counter = counter; places = p }, answer)) (sym done.places)
      ∙ ap (λ s. (s, answer)) (sym e)

  by_dropped : (attrs : Attrs) (left : Contents) (said : Removed) (dropped : Bool) (places : Places Item) (new : CacheState)
      → LeavesInStep (max old.latest now) key (collection attrs left) old.places places dropped → new ≡ record here { places = places }
      → ended (start_at old now key) (key ∷ [])
      (carried_out (start_at old now key) (cond dropped (take_away key (reply_of said true)) (put key (collection attrs left) old.counter (reply_of said false))))
      ≡ (new, reply_of said dropped)
  by_dropped attrs left said true places new leaves e = taken_away (reply_of said true) new (e ∙ ap (λ p. record here { places = p }) leaves)
  by_dropped attrs left said false places new leaves e = was_put (collection attrs left) old.counter (reply_of said false) places new leaves e

  -- elements were taken out as it was planned
  pub removal_carried : (held : Held) (plan : Plan) (wanted : Planned) (removal : Removal) (drop_empty : Bool) (said : Removed) (dropped : Bool) (places : Places Item) (new : CacheState)
      (answer : Reply) → found key old.places ≡ Some (collection held.attrs held.contents) → IsPlan old.counter key held plan wanted → wanted ≡ planned.Removes removal drop_empty said
      → RemovesInStep (max old.latest now) key removal drop_empty old.places places dropped → new ≡ record here { places = places } → answer ≡ reply_of said dropped
      → ended (start_at old now key) (key ∷ []) (carried_out (start_at old now key) plan) ≡ (new, answer)
  removal_carried held plan wanted removal drop_empty said dropped places new answer there is_plan is removes e says =
      let removed = removes held.attrs held.contents there in
      let left = taken_out removal held.contents in
      let as_planned : plan ≡ plan_of_removal old.counter key held.attrs left drop_empty said = subst (IsPlan old.counter key held plan) is is_plan in
      ap (λ p. ended (start_at old now key) (key ∷ []) (carried_out (start_at old now key) p))
      (as_planned ∙ ap (λ b. cond b (take_away key (reply_of said true)) (put key (collection held.attrs left) old.counter (reply_of said false))) (sym removed.0))
      ∙ by_dropped held.attrs left said dropped places new removed.1 e
      ∙ ap (λ a. (new, a)) (sym says)
