-- What acts on collections leave, as steps of the machine.
use Rattle.std.proofs.Common.{◌≡◌, ◌⊎◌, ℕ, Bool, true, false, cond, max, List, [], ◌∷◌, Option, Some, None, inl, inr, refl, sym, ap, ◌∙◌, subst}
use Rattle.std.specs.Prelude.{IfSome}
use Rattle.arc_core.specs.declared.attributes.Attrs.{Attrs}
use Rattle.arc_core.specs.declared.attributes.CreateArgs.{CreateArgs}
use Rattle.arc_core.specs.declared.collections.Kind.{Kind}
use Rattle.arc_core.specs.declared.items.Expiry.{Expiry}
use Rattle.arc_core.specs.declared.replies.Reply.{Reply}
use Rattle.arc_core.specs.declared.replies.Reply.TheVariants as reply
use Rattle.arc_core.specs.declared.replies.Word.TheVariants as word
use Rattle.arc_core.specs.CacheState.{CacheState}
use Rattle.arc_core.specs.CollectionRequests.{asked_of, empty_of}
use Rattle.arc_core.specs.CollectionRows.{Outcome, stays, becomes, goes, attrs_of}
use Rattle.arc_core.specs.CollectionStep.{plan_of_absent, plan_of_asked, plan_of_create, plan_of_held, plan_of_made}
use Rattle.arc_core.specs.History.{CollMayWantMemory}
use Rattle.arc_core.specs.Item.{Item, Contents, key_value, collection, expiry_of, has_expired}
use Rattle.arc_core.specs.Places.{found}
use Rattle.arc_core.specs.Plan.{Plan, answer_only, put}
use Rattle.arc_core.specs.PlainRequest.{PlainAct, CollAct}
use Rattle.arc_core.specs.PlainRequest as act
use Rattle.arc_core.specs.Step.{carried_out, ended}
use Rattle.coll_items.specs.Changing.{inserted}
use Rattle.coll_items.specs.Holding.{Held}
use Rattle.coll_items.specs.Planning.{IsPlan, Plans, TakesNoMemory}
use Rattle.coll_items.specs.declared.changes.Insertion.{Insertion}
use Rattle.coll_items.specs.declared.planned.Planned.{Planned}
use Rattle.coll_items.specs.declared.planned.Planned.TheVariants as planned
use Rattle.cache_engine.specs.Acting.{start_at, Acts, Answers, Finishes}
use Rattle.cache_engine.specs.Asking.{IsOn, asked_by, WantsMemory, CarriesOut}
use Rattle.cache_engine.specs.Starting.{live_of}
use Rattle.cache_engine.proofs.Finishing.{found_live}

-- what makes a collection reads no elements, and may want memory

makes_no_read : (asked : CollAct) (made : CreateArgs × Contents) → (asked_of asked).makes ≡ Some made → (asked_of asked).reads ≡ false
makes_no_read (act.list_insert index value create) made e = refl
makes_no_read (act.list_delete range drop_empty) made e = refl
makes_no_read (act.list_get range taking) made e = cc
makes_no_read (act.set_insert value create) made e = refl
makes_no_read (act.set_delete value drop_empty) made e = refl
makes_no_read (act.set_exist value) made e = cc
makes_no_read (act.set_get number taking) made e = cc
makes_no_read (act.map_insert field value create) made e = refl
makes_no_read (act.map_update field value) made e = refl
makes_no_read (act.map_upsert field value create) made e = refl
makes_no_read (act.map_delete fields drop_empty) made e = refl
makes_no_read (act.map_get fields taking) made e = cc

makes_may_want : (asked : CollAct) (made : CreateArgs × Contents) → (asked_of asked).makes ≡ Some made → CollMayWantMemory asked
makes_may_want (act.list_insert index value create) made e = tt
makes_may_want (act.list_delete range drop_empty) made e = cc
makes_may_want (act.list_get range taking) made e = tt
makes_may_want (act.set_insert value create) made e = tt
makes_may_want (act.set_delete value drop_empty) made e = cc
makes_may_want (act.set_exist value) made e = cc
makes_may_want (act.set_get number taking) made e = tt
makes_may_want (act.map_insert field value create) made e = tt
makes_may_want (act.map_update field value) made e = tt
makes_may_want (act.map_upsert field value create) made e = tt
makes_may_want (act.map_delete fields drop_empty) made e = cc
makes_may_want (act.map_get fields taking) made e = tt

-- what the plan for an empty collection says of one that is made

made_answers : (counter : ℕ) (key : List ℕ) (attrs : Attrs) (o : Option Outcome) (said : Reply) → plan_of_held counter key false attrs o ≡ answer_only said
    → plan_of_made counter key attrs o ≡ answer_only said
made_answers counter key attrs None said e = e
made_answers counter key attrs (Some (stays answer)) said e = e
made_answers counter key attrs (Some (becomes contents answer)) said e = cc
made_answers counter key attrs (Some (goes answer)) said e = cc

made_puts : (counter : ℕ) (key : List ℕ) (attrs : Attrs) (o : Option Outcome) (contents : Contents) (said : Reply)
    → plan_of_held counter key false attrs o ≡ put key (collection attrs contents) counter said
    → plan_of_made counter key attrs o ≡ put key (collection attrs contents) counter (reply.Word word.CreatedStored)
made_puts counter key attrs None contents said e = cc
made_puts counter key attrs (Some (stays answer)) contents said e = cc
made_puts counter key attrs (Some (becomes left answer)) contents said e = cc
made_puts counter key attrs (Some (goes answer)) contents said e = cc

-- what is live is found

found_by : (late : Bool) (held item : Item) → cond late None (Some held) ≡ Some item → Some held ≡ Some item
found_by true held item e = cc
found_by false held item e = e

pub live_found : (latest : ℕ) (o : Option Item) (item : Item) → live_of latest o ≡ Some item → o ≡ Some item
live_found latest None item e = cc
live_found latest (Some held) item e = found_by (has_expired latest (expiry_of held)) held item e

module _ (old : CacheState) (now : ℕ) (key : List ℕ) (new : CacheState) (answer : Reply) where
  -- the plan is carried out by the machine's rules
  abbrev Carries : Plan → Type 0
  Carries plan = ended (start_at old now key) (key ∷ []) (carried_out (start_at old now key) plan) ≡ (new, answer)

  -- what an act asks, by what is found where its step starts

  found_as : (o : Option Item) → live_of (max old.latest now) (found key old.places) ≡ o → found key (start_at old now key).places ≡ o
  found_as o e = found_live (max old.latest now) key old.places ∙ e

  done : (asked : CollAct) (o : Option Item) (plan : Plan) → live_of (max old.latest now) (found key old.places) ≡ o
      → plan_of_asked (max old.latest now) old.counter key (asked_of asked) o ≡ plan → Carries plan → Acts old now (act.on_collection key asked) answer new
  done asked o plan is as_asked carries =
      inl (ap (λ p. ended (start_at old now key) (key ∷ []) (carried_out (start_at old now key) p))
      (ap (plan_of_asked (max old.latest now) old.counter key (asked_of asked)) (found_as o is) ∙ as_asked) ∙ carries)

  -- an act on a collection is one under this key
  on : (P : PlainAct → Type 0) (a : PlainAct) → IsOn key a → ((asked : CollAct) → asked_by a ≡ Some asked → P (act.on_collection key asked)) → P a
  on P (act.on_collection named asked) is each = subst (λ k. P (act.on_collection k asked)) (sym is) (each asked refl)
  on P (act.store verb named flags exptime value) is each = absurd is
  on P (act.get keys unique) is each = absurd is
  on P (act.count up named delta initial) is each = absurd is
  on P (act.delete named) is each = absurd is
  on P (act.touch named exptime) is each = absurd is
  on P act.flush_all is each = absurd is
  on P act.version is each = absurd is
  on P (act.make kind named args) is each = absurd is

  of_asked : (P : CollAct → Type 0) (a : PlainAct) (asked : CollAct) → asked_by a ≡ Some asked → IfSome (asked_by a) P → P asked
  of_asked P a asked is fact = subst (λ o. IfSome o P) is fact

  module _ (absent : live_of (max old.latest now) (found key old.places) ≡ None) where
    -- no item is held, and none is made
    pub not_found : (a : PlainAct) → IsOn key a → IfSome (asked_by a) (λ asked. (asked_of asked).makes ≡ None) → Answers old now key (reply.Word word.NotFound) answer new
        → Acts old now a answer new
    not_found a is none says = on (λ b. Acts old now b answer new) a is (λ asked at. done asked None (answer_only (reply.Word word.NotFound)) absent (as_asked asked at) says)
      where
        as_asked : (asked : CollAct) → asked_by a ≡ Some asked
            → plan_of_asked (max old.latest now) old.counter key (asked_of asked) None ≡ answer_only (reply.Word word.NotFound)
        as_asked asked at = rw (of_asked (λ asked. (asked_of asked).makes ≡ None) a asked at none) refl

    module _ (kind : Kind) (args : CreateArgs) (held : Held) (attrs_are : held.attrs ≡ attrs_of (max old.latest now) args) (contents_are : held.contents ≡ empty_of kind)
        (a : PlainAct) (is : IsOn key a) (makes : IfSome (asked_by a) (λ asked. (asked_of asked).makes ≡ Some (args, empty_of kind))) (wanted : Planned)
        (plans : IfSome (asked_by a) (λ asked. Plans (asked_of asked).reads (asked_of asked).row held wanted)) where
      abbrev row_of : CollAct → Option Outcome
      row_of asked = (asked_of asked).row held.attrs held.contents

      -- the plan is that of a collection which is made
      plan_is : (asked : CollAct) → (asked_of asked).makes ≡ Some (args, empty_of kind)
          → plan_of_asked (max old.latest now) old.counter key (asked_of asked) None ≡ plan_of_made old.counter key held.attrs (row_of asked)
      plan_is asked makes_it =
          ap (plan_of_absent (max old.latest now) old.counter key (asked_of asked).row) makes_it
          ∙ (λ i. plan_of_made old.counter key (sym attrs_are i) ((asked_of asked).row (sym attrs_are i) (sym contents_are i)))

      -- what was planned with it
      planned_for : (asked : CollAct) → asked_by a ≡ Some asked → (asked_of asked).makes ≡ Some (args, empty_of kind)
          → IsPlan old.counter key held (plan_of_held old.counter key false held.attrs (row_of asked)) wanted
      planned_for asked at makes_it =
          subst (λ reads. IsPlan old.counter key held (plan_of_held old.counter key reads held.attrs (row_of asked)) wanted) (makes_no_read asked (args, empty_of kind) makes_it)
          (of_asked (λ asked. Plans (asked_of asked).reads (asked_of asked).row held wanted) a asked at plans old.counter key)

      made_it : (asked : CollAct) → asked_by a ≡ Some asked → (asked_of asked).makes ≡ Some (args, empty_of kind)
      made_it asked at = of_asked (λ asked. (asked_of asked).makes ≡ Some (args, empty_of kind)) a asked at makes

      pub stays_unmade : (said : Reply) → wanted ≡ planned.Stays said → Answers old now key said answer new → Acts old now a answer new
      stays_unmade said wants says = on (λ b. Acts old now b answer new) a is (λ asked at.
          done asked None (answer_only said) absent
          (plan_is asked (made_it asked at) ∙ made_answers old.counter key held.attrs (row_of asked) said
          (subst (IsPlan old.counter key held (plan_of_held old.counter key false held.attrs (row_of asked))) wants (planned_for asked at (made_it asked at))))
          says)

      pub made_with : (element : Insertion) (said : Reply) (made : Held) → wanted ≡ planned.Puts element said → made.attrs ≡ held.attrs
          → made.contents ≡ inserted element held.contents
          → Finishes old now key (put key (collection made.attrs made.contents) old.counter (reply.Word word.CreatedStored)) answer new → Acts old now a answer new
      made_with element said made wants same with_it finishes = on (λ b. Acts old now b answer new) a is (λ asked at. each asked at as_planned)
        where
          the_plan : Plan
          the_plan = put key (collection held.attrs (inserted element held.contents)) old.counter (reply.Word word.CreatedStored)

          as_planned : Finishes old now key the_plan answer new
          as_planned = subst (λ p. Finishes old now key p answer new) (λ i. put key (collection (same i) (with_it i)) old.counter (reply.Word word.CreatedStored)) finishes

          each : (asked : CollAct) → asked_by a ≡ Some asked → Finishes old now key the_plan answer new → Acts old now (act.on_collection key asked) answer new
          each asked at (inl e) =
              done asked None the_plan absent
              (plan_is asked (made_it asked at) ∙ made_puts old.counter key held.attrs (row_of asked) (inserted element held.contents) said
              (subst (IsPlan old.counter key held (plan_of_held old.counter key false held.attrs (row_of asked))) wants (planned_for asked at (made_it asked at))))
              e
          each asked at (inr e) = inr (makes_may_want asked (args, empty_of kind) (made_it asked at), e.0, e.1)

  -- a key-value item is held
  pub other_kind : (a : PlainAct) (flags : ℕ) (expiry : Expiry) (unique : ℕ) (value : List ℕ) → IsOn key a
      → live_of (max old.latest now) (found key old.places) ≡ Some (key_value flags expiry unique value)
      → Answers old now key (reply.Word word.TypeMismatch) answer new → Acts old now a answer new
  other_kind a flags expiry unique value is held says =
      on (λ b. Acts old now b answer new) a is (λ asked at. done asked (Some (key_value flags expiry unique value)) (answer_only (reply.Word word.TypeMismatch)) held refl says)

  -- a collection is held, and what was planned with it was carried out
  module _ (held : Held) (there : live_of (max old.latest now) (found key old.places) ≡ Some (collection held.attrs held.contents)) (wanted : Planned)
      (carries : (plan : Plan) → IsPlan old.counter key held plan wanted → CarriesOut (WantsMemory wanted) old now key plan answer new) where
    pub changed : (a : PlainAct) → IsOn key a → IfSome (asked_by a) (λ asked. Plans (asked_of asked).reads (asked_of asked).row held wanted)
        → IfSome (asked_by a) (λ asked. CollMayWantMemory asked ⊎ TakesNoMemory wanted) → Acts old now a answer new
    changed a is plans memory = on (λ b. Acts old now b answer new) a is (λ asked at. each asked
        (of_asked (λ asked. CollMayWantMemory asked ⊎ TakesNoMemory wanted) a asked at memory)
        (carries (plan_for asked) (of_asked (λ asked. Plans (asked_of asked).reads (asked_of asked).row held wanted) a asked at plans old.counter key)))
      where
        plan_for : CollAct → Plan
        plan_for asked = plan_of_held old.counter key (asked_of asked).reads held.attrs ((asked_of asked).row held.attrs held.contents)

        may_want : (asked : CollAct) → CollMayWantMemory asked ⊎ TakesNoMemory wanted → WantsMemory wanted → CollMayWantMemory asked
        may_want asked (inl may) wants = may
        may_want asked (inr none) wants = absurd (wants none)

        each : (asked : CollAct) → CollMayWantMemory asked ⊎ TakesNoMemory wanted → CarriesOut (WantsMemory wanted) old now key (plan_for asked) answer new
            → Acts old now (act.on_collection key asked) answer new
        each asked memory (inl e) = done asked (Some (collection held.attrs held.contents)) (plan_for asked) there refl e
        each asked memory (inr e) = inr (may_want asked memory e.0, e.1, e.2)

  -- an empty collection is made, or an item is held
  pub exists : (kind : Kind) (args : CreateArgs) (item : Item) → live_of (max old.latest now) (found key old.places) ≡ Some item
      → Answers old now key (reply.Word word.Exists) answer new → Acts old now (act.make kind key args) answer new
  exists kind args item held says =
      inl (ap (λ o. ended (start_at old now key) (key ∷ []) (carried_out (start_at old now key) (plan_of_create (max old.latest now) old.counter key args (empty_of kind) o)))
      (found_as (Some item) held) ∙ says)

  pub was_made : (kind : Kind) (args : CreateArgs) (made : Held) → live_of (max old.latest now) (found key old.places) ≡ None → made.attrs ≡ attrs_of (max old.latest now) args
      → made.contents ≡ empty_of kind → Finishes old now key (put key (collection made.attrs made.contents) old.counter (reply.Word word.Created)) answer new
      → Acts old now (act.make kind key args) answer new
  was_made kind args made absent attrs_are contents_are finishes = by_finish as_planned
    where
      the_plan : Plan
      the_plan = put key (collection (attrs_of (max old.latest now) args) (empty_of kind)) old.counter (reply.Word word.Created)

      as_planned : Finishes old now key the_plan answer new
      as_planned = subst (λ p. Finishes old now key p answer new) (λ i. put key (collection (attrs_are i) (contents_are i)) old.counter (reply.Word word.Created)) finishes

      by_finish : Finishes old now key the_plan answer new → Acts old now (act.make kind key args) answer new
      by_finish (inl e) =
          inl (ap (λ o. ended (start_at old now key) (key ∷ []) (carried_out (start_at old now key) (plan_of_create (max old.latest now) old.counter key args (empty_of kind) o)))
          (found_as None absent) ∙ e)
      by_finish (inr e) = inr (tt, e.0, e.1)
