-- What requests on collections ask, and what is left of the collection under a key, as the code has it.
use Rattle.std.specs.Prelude.{◌≡◌, ◌⊎◌, ℕ, List, [], ◌∷◌, Option, Some, None}
use Rattle.std.specs.Option.{option_map}
use Rattle.arc_core.specs.declared.attributes.CreateArgs.{CreateArgs}
use Rattle.arc_core.specs.declared.collections.Kind.{Kind}
use Rattle.arc_core.specs.declared.replies.Reply.{Reply}
use Rattle.arc_core.specs.declared.replies.Reply.TheVariants as reply
use Rattle.arc_core.specs.declared.replies.Word.TheVariants as word
use Rattle.arc_core.specs.CacheState.{CacheState}
use Rattle.arc_core.specs.CollectionRequests.{empty_of}
use Rattle.arc_core.specs.Item.{Contents, Item, collection}
use Rattle.arc_core.specs.Places.{Places, found}
use Rattle.arc_core.specs.Plan.{Plan}
use Rattle.arc_core.specs.PlainRequest.{PlainAct, CollAct, on_collection}
use Rattle.arc_core.specs.Step.{carried_out, ended}
use Rattle.coll_items.specs.Holding.{Held}
use Rattle.coll_items.specs.Planning.{SuitsPlan, TakesNoMemory}
use Rattle.coll_items.specs.declared.planned.Planned.{Planned}
use Rattle.cache_engine.specs.Acting.{start_at}

-- The act asks something of the collection under this key.
abbrev pub IsOn : List ℕ → PlainAct → Type 0
IsOn key (on_collection named asked) = named ≡ key
IsOn key _ = ⊥

-- what an act asks of the collection under its key, where it asks something of one
abbrev pub asked_by : PlainAct → Option CollAct
asked_by (on_collection key asked) = Some asked
asked_by _ = None

-- the attributes and the first contents of a collection of this kind that is made so
abbrev pub makes_of : Option (Kind × CreateArgs) → Option (CreateArgs × Contents)
makes_of = option_map (λ made. (made.1, empty_of made.0))

-- What is planned suits the collection under the key.
pub record SuitsHeld (key : List ℕ) (planned : Planned) (places : Places Item) : Type 0 where
  pub held : Held
  pub there : found key places ≡ Some (collection held.attrs held.contents)
  pub suits : SuitsPlan held planned

-- It takes memory, or none was found for it.
abbrev pub WantsMemory : Planned → Type 0
WantsMemory planned = TakesNoMemory planned → ⊥

-- The plan for this key is carried out by the machine's rules; or memory was refused to what may want it, and nothing has changed.
abbrev pub CarriesOut : Type 0 → CacheState → ℕ → List ℕ → Plan → Reply → CacheState → Type 0
CarriesOut May old now key plan answer new =
    (ended (start_at old now key) (key ∷ []) (carried_out (start_at old now key) plan) ≡ (new, answer))
    ⊎ (May × (answer ≡ reply.Word word.NoMemory) × (new ≡ old))
