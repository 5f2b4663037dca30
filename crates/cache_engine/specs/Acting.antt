-- What the cache's commands leave.
use Rattle.std.specs.Prelude.{◌≡◌, ◌⊎◌, ℕ, List, [], ◌∷◌}
use Rattle.arc_core.specs.declared.replies.Reply.{Reply}
use Rattle.arc_core.specs.declared.replies.Reply.TheVariants as reply
use Rattle.arc_core.specs.declared.replies.Word.TheVariants as word
use Rattle.arc_core.specs.PlainRequest.{PlainAct}
use Rattle.arc_core.specs.CacheState.{CacheState}
use Rattle.arc_core.specs.History.{MayWantMemory}
use Rattle.arc_core.specs.Step.{named_keys, started, plan_of, carried_out, ended}
use Rattle.arc_core.specs.Plan.{Plan, answer_only}

-- The state at the start of a step that names this key alone.
abbrev pub start_at : CacheState → ℕ → List ℕ → CacheState
start_at old now key = started old now (key ∷ [])

-- It is answered so by the machine's rules, and the item under the key left as it is.
abbrev pub Answers : CacheState → ℕ → List ℕ → (said : Reply) → Reply → CacheState → Type 0
Answers old now key said answer new = ended (start_at old now key) (key ∷ []) (carried_out (start_at old now key) (answer_only said)) ≡ (new, answer)

-- The plan for this key is carried out by the machine's rules, or memory was refused and nothing has changed.
abbrev pub Finishes : CacheState → ℕ → List ℕ → Plan → Reply → CacheState → Type 0
Finishes old now key plan answer new =
    (ended (start_at old now key) (key ∷ []) (carried_out (start_at old now key) plan) ≡ (new, answer))
    ⊎ ((answer ≡ reply.Word word.NoMemory) × (new ≡ old))

-- The act is done by the machine's rules; or memory was refused to one that may want it, and nothing has changed.
abbrev pub Acts : CacheState → ℕ → PlainAct → Reply → CacheState → Type 0
Acts old now act answer new =
    (ended (started old now (named_keys act)) (named_keys act) (carried_out (started old now (named_keys act)) (plan_of (started old now (named_keys act)) act)) ≡ (new, answer))
    ⊎ (MayWantMemory (started old now (named_keys act)) act × (answer ≡ reply.Word word.NoMemory) × (new ≡ old))
