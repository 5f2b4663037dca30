-- What a place weighs.
use Rattle.std.specs.Prelude.{ℕ, List, Option, Some, None}
use Rattle.std.specs.Option.{option_map_or}

-- the weight of what stands in a place: the item's, or 0 where the item is still to come
abbrev pub place_weight : {T : Type 0} → (List ℕ → T → ℕ) → List ℕ → Option T → ℕ
place_weight weigh key None = 0
place_weight weigh key (Some item) = weigh key item

-- what stands under a key weighs so much; 0 where nothing does
abbrev pub weight_under : {X : Type 0} → (List ℕ → X → ℕ) → List ℕ → Option X → ℕ
weight_under weigh key place = option_map_or (weigh key) place 0
