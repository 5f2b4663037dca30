-- What holds of all that stands in places, by their side.
use Rattle.std.specs.Prelude.{◌≡◌, ℕ, Bool, true, false, List, bytes_eq, Some}
use Rattle.std.specs.Map.{lookup}
use Rattle.std.specs.FinMap as finite
use Rattle.arc_core.specs.Places.{Places}

-- All that is found on the shelf is good for that side, and all that is found among the sticky places for that one.
pub record AllOnSides {X : Type 0} (Good : Bool → X → Type 0) (places : Places X) : Type 0 where
  pub on_shelf : (key : List ℕ) (x : X) → lookup (bytes_eq key) places.shelf ≡ Some x → Good false x
  pub sticky : (key : List ℕ) (x : X) → finite.get places.sticky key ≡ Some x → Good true x
