-- How places are coded, as a value that contracts see has to be.
use Rattle.std.specs.Prelude.{ℕ, List, refl}
use Rattle.std.specs.Ordering.{nat_cmp}
use Rattle.std.specs.Coded.{Coded, code_by, coded×, coded_list, coded_ℕ}
use Rattle.std.specs.Cmp.Lexicographic.{slice_cmp}
use Rattle.std.specs.FinMap.{FinMap, code}
use Rattle.arc_core.specs.Places.{Places}

-- places are coded as the tuple of their fields
abbrev pub places_code : {X : Type 0} → Coded X → Coded (Places X)
places_code {X} x =
    code_by (List (List ℕ × X) × (FinMap (slice_cmp nat_cmp) X × (ℕ × ℕ))) (coded× (coded_list (coded× (coded_list coded_ℕ) x)) (coded× (code (coded_list coded_ℕ) x) (coded× coded_ℕ coded_ℕ)))
    (λ places. (places.shelf, (places.sticky, (places.limit, places.share)))) (λ t. record { shelf = t.0; sticky = t.1.0; limit = t.1.1.0; share = t.1.1.1 }) (λ _. refl)
