-- An empty cache keeps the rules of a state.
use Rattle.std.proofs.Common.{◌≡◌, ℕ, List, [], Option, Some, None, bytes_eq, refl, sym, ap, ◌∙◌, arith}
use Rattle.std.specs.List.{IsDistinct}
use Rattle.std.specs.Ordering.{nat_cmp}
use Rattle.std.specs.Cmp.Lexicographic.{slice_cmp}
use Rattle.std.specs.FinMap as finite
use Rattle.std.proofs.lemmas.List.{nil_from_length}
use Rattle.arc_core.specs.Item.{Item, size_of}
use Rattle.arc_core.specs.Places.{weight_of}
use Rattle.arc_core.specs.CacheState.{IsState, opening_state}

get_none : (key : List ℕ) → finite.get (finite.empty {X = Item} {R = slice_cmp nat_cmp}) key ≡ None
get_none key = finite.get-empty (slice_cmp nat_cmp) key

none_held : (held : Option Item) (item : Item) → held ≡ None → held ≡ Some item → ⊥
none_held None item none some = cc
none_held (Some other) item none some = cc

all_apart : IsDistinct bytes_eq []
unfolding IsDistinct
all_apart = tt

no_weight : weight_of size_of (finite.entries (finite.empty {X = Item} {R = slice_cmp nat_cmp})) ≡ 0
no_weight =
    ap (weight_of size_of) (nil_from_length (finite.entries (finite.empty {X = Item} {R = slice_cmp nat_cmp}))
    (sym (finite.len-entries (finite.empty {X = Item} {R = slice_cmp nat_cmp})) ∙ finite.len-empty (slice_cmp nat_cmp) Item))

pub opening_keeps_the_rules : (limit share : ℕ) → IsState (opening_state limit share)
opening_keeps_the_rules limit share = record {
  placed = record {
    items = λ key item held. absurd (none_held _ item (get_none key) held);
    on_shelf = λ key item held. absurd (none_held None item refl held);
    sticky = λ key item held. absurd (none_held _ item (get_none key) held);
    once = record { on_shelf = all_apart; on_one_side = λ key there. get_none key };
  };
  second = omega arith;
  within = omega (arith, no_weight);
  share = omega (arith, no_weight);
}
