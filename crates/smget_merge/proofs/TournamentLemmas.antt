-- Who wins a tournament, and which games are played again.
use Rattle.std.proofs.Common.{◌≡◌, ◌≢◌, ℕ, zero, suc, ◌+◌, ◌-◌, ◌*◌, ◌/◌, ◌<◌, ◌≤◌, Bool, true, false, List, length, get_or, set, Option, Some, None, refl, ap, sym, ◌∙◌, subst, inl, inr, arith}
use Rattle.std.specs.Cmp.{IsStrictWeakOrder}
use Rattle.std.specs.Ordering.{nat_cmp, is_lt, ordering_then}
use Rattle.std.specs.declared.cmp.Ordering.{Ordering}
use Rattle.std.specs.declared.cmp.Ordering.TheVariants.{Less, Equal, Greater}
use Rattle.std.proofs.lemmas.Cmp.{nat_cmp_total, on_total, then_total}
use Rattle.std.proofs.lemmas.Bool.{cases_Bool, cases_eq, cases_lt}
use Rattle.std.proofs.lemmas.Bool.Decides.{nat_tests}
use Rattle.std.proofs.lemmas.List.{get_or-set_same, get_or-set_other}
use Rattle.std.proofs.lemmas.List.Sorted.{ranks_by}
use Rattle.arc_core.specs.declared.bkeys.Bkey.{Bkey}
use Rattle.arc_core.specs.declared.trees.Elem.{Elem}
use Rattle.smget_merge.specs.MergedRows.{bkey_order, is_before}
use Rattle.smget_merge.specs.Tournaments.{goes_before, wins, entrant, winner_below, climbed, IsAbove, IsEntered, IsPlayed, IsRanked, IsFirst}
use Rattle.smget_merge.proofs.OrderLemmas.{order_total}

-- an element in a place, as the tournament compares them
abbrev key_of : ℕ → Elem → Bkey × ℕ
key_of place element = (element.bkey, place)

keys_weak : (down : Bool) → IsStrictWeakOrder (λ (x y : Bkey × ℕ). is_lt (ordering_then (bkey_order down x.0 y.0) (nat_cmp x.1 y.1)))
keys_weak down = ranks_by (then_total (on_total (λ (key : Bkey × ℕ). key.0) (order_total down)) (on_total (λ (key : Bkey × ℕ). key.1) nat_cmp_total)) (λ (key : Bkey × ℕ). key)

module _ (down : Bool) where
  goes_one_way : (a b : ℕ) (x y : Option Elem) → goes_before down a x b y ≡ true → goes_before down b y a x ≡ false
  goes_one_way a b None y first = cc
  goes_one_way a b (Some x) None first = refl
  goes_one_way a b (Some x) (Some y) first = (keys_weak down).one_way (x.bkey, a) (y.bkey, b) first

  goes_chain : (a b c : ℕ) (x y z : Option Elem) → goes_before down a x b y ≡ false → goes_before down b y c z ≡ false → goes_before down a x c z ≡ false
  goes_chain a b c None y z first second = refl
  goes_chain a b c (Some x) None z first second = cc
  goes_chain a b c (Some x) (Some y) None first second = cc
  goes_chain a b c (Some x) (Some y) (Some z) first second = (keys_weak down).chain (x.bkey, a) (y.bkey, b) (z.bkey, c) first second

  pub not_itself : (heads : List (Option Elem)) (a : ℕ) → wins down heads a a ≡ false
  not_itself heads a = elim (cases_Bool (wins down heads a a)) [
    | inl is ↦ goes_one_way a a (get_or heads a None) (get_or heads a None) is
    | inr none ↦ none
  ]

  pub not_both : (heads : List (Option Elem)) (a b : ℕ) → wins down heads a b ≡ true → wins down heads b a ≡ false
  not_both heads a b first = goes_one_way a b (get_or heads a None) (get_or heads b None) first

  pub not_over : (heads : List (Option Elem)) (a b c : ℕ) → wins down heads a b ≡ false → wins down heads b c ≡ false → wins down heads a c ≡ false
  not_over heads a b c = goes_chain a b c (get_or heads a None) (get_or heads b None) (get_or heads c None)

-- NODES

climbed_half : (levels node : ℕ) → climbed levels (node / 2) ≡ climbed levels node / 2
climbed_half zero node = refl
climbed_half (suc levels) node = climbed_half levels (node / 2)

-- what is above a node is above all below it
pub above_half : (node below : ℕ) → IsAbove node below → IsAbove (node / 2) below
above_half node below above = (suc above.0, climbed_half above.0 below ∙ ap (λ n. n / 2) above.1)

pub above_next : (node below : ℕ) → IsAbove node (below / 2) → IsAbove node below
above_next node below above = (suc above.0, above.1)

climbed_le : (levels node : ℕ) → climbed levels node ≤ node
climbed_le zero node = omega arith
climbed_le (suc levels) node = omega (arith, climbed_le levels (node / 2))

pub above_le : (node below : ℕ) → IsAbove node below → node ≤ below
above_le node below above = omega (arith, climbed_le above.0 below, above.1)

above_by : (node below levels : ℕ) → climbed levels below ≡ node → node ≢ below → IsAbove node (below / 2)
above_by node below zero is other = absurd (other (sym is))
above_by node below (suc levels) is other = (levels, is)

-- what is above a node and not that node itself is above the next one
pub above_other : (node below : ℕ) → IsAbove node below → node ≢ below → IsAbove node (below / 2)
above_other node below above other = above_by node below above.0 above.1 other

module _ (count : ℕ) where
  pub at_game : (winners : List ℕ) (node : ℕ) → node < count → entrant count winners node ≡ get_or winners node 0
  at_game winners node within = grind (arith, nat_tests)

  pub at_walk : (winners : List ℕ) (node : ℕ) → count ≤ node → entrant count winners node ≡ node - count
  at_walk winners node within = grind (arith, nat_tests)

  -- a walk stands at its own node
  pub walk_entered : (winners : List ℕ) (node : ℕ) → count ≤ node → node < 2 * count → IsEntered count winners node
  walk_entered winners node low high =
      let is = at_walk winners node low in
      record { within = omega arith; above = (zero, omega arith) }

  entrant_set : (winners : List ℕ) (node other value : ℕ) → other ≢ node → entrant count (set winners node value) other ≡ entrant count winners other
  entrant_set winners node other value differs = elim (cases_lt other count) [
    | inl game ↦ at_game (set winners node value) other game ∙ (get_or-set_other winners node other value 0 differs ∙ sym (at_game winners other game))
    | inr walk ↦ at_walk (set winners node value) other walk ∙ sym (at_walk winners other walk)
  ]

  module _ (down : Bool) (heads : List (Option Elem)) where
    -- a game that is played
    pub played : (winners : List ℕ) (node : ℕ) → 1 ≤ node → node < count → count ≤ length winners → IsEntered count winners (2 * node) → IsEntered count winners (2 * node + 1)
        → IsPlayed down heads count (set winners node (winner_below down heads count winners node)) node
    played winners node some within room left right =
        let l = entrant count winners (2 * node) in
        let r = entrant count winners (2 * node + 1) in
        let w = winner_below down heads count winners node in
        let here : entrant count (set winners node w) node ≡ w = at_game (set winners node w) node within ∙ get_or-set_same winners node w 0 (omega arith) in
        let below_left : entrant count (set winners node w) (2 * node) ≡ l = entrant_set winners node (2 * node) w (λ same. absurd (omega arith)) in
        let below_right : entrant count (set winners node w) (2 * node + 1) ≡ r = entrant_set winners node (2 * node + 1) w (λ same. absurd (omega arith)) in
        let half_left : 2 * node / 2 ≡ node = omega arith in
        let half_right : (2 * node + 1) / 2 ≡ node = omega arith in
        elim (cases_Bool (wins down heads r l)) [
          | inl over ↦
              let is : w ≡ r = rw over refl in
              record {
                entered = record {
                  within = rw (here, is) right.within;
                  above = rw (here, is) (subst (λ n. IsAbove n (count + r)) half_right (above_half (2 * node + 1) (count + r) right.above));
                };
                left = rw (below_left, here, is) (not_both down heads r l over);
                right = rw (below_right, here, is) (not_itself down heads r);
              }
          | inr none ↦
              let is : w ≡ l = rw none refl in
              record {
                entered = record {
                  within = rw (here, is) left.within;
                  above = rw (here, is) (subst (λ n. IsAbove n (count + l)) half_left (above_half (2 * node) (count + l) left.above));
                };
                left = rw (below_left, here, is) (not_itself down heads l);
                right = rw (below_right, here, is) none;
              }
        ]

    -- other games stand
    pub stands : (winners : List ℕ) (node other value : ℕ) → other ≢ node → 2 * other ≢ node → 2 * other + 1 ≢ node → IsPlayed down heads count winners other → IsPlayed down heads count (set winners node value) other
    stands winners node other value apart left right is =
        let here = entrant_set winners node other value apart in
        record {
          entered = record { within = rw here is.entered.within; above = rw here is.entered.above };
          left = rw (here, entrant_set winners node (2 * other) value left) is.left;
          right = rw (here, entrant_set winners node (2 * other + 1) value right) is.right;
        }

    -- in a tournament that is played no walk wins over the one at the top
    over_all : (winners : List ℕ) → IsRanked down heads count winners → (most node : ℕ) → node ≤ most → 1 ≤ node → node < 2 * count → wins down heads (entrant count winners node) (entrant count winners 1) ≡ false
    over_all winners ranked zero node below some within = absurd (omega arith)
    over_all winners ranked (suc most) node below some within = elim (cases_lt 1 node) [
      | inl deeper ↦
          let half = node / 2 in
          let game = ranked half (omega arith) (omega arith) in
          let above = over_all winners ranked most half (omega arith) (omega arith) (omega arith) in
          not_over down heads (entrant count winners node) (entrant count winners half) (entrant count winners 1)
          (elim (cases_lt (2 * half) node) [
            | inl odd ↦ let is : node ≡ 2 * half + 1 = omega arith in subst (λ n. wins down heads (entrant count winners n) (entrant count winners half) ≡ false) (sym is) game.right
            | inr even ↦ let is : node ≡ 2 * half = omega arith in subst (λ n. wins down heads (entrant count winners n) (entrant count winners half) ≡ false) (sym is) game.left
          ]) above
      | inr top ↦ let is : node ≡ 1 = omega arith in subst (λ n. wins down heads (entrant count winners n) (entrant count winners 1) ≡ false) (sym is) (not_itself down heads (entrant count winners 1))
    ]

    top_within : (winners : List ℕ) → IsRanked down heads count winners → 1 ≤ count → entrant count winners 1 < count
    top_within winners ranked some = elim (cases_lt 1 count) [
      | inl more ↦ (ranked 1 (omega arith) more).entered.within
      | inr one ↦ omega (arith, at_walk winners 1 one)
    ]

    pub top_first : (winners : List ℕ) → IsRanked down heads count winners → 1 ≤ count → IsFirst down heads count (entrant count winners 1)
    top_first winners ranked some = record {
      within = top_within winners ranked some;
      first = λ other within.
          let is : entrant count winners (count + other) ≡ other = at_walk winners (count + other) (omega arith) ∙ (omega arith) in
          subst (λ n. wins down heads n (entrant count winners 1) ≡ false) is (over_all winners ranked (count + other) (count + other) (omega arith) (omega arith) (omega arith));
    }

    -- at a node whose game is played, and at a walk's own, stands a walk from below
    pub entered : (winners : List ℕ) (node : ℕ) → (node < count → IsPlayed down heads count winners node) → node < 2 * count → IsEntered count winners node
    entered winners node is within = elim (cases_lt node count) [
      | inl game ↦ (is game).entered
      | inr walk ↦ walk_entered winners node walk within
    ]

    -- one game more, where all behind it are played
    pub rank_more : (winners : List ℕ) (node : ℕ) → 1 ≤ node → node < count → count ≤ length winners
        → ((other : ℕ) → node + 1 ≤ other → 1 ≤ other → other < count → IsPlayed down heads count winners other)
        → (other : ℕ) → node ≤ other → 1 ≤ other → other < count → IsPlayed down heads count (set winners node (winner_below down heads count winners node)) other
    rank_more winners node some within room behind other from positive below = elim (cases_eq other node) [
      | inl same ↦ subst (λ n. IsPlayed down heads count (set winners node (winner_below down heads count winners node)) n) (sym same)
          (played winners node some within room
          (entered winners (2 * node) (λ game. behind (2 * node) (omega arith) (omega arith) game) (omega arith))
          (entered winners (2 * node + 1) (λ game. behind (2 * node + 1) (omega arith) (omega arith) game) (omega arith)))
      | inr apart ↦
          let next : node + 1 ≤ other = elim (cases_lt node other) [ inl more ↦ omega arith | inr none ↦ absurd (apart (omega arith)) ] in
          stands winners node other (winner_below down heads count winners node) apart (λ same. absurd (omega arith)) (λ same. absurd (omega arith)) (behind other next positive below)
    ]

    -- one game more on the way up
    pub climb_more : (winners : List ℕ) (node : ℕ) → 1 ≤ node → node < count → count ≤ length winners
        → ((other : ℕ) → 1 ≤ other → other < count → (IsAbove other node → ⊥) → IsPlayed down heads count winners other)
        → (other : ℕ) → 1 ≤ other → other < count → (IsAbove other (node / 2) → ⊥) → IsPlayed down heads count (set winners node (winner_below down heads count winners node)) other
    climb_more winners node some within room others other positive below apart = elim (cases_eq other node) [
      | inl same ↦ subst (λ n. IsPlayed down heads count (set winners node (winner_below down heads count winners node)) n) (sym same)
          (played winners node some within room
          (entered winners (2 * node) (λ game. others (2 * node) (omega arith) game (λ above. absurd (omega (arith, above_le (2 * node) node above)))) (omega arith))
          (entered winners (2 * node + 1) (λ game. others (2 * node + 1) (omega arith) game (λ above. absurd (omega (arith, above_le (2 * node + 1) node above)))) (omega arith)))
      | inr differs ↦
          stands winners node other (winner_below down heads count winners node) differs
          (λ same. apart (zero, omega arith))
          (λ same. apart (zero, omega arith))
          (others other positive below (λ above. apart (above_other other node above differs)))
    ]

-- A walk's next element is no earlier than it was.
abbrev pub IsLater : Bool → Option Elem → Option Elem → Type 0
IsLater down old None = Unit {0}
IsLater down None (Some new) = ⊥
IsLater down (Some old) (Some new) = is_before down old new ≡ true

then_less : (o p : Ordering) → is_lt o ≡ true → is_lt (ordering_then o p) ≡ true
then_less Less p less = refl
then_less Equal p less = cc
then_less Greater p less = cc

module _ (down : Bool) where
  later_loses : (a b : ℕ) (old new y : Option Elem) → IsLater down old new → goes_before down a old b y ≡ false → goes_before down a new b y ≡ false
  later_loses a b old None y later none = refl
  later_loses a b None (Some x) y later none = absurd later
  later_loses a b (Some old) (Some new) None later none = cc
  later_loses a b (Some old) (Some new) (Some y) later none = elim (cases_Bool (goes_before down a (Some new) b (Some y))) [
    | inl first ↦
        let back = (keys_weak down).one_way (new.bkey, a) (y.bkey, b) first in
        let on = (keys_weak down).chain (old.bkey, a) (y.bkey, b) (new.bkey, a) none back in
        let less = then_less (bkey_order down old.bkey new.bkey) (nat_cmp a a) later in
        cc
    | inr last ↦ last
  ]

  -- where a walk has come on, it wins over no other than before
  pub come_on : (heads : List (Option Elem)) (place : ℕ) (new : Option Elem) → place < length heads → IsLater down (get_or heads place None) new → (a b : ℕ) → b ≢ place → wins down heads a b ≡ false → wins down (set heads place new) a b ≡ false
  come_on heads place new within later a b apart none =
      let other : get_or (set heads place new) b None ≡ get_or heads b None = get_or-set_other heads place b new None apart in
      elim (cases_eq a place) [
        | inl same ↦
            let here : get_or (set heads place new) a None ≡ new = ap (λ n. get_or (set heads place new) n None) same ∙ get_or-set_same heads place new None within in
            let was : get_or heads a None ≡ get_or heads place None = ap (λ n. get_or heads n None) same in
            rw (other, here) (later_loses a b (get_or heads place None) new (get_or heads b None) later (rw was at none))
        | inr differs ↦
            let here : get_or (set heads place new) a None ≡ get_or heads a None = get_or-set_other heads place a new None differs in
            rw (other, here) none
      ]

  -- where the first walk has come on, the games beside its way up still stand
  pub beside_way : (count : ℕ) (heads : List (Option Elem)) (winners : List ℕ) (place : ℕ) (new : Option Elem) → length heads ≡ count → place < count → IsLater down (get_or heads place None) new → IsRanked down heads count winners
      → (node : ℕ) → 1 ≤ node → node < count → (IsAbove node ((count + place) / 2) → ⊥) → IsPlayed down (set heads place new) count winners node
  beside_way count heads winners place new many within later ranked node some game apart =
      let is = ranked node some game in
      let at = entrant count winners node in
      let other : at ≢ place = λ same. apart (above_other node (count + place) (subst (λ n. IsAbove node (count + n)) same is.entered.above) (λ both. absurd (omega arith))) in
      let there : place < length heads = omega arith in
      record {
        entered = is.entered;
        left = come_on heads place new there later (entrant count winners (2 * node)) at other is.left;
        right = come_on heads place new there later (entrant count winners (2 * node + 1)) at other is.right;
      }
