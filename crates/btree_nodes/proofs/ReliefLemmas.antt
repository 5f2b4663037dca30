-- Two neighbours after a full one handed some of what it had on to the other.
use Rattle.std.proofs.Common.{◌≡◌, ℕ, ◌+◌, ◌<◌, ◌≤◌, List, [], ◌∷◌, ◌++◌, length, get_or, take, drop, Option, Some, None, ap, sym, ◌∙◌, subst, arith}
use Rattle.std.specs.Option.{option_to_list}
use Rattle.std.proofs.lemmas.List.{append_assoc, length-append, length-take-le, length-drop, take_at, drop_at, get_or_at, get_or_default}
use Rattle.btree_nodes.specs.Subtree.{Subtree, IsBranch}
use Rattle.btree_nodes.specs.Removal.{IsPaired, IsLooseBranch}
use Rattle.btree_nodes.specs.Relief.{IsUneven, IsUnevenAt, HaveFree, IsRelieved}
use Rattle.btree_nodes.proofs.MendLemmas.{AreOut}

both_same : (first second a b x y v w : Subtree) → x ≡ first → y ≡ second → v ≡ a → w ≡ b → first.elements ++ second.elements ≡ a.elements ++ b.elements
    → length x.elements + length y.elements ≡ length v.elements + length w.elements
both_same first second a b x y v w x_is y_is v_is w_is same =
    let count : Subtree → ℕ = λ z. length z.elements in
    omega (arith, ap count x_is, ap count y_is, ap count v_is, ap count w_is, ap length same, length-append first.elements second.elements, length-append a.elements b.elements)

-- where there are two still
two_there : (children new : List Subtree) (height p : ℕ) (a b first : Subtree) (second : Option Subtree) → p + 1 < length children → a ≡ get_or children p a → b ≡ get_or children (p + 1) b
    → IsPaired height a b first second → HaveFree first second → new ≡ take p children ++ (first ∷ (option_to_list second ++ drop (p + 2) children)) → IsRelieved children p new
two_there children new height p a b first None within a_is b_is paired free is = absurd free
two_there children new height p a b first (Some second) within a_is b_is paired free is =
    let A = take p children in
    let B = drop (p + 2) children in
    let len = length-take-le p children (omega arith) in
    let front_len : length (A ++ first ∷ []) ≡ p + 1 = omega (arith, len, length-append A (first ∷ [])) in
    let at_first : (d : Subtree) → get_or new p d ≡ first = λ d. ap (λ ys. get_or ys p d) is ∙ get_or_at A first (second ∷ B) d p len in
    let at_second : (d : Subtree) → get_or new (p + 1) d ≡ second = λ d. ap (λ ys. get_or ys (p + 1) d) (is ∙ sym (append_assoc A (first ∷ []) (second ∷ B))) ∙ get_or_at (A ++ first ∷ []) second B d (p + 1) front_len in
    let was_first : (d : Subtree) → get_or children p d ≡ a = λ d. get_or_default children p d a (omega arith) ∙ sym a_is in
    let was_second : (d : Subtree) → get_or children (p + 1) d ≡ b = λ d. get_or_default children (p + 1) d b within ∙ sym b_is in
    record {
      length_is = omega (arith, ap length is, length-append A (first ∷ (second ∷ B)), len, length-drop (p + 2) children);
      front = ap (λ ys. take p ys) is ∙ take_at A (first ∷ (second ∷ B)) p len;
      both = λ d. both_same first second a b (get_or new p d) (get_or new (p + 1) d) (get_or children p d) (get_or children (p + 1) d) (at_first d) (at_second d) (was_first d) (was_second d) paired.2;
      first = λ d. subst (λ (x : Subtree). x.width < 32) (sym (at_first d)) free.0;
      second = λ d. subst (λ (x : Subtree). x.width < 32) (sym (at_second d)) free.1;
    }

pub relieved : (children rest new : List Subtree) (height p : ℕ) (a b first : Subtree) (second : Option Subtree) → p + 1 < length children → AreOut children rest p a b
    → IsPaired height a b first second → (IsUneven a.width b.width → HaveFree first second)
    → new ≡ take p rest ++ (first ∷ (option_to_list second ++ drop p rest)) → IsUnevenAt children p → IsRelieved children p new
relieved children rest new height p a b first second within are_out paired free new_is uneven =
    let there : get_or children p a ≡ a = sym are_out.first in
    let next : get_or children (p + 1) a ≡ b = get_or_default children (p + 1) a b within ∙ sym are_out.second in
    let at : IsUneven a.width b.width = subst (λ (x : Subtree). IsUneven x.width b.width) there (subst (λ (x : Subtree). IsUneven (get_or children p a).width x.width) next (uneven a)) in
    let A = take p children in
    let B = drop (p + 2) children in
    let len = length-take-le p children (omega arith) in
    let front : take p rest ≡ A = ap (λ ys. take p ys) are_out.left ∙ take_at A B p len in
    let behind : drop p rest ≡ B = ap (λ ys. drop p ys) are_out.left ∙ drop_at A B p len in
    let is : new ≡ A ++ (first ∷ (option_to_list second ++ B)) = new_is ∙ (ap (λ ys. ys ++ (first ∷ (option_to_list second ++ drop p rest))) front ∙ ap (λ ys. A ++ (first ∷ (option_to_list second ++ ys))) behind) in
    two_there children new height p a b first second within are_out.first are_out.second paired (free at) is

-- any child of a branch may stand for the one that lost something
pub loose_of : (children : List Subtree) (room i : ℕ) → IsBranch children room → 2 ≤ length children → i < length children → IsLooseBranch children room i
loose_of children room i is_branch two within = record {
  two = two;
  most = is_branch.most;
  roomy = is_branch.roomy;
  within = within;
  balanced = λ k d below. let l = is_branch.balanced k d below in record { level = l.level; high = l.high; roomy = l.roomy; dense = l.dense };
  wide = λ k d below other. (is_branch.balanced k d below).wide;
}
