-- Two neighbours that are taken out of a branch, and what is put back in their place.
use Rattle.std.proofs.Common.{◌≡◌, ◌≢◌, ℕ, suc, ◌+◌, ◌-◌, ◌<◌, ◌≤◌, List, [], ◌∷◌, ◌++◌, length, get_or, take, drop, Option, Some, None, ap, sym, ◌∙◌, subst, arith}
use Rattle.std.specs.List.{All, remove}
use Rattle.std.specs.Option.{option_to_list}
use Rattle.std.proofs.lemmas.List.{append_assoc, append-nil, length-append, length-take-le, length-drop, take-append-drop, drop_more, take_at, drop_at, drop-drop, get_or-take, get_or-drop, get_or-append_right, get_or_at, nil_from_length}
use Rattle.std.proofs.lemmas.List.Elements.{All-append, All-cons, All-nil}
use Rattle.std.proofs.Math.Seq.{drop-append-add}
use Rattle.btree_nodes.specs.Subtree.{Subtree, all_elements, height_over, IsChildAt}
use Rattle.btree_nodes.specs.Removal.{IsLooseBranch, IsPaired, IsMended}
use Rattle.btree_nodes.proofs.ChildrenLemmas.{all_append, all_split, branch_from, height_of_children}

-- What is left of a list, of which a and b stood at the places p and p + 1.
pub record AreOut {X : Type 0} (xs rest : List X) (p : ℕ) (a b : X) : Type 0 where
  pub whole : xs ≡ take p xs ++ (a ∷ (b ∷ drop (p + 2) xs))
  pub left : rest ≡ take p xs ++ drop (p + 2) xs
  pub first : a ≡ get_or xs p a
  pub second : b ≡ get_or xs (p + 1) b

pub out : {X : Type 0} (xs one two : List X) (p : ℕ) (a b : X) → p + 1 < length xs → a ≡ get_or xs p a → one ≡ remove xs p → b ≡ get_or one p b → two ≡ remove one p → AreOut xs two p a b
out xs one two p a b within a_is one_is b_is two_is =
    let len = length-take-le p xs (omega arith) in
    let next : suc p ≡ p + 1 = omega arith in
    let two_on : p + 1 + 1 ≡ p + 2 = omega arith in
    let step : suc p ≡ length (take p xs) + 1 = omega (arith, len) in
    let none : p + 1 + (p - p) ≡ p + 1 = omega arith in
    let one_split : one ≡ take p xs ++ drop (p + 1) xs = one_is ∙ ap (λ k. take p xs ++ drop k xs) next in
    let b_there : b ≡ get_or xs (p + 1) b = b_is ∙ (ap (λ ys. get_or ys p b) one_split ∙ (get_or-append_right (take p xs) (drop (p + 1) xs) p p b len (omega arith) ∙ (get_or-drop (p + 1) xs (p - p) b ∙ ap (λ k. get_or xs k b) none))) in
    let rest : drop p xs ≡ a ∷ (b ∷ drop (p + 2) xs) = drop_more xs p a (omega arith) ∙ (ap (λ y. y ∷ drop (p + 1) xs) (sym a_is) ∙ ap (λ ys. a ∷ ys) (drop_more xs (p + 1) b within ∙ (ap (λ y. y ∷ drop (p + 1 + 1) xs) (sym b_there) ∙ ap (λ k. b ∷ drop k xs) two_on))) in
    let behind : drop (suc p) one ≡ drop (p + 2) xs = ap (λ ys. drop (suc p) ys) one_split ∙ (ap (λ k. drop k (take p xs ++ drop (p + 1) xs)) step ∙ (drop-append-add (take p xs) (drop (p + 1) xs) 1 ∙ (drop-drop 1 (p + 1) xs ∙ ap (λ k. drop k xs) two_on))) in
    record {
      whole = sym (take-append-drop p xs) ∙ ap (λ ys. take p xs ++ ys) rest;
      left = two_is ∙ (ap (λ ys. ys ++ drop (suc p) one) (ap (λ ys. take p ys) one_split ∙ take_at (take p xs) (drop (p + 1) xs) p len) ∙ ap (λ ys. take p xs ++ ys) behind);
      first = a_is;
      second = b_there;
    }

-- the elements of two neighbours in what is put back for them, one node or two
pub paired_elements : (height : ℕ) (a b first : Subtree) (second : Option Subtree) → IsPaired height a b first second → all_elements (first ∷ option_to_list second) ≡ a.elements ++ b.elements
paired_elements height a b first None paired = append-nil first.elements ∙ paired.2
paired_elements height a b first (Some second) paired = ap (λ ys. first.elements ++ ys) (append-nil second.elements) ∙ paired.2

pub paired_all : (height : ℕ) (a b first : Subtree) (second : Option Subtree) → IsPaired height a b first second → All (IsChildAt height) (first ∷ option_to_list second)
paired_all height a b first None paired = All-cons (IsChildAt height) first [] paired.0 (All-nil (IsChildAt height))
paired_all height a b first (Some second) paired = All-cons (IsChildAt height) first (second ∷ []) paired.0 (All-cons (IsChildAt height) second [] paired.1 (All-nil (IsChildAt height)))

-- where nothing else is there, one node was made of the two
pub paired_alone : (height : ℕ) (a b first : Subtree) (second : Option Subtree) → IsPaired height a b first second → length (option_to_list second) ≡ 0 → first.width < 32
paired_alone height a b first None paired none = paired.1
paired_alone height a b first (Some second) paired none = absurd (omega arith)

pub paired_count : (second : Option Subtree) → length (option_to_list second) ≤ 1
paired_count None = omega arith
paired_count (Some second) = omega arith

-- a child that is not the mended one keeps all rules
pub tight : (children : List Subtree) (room index k : ℕ) (d : Subtree) → IsLooseBranch children room index → k < length children → k ≢ index → IsChildAt (height_over children) (get_or children k d)
tight children room index k d loose within other =
    let l = loose.balanced k d within in
    record { level = l.level; high = l.high; wide = loose.wide k d within other; roomy = l.roomy; dense = l.dense }

-- the elements before, of and behind two neighbours
pub around : (children rest : List Subtree) (p : ℕ) (a b : Subtree) → AreOut children rest p a b
    → all_elements children ≡ all_elements (take p children) ++ ((a.elements ++ b.elements) ++ all_elements (drop (p + 2) children))
around children rest p a b are_out =
    ap all_elements are_out.whole ∙ (all_append (take p children) (a ∷ (b ∷ drop (p + 2) children)) ∙ ap (λ ys. all_elements (take p children) ++ ys) (sym (append_assoc a.elements b.elements (all_elements (drop (p + 2) children)))))

pub two_fit : (children rest : List Subtree) (p : ℕ) (a b : Subtree) → AreOut children rest p a b → length a.elements + length b.elements ≤ length (all_elements children)
two_fit children rest p a b are_out =
    let A = all_elements (take p children) in
    let B = all_elements (drop (p + 2) children) in
    omega (arith, ap length (around children rest p a b are_out), length-append A ((a.elements ++ b.elements) ++ B), length-append (a.elements ++ b.elements) B, length-append a.elements b.elements)

-- what is put back mends the branch
pub mended : (children rest new : List Subtree) (room room' index p : ℕ) (a b first : Subtree) (second : Option Subtree) → IsLooseBranch children room index → room ≤ room'
    → p + 1 < length children → p ≤ index → index ≤ p + 1 → AreOut children rest p a b → IsPaired (height_over children) a b first second
    → new ≡ take p rest ++ (first ∷ (option_to_list second ++ drop p rest)) → IsMended children new room'
mended children rest new room room' index p a b first second loose rooms within low high are_out paired new_is =
    let P = IsChildAt (height_over children) in
    let A = take p children in
    let B = drop (p + 2) children in
    let M = first ∷ option_to_list second in
    let len = length-take-le p children (omega arith) in
    let front : take p rest ≡ A = ap (λ ys. take p ys) are_out.left ∙ take_at A B p len in
    let behind : drop p rest ≡ B = ap (λ ys. drop p ys) are_out.left ∙ drop_at A B p len in
    let is : new ≡ A ++ (M ++ B) = new_is ∙ (ap (λ ys. ys ++ (M ++ drop p rest)) front ∙ ap (λ ys. A ++ (M ++ ys)) behind) in
    let all_A : All P A = λ k d below. subst P (sym (get_or-take p children k d (omega (arith, len, below)))) (tight children room index k d loose (omega (arith, len, below)) (omega (arith, len, below))) in
    let B_length = length-drop (p + 2) children in
    let all_B : All P B = λ k d below. subst P (sym (get_or-drop (p + 2) children k d)) (tight children room index (p + 2 + k) d loose (omega (arith, B_length, below)) (omega (arith, B_length, below))) in
    let all : All P new = subst (All P) (sym is) (All-append P A (M ++ B) all_A (All-append P M B (paired_all (height_over children) a b first second paired) all_B)) in
    let new_length : length new ≡ p + (1 + length (option_to_list second) + (length children - (p + 2))) = omega (arith, ap length is, length-append A (M ++ B), length-append M B, len, B_length) in
    let count = paired_count second in
    record {
      branch = branch_from (height_over children) new room' (omega (arith, new_length)) (omega (arith, new_length, count, loose.most)) (omega (arith, loose.roomy)) all;
      elements = ap all_elements is ∙ (all_append A (M ++ B) ∙ (ap (λ ys. all_elements A ++ ys) (all_append M B ∙ ap (λ ys. ys ++ all_elements B) (paired_elements (height_over children) a b first second paired)) ∙ sym (around children rest p a b are_out)));
      height = height_of_children (height_over children) new (omega (arith, new_length)) all;
      length_is = omega (arith, new_length, count);
      alone = λ one d. subst (λ (x : Subtree). x.width < 32) (sym (ap (λ ys. get_or ys 0 d) is ∙ get_or_at A first (option_to_list second ++ B) d 0 (omega (arith, len, one, new_length, within))))
          (paired_alone (height_over children) a b first second paired (omega (arith, one, new_length, within)));
    }

-- a child with nothing below it is left out
pub left_out : (children rest : List Subtree) (room room' index : ℕ) (d : Subtree) → IsLooseBranch children room index → room ≤ room' → 2 < length children → rest ≡ remove children index
    → length (get_or children index d).elements ≡ 0 → IsMended children rest room'
left_out children rest room room' index d loose rooms more rest_is none =
    let P = IsChildAt (height_over children) in
    let A = take index children in
    let B = drop (index + 1) children in
    let next : suc index ≡ index + 1 = omega arith in
    let len = length-take-le index children (omega (arith, loose.within)) in
    let B_length = length-drop (index + 1) children in
    let is : rest ≡ A ++ B = rest_is ∙ ap (λ k. A ++ drop k children) next in
    let all_A : All P A = λ k e below. subst P (sym (get_or-take index children k e (omega (arith, len, below)))) (tight children room index k e loose (omega (arith, len, below, loose.within)) (omega (arith, len, below))) in
    let all_B : All P B = λ k e below. subst P (sym (get_or-drop (index + 1) children k e)) (tight children room index (index + 1 + k) e loose (omega (arith, B_length, below)) (omega (arith, B_length, below))) in
    let all : All P rest = subst (All P) (sym is) (All-append P A B all_A all_B) in
    let rest_length : length rest ≡ length children - 1 = omega (arith, ap length is, length-append A B, len, B_length, loose.within) in
    let nothing : (get_or children index d).elements ≡ [] = nil_from_length (get_or children index d).elements none in
    record {
      branch = branch_from (height_over children) rest room' (omega (arith, rest_length)) (omega (arith, rest_length, loose.most)) (omega (arith, loose.roomy)) all;
      elements = ap all_elements is ∙ (all_append A B ∙ (ap (λ ys. all_elements A ++ (ys ++ all_elements B)) (sym nothing) ∙ sym (all_split children index d loose.within)));
      height = height_of_children (height_over children) rest (omega (arith, rest_length)) all;
      length_is = omega (arith, rest_length);
      alone = λ one e. absurd (omega (arith, one, rest_length));
    }
