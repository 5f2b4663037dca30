-- What a run that is removed below a child leaves of the branch over it.
use Rattle.std.proofs.Common.{◌≡◌, ℕ, ◌+◌, ◌-◌, ◌%◌, ◌^◌, ◌<◌, ◌≤◌, List, [], ◌∷◌, ◌++◌, length, get_or, take, drop, set, Some, refl, ap, sym, ◌∙◌, subst, inr, arith}
use Rattle.std.specs.List.{All, between, remove_range}
use Rattle.std.proofs.lemmas.List.{length-append, length-set, get_or-set_other, get_or_append_left, length-take-le, take-append-drop, length-take, length-drop, append-nil, nil_from_length}
use Rattle.std.proofs.Math.Nat.{mod-add-mod, add-mod-mod}
use Rattle.std.proofs.lemmas.List.Sums.{sum_by-append}
use Rattle.std.proofs.lemmas.List.Elements.{All-set, All-head}
use Rattle.arc_core.specs.declared.bkeys.Bkey.{Bkey}
use Rattle.arc_core.specs.declared.trees.Elem.{Elem}
use Rattle.arc_core.specs.TreeContents.{elem_size, elem_sizes}
use Rattle.btree_nodes.specs.declared.runs.Run.{Run}
use Rattle.btree_nodes.specs.Subtree.{Subtree, all_elements, branch_of, height_over, IsBranch, IsChildAt}
use Rattle.btree_nodes.specs.NodeRules.{IsLeast}
use Rattle.btree_nodes.specs.Rooting.{IsTrimmedRoot}
use Rattle.btree_nodes.proofs.RunLemmas.{removed_more, between_more, between_both}
use Rattle.btree_nodes.specs.Removal.{IsRun, IsTrimmed, IsLooseAt, IsLooseBranch, IsMended}
use Rattle.btree_nodes.proofs.BalanceLemmas.{branch_dense}
use Rattle.btree_nodes.proofs.ChildrenLemmas.{all_split, set_elements}
use Rattle.btree_nodes.proofs.MiddleLemmas.{remove_middle, between_middle, get_middle}

-- a run in the middle of a list
pub run_middle : (A M R new : List Elem) (o limit : ℕ) (run : Run) → IsRun M o limit new run → IsRun (A ++ (M ++ R)) (length A + o) limit (A ++ (new ++ R)) run
run_middle A M R new o limit run is =
    let end : length A + o + run.count ≡ length A + (o + run.count) = omega arith in
    let at_last : length A + o + (run.count - 1) ≡ length A + (o + (run.count - 1)) = omega arith in
    let order : o ≤ o + run.count = omega arith in
    record {
      some = is.some;
      most = is.most;
      within = omega (arith, is.within, length-append A (M ++ R), length-append M R);
      elements = ap (λ ys. A ++ (ys ++ R)) is.elements ∙ (sym (remove_middle A M R o (o + run.count) order is.within) ∙ ap (λ k. remove_range (A ++ (M ++ R)) (length A + o) k) (sym end));
      size = is.size ∙ ap (λ ys. elem_sizes ys % 2 ^ 64) (sym (between_middle A M R o (o + run.count) order is.within) ∙ ap (λ k. between (length A + o) k (A ++ (M ++ R))) (sym end));
      last = λ d. is.last d ∙ ap (λ (e : Elem). Some e) (sym (get_middle A M R (o + (run.count - 1)) d (omega (arith, is.some, is.within))) ∙ ap (λ k. get_or (A ++ (M ++ R)) k d) (sym at_last));
    }

pub height_of_loose : (height : ℕ) (children : List Subtree) → 1 ≤ length children → All (IsLooseAt height) children → height_over children ≡ height
height_of_loose height [] some all = absurd (omega arith)
height_of_loose height (child ∷ others) some all = (All-head (IsLooseAt height) child others all).level

-- a branch of which a child lost a run
pub loosened : (children : List Subtree) (room i o limit : ℕ) (old new : Subtree) (run : Run) → IsBranch children room → 2 ≤ length children → i < length children
    → old ≡ get_or children i old → IsTrimmed old o limit new run → IsLooseBranch (set children i new) room i × (height_over (set children i new) ≡ height_over children)
loosened children room i o limit old new run is_branch two within old_is trimmed =
    let H = height_over children in
    let was = subst (IsChildAt H) (sym old_is) (is_branch.balanced i old within) in
    let loose : IsLooseAt H new = record { level = omega (arith, was.level, trimmed.height); high = omega (arith, was.high, trimmed.height); roomy = omega (arith, was.roomy, trimmed.room); dense = trimmed.dense } in
    let all = All-set (IsLooseAt H) children i new loose (λ k d below. let l = is_branch.balanced k d below in record { level = l.level; high = l.high; roomy = l.roomy; dense = l.dense }) in
    let len = length-set children i new in
    let same = height_of_loose H (set children i new) (omega (arith, two)) all in (
      record {
        two = omega (arith, two);
        most = omega (arith, is_branch.most);
        roomy = is_branch.roomy;
        within = omega (arith, within);
        balanced = subst (λ level. All (IsLooseAt level) (set children i new)) (sym same) all;
        wide = λ k d below other. subst (λ (x : Subtree). 16 ≤ x.width) (sym (get_or-set_other children i k new d other)) (is_branch.balanced k d (omega (arith, below))).wide;
      },
      same,
    )

-- no more elements are left than there were
pub trimmed_fits : (children : List Subtree) (i o limit : ℕ) (old new : Subtree) (run : Run) → i < length children → old ≡ get_or children i old → IsTrimmed old o limit new run
    → length (all_elements (set children i new)) ≤ length (all_elements children)
trimmed_fits children i o limit old new run within old_is trimmed =
    let A = all_elements (take i children) in
    let R = all_elements (drop (i + 1) children) in
    let gone = trimmed.removed in
    let left : length new.elements ≤ length old.elements = omega (arith, ap length gone.elements, length-append (take o old.elements) (drop (o + run.count) old.elements), length-take o old.elements, length-drop (o + run.count) old.elements) in
    let whole = ap length (all_split children i old within) ∙ length-append A ((get_or children i old).elements ++ R) in
    omega (arith, whole, left, length-append (get_or children i old).elements R, ap (λ (x : Subtree). length x.elements) old_is, ap length (set_elements children i new within), length-append A (new.elements ++ R), length-append new.elements R)

-- what the branch lost
pub trimmed_over : (children mended : List Subtree) (room room' i o place limit : ℕ) (old new : Subtree) (run : Run) → IsBranch children room → i < length children
    → old ≡ get_or children i old → place ≡ length (all_elements (take i children)) + o → IsTrimmed old o limit new run
    → height_over (set children i new) ≡ height_over children → IsMended (set children i new) mended room' → room ≤ room'
    → IsTrimmed (branch_of children room) place limit (branch_of mended room') run
trimmed_over children mended room room' i o place limit old new run is_branch within old_is place_is trimmed same is_mended rooms =
    let A = all_elements (take i children) in
    let R = all_elements (drop (i + 1) children) in
    let whole : A ++ (old.elements ++ R) ≡ all_elements children = ap (λ (x : Subtree). A ++ (x.elements ++ R)) old_is ∙ sym (all_split children i old within) in
    let left : A ++ (new.elements ++ R) ≡ all_elements mended = sym (set_elements children i new within) ∙ sym is_mended.elements in
    let run_in = run_middle A old.elements R new.elements o limit run trimmed.removed in
    let in_whole = subst (λ ys. IsRun ys (length A + o) limit (A ++ (new.elements ++ R)) run) whole run_in in
    let in_left = subst (λ ys. IsRun (all_elements children) (length A + o) limit ys run) left in_whole in
    record {
      removed = subst (λ k. IsRun (all_elements children) k limit (all_elements mended) run) (sym place_is) in_left;
      height = is_mended.height ∙ same;
      room = rooms;
      width = omega (arith, is_mended.length_is, length-set children i new);
      dense = branch_dense mended room' (height_over mended) is_mended.branch.balanced refl;
    }

-- what stands first stays first where nothing before it goes
pub least_kept : (bkey : Bkey) (elements : List Elem) (low high : ℕ) → 0 < low → low ≤ high → high ≤ length elements → IsLeast bkey elements → IsLeast bkey (remove_range elements low high)
least_kept bkey elements low high behind order within least d some =
    let len = length-take-le low elements (omega arith) in
    let front : get_or (take low elements ++ drop high elements) 0 d ≡ get_or (take low elements) 0 d = get_or_append_left (take low elements) (drop high elements) d 0 (omega arith) in
    let whole : get_or elements 0 d ≡ get_or (take low elements) 0 d = ap (λ ys. get_or ys 0 d) (sym (take-append-drop low elements)) ∙ get_or_append_left (take low elements) (drop low elements) d 0 (omega arith) in
    least d (omega arith) ∙ ap (λ (x : Elem). x.bkey) (whole ∙ sym front)

-- what is left where one was taken from the end of a list of one
pub only_one : {X : Type 0} (xs front : List X) (x : X) → xs ≡ front ++ x ∷ [] → length xs ≡ 1 → xs ≡ x ∷ []
only_one xs front x is one =
    is ∙ ap (λ ys. ys ++ x ∷ []) (nil_from_length front (omega (arith, ap length is, length-append front (x ∷ []))))

-- the only child in the root's place
pub fallen : (old only : Subtree) (children : List Subtree) (room place limit : ℕ) (run : Run) → children ≡ only ∷ [] → IsTrimmed old place limit (branch_of children room) run
    → IsBranch children room → ((d : Subtree) → (get_or children 0 d).width < 32) → IsTrimmedRoot old place limit only run
fallen old only children room place limit run is trimmed is_branch not_full =
    let there : get_or children 0 only ≡ only = ap (λ ys. get_or ys 0 only) is in
    let elements : all_elements children ≡ only.elements = ap all_elements is ∙ append-nil only.elements in
    let height : height_over children ≡ only.height + 1 = ap height_over is in
    let was = subst (IsChildAt (height_over children)) there (is_branch.balanced 0 only is_branch.some) in
    record {
      removed = subst (λ ys. IsRun old.elements place limit ys run) elements trimmed.removed;
      level = inr (omega (arith, trimmed.height, height), was.high, was.wide, subst (λ (x : Subtree). x.width < 32) there (not_full only), was.roomy);
      dense = was.dense;
    }

-- What is left of the removal of a range: so many of its last elements are still there.
pub record IsPartGone (xs ys : List Elem) (low high left size : ℕ) : Type 0 where
  pub order : low ≤ high
  pub within : high ≤ length xs
  pub left_is : left ≤ high - low
  pub elements : ys ≡ remove_range xs low (high - left)
  pub size_is : size ≡ elem_sizes (between low (high - left) xs) % 2 ^ 64

-- one more run of it
pub gone_more : (xs ys new : List Elem) (low high left size : ℕ) (run : Run) → IsPartGone xs ys low high left size → IsRun ys low left new run → IsPartGone xs new low high (left - run.count) ((size + run.size) % 2 ^ 64)
gone_more xs ys new low high left size run gone is =
    let m = high - left in
    let k = run.count in
    let cut = subst (λ zs. IsRun zs low left new run) gone.elements is in
    let most = cut.most in
    let order : low ≤ m = omega (arith, gone.order, gone.left_is) in
    let within : m + k ≤ length xs = omega (arith, most, gone.within, gone.left_is) in
    let end : m + k ≡ high - (left - k) = omega (arith, most, gone.left_is) in
    let sizes : elem_sizes (between low m xs) + elem_sizes (between m (m + k) xs) ≡ elem_sizes (between low (m + k) xs) = sym (sum_by-append elem_size (between low m xs) (between m (m + k) xs)) ∙ ap elem_sizes (sym (between_both xs low m k order)) in
    record {
      order = gone.order;
      within = gone.within;
      left_is = omega (arith, gone.left_is);
      elements = cut.elements ∙ (removed_more xs low m k order within ∙ ap (λ n. remove_range xs low n) end);
      size_is = ap (λ n. (n + run.size) % 2 ^ 64) gone.size_is ∙ (mod-add-mod (elem_sizes (between low m xs)) (2 ^ 64) run.size
          ∙ (ap (λ n. (elem_sizes (between low m xs) + n) % 2 ^ 64) (cut.size ∙ ap (λ zs. elem_sizes zs % 2 ^ 64) (between_more xs low m k order within))
          ∙ (add-mod-mod (elem_sizes (between low m xs)) (elem_sizes (between m (m + k) xs)) (2 ^ 64) ∙ (ap (λ n. n % 2 ^ 64) sizes ∙ ap (λ n. elem_sizes (between low n xs) % 2 ^ 64) end))));
    }
