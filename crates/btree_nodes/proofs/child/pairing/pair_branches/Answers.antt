use Rattle.std.proofs.Common.{arith, ◌<◌, ◌++◌, ◌∙◌, ap, sym, subst, length, vec_capacity}
use Rattle.std.specs.List.{All}
use Rattle.std.proofs.lemmas.List.{length-append}
use Rattle.btree_nodes.specs.Subtree.{Subtree, all_elements, height_over, IsChildAt}
use Rattle.btree_nodes.proofs.ChildrenLemmas.{all_append, branch_from}
use Rattle.btree_nodes.proofs.RunLemmas.{all_front, all_behind}
use Rattle.btree_nodes.proofs.PairLemmas.{all_of_both, as_child, both_elements}
use Rattle.btree_nodes.proofs.child.pairing.pair_branches.Goals as goal

pub returns-then-len-lt-MAX_WIDTH-clause-paired : goal.returns-then-len-lt-MAX_WIDTH-clause-paired
returns-then-len-lt-MAX_WIDTH-clause-paired c =
    let left = c.args.left.items in
    let right = c.args.right.items in
    let is = rw c.unwrap.ensures at c.append.ensures.items in
    let joined = c.append.new.self in
    let all = subst (All (IsChildAt (height_over left))) (sym is) (all_of_both left right (vec_capacity c.args.left) (vec_capacity c.args.right) c.requires.left c.requires.right c.requires.level) in
    let count = ap length is ∙ length-append left right in (
      as_child joined.items (vec_capacity joined) (height_over left) c.of_branch.result all (omega arith) (omega arith) (omega (arith, c.requires.left.roomy)) c.of_branch.ensures,
      subst (λ (x : Subtree). x.width < 32) (sym c.of_branch.ensures) (omega arith),
      ap (λ (x : Subtree). x.elements) c.of_branch.ensures ∙ (ap all_elements is ∙ all_append left right),
    )

pub of_branch-requires-2-clause-branch : goal.of_branch-requires-2-clause-branch
of_branch-requires-2-clause-branch c =
    let left = c.args.left.items in
    let first = c.level.new.left.items in
    let all = all_front (IsChildAt (height_over left)) first c.level.new.right.items (left ++ c.args.right.items) c.level.ensures.leveled.items
    (all_of_both left c.args.right.items (vec_capacity c.args.left) (vec_capacity c.args.right) c.requires.left c.requires.right c.requires.level) in
    branch_from (height_over left) first (vec_capacity c.level.new.left) (omega arith) (omega arith) (omega arith) all

pub of_branch-requires-2-clause-fits : goal.of_branch-requires-2-clause-fits
of_branch-requires-2-clause-fits c =
    omega (
      arith,
      ap length (both_elements c.args.left.items c.args.right.items c.level.new.left.items c.level.new.right.items c.level.ensures.leveled.items),
      length-append (all_elements c.level.new.left.items) (all_elements c.level.new.right.items),
      length-append (all_elements c.args.left.items) (all_elements c.args.right.items),
    )

pub of_branch-requires-3-clause-branch : goal.of_branch-requires-3-clause-branch
of_branch-requires-3-clause-branch c =
    let left = c.args.left.items in
    let second = c.level.new.right.items in
    let all = all_behind (IsChildAt (height_over left)) c.level.new.left.items second (left ++ c.args.right.items) c.level.ensures.leveled.items
    (all_of_both left c.args.right.items (vec_capacity c.args.left) (vec_capacity c.args.right) c.requires.left c.requires.right c.requires.level) in
    branch_from (height_over left) second (vec_capacity c.level.new.right) (omega arith) (omega arith) (omega arith) all

pub of_branch-requires-3-clause-fits : goal.of_branch-requires-3-clause-fits
of_branch-requires-3-clause-fits c =
    omega (
      arith,
      ap length (both_elements c.args.left.items c.args.right.items c.level.new.left.items c.level.new.right.items c.level.ensures.leveled.items),
      length-append (all_elements c.level.new.left.items) (all_elements c.level.new.right.items),
      length-append (all_elements c.args.left.items) (all_elements c.args.right.items),
    )

pub returns-clause-paired : goal.returns-clause-paired
returns-clause-paired c =
    let left = c.args.left.items in
    let right = c.args.right.items in
    let first = c.level.new.left in
    let second = c.level.new.right in
    let all = all_of_both left right (vec_capacity c.args.left) (vec_capacity c.args.right) c.requires.left c.requires.right c.requires.level in
    let P = IsChildAt (height_over left) in (
      as_child first.items (vec_capacity first) (height_over left) c.of_branch-2.result (all_front P first.items second.items (left ++ right) c.level.ensures.leveled.items all)
          c.level.ensures.leveled.first_least c.level.ensures.leveled.first_most (omega (arith, c.requires.left.roomy)) c.of_branch-2.ensures,
      as_child second.items (vec_capacity second) (height_over left) c.of_branch-3.result (all_behind P first.items second.items (left ++ right) c.level.ensures.leveled.items all)
          c.level.ensures.leveled.second_least c.level.ensures.leveled.second_most (omega (arith, c.requires.right.roomy)) c.of_branch-3.ensures,
      ap (λ (x : Subtree). x.elements ++ c.of_branch-3.result.elements) c.of_branch-2.ensures
          ∙ (ap (λ (x : Subtree). all_elements first.items ++ x.elements) c.of_branch-3.ensures ∙ both_elements left right first.items second.items c.level.ensures.leveled.items),
    )
