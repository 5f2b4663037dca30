use Rattle.std.proofs.Common.{ap, sym, ◌∙◌, subst, arith}
use Rattle.std.specs.List.{filter}
use Rattle.arc_core.specs.TreeContents.{IsRising}
use Rattle.btree_scan.specs.Directions.{is_within}
use Rattle.btree_scan.proofs.NextLemmas.{next_way, next_some, next_spent}
use Rattle.btree_scan.proofs.leaves.next_leaf.Goals as goal

pub cut_at_end-requires : goal.cut_at_end-requires
cut_at_end-requires g c =
    let near = c.near_leaf-leaf.ensures.leaf in
    subst IsRising (c.in-Some.ensures.elements ∙ sym near.elements) c.requires.rising

pub returns-clause-elements : goal.returns-clause-elements
returns-clause-elements g c =
    let p = is_within c.args.down c.args.far.now in
    let near = c.near_leaf-leaf.ensures.leaf in
    c.cut_at_end.ensures.elements ∙ ap (filter p) (near.elements ∙ sym c.in-Some.ensures.elements)

pub returns-clause-way : goal.returns-clause-way
returns-clause-way g c =
    next_way c.args.down c.args.way.now c.nearest_child.new.way c.near_leaf-leaf.new.way c.cut_at_end.new.way c.in-Some.child.now c.near_leaf-leaf.result.now c.cut_at_end.result.now c.requires c.in-Some.ensures c.near_leaf-leaf.ensures.leaf c.cut_at_end.ensures.cut

pub returns-clause-some : goal.returns-clause-some
returns-clause-some g c =
    next_some c.args.down c.nearest_child.new.way c.near_leaf-leaf.new.way c.cut_at_end.new.way c.in-Some.child.now c.near_leaf-leaf.result.now c.cut_at_end.result.now c.near_leaf-leaf.ensures.leaf c.cut_at_end.ensures.cut

pub returns-clause-steps : goal.returns-clause-steps
returns-clause-steps g c =
    omega (
      arith,
      c.near_leaf-leaf.ensures.steps,
      next_spent c.args.down c.args.way.now c.nearest_child.new.way c.near_leaf-leaf.new.way c.cut_at_end.new.way c.in-Some.child.now c.near_leaf-leaf.result.now c.cut_at_end.result.now c.requires c.in-Some.ensures c.near_leaf-leaf.ensures.leaf c.cut_at_end.ensures.cut,
    )
