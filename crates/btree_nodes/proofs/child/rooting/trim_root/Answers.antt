use Rattle.std.proofs.Common.{arith, sym, subst, vec_capacity}
use Rattle.btree_nodes.specs.declared.child.Node.{Node}
use Rattle.btree_nodes.specs.Subtree.{Subtree, branch_of}
use Rattle.btree_nodes.specs.NodeRules.{subtree_of}
use Rattle.btree_nodes.specs.Rooting.{IsTrimmedRoot}
use Rattle.btree_nodes.proofs.TrimLemmas.{only_one, fallen}
use Rattle.btree_nodes.proofs.child.rooting.trim_root.Goals as goal

pub returns-then-len-eq1-clause-trimmed : goal.returns-then-len-eq1-clause-trimmed
returns-then-len-eq1-clause-trimmed c =
    let old = c.in-Branch.children in
    let kids = c.trim_below.new.children in
    let only = c.unwrap-only.result in
    let run = c.trim_below.new.run in
    let is = only_one kids.items c.pop.new.self.items only (rw c.unwrap-only.ensures at c.pop.ensures.items) (omega arith) in
    let fell = fallen (branch_of old.items (vec_capacity old)) only kids.items (vec_capacity kids) c.args.place c.args.most run is c.trim_below.ensures.trimmed c.trim_below.ensures.branch
    (c.trim_below.ensures.alone (omega arith)) in
    subst (λ (node : Node). IsTrimmedRoot (subtree_of node) c.args.place c.args.most (subtree_of c.only.inside.node) run) (sym c.in-Branch.is)
    (subst (λ (new : Subtree). IsTrimmedRoot (branch_of old.items (vec_capacity old)) c.args.place c.args.most new run) (sym c.only.view_is) fell)
