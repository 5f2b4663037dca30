use Rattle.std.proofs.Common.{arith, ◌≡◌, ◌+◌, suc, ap, ◌∙◌}
use Rattle.std.specs.List.{remove_range}
use Rattle.btree_nodes.proofs.tree.Tree.remove.Goals as goal

pub returns-clause-elements : goal.returns-clause-elements
returns-clause-elements c =
    let one : c.args.place + c.trim.new.run.count ≡ suc c.args.place = omega (arith, c.trim.ensures.run.some, c.trim.ensures.run.most) in
    c.trim.ensures.run.elements ∙ ap (λ n. remove_range c.args.self.now.elements c.args.place n) one
