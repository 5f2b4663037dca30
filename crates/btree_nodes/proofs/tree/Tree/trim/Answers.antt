use Rattle.std.proofs.Common.{arith, ap, sym, subst, ◌+◌, ◌≤◌, cond}
use Rattle.arc_core.specs.TreeContents.{IsRising}
use Rattle.btree_nodes.specs.Contents.{Contents}
use Rattle.btree_nodes.proofs.TreeLemmas.{rising_left, ready_kept, spare_kept, trimmed_root}
use Rattle.btree_nodes.specs.TreeRules.{is_ready}
use Rattle.btree_nodes.proofs.tree.Tree.trim.Goals as goal

pub invariant_of-self : goal.invariant_of-self
invariant_of-self c =
    let root = c.self.inside.root in
    let run = c.trim_as_root.new.run in
    let removed = c.trim_as_root.ensures.trimmed.removed in
    record {
      rising = subst IsRising (sym removed.elements) (rising_left root.elements c.args.place (c.args.place + run.count) (omega arith) removed.within c.self.invariant.rising);
      root = trimmed_root root c.trim_as_root.new.self c.args.place c.args.most run c.self.invariant.root c.trim_as_root.ensures.trimmed;
      height_is = c.trim_as_root.ensures.height;
    }

pub returns-clause-spare : goal.returns-clause-spare
returns-clause-spare c =
    let was = ap (λ (tree : Contents). tree.spare) c.self.view_is in
    let kept = spare_kept (is_ready c.self.inside.root c.self.inside.spare) (is_ready c.trim_as_root.new.self c.self.inside.spare)
    (ready_kept c.self.inside.root c.trim_as_root.new.self c.self.inside.spare c.args.place c.args.most c.trim_as_root.new.run c.trim_as_root.ensures.trimmed) in
    subst (λ n. n ≤ cond (is_ready c.trim_as_root.new.self c.self.inside.spare) 1 0) was kept
