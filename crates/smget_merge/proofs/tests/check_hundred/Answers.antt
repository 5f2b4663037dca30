use Rattle.std.proofs.Common.{List, length, ap, sym, ◌∙◌, subst, arith}
use Rattle.std.specs.List.{All}
use Rattle.std.proofs.lemmas.List.{length_push}
use Rattle.std.proofs.lemmas.List.Elements.{All-push}
use Rattle.btree_nodes.specs.Contents.{Contents}
use Rattle.smget_merge.specs.Hundreds.{IsTreeOfHundred}
use Rattle.smget_merge.proofs.tests.check_hundred.Goals as goal

pub loop-j-preserved : goal.loop-j-preserved
loop-j-preserved g c =
    let trees : List Contents = c.loop-j.trees.items in
    let tree = c.in_ok-tree_of_hundred.field-0 in
    let pushed = c.in_ok-push.ensures.items in
    let many = ap length pushed ∙ length_push trees tree in
    record {
      each = subst (All IsTreeOfHundred) (sym {A = List Contents} pushed) (All-push IsTreeOfHundred trees tree c.loop-j.invariant.each c.in_ok-tree_of_hundred.ensures);
      count = omega (arith, many, c.loop-j.invariant.count);
    }
