use Rattle.std.proofs.Common.{arith, ◌≤◌, ap, sym, ◌∙◌, subst}
use Rattle.std.specs.List.{insert}
use Rattle.arc_core.specs.TreeContents.{IsRising}
use Rattle.btree_nodes.specs.Contents.{Contents}
use Rattle.btree_nodes.specs.Subtree.{Subtree}
use Rattle.btree_nodes.proofs.TreeLemmas.{rising_insert, height_fits, kind_of_all, ready_fits}
use Rattle.btree_nodes.proofs.tree.Tree.insert_spare_at.Goals as goal

pub invariant_of-self : goal.invariant_of-self
invariant_of-self c =
    let back = sym (ap (λ (tree : Contents). tree.elements) c.self.view_is) in
    let elements = c.self.inside.root.elements in
    let root = c.self.invariant.root in
    let rising = subst IsRising (sym back) c.self.invariant.rising in
    record {
      rising = subst IsRising (sym (c.insert.ensures.elements ∙ ap (λ ys. insert ys c.args.place c.args.elem) (sym back))) (rising_insert c.args.self.now.elements c.args.elem c.args.place rising c.requires.absent (kind_of_all c.args.elem.bkey c.args.self.now.elements rising c.requires.kind) c.requires.place);
      root = record {
        high = omega (arith, root.high);
        two = λ high. omega (arith, root.two (omega (arith, high)));
        roomy = λ high. omega (arith, root.roomy (omega (arith, high)));
        dense = c.insert.ensures.dense;
      };
      height_is = omega (arith, c.self.invariant.height_is);
    }

pub overflow_add-self : goal.overflow_add-self
overflow_add-self c =
    omega (arith, c.self.invariant.height_is, height_fits c.self.inside.root c.self.invariant.root.dense (omega arith) (omega (arith, ready_fits c.self.inside.root c.self.inside.spare (subst (λ n. 1 ≤ n) (sym (ap (λ (tree : Contents). tree.spare) c.self.view_is)) c.requires.spare))))

pub invariant_of-self-2 : goal.invariant_of-self-2
invariant_of-self-2 c =
    let back = sym (ap (λ (tree : Contents). tree.elements) c.self.view_is) in
    let rising = subst IsRising (sym back) c.self.invariant.rising in
    let was = ap (λ (x : Subtree). x.height) c.replace-root.ensures.value in
    record {
      rising = subst IsRising (sym (c.raised.ensures.elements ∙ (ap (λ (x : Subtree). insert x.elements c.args.place c.args.elem) c.replace-root.ensures.value ∙ ap (λ ys. insert ys c.args.place c.args.elem) (sym back)))) (rising_insert c.args.self.now.elements c.args.elem c.args.place rising c.requires.absent (kind_of_all c.args.elem.bkey c.args.self.now.elements rising c.requires.kind) c.requires.place);
      root = record {
        high = omega (arith, was);
        two = λ high. omega arith;
        roomy = λ high. omega arith;
        dense = c.raised.ensures.dense;
      };
      height_is = omega (arith, was, c.self.invariant.height_is);
    }
