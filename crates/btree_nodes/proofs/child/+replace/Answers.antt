use Rattle.std.proofs.Common.{arith, ◌≡◌, ◌+◌, ◌<◌, ◌++◌, ◌∙◌, ap, sym, subst, refl, length, take, drop, get_or, set}
use Rattle.std.proofs.lemmas.List.{length-set}
use Rattle.btree_nodes.specs.Subtree.{Subtree, all_elements}
use Rattle.btree_nodes.proofs.ChildrenLemmas.{all_split, set_elements, height_set}
use Rattle.btree_nodes.proofs.MiddleLemmas.{get_middle, set_middle}
use Rattle.btree_nodes.proofs.child.+replace.Goals as goal

pub replacing::replace_below-returns-clause-replaced : goal.replacing::replace_below-returns-clause-replaced
replacing::replace_below-returns-clause-replaced t c =
    let children = c.args.children.now.items in
    let i = c.child_at-index.result.0 in
    let o = c.child_at-index.result.1 in
    let old = c.index_mut.result.now in
    let new = c.replace.new.self in
    let within = subst (λ ys. i < length ys) c.deref.ensures.value c.child_at-index.ensures.within in
    let below : o < length old.elements = subst (λ (x : Subtree). o < length x.elements) (sym c.index_mut.ensures.value)
    (subst (λ ys. o < length (get_or ys i old).elements) c.deref.ensures.value (c.child_at-index.ensures.inside old (subst (λ ys. c.args.place < length (all_elements ys)) (sym c.deref.ensures.value) (omega arith)))) in
    let A = all_elements (take i children) in
    let R = all_elements (drop (i + 1) children) in
    let place : c.args.place ≡ length A + o = c.child_at-index.ensures.before ∙ ap (λ ys. length (all_elements (take i ys)) + o) c.deref.ensures.value in
    let whole : all_elements children ≡ A ++ (old.elements ++ R) = all_split children i old within ∙ ap (λ (x : Subtree). A ++ (x.elements ++ R)) (sym c.index_mut.ensures.value) in
    record {
      elements = set_elements children i new within
          ∙ (ap (λ ys. A ++ (ys ++ R)) c.replace.ensures.elements ∙ (sym (set_middle A old.elements R o c.args.elem below) ∙ (ap (λ ys. set ys (length A + o) c.args.elem) (sym whole) ∙ ap (λ k. set (all_elements children) k c.args.elem) (sym place))));
      handed = c.replace.ensures.handed
          ∙ (sym (get_middle A old.elements R o c.replace.result below) ∙ (ap (λ ys. get_or ys (length A + o) c.replace.result) (sym whole) ∙ ap (λ k. get_or (all_elements children) k c.replace.result) (sym place)));
      height = height_set children i old new within c.index_mut.ensures.value c.replace.ensures.height;
      width = length-set children i new;
      room = refl;
    }
