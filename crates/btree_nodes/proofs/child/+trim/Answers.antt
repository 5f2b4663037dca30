use Rattle.std.proofs.Common.{arith, ◌+◌, ◌<◌, ◌∙◌, ap, subst, length, take, vec_capacity}
use Rattle.btree_nodes.specs.Subtree.{all_elements}
use Rattle.btree_nodes.proofs.TrimLemmas.{loosened, trimmed_fits, trimmed_over}
use Rattle.btree_nodes.proofs.child.+trim.Goals as goal

pub removal::trim_below-mend-requires-clause-fits : goal.removal::trim_below-mend-requires-clause-fits
removal::trim_below-mend-requires-clause-fits t c =
    let children = c.args.children.now.items in
    let index = c.child_at-index.result.0 in
    let within = subst (λ ys. index < length ys) c.deref.ensures.value c.child_at-index.ensures.within in
    omega (arith, trimmed_fits children index c.child_at-index.result.1 c.args.most c.index_mut.result.now c.trim.new.self c.trim.new.run within c.index_mut.ensures.value c.trim.ensures)

pub removal::trim_below-returns-clause-trimmed : goal.removal::trim_below-returns-clause-trimmed
removal::trim_below-returns-clause-trimmed t c =
    let children = c.args.children.now.items in
    let index = c.child_at-index.result.0 in
    let offset = c.child_at-index.result.1 in
    let old = c.index_mut.result.now in
    let new = c.trim.new.self in
    let within = subst (λ ys. index < length ys) c.deref.ensures.value c.child_at-index.ensures.within in
    let place = c.child_at-index.ensures.before ∙ ap (λ ys. length (all_elements (take index ys)) + offset) c.deref.ensures.value in
    let same = (loosened children (vec_capacity c.args.children.now) index offset c.args.most old new c.trim.new.run c.requires.branch c.requires.two within c.index_mut.ensures.value c.trim.ensures).1 in
    trimmed_over children c.mend.new.children.items (vec_capacity c.args.children.now) (vec_capacity c.mend.new.children) index offset c.args.place c.args.most old new c.trim.new.run
    c.requires.branch within c.index_mut.ensures.value place c.trim.ensures same c.mend.ensures.mended c.mend.ensures.capacity
