use Rattle.std.proofs.Common.{arith, ◌≡◌, ◌+◌, ◌-◌, ◌∙◌, ap, take, get_or}
use Rattle.std.specs.List.{remove, remove_range}
use Rattle.std.specs.Vec.{vec_len}
use Rattle.btree_nodes.proofs.RunLemmas.{remove_last, get_last, remove_tail}
use Rattle.btree_nodes.proofs.runs.take_out.Goals as goal

pub returns-then-end-len-clause-items : goal.returns-then-end-len-clause-items
returns-then-end-len-clause-items c =
    let xs = c.args.elements.now.items in
    c.truncate.ensures.items ∙ (ap (λ ys. take c.args.place ys) c.pop.ensures.rest ∙ remove_tail xs c.args.place c.args.end (vec_len c.args.elements.now - 1) c.requires.some (omega arith) (omega arith))

pub returns-clause-items : goal.returns-clause-items
returns-clause-items c =
    let xs = c.args.elements.now.items in
    let low = c.args.place in
    let high = c.args.end - 1 in
    let next : high + 1 ≡ c.args.end = omega arith in
    c.remove.ensures.items ∙ (ap (λ ys. remove ys low) c.drop_range.ensures.items ∙ (remove_last xs low high (omega arith) (omega arith) ∙ ap (λ k. remove_range xs low k) next))

pub returns-clause-last : goal.returns-clause-last
returns-clause-last c =
    let xs = c.args.elements.now.items in
    let low = c.args.place in
    let high = c.args.end - 1 in
    c.remove.ensures.value ∙ (ap (λ ys. get_or ys low c.remove.result) c.drop_range.ensures.items ∙ get_last xs low high c.remove.result (omega arith) (omega arith))
