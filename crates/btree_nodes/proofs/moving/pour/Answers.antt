use Rattle.std.proofs.Common.{rules, length, ◌-◌, ◌+◌, ◌++◌, ◌∷◌, [], arith, ap, sym, ◌∙◌}
use Rattle.btree_nodes.proofs.MovingLemmas.{poured_more}
use Rattle.btree_nodes.proofs.moving.pour.Goals as goal

pub loop-moved-preserved : goal.loop-moved-preserved
loop-moved-preserved g c =
    let popped = rw c.unwrap.ensures at c.pop.ensures.items in
    let pushed = rw c.unwrap-in-loop-moved.ensures at c.push.ensures.items in
    let xs = c.args.from.now.items in
    let more = poured_more xs c.pop.new.self.items c.args.to.now.items (length xs - (c.loop-moved._moved + 1)) (length xs - c.loop-moved._moved) c.unwrap.result (omega arith) (omega arith) (sym c.loop-moved.invariant.from ∙ popped) in
    record {
      from = more.0;
      to = pushed ∙ (ap (λ ys. ys ++ c.unwrap.result ∷ []) c.loop-moved.invariant.to ∙ more.1);
      from_room = search rules;
      to_room = omega arith;
    }
