use Rattle.std.proofs.Common.{◌≡◌, ℕ, ◌+◌, ◌*◌, ◌/◌, ◌<◌, ◌≤◌, List, length, ap, sym, ◌∙◌, subst, arith}
use Rattle.std.proofs.lemmas.List.{length-set}
use Rattle.smget_merge.specs.Tournaments.{winner_below, IsAbove, IsPlayed}
use Rattle.smget_merge.specs.Walks.{heads_of}
use Rattle.smget_merge.proofs.TournamentLemmas.{above_le, climb_more, entered}
use Rattle.smget_merge.proofs.tournament.rank_again.Goals as goal

pub play-requires-clause-left : goal.play-requires-clause-left
play-requires-clause-left c =
    let node = 2 * c.loop-node.node in
    (entered (length c.args.walks.now) c.args.down (heads_of c.args.walks.now) c.loop-node.winners node
    (λ game. c.loop-node.invariant.played node (omega arith) game (λ above. absurd (omega (arith, above_le node c.loop-node.node above)))) (omega arith)).within

pub play-requires-clause-right : goal.play-requires-clause-right
play-requires-clause-right c =
    let node = 2 * c.loop-node.node + 1 in
    (entered (length c.args.walks.now) c.args.down (heads_of c.args.walks.now) c.loop-node.winners node
    (λ game. c.loop-node.invariant.played node (omega arith) game (λ above. absurd (omega (arith, above_le node c.loop-node.node above)))) (omega arith)).within

pub loop-node-preserved : goal.loop-node-preserved
loop-node-preserved c =
    let count = length c.args.walks.now in
    let heads = heads_of c.args.walks.now in
    let winners = c.loop-node.winners in
    let node = c.loop-node.node in
    let many : length c.play.new.winners ≡ length winners = ap length c.play.ensures ∙ length-set winners node (winner_below c.args.down heads count winners node) in
    record {
      within = omega arith;
      room = omega arith;
      played = subst (λ (list : List ℕ). (other : ℕ) → 1 ≤ other → other < count → (IsAbove other (node / 2) → ⊥) → IsPlayed c.args.down heads count list other) (sym c.play.ensures)
          (climb_more count c.args.down heads winners node (omega arith) (omega arith) (omega arith) c.loop-node.invariant.played);
    }

pub returns-clause-ranked : goal.returns-clause-ranked
returns-clause-ranked c node some game = c.loop-node.invariant.played node some game (λ above. absurd (omega (arith, above_le node c.loop-node.node above)))
