use Rattle.std.proofs.Common.{◌≡◌, ℕ, ◌-◌, ◌<◌, ◌≤◌, List, length, ap, sym, ◌∙◌, subst, arith}
use Rattle.std.proofs.lemmas.List.{length-set}
use Rattle.smget_merge.specs.Tournaments.{winner_below, IsPlayed}
use Rattle.smget_merge.specs.Walks.{heads_of}
use Rattle.smget_merge.proofs.TournamentLemmas.{rank_more}
use Rattle.smget_merge.proofs.tournament.rank.Goals as goal

pub loop-node-preserved : goal.loop-node-preserved
loop-node-preserved c =
    let count = length c.args.walks.now in
    let heads = heads_of c.args.walks.now in
    let winners = c.loop-node.winners in
    let node = c.loop-node.node - 1 in
    let many : length c.play.new.winners ≡ length winners = ap length c.play.ensures ∙ length-set winners node (winner_below c.args.down heads count winners node) in
    record {
      most = omega arith;
      room = omega arith;
      played = subst (λ (list : List ℕ). (other : ℕ) → node ≤ other → 1 ≤ other → other < count → IsPlayed c.args.down heads count list other) (sym c.play.ensures)
          (rank_more count c.args.down heads winners node (omega arith) (omega arith) (omega arith) (λ other behind some game. c.loop-node.invariant.played other (omega arith) some game));
    }

pub returns-clause-ranked : goal.returns-clause-ranked
returns-clause-ranked c node some game = c.loop-node.invariant.played node (omega arith) some game
