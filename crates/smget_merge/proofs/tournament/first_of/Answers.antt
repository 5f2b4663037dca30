use Rattle.std.proofs.Common.{length, sym, subst}
use Rattle.smget_merge.specs.Tournaments.{IsFirst}
use Rattle.smget_merge.specs.Walks.{heads_of}
use Rattle.smget_merge.proofs.TournamentLemmas.{top_first}
use Rattle.smget_merge.proofs.tournament.first_of.Goals as goal

pub returns : goal.returns
returns c =
    let count = length c.args.walks.now in
    let heads = heads_of c.args.walks.now in
    subst (IsFirst c.args.down heads count) (sym c.entrant.ensures) (top_first count c.args.down heads c.args.winners.now c.requires.ranked c.requires.some)
