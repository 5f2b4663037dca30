use Rattle.smget_merge.proofs.SortLemmas.{sorted_again}
use Rattle.smget_merge.proofs.laws.adds_are_sorted.Goals as goal

pub returns : goal.returns
returns c down xs ys = sorted_again down xs ys
