use Rattle.smget_merge.proofs.SelectedLemmas.{reads}
use Rattle.smget_merge.proofs.laws.reads_are_merged.Goals as goal

pub returns : goal.returns
returns c range asked unique trees = reads asked range unique trees
