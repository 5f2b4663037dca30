use Rattle.tree_words.specs.AttrGrammar.{getattr_row, setattr_row}
use Rattle.tree_words.specs.TreeLines.{tree_arith_row, tree_count_row, tree_create_row, tree_delete_row, tree_get_row, tree_insert_row, tree_update_row, tree_upsert_row}
use Rattle.tree_words.proofs.ClearLemmas.{reads}
use Rattle.tree_words.proofs.TreeRows.{getattr_row-is_clear, setattr_row-is_clear, tree_arith_row-is_clear, tree_count_row-is_clear, tree_create_row-is_clear, tree_delete_row-is_clear, tree_get_row-is_clear, tree_insert_row-is_clear, tree_update_row-is_clear, tree_upsert_row-is_clear}
use Rattle.tree_words.proofs.laws.rows_read_what_they_spell.Goals as goal

pub returns-clause-create : goal.returns-clause-create
returns-clause-create c = reads tree_create_row tree_create_row-is_clear

pub returns-clause-insert : goal.returns-clause-insert
returns-clause-insert c = reads tree_insert_row tree_insert_row-is_clear

pub returns-clause-upsert : goal.returns-clause-upsert
returns-clause-upsert c = reads tree_upsert_row tree_upsert_row-is_clear

pub returns-clause-update : goal.returns-clause-update
returns-clause-update c = reads tree_update_row tree_update_row-is_clear

pub returns-clause-delete : goal.returns-clause-delete
returns-clause-delete c = reads tree_delete_row tree_delete_row-is_clear

pub returns-clause-get : goal.returns-clause-get
returns-clause-get c = reads tree_get_row tree_get_row-is_clear

pub returns-clause-count : goal.returns-clause-count
returns-clause-count c = reads tree_count_row tree_count_row-is_clear

pub returns-clause-arith : goal.returns-clause-arith
returns-clause-arith c = λ up. reads (tree_arith_row up) (tree_arith_row-is_clear up)

pub returns-clause-getattr : goal.returns-clause-getattr
returns-clause-getattr c = reads getattr_row getattr_row-is_clear

pub returns-clause-setattr : goal.returns-clause-setattr
returns-clause-setattr c = reads setattr_row setattr_row-is_clear
