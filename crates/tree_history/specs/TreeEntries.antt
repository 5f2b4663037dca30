-- What is asked of a tree, as data, and what it comes to.
use Rattle.std.specs.Prelude.{ℕ, Bool, List, Option}
use Rattle.arc_core.specs.declared.attributes.Attrs.{Attrs}
use Rattle.arc_core.specs.declared.bkeys.Bkey.{Bkey}
use Rattle.arc_core.specs.declared.bkeys.BkeyRange.{BkeyRange}
use Rattle.arc_core.specs.declared.collections.Take.{Take}
use Rattle.arc_core.specs.declared.filters.EflagChange.{EflagChange}
use Rattle.arc_core.specs.declared.filters.Filter.{Filter}
use Rattle.arc_core.specs.declared.trees.Elem.{Elem}
use Rattle.arc_core.specs.declared.trees.TreeRead.{TreeRead}
use Rattle.tree_coll.specs.TreeOutcomes.{Outcome, TreeContents}
use Rattle.tree_coll.specs.TreeRows.{tree_arith, tree_around, tree_by_position, tree_count, tree_delete, tree_get, tree_insert, tree_position, tree_update, tree_upsert}

-- A request on a tree.
pub data TreeRow : Type 0 where
  insert : Elem → (getrim : Bool) → TreeRow
  upsert : Elem → (getrim : Bool) → TreeRow
  update : Bkey → EflagChange → Option (List ℕ) → TreeRow
  arith : (up : Bool) → Bkey → (delta : ℕ) → (initial : Option ℕ) → (eflag : Option (List ℕ)) → TreeRow
  delete : TreeRead → (drop_empty : Bool) → TreeRow
  get : TreeRead → Take → TreeRow
  count : BkeyRange → Option Filter → TreeRow
  position : Bkey → (desc : Bool) → TreeRow
  by_position : (desc : Bool) → (first last : ℕ) → TreeRow
  around : Bkey → (desc : Bool) → (number : ℕ) → TreeRow

-- what it comes to with a tree
abbrev pub outcome_of : TreeRow → Attrs → TreeContents → Outcome
outcome_of (insert element getrim) attrs tree = tree_insert element getrim attrs tree
outcome_of (upsert element getrim) attrs tree = tree_upsert element getrim attrs tree
outcome_of (update bkey change value) attrs tree = tree_update bkey change value attrs tree
outcome_of (arith up bkey delta initial eflag) attrs tree = tree_arith up bkey delta initial eflag attrs tree
outcome_of (delete read drop_empty) attrs tree = tree_delete read drop_empty attrs tree
outcome_of (get read take) attrs tree = tree_get read take attrs tree
outcome_of (count range filter) attrs tree = tree_count range filter attrs tree
outcome_of (position bkey desc) attrs tree = tree_position bkey desc attrs tree
outcome_of (by_position desc first last) attrs tree = tree_by_position desc first last attrs tree
outcome_of (around bkey desc number) attrs tree = tree_around bkey desc number attrs tree

-- What happens under one key: a tree is made, or the one that is there is asked something.
pub data TreeEntry : Type 0 where
  made : Attrs → TreeEntry
  asked : TreeRow → TreeEntry
