-- The trees of the tests.
use Rattle.std.specs.Prelude.{◌≡◌, length}
use Rattle.arc_core.specs.TreeContents.{IsRising}
use Rattle.btree_nodes.specs.Contents.{Contents}

pub record IsTreeOfHundred (tree : Contents) : Type 0 where
  pub count : length tree.elements ≡ 100
  pub rising : IsRising tree.elements
