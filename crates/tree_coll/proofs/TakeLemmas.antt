-- What reads and deletions take out of a tree.
use Rattle.std.proofs.Common.{◌≡◌, ◌≢◌, ◌≤◌, ℕ, Bool, true, false, if◌then◌else◌, List, [], ◌∷◌, length, map, refl, ap, sym, ◌∙◌, arith}
use Rattle.arc_core.specs.declared.attributes.Attrs.{Attrs}
use Rattle.arc_core.specs.declared.bkeys.Bkey.{Bkey}
use Rattle.arc_core.specs.declared.collections.Take.TheVariants as taking
use Rattle.arc_core.specs.declared.rows.Row.{Row}
use Rattle.arc_core.specs.declared.rows.Tail.TheVariants as tail
use Rattle.arc_core.specs.declared.trees.Edges.{Edges}
use Rattle.arc_core.specs.declared.trees.Elem.{Elem}
use Rattle.arc_core.specs.declared.trees.TreeRead.{TreeRead}
use Rattle.arc_core.specs.TreeReading.{chosen, is_selected}
use Rattle.tree_coll.specs.declared.replies.TreeReply.TheVariants as reply
use Rattle.tree_coll.specs.declared.replies.TreeWord.TheVariants as word
use Rattle.tree_coll.specs.TreeHolding.{contents_of}
use Rattle.tree_coll.specs.TreeOutcomes.{TreeContents, is_of_kind, refused, tree_row, without}
use Rattle.tree_coll.specs.TreePlanning.{AreChosen, without_between}
use Rattle.tree_coll.specs.TreeRows.{chosen_deleted, chosen_read, left_with, tree_delete}
use Rattle.tree_coll.proofs.WithoutLemmas.{without_chosen}

-- what a check on kinds has seen
pub kind_seen : (bkey : Bkey) (tree : TreeContents) (elements : List Elem) (edges : Edges) (fits : Bool) → elements ≡ tree.elements → edges ≡ tree.edges → fits ≡ is_of_kind bkey (contents_of elements edges) → fits ≡ true → is_of_kind bkey tree ≡ true
kind_seen bkey tree elements edges fits elements_are edges_are is passed =
    sym (is ∙ (ap (λ xs. is_of_kind bkey (contents_of xs edges)) elements_are ∙ ap (λ es. is_of_kind bkey (contents_of tree.elements es)) edges_are)) ∙ passed

deleted_some : (drop_empty : Bool) (tree : TreeContents) (gone : List Elem) → 1 ≤ length gone
    → chosen_deleted drop_empty tree gone ≡ left_with drop_empty tree (without gone tree.elements) (reply.Word word.Deleted) (reply.Word word.DeletedDropped)
deleted_some drop_empty tree [] some = absurd (omega (arith, some))
deleted_some drop_empty tree (x ∷ xs) some = refl

-- a deletion that chooses some
pub deleted : (read : TreeRead) (drop_empty : Bool) (attrs : Attrs) (tree : TreeContents) (low high : ℕ) → is_of_kind read.range.first tree ≡ true → AreChosen read tree.elements low high
    → low ≢ high → tree_delete read drop_empty attrs tree ≡ left_with drop_empty tree (without_between (is_selected read.filter) low high tree.elements) (reply.Word word.Deleted) (reply.Word word.DeletedDropped)
deleted read drop_empty attrs tree low high kind are other =
    ap (λ b. if b then chosen_deleted drop_empty tree (chosen read tree.elements) else refused word.BkeyMismatch) kind
    ∙ (deleted_some drop_empty tree (chosen read tree.elements) (are.some other)
    ∙ ap (λ left. left_with drop_empty tree left (reply.Word word.Deleted) (reply.Word word.DeletedDropped)) (without_chosen read tree.elements low high are))

taken_some : (drop_empty : Bool) (read : TreeRead) (attrs : Attrs) (tree : TreeContents) (gone : List Elem) (rows : List Row) → rows ≡ map tree_row gone → length rows ≢ 0
    → chosen_read (if drop_empty then taking.Drop else taking.Delete) read attrs tree gone
    ≡ left_with drop_empty tree (without gone tree.elements) (reply.Rows attrs.flags rows tail.Deleted) (reply.Rows attrs.flags rows tail.DeletedDropped)
taken_some drop_empty read attrs tree [] rows rows_are some = absurd (some (ap length rows_are))
taken_some true read attrs tree (x ∷ xs) rows rows_are some =
    sym (ap (λ r. left_with true tree (without (x ∷ xs) tree.elements) (reply.Rows attrs.flags r tail.Deleted) (reply.Rows attrs.flags r tail.DeletedDropped)) rows_are)
taken_some false read attrs tree (x ∷ xs) rows rows_are some =
    sym (ap (λ r. left_with false tree (without (x ∷ xs) tree.elements) (reply.Rows attrs.flags r tail.Deleted) (reply.Rows attrs.flags r tail.DeletedDropped)) rows_are)

-- a read that takes out what it answers
pub taken : (drop_empty : Bool) (read : TreeRead) (attrs : Attrs) (tree : TreeContents) (low high : ℕ) (rows : List Row) → rows ≡ map tree_row (chosen read tree.elements) → length rows ≢ 0
    → AreChosen read tree.elements low high
    → chosen_read (if drop_empty then taking.Drop else taking.Delete) read attrs tree (chosen read tree.elements)
    ≡ left_with drop_empty tree (without_between (is_selected read.filter) low high tree.elements) (reply.Rows attrs.flags rows tail.Deleted) (reply.Rows attrs.flags rows tail.DeletedDropped)
taken drop_empty read attrs tree low high rows rows_are some are =
    taken_some drop_empty read attrs tree (chosen read tree.elements) rows rows_are some
    ∙ ap (λ left. left_with drop_empty tree left (reply.Rows attrs.flags rows tail.Deleted) (reply.Rows attrs.flags rows tail.DeletedDropped)) (without_chosen read tree.elements low high are)
