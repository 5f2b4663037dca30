-- Answers to reads.
use Rattle.std.proofs.Common.{◌≡◌, ◌≢◌, ℕ, ◌<◌, Bool, List, [], ◌∷◌, length, map, ap, sym, ◌∙◌, arith}
use Rattle.arc_core.specs.declared.attributes.Attrs.{Attrs}
use Rattle.arc_core.specs.declared.bkeys.Bkey.{Bkey}
use Rattle.arc_core.specs.declared.collections.Take.TheVariants as taking
use Rattle.arc_core.specs.declared.rows.Row.{Row}
use Rattle.arc_core.specs.declared.rows.Tail.{Tail}
use Rattle.arc_core.specs.declared.trees.Elem.{Elem}
use Rattle.arc_core.specs.declared.trees.TreeRead.{TreeRead}
use Rattle.arc_core.specs.declared.trees.Edges.{Edges}
use Rattle.arc_core.specs.declared.bkeys.BkeyRange.{BkeyRange}
use Rattle.arc_core.specs.TreeReading.{covered_range, meets_zone}
use Rattle.tree_coll.specs.TreeHolding.{zone_tail}
use Rattle.arc_core.specs.TreeContents.{IsRising}
use Rattle.btree_scan.specs.Positions.{position_in}
use Rattle.btree_scan.specs.declared.positions.Position.TheVariants.{At}
use Rattle.btree_scan.proofs.SpanLemmas.{found_position, there}
use Rattle.tree_coll.specs.declared.replies.TreeReply.TheVariants as reply
use Rattle.tree_coll.specs.TreeOutcomes.{TreeContents, stays, tree_row}
use Rattle.tree_coll.specs.TreeRows.{chosen_read, read_end}

-- the place of a bkey that is there is one of the tree's
pub place_within : (bkey : Bkey) (xs ys : List Elem) (place : ℕ) → ys ≡ xs → IsRising ys → At place ≡ position_in bkey ys → place < length xs
place_within bkey xs ys place same rising is =
    let at = found_position bkey ys place is in
    omega (arith, there bkey ys rising at.0, at.1, ap length same)

-- a read that answers elements
pub some_answered : (read : TreeRead) (attrs : Attrs) (tree : TreeContents) (xs : List Elem) (rows : List Row) (end : Tail)
    → rows ≡ map tree_row xs → length rows ≢ 0 → end ≡ read_end read tree → chosen_read taking.Keep read attrs tree xs ≡ stays (reply.Rows attrs.flags rows end)
some_answered read attrs tree [] rows end rows_are some end_is = absurd (some (ap length rows_are))
some_answered read attrs tree (x ∷ xs) rows end rows_are some end_is = sym (ap (λ r. stays (reply.Rows attrs.flags r end)) rows_are ∙ ap (λ e. stays (reply.Rows attrs.flags (map tree_row (x ∷ xs)) e)) end_is)

-- how such a read ends
pub tail_is : (read : TreeRead) (tree : TreeContents) (edges : Edges) (elements : List Elem) (range : BkeyRange) (met : Bool) (end : Tail)
    → edges ≡ tree.edges → elements ≡ tree.elements → range ≡ covered_range read tree.elements → met ≡ meets_zone edges elements range → end ≡ zone_tail met → end ≡ read_end read tree
tail_is read tree edges elements range met end edges_are elements_are range_is met_is end_is =
    end_is ∙ ap zone_tail (met_is ∙ (ap (λ e. meets_zone e elements range) edges_are ∙ (ap (λ xs. meets_zone tree.edges xs range) elements_are ∙ ap (meets_zone tree.edges tree.elements) range_is)))
