-- What a read misses of what is kept of a tree, and how the two agree.
use Rattle.std.specs.Prelude.{ℕ, Bool, ◌≡◌, true, false, ◌&&◌, List, [], length, map, filter, Option}
use Rattle.std.specs.Option.{option_map_or}
use Rattle.std.specs.List.{AllPairs}
use Rattle.std.specs.Ordering.{is_lt}
use Rattle.std.specs.declared.cmp.Ordering.TheVariants.{Less}
use Rattle.arc_core.specs.declared.bkeys.Bkey.{Bkey}
use Rattle.arc_core.specs.declared.bkeys.BkeyRange.{BkeyRange}
use Rattle.arc_core.specs.declared.collections.Take.TheVariants as taking
use Rattle.arc_core.specs.declared.filters.Filter.{Filter}
use Rattle.arc_core.specs.declared.rows.Row.{Row}
use Rattle.arc_core.specs.declared.rows.Tail.TheVariants as tail
use Rattle.arc_core.specs.declared.trees.Edges.{Edges}
use Rattle.arc_core.specs.declared.trees.Elem.{Elem}
use Rattle.arc_core.specs.declared.trees.TreeRead.{TreeRead}
use Rattle.arc_core.specs.BkeyOrder.{bkey_cmp}
use Rattle.arc_core.specs.TreeReading.{chosen, meets_zone, selected}
use Rattle.tree_coll.specs.declared.replies.TreeReply.TheVariants as reply
use Rattle.tree_coll.specs.declared.replies.TreeWord.TheVariants as word
use Rattle.tree_coll.specs.TreeOutcomes.{refused, stays, tree_row}
use Rattle.tree_coll.specs.TreeRows.{tree_count, tree_get}
use Rattle.tree_history.specs.Kept.{Ledger}

-- Of a tree whose reads miss nothing of what is kept: a read that ends with END answers what is chosen of it, where none is
-- found nothing of it is chosen, and a count outside the zone counts it.
pub record MissesNothing (ledger : Ledger) : Type 0 where
  pub whole : (read : TreeRead) (flags : ℕ) (rows : List Row) → tree_get read taking.Keep ledger.attrs ledger.contents ≡ stays (reply.Rows flags rows tail.End)
      → rows ≡ map tree_row (chosen read ledger.kept)
  pub none : (read : TreeRead) → tree_get read taking.Keep ledger.attrs ledger.contents ≡ refused word.NotFoundElement → chosen read ledger.kept ≡ []
  pub count : (range : BkeyRange) (asked : Option Filter) (n : ℕ) → meets_zone ledger.contents.edges ledger.contents.elements range ≡ false
      → tree_count range asked ledger.attrs ledger.contents ≡ stays (reply.Count n) → n ≡ length (selected range asked ledger.kept)

-- whether a bkey is above an edge of what was trimmed of the smallest, and below one of the greatest; an edge that is not there
-- refuses nothing
abbrev pub is_above_edge : Option Bkey → Bkey → Bool
is_above_edge edge bkey = option_map_or (λ low. is_lt (bkey_cmp low bkey)) edge true

abbrev pub is_below_edge : Option Bkey → Bkey → Bool
is_below_edge edge bkey = option_map_or (λ high. is_lt (bkey_cmp bkey high)) edge true

-- whether an element is clear of the edges
abbrev pub is_clear : Edges → Elem → Bool
is_clear edges element = is_above_edge edges.low element.bkey && is_below_edge edges.high element.bkey

-- The bkeys of a list rise.
abbrev pub AreByBkey : List Elem → Type 0
AreByBkey elements = AllPairs (λ x y. bkey_cmp x.bkey y.bkey ≡ Less) elements

-- What is kept agrees with the tree: clear of the edges both have the same elements, in order.
pub record Agrees (ledger : Ledger) : Type 0 where
  pub elements_rise : AreByBkey ledger.contents.elements
  pub kept_rise : AreByBkey ledger.kept
  pub clear : filter (is_clear ledger.contents.edges) ledger.kept ≡ filter (is_clear ledger.contents.edges) ledger.contents.elements
