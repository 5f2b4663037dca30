-- Each row leaves a tree in order.
use Rattle.std.proofs.Common.{◌≡◌, ℕ, ◌^◌, ◌==◌, Bool, true, false, not, ◌&&◌, if◌then◌else◌, List, [], ◌∷◌, length, slice_get, Option, Some, None, refl, ap, ◌∙◌, subst}
use Rattle.std.specs.Option.{option_map_or}
use Rattle.std.proofs.lemmas.Bool.{and_parts}
use Rattle.std.proofs.lemmas.List.Elements.{All-filter}
use Rattle.std.proofs.lemmas.List.Kept.{AllPairs-filter}
use Rattle.std.proofs.lemmas.Option.{get_or_from_slice_get, slice_get_within}
use Rattle.arc_core.specs.declared.attributes.Attrs.{Attrs}
use Rattle.arc_core.specs.declared.bkeys.Bkey.{Bkey}
use Rattle.arc_core.specs.declared.collections.Take.{Take}
use Rattle.arc_core.specs.declared.collections.Take.TheVariants as taking
use Rattle.arc_core.specs.declared.filters.EflagChange.{EflagChange}
use Rattle.arc_core.specs.declared.rows.Tail.TheVariants as tail
use Rattle.arc_core.specs.declared.trees.Elem.{Elem}
use Rattle.arc_core.specs.declared.trees.TreeRead.{TreeRead}
use Rattle.arc_core.specs.Filter.{flag_after}
use Rattle.arc_core.specs.Settling.{Settled, out_of_range, overflowed, settled, stored}
use Rattle.arc_core.specs.Step.{counted}
use Rattle.arc_core.specs.TreeContents.{MayPrecede, place_of, with_element}
use Rattle.arc_core.specs.TreeReading.{chosen, selected}
use Rattle.arc_core.specs.Words.{number_below}
use Rattle.tree_coll.specs.declared.replies.TreeReply.{TreeReply}
use Rattle.tree_coll.specs.declared.replies.TreeReply.TheVariants as reply
use Rattle.tree_coll.specs.declared.replies.TreeWord.TheVariants as word
use Rattle.tree_coll.specs.TreeOutcomes.{Outcome, TreeContents, becomes, checked, found, goes, holding, is_bytes, is_of_kind, is_there, may_get, refused, stays, without}
use Rattle.tree_coll.specs.TreeRows.{at_positions, around as around_reply, chosen_deleted, chosen_read, first_counted, flag_updated, found_counted, found_updated, inserted, is_nothing, left_with, may_count, new_inserted, number_before, number_counted, ordered, rows, some_read, trim_reply}
use Rattle.tree_history.specs.Kept.{number_element}
use Rattle.tree_history.specs.TreeEntries.{TreeRow, arith, around, by_position, count, delete, get, insert, outcome_of, position, update, upsert}
use Rattle.tree_history.specs.TreeKinds.{IsEdgeOf, IsInOrder}
use Rattle.tree_history.proofs.KindLemmas.{Ofs, Parts, by_bkey, edges_kind, fits_kind, settled_parts, to_rising, with_kind}
use Rattle.tree_history.proofs.Lists.{with_rises}

abbrev pub IfInOrder : Outcome → Type 0
IfInOrder (stays answer) = Unit {0}
IfInOrder (becomes tree answer) = IsInOrder tree
IfInOrder (goes answer) = Unit {0}

either : (b : Bool) (first second : Outcome) → IfInOrder first → IfInOrder second → IfInOrder (if b then first else second)
either true first second one other = one
either false first second one other = other

by_fits : (fits : Bool) (outcome : Outcome) → (fits ≡ true → IfInOrder outcome) → IfInOrder (checked fits outcome)
by_fits true outcome is = is refl
by_fits false outcome is = tt

module _ (attrs : Attrs) (tree : TreeContents) (order : IsInOrder tree) where
  abbrev els : List Elem
  els = tree.elements

  left : (out : List Elem) (drop_empty : Bool) (kept dropped : TreeReply) → IfInOrder (left_with drop_empty tree (without out els) kept dropped)
  left out drop_empty kept dropped =
      let stays_in : Elem → Bool = λ element. not (is_there element.bkey out) in
      let bytes = order.kind.0 in
      let kind = order.kind.1 in
      either (drop_empty && (length (without out els) == 0)) (goes dropped) (becomes (holding (without out els) tree) kept) tt
      (record { rising = AllPairs-filter MayPrecede stays_in els order.rising; kind = (bytes, record { elements = All-filter stays_in (λ (x : Elem). is_bytes x.bkey ≡ bytes) els kind.elements; low = kind.low; high = kind.high }) })

  deleted : (drop_empty : Bool) (out : List Elem) → IfInOrder (chosen_deleted drop_empty tree out)
  deleted drop_empty [] = tt
  deleted drop_empty (x ∷ xs) = left (x ∷ xs) drop_empty (reply.Word word.Deleted) (reply.Word word.DeletedDropped)

  got : (read : TreeRead) (take : Take) (out : List Elem) → IfInOrder (chosen_read take read attrs tree out)
  got read take [] = tt
  got read taking.Keep (x ∷ xs) = tt
  got read taking.Delete (x ∷ xs) = left (x ∷ xs) false (rows attrs (x ∷ xs) tail.Deleted) (rows attrs (x ∷ xs) tail.DeletedDropped)
  got read taking.Drop (x ∷ xs) = left (x ∷ xs) true (rows attrs (x ∷ xs) tail.Deleted) (rows attrs (x ∷ xs) tail.DeletedDropped)

  placed : (bytes : Bool) (element : Elem) → Ofs bytes els → IsEdgeOf bytes tree.edges.low → IsEdgeOf bytes tree.edges.high → is_bytes element.bkey ≡ bytes → IsInOrder (holding (with_element element els) tree)
  placed bytes element all low high is =
      let kind = with_kind bytes element els is all in
      record { rising = to_rising bytes (with_element element els) (with_rises element els (by_bkey els order.rising)) kind; kind = (bytes, record { elements = kind; low = low; high = high }) }

  inserted_order : (bytes : Bool) (element : Elem) (answer : List Elem → TreeReply) → Ofs bytes els → IsEdgeOf bytes tree.edges.low → IsEdgeOf bytes tree.edges.high → is_bytes element.bkey ≡ bytes
      → (outcome : Settled) → Parts bytes outcome → IfInOrder (inserted answer element.bkey attrs tree outcome)
  inserted_order bytes element answer all low high is (stored kept trimmed) are =
      let edges = edges_kind bytes attrs.action element (stored kept trimmed) tree.edges are is low high in
      record { rising = to_rising bytes kept are.0 are.1; kind = (bytes, record { elements = are.1; low = edges.0; high = edges.1 }) }
  inserted_order bytes element answer all low high is (out_of_range side) are =
      let edges = edges_kind bytes attrs.action element (out_of_range side) tree.edges are is low high in
      record { rising = order.rising; kind = (bytes, record { elements = all; low = edges.0; high = edges.1 }) }
  inserted_order bytes element answer all low high is overflowed are = tt

  fitting : (bkey : Bkey) → is_of_kind bkey tree ≡ true → (b : Bool) × (Ofs b els × IsEdgeOf b tree.edges.low × IsEdgeOf b tree.edges.high × (is_bytes bkey ≡ b))
  fitting bkey fits = fits_kind bkey order.kind.0 els tree.edges.low tree.edges.high order.kind.1.elements order.kind.1.low order.kind.1.high fits

  new_order : (element : Elem) (answer : List Elem → TreeReply) → is_of_kind element.bkey tree ≡ true → IfInOrder (new_inserted answer element attrs tree)
  new_order element answer fits =
      let of = fitting element.bkey fits in
      inserted_order of.0 element answer of.1.0 of.1.1 of.1.2 of.1.3 (settled attrs.maxcount attrs.maxbkeyrange attrs.action element els)
      (settled_parts of.0 attrs.maxcount attrs.maxbkeyrange attrs.action element els (by_bkey els order.rising) of.1.0 of.1.3)

  of_found : (there : Bool) (n : ℕ) (one : Elem) → (if there then slice_get els n else None) ≡ Some one → is_bytes one.bkey ≡ order.kind.0
  of_found true n one at = subst (λ (x : Elem). is_bytes x.bkey ≡ order.kind.0) (get_or_from_slice_get els n one one at) (order.kind.1.elements n one (slice_get_within els n one at))
  of_found false n one at = cc at

  -- another flag and value under the bkey of one that was found
  changed : (bkey : Bkey) (one element : Elem) → found bkey els ≡ Some one → element.bkey ≡ one.bkey → IsInOrder (holding (with_element element els) tree)
  changed bkey one element at same =
      placed order.kind.0 element order.kind.1.elements order.kind.1.low order.kind.1.high (ap is_bytes same ∙ of_found (is_there bkey els) (place_of bkey els) one at)

  flagged : (bkey : Bkey) (value : Option (List ℕ)) (one : Elem) (flag : Option (Option (List ℕ))) → found bkey els ≡ Some one → IfInOrder (flag_updated value tree one flag)
  flagged bkey value one None at = tt
  flagged bkey value one (Some flag) at = changed bkey one (record { bkey = one.bkey; eflag = flag; value = option_map_or (λ new. new) value one.value }) at refl

  updated : (bkey : Bkey) (change : EflagChange) (value : Option (List ℕ)) (one : Option Elem) → found bkey els ≡ one → IfInOrder (found_updated change value tree one)
  updated bkey change value None at = tt
  updated bkey change value (Some one) at = either (is_nothing change value) (refused word.NothingToUpdate) (flag_updated value tree one (flag_after change one.eflag)) tt (flagged bkey value one (flag_after change one.eflag) at)

  numbered : (up : Bool) (bkey : Bkey) (delta : ℕ) (one : Elem) (number : Option ℕ) → found bkey els ≡ Some one → IfInOrder (number_counted up delta tree one number)
  numbered up bkey delta one None at = tt
  numbered up bkey delta one (Some n) at = changed bkey one (number_element one.bkey one.eflag (counted up delta n)) at refl

  first_order : (bkey : Bkey) (initial : Option ℕ) (eflag : Option (List ℕ)) → may_count bkey initial attrs tree ≡ true → IfInOrder (first_counted bkey initial eflag attrs tree)
  first_order bkey None eflag fits = tt
  first_order bkey (Some n) eflag fits = new_order (number_element bkey eflag n) (λ trimmed. reply.Number n) (and_parts (is_of_kind bkey tree) _ fits).0

  count_order : (up : Bool) (bkey : Bkey) (delta : ℕ) (initial : Option ℕ) (eflag : Option (List ℕ)) (one : Option Elem) → found bkey els ≡ one → may_count bkey initial attrs tree ≡ true
      → IfInOrder (found_counted up bkey delta initial eflag attrs tree one)
  count_order up bkey delta initial eflag None at fits = first_order bkey initial eflag fits
  count_order up bkey delta initial eflag (Some one) at fits = numbered up bkey delta one (number_below (2 ^ 64) one.value) at

  some_order : (xs : List Elem) → IfInOrder (some_read attrs xs)
  some_order [] = tt
  some_order (x ∷ xs) = tt

  pub row_order : (row : TreeRow) → IfInOrder (outcome_of row attrs tree)
  row_order (insert element getrim) =
      let new = new_inserted (trim_reply getrim attrs) element attrs tree in
      by_fits (may_get element.bkey attrs tree) (if is_there element.bkey els then refused word.ElementExists else new)
      (λ fits. either (is_there element.bkey els) (refused word.ElementExists) new tt (new_order element (trim_reply getrim attrs) (and_parts (is_of_kind element.bkey tree) _ fits).0))
  row_order (upsert element getrim) =
      let new = new_inserted (trim_reply getrim attrs) element attrs tree in
      let replaces = becomes (holding (with_element element els) tree) (reply.Word word.Replaced) in
      by_fits (may_get element.bkey attrs tree) (if is_there element.bkey els then replaces else new)
      (λ fits. let kind = (and_parts (is_of_kind element.bkey tree) _ fits).0 in
      let of = fitting element.bkey kind in
      either (is_there element.bkey els) replaces new (placed of.0 element of.1.0 of.1.1 of.1.2 of.1.3) (new_order element (trim_reply getrim attrs) kind))
  row_order (update bkey change value) = by_fits (is_of_kind bkey tree) (found_updated change value tree (found bkey els)) (λ fits. updated bkey change value (found bkey els) refl)
  row_order (arith up bkey delta initial eflag) =
      by_fits (may_count bkey initial attrs tree) (found_counted up bkey delta initial eflag attrs tree (found bkey els)) (count_order up bkey delta initial eflag (found bkey els) refl)
  row_order (delete read drop_empty) = by_fits (is_of_kind read.range.first tree) (chosen_deleted drop_empty tree (chosen read els)) (λ fits. deleted drop_empty (chosen read els))
  row_order (get read take) = by_fits (is_of_kind read.range.first tree) (chosen_read take read attrs tree (chosen read els)) (λ fits. got read take (chosen read els))
  row_order (count range asked) = by_fits (is_of_kind range.first tree) (stays (reply.Count (length (selected range asked els)))) (λ fits. tt)
  row_order (position bkey desc) =
      let place = stays (reply.Position (number_before desc bkey els)) in
      by_fits (is_of_kind bkey tree) (if is_there bkey els then place else refused word.NotFoundElement) (λ fits. either (is_there bkey els) place (refused word.NotFoundElement) tt tt)
  row_order (by_position desc first last) = some_order (at_positions first last (ordered desc els))
  row_order (around bkey desc number) =
      let place = stays (around_reply number (number_before desc bkey els) attrs (ordered desc els)) in
      by_fits (is_of_kind bkey tree) (if is_there bkey els then place else refused word.NotFoundElement) (λ fits. either (is_there bkey els) place (refused word.NotFoundElement) tt tt)

pub keeps_order : (row : TreeRow) (attrs : Attrs) (tree new : TreeContents) (answer : TreeReply) → IsInOrder tree → outcome_of row attrs tree ≡ becomes new answer → IsInOrder new
keeps_order row attrs tree new answer order is = subst IfInOrder is (row_order attrs tree order row)
