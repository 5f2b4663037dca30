-- What a row makes of a tree and of what is kept of it agrees, where the two agreed.
use Rattle.std.proofs.Common.{◌≡◌, ℕ, ◌^◌, ◌==◌, Bool, true, false, not, ◌&&◌, if◌then◌else◌, List, [], ◌∷◌, length, Option, Some, None, refl, ap, sym, ◌∙◌, subst}
use Rattle.std.specs.List.{filter}
use Rattle.std.specs.Option.{option_map, option_map_or}
use Rattle.std.specs.declared.cmp.Ordering.TheVariants.{Less}
use Rattle.std.proofs.lemmas.Bool.{not-true}
use Rattle.std.proofs.lemmas.List.Kept.{AllPairs-filter}
use Rattle.arc_core.specs.declared.bkeys.Bkey.{Bkey}
use Rattle.arc_core.specs.declared.collections.Take.{Take}
use Rattle.arc_core.specs.declared.collections.Take.TheVariants as taking
use Rattle.arc_core.specs.declared.filters.EflagChange.{EflagChange}
use Rattle.arc_core.specs.declared.rows.Tail.TheVariants as tail
use Rattle.arc_core.specs.declared.trees.Edges.{Edges}
use Rattle.arc_core.specs.declared.trees.Elem.{Elem}
use Rattle.arc_core.specs.declared.trees.TreeRead.{TreeRead}
use Rattle.arc_core.specs.BkeyOrder.{bkey_cmp}
use Rattle.arc_core.specs.Filter.{flag_after}
use Rattle.arc_core.specs.Settling.{Settled, out_of_range, overflowed, settled, settled_edges, stored}
use Rattle.arc_core.specs.Step.{counted}
use Rattle.arc_core.specs.TreeContents.{with_element}
use Rattle.arc_core.specs.TreeReading.{chosen, selected}
use Rattle.arc_core.specs.Words.{number_below}
use Rattle.tree_coll.specs.declared.replies.TreeReply.{TreeReply}
use Rattle.tree_coll.specs.declared.replies.TreeReply.TheVariants as reply
use Rattle.tree_coll.specs.declared.replies.TreeWord.TheVariants as word
use Rattle.tree_coll.specs.TreeOutcomes.{Outcome, TreeContents, becomes, checked, found, goes, holding, is_of_kind, is_there, may_get, refused, stays, without}
use Rattle.tree_coll.specs.TreeRows.{at_positions, around as around_reply, chosen_deleted, chosen_read, first_counted, flag_updated, found_counted, found_updated, inserted, is_nothing, left_with, may_count, new_inserted, number_before, number_counted, ordered, rows, some_read, trim_reply}
use Rattle.tree_history.specs.Agreement.{Agrees, is_clear}
use Rattle.tree_history.specs.Kept.{Ledger, after_row, counted_element, is_never_silent, is_silent, kept_after, announces, number_element, refused_element, stored_element, updated_element, with_put}
use Rattle.tree_history.specs.TreeEntries.{TreeRow, arith, around, by_position, count, delete, get, insert, outcome_of, position, update, upsert}
use Rattle.tree_history.proofs.Lists.{agree_filter, agree_narrower, agree_with, with_rises}
use Rattle.tree_history.proofs.PutLemmas.{Settles, settles}

-- It agrees, where there is a tree.
abbrev pub IfAgrees : Option Ledger → Type 0
IfAgrees None = Unit {0}
IfAgrees (Some ledger) = Agrees ledger

module _ (old : Ledger) (agrees : Agrees old) where
  abbrev els : List Elem
  els = old.contents.elements

  abbrev before : Elem → Elem → Type 0
  before x y = bkey_cmp x.bkey y.bkey ≡ Less

  abbrev behind : TreeRow → Outcome → Type 0
  behind row outcome = IfAgrees (after_row row old outcome)

  abbrev ledger_with : TreeContents → List Elem → Ledger
  ledger_with contents kept = record { attrs = old.attrs; contents = contents; kept = kept }

  either : (row : TreeRow) (b : Bool) (first second : Outcome) → behind row first → behind row second → behind row (if b then first else second)
  either row true first second one other = one
  either row false first second one other = other

  -- TAKING

  gone : (out : List Elem) → Agrees (ledger_with (holding (without out els) old.contents) (without out old.kept))
  gone out =
      let stays_in : Elem → Bool = λ element. not (is_there element.bkey out) in
      record {
        elements_rise = AllPairs-filter before stays_in els agrees.elements_rise;
        kept_rise = AllPairs-filter before stays_in old.kept agrees.kept_rise;
        clear = agree_filter (is_clear old.contents.edges) stays_in old.kept els agrees.clear;
      }

  left : (row : TreeRow) (out : List Elem) (drop_empty : Bool) (kept dropped : TreeReply) → kept_after row kept old ≡ without out old.kept → behind row (left_with drop_empty old.contents (without out els) kept dropped)
  left row out drop_empty kept dropped is =
      either row (drop_empty && (length (without out els) == 0)) (goes dropped) (becomes (holding (without out els) old.contents) kept) tt
      (subst (λ ks. Agrees (ledger_with (holding (without out els) old.contents) ks)) (sym is) (gone out))

  deleted : (read : TreeRead) (drop_empty : Bool) (out : List Elem) → chosen read els ≡ out → behind (delete read drop_empty) (chosen_deleted drop_empty old.contents out)
  deleted read drop_empty [] is = agrees
  deleted read drop_empty (x ∷ xs) is = left (delete read drop_empty) (x ∷ xs) drop_empty (reply.Word word.Deleted) (reply.Word word.DeletedDropped) (ap (λ out. without out old.kept) is)

  got : (read : TreeRead) (take : Take) (out : List Elem) → chosen read els ≡ out → behind (get read take) (chosen_read take read old.attrs old.contents out)
  got read take [] is = agrees
  got read taking.Keep (x ∷ xs) is = agrees
  got read taking.Delete (x ∷ xs) is = left (get read taking.Delete) (x ∷ xs) false (rows old.attrs (x ∷ xs) tail.Deleted) (rows old.attrs (x ∷ xs) tail.DeletedDropped) (ap (λ out. without out old.kept) is)
  got read taking.Drop (x ∷ xs) is = left (get read taking.Drop) (x ∷ xs) true (rows old.attrs (x ∷ xs) tail.Deleted) (rows old.attrs (x ∷ xs) tail.DeletedDropped) (ap (λ out. without out old.kept) is)

  -- PUTTING

  -- an element in place of the one with its bkey
  replaced : (element : Elem) → Agrees (ledger_with (holding (with_element element els) old.contents) (with_element element old.kept))
  replaced element =
      record {
        elements_rise = with_rises element els agrees.elements_rise;
        kept_rise = with_rises element old.kept agrees.kept_rise;
        clear = agree_with (is_clear old.contents.edges) element old.kept els agrees.clear;
      }

  replaced_as : (element : Elem) (kept : List Elem) → kept ≡ with_element element old.kept → Agrees (ledger_with (holding (with_element element els) old.contents) kept)
  replaced_as element kept is = subst (λ ks. Agrees (ledger_with (holding (with_element element els) old.contents) ks)) (sym is) (replaced element)

  -- an insert that was settled so
  stored_agrees : (element : Elem) (kept trimmed : List Elem) → Settles old.attrs.action element (with_element element els) old.contents.edges (stored kept trimmed)
      → Agrees (ledger_with (record { elements = kept; edges = settled_edges old.attrs.action element.bkey (stored kept trimmed) old.contents.edges }) (with_element element old.kept))
  stored_agrees element kept trimmed is =
      let new = settled_edges old.attrs.action element.bkey (stored kept trimmed) old.contents.edges in
      record {
        elements_rise = is.2;
        kept_rise = with_rises element old.kept agrees.kept_rise;
        clear = agree_with (is_clear new) element old.kept els (agree_narrower (is_clear old.contents.edges) (is_clear new) old.kept els is.0 agrees.clear) ∙ sym is.1;
      }

  refused_by : (element : Elem) (new : Edges) (told : Bool) → ((x : Elem) → is_clear new x ≡ true → is_clear old.contents.edges x ≡ true)
      → (told ≡ true → (others : List Elem) → filter (is_clear new) (with_element element others) ≡ filter (is_clear new) others)
      → Agrees (ledger_with (record { elements = els; edges = new }) (with_put (if told then Some element else None) old.kept))
  refused_by element new true narrows out = record {
    elements_rise = agrees.elements_rise;
    kept_rise = with_rises element old.kept agrees.kept_rise;
    clear = out refl old.kept ∙ agree_narrower (is_clear old.contents.edges) (is_clear new) old.kept els narrows agrees.clear;
  }
  refused_by element new false narrows out = record {
    elements_rise = agrees.elements_rise;
    kept_rise = agrees.kept_rise;
    clear = agree_narrower (is_clear old.contents.edges) (is_clear new) old.kept els narrows agrees.clear;
  }

  inserted_agrees : (row : TreeRow) (element : Elem) (answer : List Elem → TreeReply) → ((trimmed : List Elem) → kept_after row (answer trimmed) old ≡ with_element element old.kept)
      → kept_after row (reply.Word word.OutOfRange) old ≡ with_put (refused_element old.attrs.action element) old.kept
      → (outcome : Settled) → Settles old.attrs.action element (with_element element els) old.contents.edges outcome → behind row (inserted answer element.bkey old.attrs old.contents outcome)
  inserted_agrees row element answer put refuses (stored kept trimmed) is =
      subst (λ ks. Agrees (ledger_with (record { elements = kept; edges = settled_edges old.attrs.action element.bkey (stored kept trimmed) old.contents.edges }) ks)) (sym (put trimmed)) (stored_agrees element kept trimmed is)
  inserted_agrees row element answer put refuses (out_of_range side) is =
      let new = settled_edges old.attrs.action element.bkey (out_of_range side) old.contents.edges in
      subst (λ ks. Agrees (ledger_with (record { elements = els; edges = new }) ks)) (sym refuses) (refused_by element new (announces old.attrs.action) is.0 is.1)
  inserted_agrees row element answer put refuses overflowed is = agrees

  stored_put : (element : Elem) (getrim : Bool) (trimmed : List Elem) → with_put (stored_element element old.attrs.action (trim_reply getrim old.attrs trimmed)) old.kept ≡ with_element element old.kept
  stored_put element getrim [] = refl
  stored_put element false (x ∷ xs) = refl
  stored_put element true (x ∷ xs) = refl

  -- CHANGING

  flagged : (bkey : Bkey) (change : EflagChange) (value : Option (List ℕ)) (one : Elem) (flag : Option (Option (List ℕ))) → found bkey els ≡ Some one → flag_after change one.eflag ≡ flag
      → behind (update bkey change value) (flag_updated value old.contents one flag)
  flagged bkey change value one None at is = agrees
  flagged bkey change value one (Some flag) at is =
      let put : Option (List ℕ) → Elem = λ eflag. record { bkey = one.bkey; eflag = eflag; value = option_map_or (λ new. new) value one.value } in
      replaced_as (put flag) (kept_after (update bkey change value) (reply.Word word.Updated) old)
      (ap (λ o. with_put (updated_element change value o) old.kept) at ∙ ap (λ f. with_put (option_map put f) old.kept) is)

  updated : (bkey : Bkey) (change : EflagChange) (value : Option (List ℕ)) (one : Option Elem) → found bkey els ≡ one → behind (update bkey change value) (found_updated change value old.contents one)
  updated bkey change value None at = agrees
  updated bkey change value (Some one) at =
      either (update bkey change value) (is_nothing change value) (refused word.NothingToUpdate) (flag_updated value old.contents one (flag_after change one.eflag)) agrees
      (flagged bkey change value one (flag_after change one.eflag) at refl)

  module _ (told : is_silent old.attrs.action ≡ false) where
    new_agrees : (row : TreeRow) (element : Elem) (answer : List Elem → TreeReply) → ((trimmed : List Elem) → kept_after row (answer trimmed) old ≡ with_element element old.kept)
        → kept_after row (reply.Word word.OutOfRange) old ≡ with_put (refused_element old.attrs.action element) old.kept → behind row (new_inserted answer element old.attrs old.contents)
    new_agrees row element answer put refuses =
        inserted_agrees row element answer put refuses (settled old.attrs.maxcount old.attrs.maxbkeyrange old.attrs.action element els)
        (settles old.attrs.maxcount old.attrs.maxbkeyrange old.attrs.action element els old.contents.edges told (with_rises element els agrees.elements_rise))

    number_agrees : (up : Bool) (bkey : Bkey) (delta : ℕ) (initial : Option ℕ) (eflag : Option (List ℕ)) (one : Elem) (number : Option ℕ) → found bkey els ≡ Some one
        → behind (arith up bkey delta initial eflag) (number_counted up delta old.contents one number)
    number_agrees up bkey delta initial eflag one None at = agrees
    number_agrees up bkey delta initial eflag one (Some n) at =
        let answer = reply.Number (counted up delta n) in
        replaced_as (number_element one.bkey one.eflag (counted up delta n)) (kept_after (arith up bkey delta initial eflag) answer old)
        (ap (λ o. with_put (counted_element bkey initial eflag old.attrs.action o answer) old.kept) at)

    first_agrees : (up : Bool) (bkey : Bkey) (delta : ℕ) (initial : Option ℕ) (eflag : Option (List ℕ)) → found bkey els ≡ None → behind (arith up bkey delta initial eflag) (first_counted bkey initial eflag old.attrs old.contents)
    first_agrees up bkey delta None eflag at = agrees
    first_agrees up bkey delta (Some n) eflag at =
        new_agrees (arith up bkey delta (Some n) eflag) (number_element bkey eflag n) (λ trimmed. reply.Number n)
        (λ trimmed. ap (λ o. with_put (counted_element bkey (Some n) eflag old.attrs.action o (reply.Number n)) old.kept) at)
        (ap (λ o. with_put (counted_element bkey (Some n) eflag old.attrs.action o (reply.Word word.OutOfRange)) old.kept) at)

    count_agrees : (up : Bool) (bkey : Bkey) (delta : ℕ) (initial : Option ℕ) (eflag : Option (List ℕ)) (one : Option Elem) → found bkey els ≡ one
        → behind (arith up bkey delta initial eflag) (found_counted up bkey delta initial eflag old.attrs old.contents one)
    count_agrees up bkey delta initial eflag None at = first_agrees up bkey delta initial eflag at
    count_agrees up bkey delta initial eflag (Some one) at = number_agrees up bkey delta initial eflag one (number_below (2 ^ 64) one.value) at

    -- READING

    some_agrees : (row : TreeRow) (xs : List Elem) → behind row (some_read old.attrs xs)
    some_agrees row [] = agrees
    some_agrees row (x ∷ xs) = agrees

    -- a row behind its check on kinds
    fits_agrees : (row : TreeRow) (fits : Bool) (outcome : Outcome) → behind row outcome → behind row (checked fits outcome)
    fits_agrees row fits outcome is = either row fits outcome (refused word.BkeyMismatch) is agrees

    -- EACH ROW

    pub row_agrees : (row : TreeRow) → behind row (outcome_of row old.attrs old.contents)
    row_agrees (insert element getrim) =
        let row = insert element getrim in
        let new = new_inserted (trim_reply getrim old.attrs) element old.attrs old.contents in
        fits_agrees row (may_get element.bkey old.attrs old.contents) (if is_there element.bkey els then refused word.ElementExists else new)
        (either row (is_there element.bkey els) (refused word.ElementExists) new agrees (new_agrees row element (trim_reply getrim old.attrs) (stored_put element getrim) refl))
    row_agrees (upsert element getrim) =
        let row = upsert element getrim in
        let replaces = becomes (holding (with_element element els) old.contents) (reply.Word word.Replaced) in
        let new = new_inserted (trim_reply getrim old.attrs) element old.attrs old.contents in
        fits_agrees row (may_get element.bkey old.attrs old.contents) (if is_there element.bkey els then replaces else new)
        (either row (is_there element.bkey els) replaces new (replaced element) (new_agrees row element (trim_reply getrim old.attrs) (stored_put element getrim) refl))
    row_agrees (update bkey change value) =
        fits_agrees (update bkey change value) (is_of_kind bkey old.contents) (found_updated change value old.contents (found bkey els)) (updated bkey change value (found bkey els) refl)
    row_agrees (arith up bkey delta initial eflag) =
        fits_agrees (arith up bkey delta initial eflag) (may_count bkey initial old.attrs old.contents) (found_counted up bkey delta initial eflag old.attrs old.contents (found bkey els))
        (count_agrees up bkey delta initial eflag (found bkey els) refl)
    row_agrees (delete read drop_empty) =
        fits_agrees (delete read drop_empty) (is_of_kind read.range.first old.contents) (chosen_deleted drop_empty old.contents (chosen read els)) (deleted read drop_empty (chosen read els) refl)
    row_agrees (get read take) =
        fits_agrees (get read take) (is_of_kind read.range.first old.contents) (chosen_read take read old.attrs old.contents (chosen read els)) (got read take (chosen read els) refl)
    row_agrees (count range asked) = fits_agrees (count range asked) (is_of_kind range.first old.contents) (stays (reply.Count (length (selected range asked els)))) agrees
    row_agrees (position bkey desc) =
        let row = position bkey desc in
        let place = stays (reply.Position (number_before desc bkey els)) in
        fits_agrees row (is_of_kind bkey old.contents) (if is_there bkey els then place else refused word.NotFoundElement) (either row (is_there bkey els) place (refused word.NotFoundElement) agrees agrees)
    row_agrees (by_position desc first last) = some_agrees (by_position desc first last) (at_positions first last (ordered desc els))
    row_agrees (around bkey desc number) =
        let row = around bkey desc number in
        let place = stays (around_reply number (number_before desc bkey els) old.attrs (ordered desc els)) in
        fits_agrees row (is_of_kind bkey old.contents) (if is_there bkey els then place else refused word.NotFoundElement) (either row (is_there bkey els) place (refused word.NotFoundElement) agrees agrees)

pub row_keeps : (row : TreeRow) (old new : Ledger) → Agrees old → is_never_silent old ≡ true → after_row row old (outcome_of row old.attrs old.contents) ≡ Some new → Agrees new
row_keeps row old new agrees told is = subst IfAgrees is (row_agrees old agrees (not-true (is_silent old.attrs.action) told) row)
