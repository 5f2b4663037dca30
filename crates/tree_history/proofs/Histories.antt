-- The law over lists of rows.
use Rattle.std.proofs.Common.{◌≡◌, ℕ, Bool, true, false, if◌then◌else◌, List, [], ◌∷◌, length, map, drop, Option, Some, None, refl, ap, sym, ◌∙◌, subst, arith}
use Rattle.std.proofs.lemmas.Bool.{not-true}
use Rattle.arc_core.specs.declared.attributes.Attrs.{Attrs}
use Rattle.arc_core.specs.declared.bkeys.BkeyRange.{BkeyRange}
use Rattle.arc_core.specs.declared.collections.Take.TheVariants as taking
use Rattle.arc_core.specs.declared.filters.Filter.{Filter}
use Rattle.arc_core.specs.declared.rows.Row.{Row}
use Rattle.arc_core.specs.declared.rows.Tail.TheVariants as tail
use Rattle.arc_core.specs.declared.trees.Elem.{Elem}
use Rattle.arc_core.specs.declared.trees.TreeRead.{TreeRead}
use Rattle.arc_core.specs.TreeReading.{chosen, covered_range, meets_zone, selected, take_count}
use Rattle.tree_coll.specs.declared.replies.TreeReply.TheVariants as reply
use Rattle.tree_coll.specs.declared.replies.TreeWord.TheVariants as word
use Rattle.tree_coll.specs.TreeOutcomes.{Outcome, becomes, checked, goes, is_of_kind, refused, stays, tree_row}
use Rattle.tree_coll.specs.TreeRows.{chosen_read, rows}
use Rattle.tree_history.specs.Agreement.{Agrees, MissesNothing}
use Rattle.tree_history.specs.Kept.{Ledger, after_entry, after_row, is_never_silent, is_silent, ledger_after, opened}
use Rattle.tree_history.specs.TreeEntries.{TreeEntry, TreeRow, asked, made, outcome_of}
use Rattle.tree_history.proofs.ReadLemmas.{chosen_same, selected_same}
use Rattle.tree_history.proofs.RowLemmas.{IfAgrees, row_agrees}

-- WHAT AN ANSWER TELLS

abbrev is_not_found : Outcome → Bool
is_not_found (stays (reply.Word word.NotFoundElement)) = true
is_not_found _ = false

abbrev rows_of : Outcome → List Row
rows_of (stays (reply.Rows flags elements end)) = elements
rows_of _ = []

abbrev ends_whole : Outcome → Bool
ends_whole (stays (reply.Rows flags elements tail.End)) = true
ends_whole _ = false

abbrev number_of : Outcome → ℕ
number_of (stays (reply.Count n)) = n
number_of _ = 0

abbrev is_count : Outcome → Bool
is_count (stays (reply.Count n)) = true
is_count _ = false

module _ (ledger : Ledger) (agrees : Agrees ledger) where
  abbrev els : List Elem
  els = ledger.contents.elements

  -- READS THAT END WITH END

  whole_by : (read : TreeRead) (out : List Elem) (met : Bool) → meets_zone ledger.contents.edges els (covered_range read els) ≡ met → chosen read els ≡ out
      → ends_whole (stays (rows ledger.attrs out (if met then tail.Trimmed else tail.End))) ≡ true → map tree_row out ≡ map tree_row (chosen read ledger.kept)
  whole_by read out true met is ends = cc ends
  whole_by read out false met is ends =
      ap (map tree_row) (sym is ∙ sym (chosen_same ledger.contents.edges els ledger.kept agrees.clear agrees.elements_rise agrees.kept_rise read.range read.filter read.offset read.count met))

  not_whole : (met : Bool) → ends_whole (refused (if met then word.OutOfRange else word.NotFoundElement)) ≡ true → ⊥
  not_whole true ends = cc ends
  not_whole false ends = cc ends

  whole_chosen : (read : TreeRead) (out : List Elem) → chosen read els ≡ out → ends_whole (chosen_read taking.Keep read ledger.attrs ledger.contents out) ≡ true
      → rows_of (chosen_read taking.Keep read ledger.attrs ledger.contents out) ≡ map tree_row (chosen read ledger.kept)
  whole_chosen read [] is ends = absurd (not_whole (meets_zone ledger.contents.edges els read.range) ends)
  whole_chosen read (x ∷ xs) is ends = whole_by read (x ∷ xs) (meets_zone ledger.contents.edges els (covered_range read els)) refl is ends

  whole_checked : (read : TreeRead) (fits : Bool) → ends_whole (checked fits (chosen_read taking.Keep read ledger.attrs ledger.contents (chosen read els))) ≡ true
      → rows_of (checked fits (chosen_read taking.Keep read ledger.attrs ledger.contents (chosen read els))) ≡ map tree_row (chosen read ledger.kept)
  whole_checked read true ends = whole_chosen read (chosen read els) refl ends
  whole_checked read false ends = cc ends

  -- READS THAT FIND NOTHING

  none_by : (read : TreeRead) (met : Bool) → meets_zone ledger.contents.edges els read.range ≡ met → chosen read els ≡ [] → is_not_found (refused (if met then word.OutOfRange else word.NotFoundElement)) ≡ true
      → chosen read ledger.kept ≡ []
  none_by read true met is none = cc none
  none_by read false met is none =
      ap (λ xs. take_count read.count (drop read.offset xs)) (selected_same ledger.contents.edges els ledger.kept agrees.clear read.range read.filter met) ∙ is

  none_of : (read : TreeRead) (out : List Elem) → chosen read els ≡ out → is_not_found (chosen_read taking.Keep read ledger.attrs ledger.contents out) ≡ true → chosen read ledger.kept ≡ []
  none_of read [] is none = none_by read (meets_zone ledger.contents.edges els read.range) refl is none
  none_of read (x ∷ xs) is none = cc none

  none_checked : (read : TreeRead) (fits : Bool) → is_not_found (checked fits (chosen_read taking.Keep read ledger.attrs ledger.contents (chosen read els))) ≡ true → chosen read ledger.kept ≡ []
  none_checked read true none = none_of read (chosen read els) refl none
  none_checked read false none = cc none

  -- COUNTS

  count_checked : (range : BkeyRange) (filter : Option Filter) (fits : Bool) → meets_zone ledger.contents.edges els range ≡ false → is_count (checked fits (stays (reply.Count (length (selected range filter els))))) ≡ true
      → number_of (checked fits (stays (reply.Count (length (selected range filter els))))) ≡ length (selected range filter ledger.kept)
  count_checked range filter true outside is = ap length (sym (selected_same ledger.contents.edges els ledger.kept agrees.clear range filter outside))
  count_checked range filter false outside is = cc is

  pub misses_nothing : MissesNothing ledger
  misses_nothing = record {
    whole = λ read flags answered is. sym (ap rows_of is) ∙ whole_checked read (is_of_kind read.range.first ledger.contents) (ap ends_whole is);
    none = λ read is. none_checked read (is_of_kind read.range.first ledger.contents) (ap is_not_found is);
    count = λ range filter n outside is. sym (ap number_of is) ∙ count_checked range filter (is_of_kind range.first ledger.contents) outside (ap is_count is);
  }

-- HISTORIES

pub opened_agrees : (attrs : Attrs) → Agrees (opened attrs)
opened_agrees attrs = record { elements_rise = λ i j d order within. absurd (omega (arith, within)); kept_rise = λ i j d order within. absurd (omega (arith, within)); clear = refl }

-- It agrees, where there is a tree and its action was never a silent one.
abbrev Told : Option Ledger → Type 0
Told None = Unit {0}
Told (Some ledger) = is_never_silent ledger ≡ true → Agrees ledger

-- a row leaves the attributes
told_behind : (row : TreeRow) (old : Ledger) (outcome : Outcome) → (is_never_silent old ≡ true → IfAgrees (after_row row old outcome)) → Told (after_row row old outcome)
told_behind row old (stays answer) behind = behind
told_behind row old (becomes contents answer) behind = behind
told_behind row old (goes answer) behind = tt

entry_told : (entry : TreeEntry) (old : Option Ledger) → Told old → Told (after_entry entry old)
entry_told (made attrs) old told = λ never. opened_agrees attrs
entry_told (asked row) None told = tt
entry_told (asked row) (Some old) told =
    told_behind row old (outcome_of row old.attrs old.contents) (λ never. row_agrees old (told never) (not-true (is_silent old.attrs.action) never) row)

all_told : (entries : List TreeEntry) (old : Option Ledger) → Told old → Told (ledger_after entries old)
all_told [] old told = told
all_told (entry ∷ entries) old told = all_told entries (after_entry entry old) (entry_told entry old told)

pub law : (entries : List TreeEntry) (ledger : Ledger) → ledger_after entries None ≡ Some ledger → is_never_silent ledger ≡ true → MissesNothing ledger
law entries ledger is never = misses_nothing ledger (subst Told is (all_told entries None tt) never)
