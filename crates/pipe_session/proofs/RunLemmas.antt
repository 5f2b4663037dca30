-- Runs of piped commands: one unit more.
use Rattle.std.proofs.Common.{◌≡◌, ◌+◌, ◌<◌, ◌≤◌, ◌⊎◌, ℕ, suc, Bool, true, false, ◌&&◌, ◌||◌, List, [], ◌∷◌, ◌++◌, length, take, Some, None, refl, sym, ap, ◌∙◌, inl, inr, subst, append_assoc, length-append, arith}
use Rattle.std.specs.Prelude.{nat_lt, if◌then◌else◌}
use Rattle.std.specs.List.{list_any}
use Rattle.std.proofs.lemmas.Bool.{and_parts, cases_lt, ltb-true, ltb-false, lt-ltb, le-ltb}
use Rattle.std.proofs.lemmas.List.{append-nil, take-append-le, take_all}
use Rattle.std.proofs.lemmas.List.Folds.{list_any-append}
use Rattle.arc_core.specs.declared.pipes.PipeFault.{PipeFault}
use Rattle.arc_core.specs.declared.pipes.PipeFault.TheVariants as fault
use Rattle.arc_core.specs.declared.pipes.PipeStatus.{PipeStatus}
use Rattle.arc_core.specs.Framing.{Whole}
use Rattle.arc_core.specs.History.{Entry}
use Rattle.pipe_session.specs.Runs.{Kept, KeepsRun, TakesOne, TellsSoFar, is_fine, takes_one, broken_off, no_run, answer_of, broken_answer_of}
use Rattle.pipe_session.specs.SessionText.{Group, alone, run, cut_off, HasStatus, HaveStatuses, TellsGroup, TellsGroups, TellsUnit, TellsRun, Tells, fails, fault_of, is_marked, belongs, opened, ended_by, ended_unmarked, open_behind, groups_before, at_end}

-- THE GROUPS OF ONE UNIT MORE

open_on : (running units : List Whole) (unit : Whole) → open_behind running (units ++ unit ∷ []) ≡ opened (open_behind running units) unit
open_on running [] unit = refl
open_on running (first ∷ units) unit = open_on (opened running first) units unit

groups_on : (running units : List Whole) (unit : Whole) → groups_before running (units ++ unit ∷ []) ≡ groups_before running units ++ ended_by (open_behind running units) unit
groups_on running [] unit = append-nil (ended_by running unit)
groups_on running (first ∷ units) unit =
    ap (λ g. ended_by running first ++ g) (groups_on (opened running first) units unit)
    ∙ sym (append_assoc (ended_by running first) (groups_before (opened running first) units) (ended_by (open_behind (opened running first) units) unit))

-- groups behind others
tells_more : (groups more : List Group) (entries own : List Entry) (text said : List ℕ) → TellsGroups groups entries text → TellsGroups more own said
    → TellsGroups (groups ++ more) (entries ++ own) (text ++ said)
tells_more [] more entries own text said is next = rw (is.0, is.1) next
tells_more (group ∷ groups) more entries own text said is next = (
  is.0,
  is.1 ++ own,
  is.2,
  is.3 ++ said,
  ap (λ e. e ++ own) is.4 ∙ append_assoc is.0 is.1 own,
  ap (λ t. t ++ said) is.5 ∙ append_assoc is.2 is.3 said,
  is.6,
  tells_more groups more is.1 own is.3 said is.7 next,
)

tells_one : (group : Group) (entries : List Entry) (text : List ℕ) → TellsGroup group entries text → TellsGroups (group ∷ []) entries text
tells_one group entries text is = (entries, [], text, [], sym (append-nil entries), sym (append-nil text), is, (refl, refl))

tells_two : (group other : Group) (entries own : List Entry) (text said : List ℕ) → TellsGroup group entries text → TellsGroup other own said
    → TellsGroups (group ∷ other ∷ []) (entries ++ own) (text ++ said)
tells_two group other entries own text said is next = (entries, own, text, said, refl, refl, is, tells_one other own said next)

-- THE STATUSES OF ONE UNIT MORE

same_fails : (ss : List PipeStatus) (s : PipeStatus) → list_any fails ss ≡ false → list_any fails (ss ++ s ∷ []) ≡ fails s
same_fails ss s none = list_any-append fails ss (s ∷ []) ∙ ap (λ b. b || (fails s || false)) none ∙ with_false (fails s)
  where
    with_false : (b : Bool) → (false || (b || false)) ≡ b
    with_false true = refl
    with_false false = refl

both_false : (a b : Bool) → (a || b) ≡ false → (a ≡ false) × (b ≡ false)
both_false true b h = cc
both_false false b h = (refl, h)

-- where none fails, the first one does not, and none of the others
fine_parts : (ss : List PipeStatus) (s : PipeStatus) (rest : List PipeStatus) → ss ≡ s ∷ rest → list_any fails ss ≡ false → (fails s ≡ false) × (list_any fails rest ≡ false)
fine_parts ss s rest is none = both_false (fails s) (list_any fails rest) (sym (ap (list_any fails) is) ∙ none)

-- what stands behind the first status
abbrev Goes : List Whole → List Entry → PipeStatus → List PipeStatus → Type 0
Goes units others told rest =
    ((fails told ≡ true) × (others ≡ []) × (rest ≡ [])) ⊎ ((fails told ≡ false) × HaveStatuses units others rest)

-- it goes on where the first one is fine
goes_on : (units : List Whole) (others : List Entry) (told : PipeStatus) (rest : List PipeStatus) → Goes units others told rest → fails told ≡ false → HaveStatuses units others rest
goes_on units others told rest (inl failed) fine =
    let e : true ≡ false = sym failed.0 ∙ fine in
    absurd cc
goes_on units others told rest (inr on) fine = on.1

-- where none fails each unit has a status
as_many : (units : List Whole) (entries : List Entry) (ss : List PipeStatus) → HaveStatuses units entries ss → list_any fails ss ≡ false → length ss ≡ length units
as_many [] entries ss is none = ap length is.1
as_many (unit ∷ units) entries ss is none =
    let fine = fine_parts ss is.2 is.3 is.5 none in
    ap length is.5 ∙ ap suc (as_many units is.1 is.3 (goes_on units is.1 is.2 is.3 is.7 fine.0) fine.1)

-- the last status
last_goes : (s : PipeStatus) (b : Bool) → fails s ≡ b → Goes [] [] s []
last_goes s true e = inl (e, refl, refl)
last_goes s false e = inr (e, (refl, refl))

-- one more has its status where none fails
have_on : (units : List Whole) (unit : Whole) (entries own : List Entry) (ss : List PipeStatus) (s : PipeStatus) → HaveStatuses units entries ss → list_any fails ss ≡ false
    → HasStatus unit own s → HaveStatuses (units ++ unit ∷ []) (entries ++ own) (ss ++ s ∷ [])
have_on [] unit entries own ss s is none has = rw (is.0, is.1) (own, [], s, [], sym (append-nil own), refl, has, last_goes s (fails s) refl)
have_on (first ∷ units) unit entries own ss s is none has =
    let fine = fine_parts ss is.2 is.3 is.5 none in (
      is.0,
      is.1 ++ own,
      is.2,
      is.3 ++ s ∷ [],
      ap (λ e. e ++ own) is.4 ∙ append_assoc is.0 is.1 own,
      ap (λ t. t ++ s ∷ []) is.5,
      is.6,
      inr (fine.0, have_on units unit is.1 own is.3 s (goes_on units is.1 is.2 is.3 is.7 fine.0) fine.1 has),
    )

-- where one fails, no more of them have a status
more_goes : (units more : List Whole) (others : List Entry) (told : PipeStatus) (rest : List PipeStatus) → Goes units others told rest
    → (fails told ≡ false → HaveStatuses units others rest → HaveStatuses (units ++ more) others rest) → Goes (units ++ more) others told rest
more_goes units more others told rest (inl failed) on = inl failed
more_goes units more others told rest (inr fine) on = inr (fine.0, on fine.0 fine.1)

have_more : (units more : List Whole) (entries : List Entry) (ss : List PipeStatus) → HaveStatuses units entries ss → list_any fails ss ≡ true → HaveStatuses (units ++ more) entries ss
have_more [] more entries ss is some =
    let e : false ≡ true = sym (ap (list_any fails) is.1) ∙ some in
    absurd cc
have_more (unit ∷ units) more entries ss is some = (
  is.0,
  is.1,
  is.2,
  is.3,
  is.4,
  is.5,
  is.6,
  more_goes units more is.1 is.2 is.3 is.7
      (λ fine had. have_more units more is.1 is.3 had (sym (ap (λ b. b || list_any fails is.3) fine) ∙ sym (ap (list_any fails) is.5) ∙ some)),
)

-- WHAT IS KEPT OF A RUN OF ONE UNIT MORE

-- the fault by what went wrong
abbrev fault_by : (failed many ended : Bool) → PipeFault
fault_by failed many ended = if failed then fault.BadError else if many then fault.Overflow else if ended then fault.Nothing else fault.BadError

fine_by : (failed many : Bool) → is_fine (fault_by failed many true) ≡ true → (failed ≡ false) × (many ≡ false)
fine_by true many h = cc
fine_by false true h = cc
fine_by false false h = (refl, refl)

wrong_by : (failed many : Bool) → is_fine (fault_by failed many true) ≡ false → (failed ≡ true) ⊎ ((failed ≡ false) × (many ≡ true))
wrong_by true many h = inl refl
wrong_by false true h = inr (refl, refl)
wrong_by false false h = cc

pub broken_by : (failed many : Bool) → broken_off (fault_by failed many true) ≡ fault_by failed many false
broken_by true many = refl
broken_by false true = refl
broken_by false false = refl

-- the run that is open is 500 units long at most where it goes on
module _ (running : List Whole) (unit : Whole) (own entries : List Entry) (kept : Kept) (have : HaveStatuses (take 500 running) own kept.statuses)
    (why : kept.fault ≡ fault_of kept.statuses (length running) true) where
  one_more : length (running ++ unit ∷ []) ≡ length running + 1
  one_more = length-append running (unit ∷ [])

  -- what is kept where the unit had a status
  taken : takes_one kept ≡ true → (s : PipeStatus) → HasStatus unit entries s
      → HaveStatuses (take 500 (running ++ unit ∷ [])) (own ++ entries) (kept.statuses ++ s ∷ [])
      × ((if fails s then fault.BadError else fault.Nothing) ≡ fault_of (kept.statuses ++ s ∷ []) (length (running ++ unit ∷ [])) true)
  taken takes s has = (
    subst (λ us. HaveStatuses us (own ++ entries) (kept.statuses ++ s ∷ [])) (sym (take_all 500 (running ++ unit ∷ []) (omega (arith, one_more, short))))
        (have_on running unit own entries kept.statuses s had none has),
    sym (ap (λ b. fault_by b (nat_lt 500 (length (running ++ unit ∷ []))) true) (same_fails kept.statuses s none)
        ∙ ap (λ b. fault_by (fails s) b true) (le-ltb 500 (length (running ++ unit ∷ [])) (omega (arith, one_more, short)))),
  )
    where
      parts : (is_fine kept.fault ≡ true) × (nat_lt (length kept.statuses) 500 ≡ true)
      parts = and_parts (is_fine kept.fault) (nat_lt (length kept.statuses) 500) takes

      fine : (list_any fails kept.statuses ≡ false) × (nat_lt 500 (length running) ≡ false)
      fine = fine_by (list_any fails kept.statuses) (nat_lt 500 (length running)) (sym (ap is_fine why) ∙ parts.0)

      none : list_any fails kept.statuses ≡ false
      none = fine.0

      had : HaveStatuses running own kept.statuses
      had = subst (λ us. HaveStatuses us own kept.statuses) (take_all 500 running (ltb-false 500 (length running) fine.1)) have

      short : length running < 500
      short = omega (arith, as_many running own kept.statuses had none, ltb-true (length kept.statuses) 500 parts.1)

  -- what is kept where it was passed over
  passed : takes_one kept ≡ false
      → HaveStatuses (take 500 (running ++ unit ∷ [])) own kept.statuses
      × ((if is_fine kept.fault then fault.Overflow else kept.fault) ≡ fault_of kept.statuses (length (running ++ unit ∷ [])) true)
  passed left_out = by_fault (is_fine kept.fault) refl
    where
      full : 500 ≤ length running → take 500 (running ++ unit ∷ []) ≡ take 500 running
      full long = take-append-le 500 running (unit ∷ []) long

      many : 500 ≤ length running → nat_lt 500 (length (running ++ unit ∷ [])) ≡ true
      many long = lt-ltb 500 (length (running ++ unit ∷ [])) (omega (arith, one_more, long))

      -- where one fails nothing changes
      stay : list_any fails kept.statuses ≡ true → (length running < 500) ⊎ (500 ≤ length running) → HaveStatuses (take 500 (running ++ unit ∷ [])) own kept.statuses
      stay failed (inl less) =
          subst (λ us. HaveStatuses us own kept.statuses) (sym (take_all 500 (running ++ unit ∷ []) (omega (arith, one_more, less))))
          (have_more running (unit ∷ []) own kept.statuses (subst (λ us. HaveStatuses us own kept.statuses) (take_all 500 running (omega (arith, less))) have) failed)
      stay failed (inr long) = subst (λ us. HaveStatuses us own kept.statuses) (sym (full long)) have

      -- the run is broken off already
      wrong : (list_any fails kept.statuses ≡ true) ⊎ ((list_any fails kept.statuses ≡ false) × (nat_lt 500 (length running) ≡ true))
          → HaveStatuses (take 500 (running ++ unit ∷ [])) own kept.statuses × (kept.fault ≡ fault_of kept.statuses (length (running ++ unit ∷ [])) true)
      wrong (inl failed) = (
        stay failed (cases_lt (length running) 500),
        why ∙ ap (λ b. fault_by b (nat_lt 500 (length running)) true) failed ∙ sym (ap (λ b. fault_by b (nat_lt 500 (length (running ++ unit ∷ []))) true) failed),
      )
      wrong (inr over) =
          let long : 500 ≤ length running = omega (arith, ltb-true 500 (length running) over.1) in (
            subst (λ us. HaveStatuses us own kept.statuses) (sym (full long)) have,
            why ∙ ap (λ b. fault_by b (nat_lt 500 (length running)) true) over.0 ∙ ap (λ b. fault_by false b true) (over.1 ∙ sym (many long))
                ∙ sym (ap (λ b. fault_by b (nat_lt 500 (length (running ++ unit ∷ []))) true) over.0),
          )

      by_fault : (fine : Bool) → is_fine kept.fault ≡ fine
          → HaveStatuses (take 500 (running ++ unit ∷ [])) own kept.statuses
          × ((if is_fine kept.fault then fault.Overflow else kept.fault) ≡ fault_of kept.statuses (length (running ++ unit ∷ [])) true)
      by_fault false is =
          let both = wrong (wrong_by (list_any fails kept.statuses) (nat_lt 500 (length running)) (sym (ap is_fine why) ∙ is)) in
          (both.0, ap (λ b. if b then fault.Overflow else kept.fault) is ∙ both.1)
      by_fault true is =
          let fine = fine_by (list_any fails kept.statuses) (nat_lt 500 (length running)) (sym (ap is_fine why) ∙ is) in
          let had : HaveStatuses running own kept.statuses = subst (λ us. HaveStatuses us own kept.statuses) (take_all 500 running (ltb-false 500 (length running) fine.1)) have in
          let no_room : nat_lt (length kept.statuses) 500 ≡ false = sym (ap (λ b. b && nat_lt (length kept.statuses) 500) is) ∙ left_out in
          let long : 500 ≤ length running = omega (arith, as_many running own kept.statuses had fine.0, ltb-false (length kept.statuses) 500 no_room) in (
            subst (λ us. HaveStatuses us own kept.statuses) (sym (full long)) have,
            ap (λ b. if b then fault.Overflow else kept.fault) is
                ∙ sym (ap (λ b. fault_by b (nat_lt 500 (length (running ++ unit ∷ []))) true) fine.0 ∙ ap (λ b. fault_by false b true) (many long)),
          )

  -- either of them
  pub takes_on : (kept' : Kept) → TakesOne (HasStatus unit) kept kept' entries
      → (kept'.is_open ≡ true) × HaveStatuses (take 500 (running ++ unit ∷ [])) (own ++ entries) kept'.statuses
      × (kept'.fault ≡ fault_of kept'.statuses (length (running ++ unit ∷ [])) true)
  takes_on kept' (inl takes) =
      let both = taken takes.0 takes.1 takes.2 in
      rw takes.3 (refl, both.0, both.1)
  takes_on kept' (inr over) =
      let both = passed over.0 in
      rw (over.2, over.1) (refl, subst (λ e. HaveStatuses (take 500 (running ++ unit ∷ [])) e kept.statuses) (sym (append-nil own)) both.0, both.1)

-- what is kept of the run, and of the run with one unit more
keeps_parts : (running : List Whole) (own : List Entry) (kept : Kept) → KeepsRun kept running own
    → HaveStatuses (take 500 running) own kept.statuses × (kept.fault ≡ fault_of kept.statuses (length running) true)
keeps_parts [] own kept keeps = rw (keeps.0, keeps.1) ((refl, refl), refl)
keeps_parts (first ∷ more) own kept keeps = (keeps.1, keeps.2)

keeps_from : (running : List Whole) (unit : Whole) (own : List Entry) (kept : Kept)
    → (kept.is_open ≡ true) × HaveStatuses (take 500 (running ++ unit ∷ [])) own kept.statuses × (kept.fault ≡ fault_of kept.statuses (length (running ++ unit ∷ [])) true)
    → KeepsRun kept (running ++ unit ∷ []) own
keeps_from [] unit own kept is = is
keeps_from (first ∷ more) unit own kept is = is

keeps_on : (running : List Whole) (unit : Whole) (own entries : List Entry) (kept kept' : Kept) → KeepsRun kept running own → TakesOne (HasStatus unit) kept kept' entries
    → KeepsRun kept' (running ++ unit ∷ []) (own ++ entries)
keeps_on running unit own entries kept kept' keeps takes =
    let parts = keeps_parts running own kept keeps in
    keeps_from running unit (own ++ entries) kept' (takes_on running unit own entries kept parts.0 parts.1 kept' takes)

-- whether a run is open
is_open_of : (running : List Whole) (own : List Entry) (kept : Kept) → KeepsRun kept running own → kept.is_open ≡ false → (running ≡ []) × (own ≡ []) × (kept ≡ no_run)
is_open_of [] own kept keeps closed = (refl, keeps.1, keeps.0)
is_open_of (first ∷ more) own kept keeps closed =
    let e : true ≡ false = sym keeps.0 ∙ closed in
    absurd cc

-- ONE UNIT MORE, IN EACH WAY

-- the run goes on
pub goes_on_in_run : (units : List Whole) (unit : Whole) (entries own : List Entry) (text : List ℕ) (kept kept' : Kept) → TellsSoFar kept units entries text → is_marked unit ≡ true
    → TakesOne (HasStatus unit) kept kept' own → TellsSoFar kept' (units ++ unit ∷ []) (entries ++ own) text
goes_on_in_run units unit entries own text kept kept' so marked takes =
    let running = open_behind [] units in (
      so.0,
      so.1 ++ own,
      ap (λ e. e ++ own) so.2 ∙ append_assoc so.0 so.1 own,
      subst (λ g. TellsGroups g so.0 text) (sym (groups_on [] units unit ∙ ap (λ b. groups_before [] units ++ (if b then [] else ended_unmarked running unit)) marked ∙ append-nil (groups_before [] units))) so.3,
      subst (λ o. KeepsRun kept' o (so.1 ++ own)) (sym (open_on [] units unit ∙ ap (λ b. if b then running ++ unit ∷ [] else []) marked)) (keeps_on running unit so.1 own kept kept' so.4 takes),
    )

-- no run is open behind the unit, which ends these groups
behind : (units : List Whole) (unit : Whole) (entries own : List Entry) (text said : List ℕ) (kept : Kept) → TellsSoFar kept units entries text → is_marked unit ≡ false
    → (told : List Entry) → (groups : List Group) → ended_unmarked (open_behind [] units) unit ≡ groups → TellsGroups groups told said
    → (kept' : Kept) → kept' ≡ no_run → (so : List Entry) → entries ++ own ≡ so ++ told → TellsGroups (groups_before [] units) so text
    → TellsSoFar kept' (units ++ unit ∷ []) (entries ++ own) (text ++ said)
behind units unit entries own text said kept so unmarked told groups ends tells kept' none before same had = (
  before ++ told,
  [],
  same ∙ sym (append-nil (before ++ told)),
  subst (λ g. TellsGroups g (before ++ told) (text ++ said))
      (sym (groups_on [] units unit ∙ ap (λ b. groups_before [] units ++ (if b then [] else ended_unmarked (open_behind [] units) unit)) unmarked ∙ ap (λ g. groups_before [] units ++ g) ends))
      (tells_more (groups_before [] units) groups before told text said had tells),
  subst (λ o. KeepsRun kept' o []) (sym (open_on [] units unit ∙ ap (λ b. if b then open_behind [] units ++ unit ∷ [] else []) unmarked)) (none, refl),
)

-- the unit stands alone
pub stands_alone : (units : List Whole) (unit : Whole) (entries own : List Entry) (text said : List ℕ) (kept kept' : Kept) → TellsSoFar kept units entries text → is_marked unit ≡ false
    → kept.is_open ≡ false → TellsUnit unit own said → kept' ≡ kept → TellsSoFar kept' (units ++ unit ∷ []) (entries ++ own) (text ++ said)
stands_alone units unit entries own text said kept kept' so unmarked closed told same =
    let none = is_open_of (open_behind [] units) so.1 kept so.4 closed in
    behind units unit entries own text said kept so unmarked own (alone unit ∷ []) (ap (λ o. ended_unmarked o unit) none.0) (tells_one (alone unit) own said told) kept' (same ∙ none.2) so.0
    (ap (λ e. e ++ own) (so.2 ∙ ap (λ e. so.0 ++ e) none.1 ∙ append-nil so.0)) so.3

-- the unit is the last one of the run
ends_by : (running : List Whole) (unit : Whole) (own entries : List Entry) (kept last : Kept) → KeepsRun kept running own → kept.is_open ≡ true → belongs unit ≡ true
    → TakesOne (HasStatus unit) kept last entries → (groups : List Group) × (ended_unmarked running unit ≡ groups) × TellsGroups groups (own ++ entries) (answer_of last)
ends_by [] unit own entries kept last keeps is_open joins takes =
    let e : false ≡ true = sym (ap (λ (k : Kept). k.is_open) keeps.0) ∙ is_open in
    absurd cc
ends_by (first ∷ more) unit own entries kept last keeps is_open joins takes =
    let on = takes_on (first ∷ more) unit own entries kept keeps.1 keeps.2 last takes in (
      run (first ∷ more) (Some unit) ∷ [],
      ap (λ b. if b then run (first ∷ more) (Some unit) ∷ [] else run (first ∷ more) None ∷ alone unit ∷ []) joins,
      tells_one (run (first ∷ more) (Some unit)) (own ++ entries) (answer_of last) (last.statuses, on.1, ap (λ f. answer_of (record last { fault = f })) on.2),
    )

pub ends_run : (units : List Whole) (unit : Whole) (entries own : List Entry) (text : List ℕ) (kept last kept' : Kept) → TellsSoFar kept units entries text → is_marked unit ≡ false
    → kept.is_open ≡ true → belongs unit ≡ true → TakesOne (HasStatus unit) kept last own → kept' ≡ no_run
    → TellsSoFar kept' (units ++ unit ∷ []) (entries ++ own) (text ++ answer_of last)
ends_run units unit entries own text kept last kept' so unmarked is_open joins takes none =
    let ends = ends_by (open_behind [] units) unit so.1 own kept last so.4 is_open joins takes in
    behind units unit entries own text (answer_of last) kept so unmarked (so.1 ++ own) ends.0 ends.1 ends.2 kept' none so.0
    (ap (λ e. e ++ own) so.2 ∙ append_assoc so.0 so.1 own) so.3

-- the answer to a run that is broken off
broken : (first : Whole) (more : List Whole) (own : List Entry) (kept : Kept) → KeepsRun kept (first ∷ more) own → TellsRun (first ∷ more) false own (broken_answer_of kept)
broken first more own kept keeps = (
  kept.statuses,
  keeps.1,
  ap (λ f. answer_of (record kept { fault = f }))
      (ap broken_off keeps.2 ∙ broken_by (list_any fails kept.statuses) (nat_lt 500 (length (first ∷ more)))),
)

-- the unit breaks the run off
breaks_by : (running : List Whole) (unit : Whole) (own entries : List Entry) (said : List ℕ) (kept : Kept) → KeepsRun kept running own → kept.is_open ≡ true → belongs unit ≡ false
    → TellsUnit unit entries said → (groups : List Group) × (ended_unmarked running unit ≡ groups) × TellsGroups groups (own ++ entries) (broken_answer_of kept ++ said)
breaks_by [] unit own entries said kept keeps is_open stays told =
    let e : false ≡ true = sym (ap (λ (k : Kept). k.is_open) keeps.0) ∙ is_open in
    absurd cc
breaks_by (first ∷ more) unit own entries said kept keeps is_open stays told = (
  run (first ∷ more) None ∷ alone unit ∷ [],
  ap (λ b. if b then run (first ∷ more) (Some unit) ∷ [] else run (first ∷ more) None ∷ alone unit ∷ []) stays,
  tells_two (run (first ∷ more) None) (alone unit) own entries (broken_answer_of kept) said (broken first more own kept keeps) told,
)

pub breaks_run : (units : List Whole) (unit : Whole) (entries own : List Entry) (text said : List ℕ) (kept kept' : Kept) → TellsSoFar kept units entries text → is_marked unit ≡ false
    → kept.is_open ≡ true → belongs unit ≡ false → TellsUnit unit own said → kept' ≡ no_run
    → TellsSoFar kept' (units ++ unit ∷ []) (entries ++ own) (text ++ (broken_answer_of kept ++ said))
breaks_run units unit entries own text said kept kept' so unmarked is_open stays told none =
    let ends = breaks_by (open_behind [] units) unit so.1 own said kept so.4 is_open stays told in
    behind units unit entries own text (broken_answer_of kept ++ said) kept so unmarked (so.1 ++ own) ends.0 ends.1 ends.2 kept' none so.0
    (ap (λ e. e ++ own) so.2 ∙ append_assoc so.0 so.1 own) so.3

-- AT THE END

-- where no run is open all is told
closed_by : (closed : Bool) (running : List Whole) (own : List Entry) (kept : Kept) → KeepsRun kept running own → kept.is_open ≡ false → TellsGroups (at_end closed running) own []
closed_by closed running own kept keeps none =
    let is = is_open_of running own kept keeps none in
    rw (is.0, is.1) (refl, refl)

pub all_told : (closed : Bool) (units : List Whole) (entries : List Entry) (text : List ℕ) (kept : Kept) → TellsSoFar kept units entries text → kept.is_open ≡ false → Tells closed units entries text
all_told closed units entries text kept so none =
    rw (so.2, sym (append-nil text)) (tells_more (groups_before [] units) (at_end closed (open_behind [] units)) so.0 so.1 text [] so.3 (closed_by closed (open_behind [] units) so.1 kept so.4 none))

-- a run that is open is not answered
cut_by : (running : List Whole) (own : List Entry) (kept : Kept) → KeepsRun kept running own → TellsGroups (at_end false running) own []
cut_by [] own kept keeps = (keeps.1, refl)
cut_by (first ∷ more) own kept keeps = tells_one (cut_off (first ∷ more)) own [] (kept.statuses, keeps.1, refl)

pub told_so_far : (units : List Whole) (entries : List Entry) (text : List ℕ) (kept : Kept) → TellsSoFar kept units entries text → Tells false units entries text
told_so_far units entries text kept so =
    rw (so.2, sym (append-nil text)) (tells_more (groups_before [] units) (at_end false (open_behind [] units)) so.0 so.1 text [] so.3 (cut_by (open_behind [] units) so.1 kept so.4))

-- the answer to the run that is open, where one is
abbrev pub owed_answer : Kept → List ℕ
owed_answer kept = if kept.is_open then broken_answer_of kept else []

answered_by : (running : List Whole) (own : List Entry) (kept : Kept) → KeepsRun kept running own → TellsGroups (at_end true running) own (owed_answer kept)
answered_by [] own kept keeps = rw (keeps.0, keeps.1) (refl, refl)
answered_by (first ∷ more) own kept keeps =
    rw keeps.0 (tells_one (run (first ∷ more) None) own (broken_answer_of kept) (broken first more own kept keeps))

pub told_with_answer : (units : List Whole) (entries : List Entry) (text : List ℕ) (kept : Kept) → TellsSoFar kept units entries text → Tells true units entries (text ++ owed_answer kept)
told_with_answer units entries text kept so =
    rw so.2 (tells_more (groups_before [] units) (at_end true (open_behind [] units)) so.0 so.1 text (owed_answer kept) so.3 (answered_by (open_behind [] units) so.1 kept so.4))
