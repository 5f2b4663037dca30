-- What becomes of the counts of faults while ports are out.
use Rattle.std.proofs.Common.{◌≡◌, ◌∙◌, ◌⊎◌, inl, inr, Bool, true, false, ◌||◌, ℕ, ◌+◌, ◌<◌, ◌≤◌, List, [], ◌∷◌, length, map, refl, sym, ap, arith}
use Rattle.std.specs.List.{AllByRecursion}
use Rattle.std.proofs.lemmas.Bool.{true≢false}
use Rattle.arc_core.specs.CacheState.{CacheState}
use Rattle.arc_core.specs.History.{Entry}
use Rattle.arc_core.specs.Outside.{Rose}
use Rattle.atomic_table.specs.Seated.{TableId}
use Rattle.turn_lock.specs.Seats.{SeatView}
use Rattle.worker_ports.specs.Hands.{PortsState, TakesPort}
use Rattle.worker_server.specs.declared.worker.WorkerEnd.{WorkerEnd}
use Rattle.worker_server.specs.declared.worker.WorkerEnd.TheVariants as worker_end
use Rattle.worker_server.specs.Ports.{PortState}
use Rattle.worker_server.specs.Workers.{EndsFor}
use Rattle.worker_team.specs.declared.team.Member.{Member}
use Rattle.worker_team.specs.Team.{Hired, AllHaveWorked}
use Rattle.serve_runs.specs.Serving.{HandsThrough, TakesThrough, EndedWell}
use Rattle.serve_runs.specs.Verdicts.{has_failed, was_refused, any_failed, any_refused}

-- a count that rose, and did not fall behind that
pub rose_then : (before middle after : ℕ) → Rose before middle → middle ≤ after → Rose before after
rose_then before middle after (up, one) more = (omega (arith, up, more), omega (arith, one, more))

-- it did not fall, and then it rose
pub then_rose : (before middle after : ℕ) → before ≤ middle → Rose middle after → Rose before after
then_rose before middle after up (more, one) = (omega (arith, up, more), omega (arith, up, one))

module _ {L P : Type 0} (tell : P → PortState L) where
  -- the port has not failed
  abbrev pub IsFine : P → Type 0
  IsFine port = (tell port).faults ≡ 0

  pub hands_counts : (before after : PortsState P) (ports : List P) → HandsThrough tell before ports after
      → (after.faults ≡ before.faults) × (after.out ≡ before.out + length ports) × AllByRecursion IsFine ports
  hands_counts before after [] same = (ap (λ s. s.faults) same, ap (λ s. s.out) same ∙ omega arith, tt)
  hands_counts before after (port ∷ ports) (middle, out, through) =
      let rest = hands_counts middle after ports through in
      (rest.0 ∙ ap (λ s. s.faults) out.same, omega (arith, rest.1, out.out), (out.no_fault, rest.2))

  -- the count does not fall
  takes_more : (before after : PortsState P) (port : P) → TakesPort before port (tell port) after → before.faults ≤ after.faults
  takes_more before after port takes = by takes.counts
    where
      by : (((tell port).faults ≡ 0) × (after.faults ≡ before.faults)) ⊎ ((0 < (tell port).faults) × Rose before.faults after.faults) → before.faults ≤ after.faults
      by (inl (fine, same)) = omega (arith, same)
      by (inr (some, (up, one))) = up

  pub takes_up : (before after : PortsState P) (ports : List P) → TakesThrough tell before ports after → before.faults ≤ after.faults
  takes_up before after [] same = omega (arith, ap (λ s. s.faults) same)
  takes_up before after (port ∷ ports) (middle, takes, through) = omega (arith, takes_more before middle port takes, takes_up middle after ports through)

  takes_fine : (before after : PortsState P) (port : P) → IsFine port → TakesPort before port (tell port) after → after.faults ≡ before.faults
  takes_fine before after port fine takes = by takes.counts
    where
      by : (((tell port).faults ≡ 0) × (after.faults ≡ before.faults)) ⊎ ((0 < (tell port).faults) × Rose before.faults after.faults) → after.faults ≡ before.faults
      by (inl (none, same)) = same
      by (inr (some, rose)) = absurd (omega (arith, some, fine))

  takes_failed : (before after : PortsState P) (port : P) → 0 < (tell port).faults → TakesPort before port (tell port) after → Rose before.faults after.faults
  takes_failed before after port some takes = by takes.counts
    where
      by : (((tell port).faults ≡ 0) × (after.faults ≡ before.faults)) ⊎ ((0 < (tell port).faults) × Rose before.faults after.faults) → Rose before.faults after.faults
      by (inl (none, same)) = absurd (omega (arith, some, none))
      by (inr (more, rose)) = rose

  -- ports that have not failed come back
  pub takes_keeps : (before after : PortsState P) (ports : List P) → AllByRecursion IsFine ports → TakesThrough tell before ports after → after.faults ≡ before.faults
  takes_keeps before after [] fine same = ap (λ s. s.faults) same
  takes_keeps before after (port ∷ ports) (one, fine) (middle, takes, through) = takes_keeps middle after ports fine through ∙ takes_fine before middle port one takes

-- what a worker's end says of its port's faults
failed_by : {L : Type 0} (ended : WorkerEnd) (served sessions : ℕ) (before after : PortState L) → before.faults ≡ 0 → has_failed ended ≡ true → EndsFor ended served sessions before after → 0 < after.faults
failed_by worker_end.PortFault served sessions before after fine failed ((up, one), same) = omega (arith, fine, up, one)
failed_by worker_end.Closed served sessions before after fine failed ends = absurd (true≢false (sym failed))
failed_by worker_end.Limit served sessions before after fine failed ends = absurd (true≢false (sym failed))
failed_by worker_end.NoMemory served sessions before after fine failed ends = absurd (true≢false (sym failed))
failed_by worker_end.NotRun served sessions before after fine failed ends = absurd ends

fine_by : {L : Type 0} (ended : WorkerEnd) (served sessions : ℕ) (before after : PortState L) → before.faults ≡ 0 → has_failed ended ≡ false → EndsFor ended served sessions before after → after.faults ≡ 0
fine_by worker_end.PortFault served sessions before after fine well ends = absurd (true≢false well)
fine_by worker_end.Closed served sessions before after fine well (none, same, other) = same ∙ fine
fine_by worker_end.Limit served sessions before after fine well (all, same, other) = same ∙ fine
fine_by worker_end.NoMemory served sessions before after fine well (rose, same) = same ∙ fine
fine_by worker_end.NotRun served sessions before after fine well ends = absurd ends

well_by : {L : Type 0} (ended : WorkerEnd) (served sessions : ℕ) (before after : PortState L) → has_failed ended ≡ false → was_refused ended ≡ false → EndsFor ended served sessions before after
    → (ended ≡ worker_end.Closed) ⊎ (ended ≡ worker_end.Limit)
well_by worker_end.PortFault served sessions before after well given ends = absurd (true≢false well)
well_by worker_end.Closed served sessions before after well given ends = inl refl
well_by worker_end.Limit served sessions before after well given ends = inr refl
well_by worker_end.NoMemory served sessions before after well given ends = absurd (true≢false given)
well_by worker_end.NotRun served sessions before after well given ends = absurd ends

or_none : (a b : Bool) → (a || b) ≡ false → (a ≡ false) × (b ≡ false)
or_none true b none = absurd (true≢false none)
or_none false b none = (refl, none)

or_some : (a b : Bool) → (a || b) ≡ true → (a ≡ true) ⊎ (b ≡ true)
or_some true b some = inl refl
or_some false b some = inr some

-- What a worker's run says of its end and of its port's counts, of whatever kind it is.
abbrev pub EndsRightly : {L P C : Type 0} → (Ran : Hired P C → SeatView → Member P → SeatView → Type 0) → (tell : P → PortState L) → Type 0
EndsRightly {P = P} {C = C} Ran tell =
    (worker : Hired P C) (before : SeatView) (member : Member P) (after : SeatView) → Ran worker before member after
    → (served : ℕ) × EndsFor member.end served worker.sessions (tell worker.port) (tell member.port)

module _ {P C : Type 0} (Ran : Hired P C → SeatView → Member P → SeatView → Type 0) where
  -- as many are left as there were
  pub as_many_left : (lock : TableId) (opening : CacheState) (history : List Entry) (number : ℕ) (workers : List (Hired P C)) (members : List (Member P))
      → AllHaveWorked Ran lock opening history number workers members → length members ≡ length workers
  as_many_left lock opening history number [] [] worked = refl
  as_many_left lock opening history number [] (m ∷ ms) worked = absurd worked
  as_many_left lock opening history number (w ∷ ws) [] worked = absurd worked
  as_many_left lock opening history number (w ∷ ws) (m ∷ ms) (one, worked) = omega (arith, as_many_left lock opening history (number + 1) ws ms worked)

module _ {L P C : Type 0} (Ran : Hired P C → SeatView → Member P → SeatView → Type 0) (tell : P → PortState L) where
  -- no port has failed
  pub all_fine : (ends : EndsRightly Ran tell) (lock : TableId) (opening : CacheState) (history : List Entry) (number : ℕ) (workers : List (Hired P C)) (members : List (Member P))
      → AllHaveWorked Ran lock opening history number workers members → AllByRecursion (IsFine tell) (map (λ w. w.port) workers) → any_failed members ≡ false
      → AllByRecursion (IsFine tell) (map (λ m. m.port) members)
  all_fine ends lock opening history number [] [] worked fine none = tt
  all_fine ends lock opening history number [] (m ∷ ms) worked fine none = absurd worked
  all_fine ends lock opening history number (w ∷ ws) [] worked fine none = absurd worked
  all_fine ends lock opening history number (w ∷ ws) (m ∷ ms) (one, worked) (first, fine) none =
      let apart = or_none (has_failed m.end) (any_failed ms) none in
      (fine_by m.end _ w.sessions (tell w.port) (tell m.port) first apart.0 (ends w _ m one.seat one.ran).1, all_fine ends lock opening history (number + 1) ws ms worked fine apart.1)

  -- each worker ended well
  pub all_well : (ends : EndsRightly Ran tell) (lock : TableId) (opening : CacheState) (history : List Entry) (number : ℕ) (workers : List (Hired P C)) (members : List (Member P))
      → AllHaveWorked Ran lock opening history number workers members → any_failed members ≡ false → any_refused members ≡ false → AllByRecursion EndedWell members
  all_well ends lock opening history number [] [] worked none given = tt
  all_well ends lock opening history number [] (m ∷ ms) worked none given = absurd worked
  all_well ends lock opening history number (w ∷ ws) [] worked none given = absurd worked
  all_well ends lock opening history number (w ∷ ws) (m ∷ ms) (one, worked) none given =
      let apart = or_none (has_failed m.end) (any_failed ms) none in
      let other = or_none (was_refused m.end) (any_refused ms) given in
      (well_by m.end _ w.sessions (tell w.port) (tell m.port) apart.0 other.0 (ends w _ m one.seat one.ran).1, all_well ends lock opening history (number + 1) ws ms worked apart.1 other.1)

  -- a port that has failed is counted when it comes back
  pub some_failed : (ends : EndsRightly Ran tell) (lock : TableId) (opening : CacheState) (history : List Entry) (number : ℕ) (workers : List (Hired P C)) (members : List (Member P)) (before after : PortsState P)
      → AllHaveWorked Ran lock opening history number workers members → AllByRecursion (IsFine tell) (map (λ w. w.port) workers) → any_failed members ≡ true
      → TakesThrough tell before (map (λ m. m.port) members) after → Rose before.faults after.faults
  some_failed ends lock opening history number [] [] before after worked fine some through = absurd (true≢false (sym some))
  some_failed ends lock opening history number [] (m ∷ ms) before after worked fine some through = absurd worked
  some_failed ends lock opening history number (w ∷ ws) [] before after worked fine some through = absurd worked
  some_failed ends lock opening history number (w ∷ ws) (m ∷ ms) before after (one, worked) (first, fine) some (middle, takes, through) =
      by (λ there. some_failed ends lock opening history (number + 1) ws ms middle after worked fine there through) (or_some (has_failed m.end) (any_failed ms) some)
    where
      by : (any_failed ms ≡ true → Rose middle.faults after.faults) → (has_failed m.end ≡ true) ⊎ (any_failed ms ≡ true) → Rose before.faults after.faults
      by rest (inl here) = rose_then before.faults middle.faults after.faults (takes_failed tell before middle m.port (failed_by m.end _ w.sessions (tell w.port) (tell m.port) first here (ends w _ m one.seat one.ran).1) takes)
          (takes_up tell middle after (map (λ m. m.port) ms) through)
      by rest (inr there) = then_rose before.faults middle.faults after.faults (takes_more tell before middle m.port takes) (rest there)
