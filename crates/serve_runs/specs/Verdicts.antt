-- How the workers of a team ended, all together.
use Rattle.std.specs.Prelude.{◌≡◌, Bool, true, false, List}
use Rattle.std.specs.List.{list_any}
use Rattle.serve_runs.specs.Serving.{total_served}
use Rattle.serve_runs.specs.declared.verdict.Verdict.{Verdict}
use Rattle.serve_runs.specs.declared.verdict.Verdict.TheVariants as verdict
use Rattle.worker_server.specs.declared.worker.WorkerEnd.{WorkerEnd}
use Rattle.worker_server.specs.declared.worker.WorkerEnd.TheVariants as worker_end
use Rattle.worker_team.specs.declared.team.Member.{Member}

-- whether its port failed
abbrev pub has_failed : WorkerEnd → Bool
has_failed worker_end.PortFault = true
has_failed other = false

-- whether its port was refused memory
abbrev pub was_refused : WorkerEnd → Bool
was_refused worker_end.NoMemory = true
was_refused other = false

abbrev pub any_failed : {P : Type 0} → List (Member P) → Bool
any_failed members = list_any (λ member. has_failed member.end) members

abbrev pub any_refused : {P : Type 0} → List (Member P) → Bool
any_refused members = list_any (λ member. was_refused member.end) members

abbrev pub Tells : {P : Type 0} → List (Member P) → Verdict → Type 0
Tells members (verdict.Well total) = (any_failed members ≡ false) × (any_refused members ≡ false) × (total ≡ total_served members)
Tells members verdict.PortFault = any_failed members ≡ true
Tells members verdict.NoMemory = (any_failed members ≡ false) × (any_refused members ≡ true)
