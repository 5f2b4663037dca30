use Rattle.std.proofs.Common.{◌≡◌, ◌≤◌, ◌*◌, take}
use Rattle.serve_runs.specs.Serving.{total_served}
use Rattle.serve_runs.specs.Verdicts.{any_failed, any_refused}
use Rattle.serve_runs.proofs.verdict.verdict_on.Given as goal

abbrev pub invariant-loop-member : goal.invariant-loop-member
invariant-loop-member g l =
    (l.total ≡ total_served (take l.member-index l.members)) × (l.total ≤ 18446744073709551615 * l.member-index)
    × (l.failed ≡ any_failed (take l.member-index l.members)) × (l.refused ≡ any_refused (take l.member-index l.members))
