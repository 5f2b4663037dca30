use Rattle.std.proofs.Common.{◌≡◌, ◌+◌, ◌-◌, ℕ, List, vec_len}
use Rattle.arc_core.specs.Outside.{Linked, linked}
use Rattle.arc_core.specs.contracts.links.SteadyLinkLink.TheImpl.{ghosts}
use Rattle.arc_core.specs.declared.links.SteadyLink.{SteadyLink}
use Rattle.script_runs.specs.Script.{Session, sessions, most_sessions}
use Rattle.script_runs.specs.Reading.{AreLinksOf}
use Rattle.script_runs.proofs.Scripts.{ReadsOn}
use Rattle.script_runs.proofs.script.read_sessions.Given as goal

-- these sessions were read so far
abbrev pub invariant-records : goal.invariant-records
invariant-records l =
    let look : SteadyLink → Linked = λ link. linked (ghosts.left link) (ghosts.read_faults link) (ghosts.sent link) (ghosts.write_faults link) (ghosts.refusals link) (ghosts.agains link) in
    (so_far : List Session) × (most : ℕ)
    × ReadsOn (sessions most_sessions l.fn.text) so_far most l.rest
    × AreLinksOf look so_far l.links.items
    × (most + vec_len l.links ≡ 1000)

abbrev pub decreases-records : goal.decreases-records
decreases-records l = 1000 - vec_len l.links
