use Rattle.std.proofs.Common.{◌≡◌, ◌-◌, ◌^◌, ◌≤◌, vec_len}
use Rattle.arc_core.specs.Outside.{first_then}
use Rattle.script_runs.proofs.input.gather.Given as goal

-- what was taken so far, and no pull has failed
abbrev pub invariant-loop-count : goal.invariant-loop-count
invariant-loop-count g l = record {
  took : g.S.Source.left l.fn.source ≡ first_then l.bytes.items (g.S.Source.left l.source);
  faults : g.S.Source.read_faults l.source ≡ g.S.Source.read_faults l.fn.source;
  few : vec_len l.bytes ≤ 2 ^ 28;
}

abbrev pub decreases-loop-count : goal.decreases-loop-count
decreases-loop-count g l = 2 ^ 28 - vec_len l.bytes
