use Rattle.std.proofs.Common.{length, ◌-◌, ◌≡◌, ℕ, ◌≤◌, List, ◌++◌, take, IsSome}
use Rattle.frame_reader.specs.Progress.{StandsFor, ready_unit}
use Rattle.frame_reader.proofs.reader.Frames.feed.Given as goal

abbrev pub invariant-loop-taken : goal.invariant-loop-taken
invariant-loop-taken g l =
    (l.taken ≤ length l.piece)
    × ((bytes : List ℕ) → StandsFor g.G.Heads.needs l.initial.self bytes → StandsFor g.G.Heads.needs l.self (bytes ++ take l.taken l.piece))
    × (l.taken ≡ 0 → l.self ≡ l.initial.self)
    × (IsSome (ready_unit l.initial.self) → l.taken ≡ 0)

abbrev pub decreases-loop-taken : goal.decreases-loop-taken
decreases-loop-taken g l = length l.piece - l.taken
