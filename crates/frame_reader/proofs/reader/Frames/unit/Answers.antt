use Rattle.std.proofs.Common.{◌≡◌, None}
use Rattle.frame_reader.specs.Progress.{ready_unit}
use Rattle.frame_reader.proofs.Steps.{rest_of, waits}
use Rattle.frame_reader.proofs.reader.Frames.unit.Goals as goal

pub returns-in_default : goal.returns-in_default
returns-in_default g c =
    let none : None ≡ ready_unit c.args.self.now = rw (← c.self.view_is) (waits c.self.inside.line.items c.self.inside.block.items c.self.inside.large.items c.self.inside.phase c.in_default.not-Ready) in
    record { unit = none; span = rest_of g.G.Heads.needs c.args.self.now none }
