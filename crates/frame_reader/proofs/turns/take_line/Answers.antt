use Rattle.std.proofs.Common.{◌+◌, length, take, ap, sym, ◌∙◌, arith, length-append, ◌++◌}
use Rattle.std.proofs.lemmas.List.{length-take-le}
use Rattle.arc_core.specs.Framing.{without_cr}
use Rattle.frame_reader.proofs.Steps.{line_ends, place_in_piece}
use Rattle.frame_reader.proofs.turns.take_line.Goals as goal

pub returns-in-Some-clause-room : goal.returns-in-Some-clause-room
returns-in-Some-clause-room g c =
    let found = place_in_piece c.args.piece.now c.min-room.result c.in-Some.place c.in-Some.ensures in
    let front = length-take-le c.in-Some.place c.args.piece.now (omega (arith, found.1)) in
    c.phase_behind.ensures.room _ (omega (arith, found.0, front, length-append c.args.line.now.items (take c.in-Some.place c.args.piece.now), ap length c.append.ensures.items, c.args.line.now.ok.0, c.append.new.kept.ok.0))

pub returns-in-Some-clause-stands : goal.returns-in-Some-clause-stands
returns-in-Some-clause-stands g c = λ bytes stands.
    let needs = g.G.Heads.needs in
    let piece = c.args.piece.now in
    let found = place_in_piece piece c.min-room.result c.in-Some.place c.in-Some.ensures in
    let front = length-take-le c.in-Some.place piece (omega (arith, found.1)) in
    let ended = line_ends needs c.args.line.now.items bytes (take c.in-Some.place piece) (take (c.in-Some.place + 1) piece) found.3 found.2 (omega (arith, found.0, front, c.args.line.now.ok.0)) stands in
    let asks = ap needs (sym (c.without_cr.ensures ∙ ap without_cr c.deref.ensures.value)) ∙ sym c.need.ensures in
    c.phase_behind.ensures.stands needs (bytes ++ take (c.in-Some.place + 1) piece) c.append.new.kept.items asks (rw c.append.ensures.items ended.0) (rw c.append.ensures.items ended.1)
