use Rattle.std.proofs.Common.{◌≤◌, ◌∙◌, sym, arith}
use Rattle.arc_core.specs.CollectionLines.{coll_line_needs}
use Rattle.pipe_session.proofs.Telling.{only_ok}
use Rattle.pipe_session.proofs.Fronts.{line_in_place, block_in_place}
use Rattle.pipe_session.proofs.units.take_front.Goals as goal

pub execute-requires-clause-spelled : goal.execute-requires-clause-spelled
execute-requires-clause-spelled g c = (c.in_ok-line.line.now, c.in-Ok.ensures.found)

pub execute-requires-in-Block-clause-spelled : goal.execute-requires-in-Block-clause-spelled
execute-requires-in-Block-clause-spelled g c = (c.in_ok-line.line.now, c.in-Ok.ensures.found)

pub returns-in-Nothing-clause-front : goal.returns-in-Nothing-clause-front
returns-in-Nothing-clause-front g c =
    let line = c.in_ok-line.line.now in
    let known = c.in-Ok.ensures in
    let goes = sym c.is_quit.ensures ∙ c.if-is_quit.false in
    let nothing = sym c.in-Nothing.ensures in
    line_in_place _ _ _ c.args.piece.now line c.in_ok-line.count c.in-Ok.head c.in_ok-line.ensures known.found known.read known.needs known.silent goes (λ other spelled. only_ok c.in-Ok.head other (known.only other spelled)) nothing
    (c.fronts_are_units.ensures.line coll_line_needs c.args.piece.now line c.in_ok-line.count c.in_ok-line.ensures (known.needs ∙ nothing)) c.execute.ensures

pub returns-in_ok-block-in-Block-clause-front : goal.returns-in_ok-block-in-Block-clause-front
returns-in_ok-block-in-Block-clause-front g c =
    let line = c.in_ok-line.line.now in
    let known = c.in-Ok.ensures in
    let goes = sym c.is_quit.ensures ∙ c.if-is_quit.false in
    let asks = sym c.in-Block.ensures in
    let within : c.in-Block.len ≤ c.in-Block.limit = omega (arith, c.if-len-limit.false) in
    let behind = c.in_ok-block-in-Block.ensures in
    block_in_place _ _ _ c.args.piece.now line c.in_ok-line.count c.in-Ok.head c.in_ok-line.ensures known.found known.read known.needs known.silent goes (λ other spelled. only_ok c.in-Ok.head other (known.only other spelled))
    c.in_ok-block-in-Block.block.now c.in-Block.len c.in-Block.limit c.in_ok-block-in-Block.end asks within behind
    (c.fronts_are_units.ensures.block coll_line_needs c.args.piece.now line c.in_ok-block-in-Block.block.now c.in_ok-line.count c.in-Block.len c.in-Block.limit c.in_ok-block-in-Block.end c.in_ok-line.ensures (known.needs ∙ asks) within behind) c.execute-in-Block.ensures
