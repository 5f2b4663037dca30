use Rattle.std.proofs.Common.{◌∙◌, sym, rules}
use Rattle.worker_server.proofs.Serving.{by_names}
use Rattle.worker_server.proofs.session.serve_session.Goals as goal

pub returns : goal.returns
returns g c =
    let desk = c.new-desk.ensures in
    let name = sym (c.turn_to_its_end.ensures.same_seat ∙ desk.same_seat) in
    by_names c.args.session c.new-desk.result.session c.args.seat.now c.new-desk.result.seat.now _ c.turn_to_its_end.new.desk.seat.now _ _ c.turn_to_its_end.result
    desk.session desk.seat (search rules) c.turn_to_its_end.ensures.served
