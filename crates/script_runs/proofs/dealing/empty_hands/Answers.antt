use Rattle.std.proofs.Common.{◌≡◌, ◌++◌, ◌∷◌, [], length, ap, arith, length-append}
use Rattle.script_runs.proofs.Places.{one_empty, all_empty}
use Rattle.script_runs.proofs.dealing.empty_hands.Goals as goal

pub loop-preserved : goal.loop-preserved
loop-preserved g c =
    let more : c.push.new.self.items ≡ c.loop.hands.items ++ c.new.result ∷ [] = c.in_ok-push.ensures.items in (
      omega (arith, ap length more, length-append c.loop.hands.items (c.new.result ∷ []), c.loop.invariant.0),
      one_empty (λ hand. hand.items) c.loop.hands.items c.push.new.self.items c.new.result more c.new.ensures.items c.loop.invariant.1,
    )

pub returns : goal.returns
returns g c = all_empty (λ hand. hand.items) c.args.workers c.loop.hands.items (omega (arith, c.loop.invariant.0)) c.loop.invariant.1
