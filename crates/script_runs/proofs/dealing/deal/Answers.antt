use Rattle.std.proofs.Common.{◌∷◌, [], refl, arith, length-append}
use Rattle.script_runs.proofs.Places.{deals_next, rest_goes_on}
use Rattle.script_runs.proofs.dealing.deal.Goals as goal

pub loop-one-preserved : goal.loop-one-preserved
loop-one-preserved g c =
    let inv = c.loop-one.invariant in (
      tt,
      tt,
      omega (arith, inv.2, length-append c.loop-one.yielded (c.in-Some.one ∷ [])),
      deals_next (λ hand. hand.items) c.args.workers c.requires c.loop-one.yielded c.in-Some.one c.loop-one.number c.loop-one.hands.items c.index_mut.result.now c.push.new.self inv.2 inv.3
          c.index_mut.ensures.value c.in_ok-push.ensures.items,
      rest_goes_on c.into_iter-one-iterator.result.rest.items c.loop-one.yielded c.loop-one.one-iterator.rest.items c.next.new.self.rest.items c.in-Some.one inv.4 c.in-Some.ensures.steps.0,
      refl,
    )
