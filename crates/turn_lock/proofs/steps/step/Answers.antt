use Rattle.std.proofs.Common.{◌≡◌, ℕ, List, [], ◌∷◌, ap, sym, ◌∙◌, subst}
use Rattle.arc_core.specs.PlainRequest.{plain}
use Rattle.arc_core.specs.History.{Executes}
use Rattle.atomic_table.specs.Table.{rest}
use Rattle.turn_lock.specs.Seats.{entry_by}
use Rattle.turn_lock.proofs.Histories.{leads_on}
use Rattle.turn_lock.proofs.steps.step.Goals as goal

-- what is lent is what was held
lent : {E : Type 0} (held : List (ℕ × E)) (x y : E) → held ≡ (0, x) ∷ [] → held ≡ (0, y) ∷ rest held → y ≡ x
lent {E} held x y e f =
    let both : (0, y) ∷ rest held ≡ (0, x) ∷ [] = sym f ∙ e in
    let heads : (0, y) ≡ (0, x) = cc in
    ap (λ (p : ℕ × E). p.1) heads

pub returns-clause-held : goal.returns-clause-held
returns-clause-held g c =
    let held = c.requires.held in
    let state = g.E.Executor.state in
    let view = c.args.place.now.me.0 in
    let entry = entry_by view c.args._session c.args.now (plain c.args.request.now) c.execute-reply.result in
    let same = lent c.args.place.now.me.1 held.0 c.slot_mut-executor.result.now held.1 c.slot_mut-executor.ensures.value in (
      c.execute-reply.new.self,
      (λ i. (0, c.execute-reply.new.self) ∷ rest (held.1 i)),
      leads_on view.opening view.seen (state held.0) entry (state c.execute-reply.new.self) held.2
          (subst (λ (e : g.row.E.Denot). Executes (state e) c.args.now (plain c.args.request.now) c.execute-reply.result (state c.execute-reply.new.self)) same c.execute-reply.ensures.executed)
          c.keeps_the_rules.ensures,
    )
