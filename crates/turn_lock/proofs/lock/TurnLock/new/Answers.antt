use Rattle.std.proofs.Common.{ap, ◌∙◌, ◌∷◌, ◌++◌, [], List}
use Rattle.turn_lock.proofs.Closing.{opens}
use Rattle.turn_lock.proofs.lock.TurnLock.new.Goals as goal

pub new-requires : goal.new-requires
new-requires g c =
    opens g.E.Executor.state c.args.executor c.of-about.result.value c.push_reserved.new.self.items c.keeps_the_rules.ensures
    (c.push_reserved.ensures.items ∙ ap (λ (xs : List g.row.E.Denot). xs ++ c.args.executor ∷ []) c.in-Ok.ensures.items) c.of-about.ensures
