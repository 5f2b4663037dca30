use Rattle.std.proofs.Common.{sym, ◌∙◌}
use Rattle.cache_engine.proofs.Finishing.{used_expired}
use Rattle.cache_engine.proofs.key_state.use_key.Goals as goal

pub returns-in-Expired : goal.returns-in-Expired
returns-in-Expired c = used_expired c.args.latest c.args.key.now c.args.items.now c.remove.new.self (sym c.in-Expired.is ∙ c.requires) c.remove.ensures
