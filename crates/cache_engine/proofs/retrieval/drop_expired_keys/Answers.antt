use Rattle.std.proofs.Common.{sym, ◌∙◌}
use Rattle.cache_engine.proofs.Retrievals.{none_late}
use Rattle.cache_engine.proofs.retrieval.drop_expired_keys.Goals as goal

pub returns-then-not-late : goal.returns-then-not-late
returns-then-not-late c = sym (none_late c.args.latest c.args.keys.now c.args.items.now (sym c.requires ∙ c.if-not-late.true))
