use Rattle.std.proofs.Common.{sym, subst}
use Rattle.cache_engine.specs.Retrieving.{AreLive}
use Rattle.cache_engine.proofs.Retrievals.{start_is_live}
use Rattle.cache_engine.proofs.retrieval.read_and_use.Goals as goal

pub use_keys-requires : goal.use_keys-requires
use_keys-requires c = subst (λ p. AreLive c.args.latest c.args.keys.now p) (sym c.drop_expired_keys.ensures) (start_is_live c.args.latest c.args.keys.now c.args.items.now)
