use Rattle.std.proofs.Common.{subst}
use Rattle.arc_core.specs.PlainRequest.{plain, plain_act}
use Rattle.arc_core.specs.RequestLimits.{KeepsLimits}
use Rattle.cache_engine.proofs.cache.CacheExecutor.execute.Goals as goal

pub make-requires : goal.make-requires
make-requires c =
    subst (λ a. KeepsLimits (plain_act a)) c.in-Create.is (c.spelled_requests_keep_limits.ensures (plain c.args.request.now) c.requires)

pub ask-requires-clause-limits : goal.ask-requires-clause-limits
ask-requires-clause-limits c = c.spelled_requests_keep_limits.ensures (plain c.args.request.now) c.requires
