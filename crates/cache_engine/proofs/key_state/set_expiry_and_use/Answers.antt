use Rattle.std.proofs.Common.{sym, refl}
use Rattle.cache_engine.proofs.Actions.{set_in_step}
use Rattle.cache_engine.proofs.key_state.set_expiry_and_use.Goals as goal

pub returns-then-not-has_expired : goal.returns-then-not-has_expired
returns-then-not-has_expired c =
    set_in_step c.args.latest c.args.key.now c.args.expiry c.args.items.now c.set_expiry.new.self c.in-Done.ensures c.mark_used.new.self
    (rw (sym c.has_expired.ensures, c.if-not-has_expired.true, c.mark_used.ensures, c.bytes.ensures.bytes) refl)

pub returns-else-not-has_expired : goal.returns-else-not-has_expired
returns-else-not-has_expired c =
    set_in_step c.args.latest c.args.key.now c.args.expiry c.args.items.now c.set_expiry.new.self c.in-Done.ensures c.set_expiry.new.self
    (rw (sym c.has_expired.ensures, c.if-not-has_expired.false) refl)
