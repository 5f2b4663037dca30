use Rattle.std.proofs.Common.{refl, ap, ◌∙◌}
use Rattle.arc_core.specs.Places.{brought_to_front}
use Rattle.byte_account.specs.declared.put.Put.TheVariants as put
use Rattle.cache_engine.proofs.ChangesInStep.{inserted_in_step}
use Rattle.cache_engine.proofs.key_state.insert_and_use.Goals as goal

pub returns-in-Done : goal.returns-in-Done
returns-in-Done c =
    inserted_in_step c.args.latest c.args.key.now c.args.items.now c.requires.live c.requires.placed c.args.insertion c.insert.new.self c.mark_used.new.self put.Done c.in-Done.ensures
    (λ e. c.mark_used.ensures ∙ ap (λ k. brought_to_front k c.insert.new.self) c.bytes.ensures.bytes) (λ differ. absurd (differ refl))

pub returns-in-NoRoom : goal.returns-in-NoRoom
returns-in-NoRoom c =
    inserted_in_step c.args.latest c.args.key.now c.args.items.now c.requires.live c.requires.placed c.args.insertion c.insert.new.self c.insert.new.self put.NoRoom c.in-NoRoom.ensures
    (λ e. absurd (cc)) (λ differ. refl)

pub returns-in-NoMemory : goal.returns-in-NoMemory
returns-in-NoMemory c =
    inserted_in_step c.args.latest c.args.key.now c.args.items.now c.requires.live c.requires.placed c.args.insertion c.insert.new.self c.insert.new.self put.NoMemory c.in-NoMemory.ensures
    (λ e. absurd (cc)) (λ differ. refl)
