use Rattle.std.proofs.Common.{max, refl, sym, ap, ◌∙◌, inl}
use Rattle.arc_core.specs.declared.requests.Act.{Act}
use Rattle.arc_core.specs.PlainRequest.{plain_act}
use Rattle.arc_core.specs.PlainRequest as act
use Rattle.arc_core.specs.Step.{step}
use Rattle.turn_lock.specs.Trials.{vacant_state}
use Rattle.turn_lock.proofs.Trials.{asks, deletes, touches}
use Rattle.turn_lock.proofs.vacant.VacantExecutor.execute.Goals as goal

pub returns-in-Delete-clause-executed : goal.returns-in-Delete-clause-executed
returns-in-Delete-clause-executed c =
    inl (ap (λ (a : Act). step (vacant_state c.args.self.now.latest) c.args.now (record { act = plain_act a; answer = c.args.request.now.answer })) c.in-Delete.is
    ∙ (deletes c.args.self.now.latest c.args.now c.in-Delete.key c.args.request.now.answer
    ∙ (λ i. (vacant_state (sym (c.answer.ensures.latest ∙ ap (λ n. max n c.args.now) c.count.ensures) i), sym c.answer.ensures.word i))))

pub returns-in-Touch-clause-executed : goal.returns-in-Touch-clause-executed
returns-in-Touch-clause-executed c =
    inl (ap (λ (a : Act). step (vacant_state c.args.self.now.latest) c.args.now (record { act = plain_act a; answer = c.args.request.now.answer })) c.in-Touch.is
    ∙ (touches c.args.self.now.latest c.args.now c.in-Touch.key c.in-Touch.exptime c.args.request.now.answer
    ∙ (λ i. (vacant_state (sym (c.answer-in-Touch.ensures.latest ∙ ap (λ n. max n c.args.now) c.count.ensures) i), sym c.answer-in-Touch.ensures.word i))))

pub returns-in-ListDelete-clause-executed : goal.returns-in-ListDelete-clause-executed
returns-in-ListDelete-clause-executed c =
    inl (ap (λ (a : Act). step (vacant_state c.args.self.now.latest) c.args.now (record { act = plain_act a; answer = c.args.request.now.answer })) c.in-ListDelete.is
    ∙ (asks c.args.self.now.latest c.args.now c.in-ListDelete.key (act.list_delete c.in-ListDelete.range c.in-ListDelete.drop_empty) c.args.request.now.answer refl
    ∙ (λ i. (vacant_state (sym (c.answer-in-ListDelete.ensures.latest ∙ ap (λ n. max n c.args.now) c.count.ensures) i), sym c.answer-in-ListDelete.ensures.word i))))

pub returns-in-SetDelete-clause-executed : goal.returns-in-SetDelete-clause-executed
returns-in-SetDelete-clause-executed c =
    inl (ap (λ (a : Act). step (vacant_state c.args.self.now.latest) c.args.now (record { act = plain_act a; answer = c.args.request.now.answer })) c.in-SetDelete.is
    ∙ (asks c.args.self.now.latest c.args.now c.in-SetDelete.key (act.set_delete c.in-SetDelete.value.now c.in-SetDelete.drop_empty) c.args.request.now.answer refl
    ∙ (λ i. (vacant_state (sym (c.answer-in-SetDelete.ensures.latest ∙ ap (λ n. max n c.args.now) c.count.ensures) i), sym c.answer-in-SetDelete.ensures.word i))))

pub returns-in-SetExist-clause-executed : goal.returns-in-SetExist-clause-executed
returns-in-SetExist-clause-executed c =
    inl (ap (λ (a : Act). step (vacant_state c.args.self.now.latest) c.args.now (record { act = plain_act a; answer = c.args.request.now.answer })) c.in-SetExist.is
    ∙ (asks c.args.self.now.latest c.args.now c.in-SetExist.key (act.set_exist c.in-SetExist.value.now) c.args.request.now.answer refl
    ∙ (λ i. (vacant_state (sym (c.answer-in-SetExist.ensures.latest ∙ ap (λ n. max n c.args.now) c.count.ensures) i), sym c.answer-in-SetExist.ensures.word i))))

pub returns-in-MapDelete-clause-executed : goal.returns-in-MapDelete-clause-executed
returns-in-MapDelete-clause-executed c =
    inl (ap (λ (a : Act). step (vacant_state c.args.self.now.latest) c.args.now (record { act = plain_act a; answer = c.args.request.now.answer })) c.in-MapDelete.is
    ∙ (asks c.args.self.now.latest c.args.now c.in-MapDelete.key (act.map_delete c.in-MapDelete.fields c.in-MapDelete.drop_empty) c.args.request.now.answer refl
    ∙ (λ i. (vacant_state (sym (c.answer-in-MapDelete.ensures.latest ∙ ap (λ n. max n c.args.now) c.count.ensures) i), sym c.answer-in-MapDelete.ensures.word i))))
