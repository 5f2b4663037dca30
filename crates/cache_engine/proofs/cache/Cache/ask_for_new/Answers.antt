use Rattle.std.proofs.Common.{max, ap, ◌∙◌}
use Rattle.arc_core.specs.CollectionRows.{attrs_of}
use Rattle.arc_core.specs.PlainRequest.{plain_act}
use Rattle.coll_items.specs.Changing.{inserted}
use Rattle.cache_engine.proofs.Asking.{not_found, stays_unmade, made_with}
use Rattle.cache_engine.proofs.cache.Cache.ask_for_new.Goals as goal

pub returns-in_default-clause-acts : goal.returns-in_default-clause-acts
returns-in_default-clause-acts c =
    not_found c.args.self.now c.args.now c.args.key.now c.answer.new.self c.answer.result c.requires.absent (plain_act c.args.act.now) c.requires.on c.in_default.ensures.makes
    c.answer.ensures.answers

pub returns-in-Stays-clause-acts : goal.returns-in-Stays-clause-acts
returns-in-Stays-clause-acts c =
    let second = c.max.ensures ∙ ap (λ s. max s.latest c.args.now) c.self.view_is in
    stays_unmade c.args.self.now c.args.now c.args.key.now c.reply.new.self c.reply.result c.requires.absent c.in-Some.kind c.in-Some.args c.empty_collection-made.result
    (c.empty_collection-made.ensures.attrs ∙ ap (λ l. attrs_of l c.in-Some.args) second) c.empty_collection-made.ensures.contents
    (plain_act c.args.act.now) c.requires.on c.in-Some.ensures.makes c.plan_asked.result c.plan_asked.ensures.plans c.in-Stays.answer c.in-Stays.is c.reply.ensures.answers

pub returns-in-Ok-clause-acts : goal.returns-in-Ok-clause-acts
returns-in-Ok-clause-acts c =
    let second = c.max.ensures ∙ ap (λ s. max s.latest c.args.now) c.self.view_is in
    made_with c.args.self.now c.args.now c.args.key.now c.put_collection.new.self c.put_collection.result c.requires.absent c.in-Some.kind c.in-Some.args c.empty_collection-made.result
    (c.empty_collection-made.ensures.attrs ∙ ap (λ l. attrs_of l c.in-Some.args) second) c.empty_collection-made.ensures.contents
    (plain_act c.args.act.now) c.requires.on c.in-Some.ensures.makes c.plan_asked.result c.plan_asked.ensures.plans c.in-Puts.insertion c.in-Puts.field-1 c.insert.new.self c.in-Puts.is
    (c.insert.ensures.attrs ∙ c.in-Ok.ensures.attrs) (c.insert.ensures.contents ∙ ap (inserted c.in-Puts.insertion) c.in-Ok.ensures.contents) c.put_collection.ensures.finishes
