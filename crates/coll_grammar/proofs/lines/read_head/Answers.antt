use Rattle.std.proofs.Common.{◌∙◌, ap, Err}
use Rattle.coll_grammar.specs.Reading.{answer_to}
use Rattle.coll_grammar.proofs.HeadLemmas.{found, only, bad_format, only-where_read, bad_format-where_read, only-where_bad, read-where_read, read-where_bad, is_unknown}
use Rattle.coll_grammar.proofs.lines.read_head.Goals as goal

pub returns-in-Ok-clause-only : goal.returns-in-Ok-clause-only
returns-in-Ok-clause-only c = λ head. only-where_read c.args.line.now _ head c.in-Ok.ensures.found c.in-Ok.ensures.only

pub returns-in-Ok-clause-bad_format : goal.returns-in-Ok-clause-bad_format
returns-in-Ok-clause-bad_format c = bad_format-where_read c.args.line.now _ c.in-Ok.ensures.found c.in-Ok.ensures.bad_format.1

pub returns-in-Err-BadFormat-clause-only : goal.returns-in-Err-BadFormat-clause-only
returns-in-Err-BadFormat-clause-only c =
    λ head. only-where_bad c.args.line.now c.in-Err-BadFormat.field-0 head c.in-Err-BadFormat.field-0-is
    c.in-Err-BadFormat.ensures.bad_format.0 c.in-Err-BadFormat.ensures.only

pub returns-in-Err-Unknown-clause-found : goal.returns-in-Err-Unknown-clause-found
returns-in-Err-Unknown-clause-found c = found c.args.line.now c.read_words.result (c.read_words.ensures ∙ ap answer_to c.of.ensures)

pub returns-in-Err-Unknown-clause-only : goal.returns-in-Err-Unknown-clause-only
returns-in-Err-Unknown-clause-only c =
    λ head. only c.args.line.now c.read_words.result head
    (is_unknown c.args.line.now c.in-Err-Unknown.field-0 c.in-Err-Unknown.field-0-is c.in-Err-Unknown.ensures.unknown.0)
    (c.read_words.ensures ∙ ap answer_to c.of.ensures)

pub returns-in-Err-Unknown-clause-bad_format : goal.returns-in-Err-Unknown-clause-bad_format
returns-in-Err-Unknown-clause-bad_format c =
    bad_format c.args.line.now c.read_words.result
    (is_unknown c.args.line.now c.in-Err-Unknown.field-0 c.in-Err-Unknown.field-0-is c.in-Err-Unknown.ensures.unknown.0)
    (c.read_words.ensures ∙ ap answer_to c.of.ensures)

pub returns-in-Ok-clause-read : goal.returns-in-Ok-clause-read
returns-in-Ok-clause-read c = read-where_read c.args.line.now c.in-Ok.head c.in-Ok.ensures.found

pub returns-in-Err-BadFormat-clause-read : goal.returns-in-Err-BadFormat-clause-read
returns-in-Err-BadFormat-clause-read c =
    read-where_bad c.args.line.now (c.in-Err-BadFormat.ensures.bad_format.0 (ap Err c.in-Err-BadFormat.field-0-is))
