use Rattle.std.proofs.Common.{◌∙◌, ap}
use Rattle.line_grammar.specs.Reading.{answer_to}
use Rattle.line_grammar.proofs.LineLemmas.{found, only, bad_format}
use Rattle.line_grammar.proofs.lines.read_line.Goals as goal

pub returns-clause-found : goal.returns-clause-found
returns-clause-found c = found c.args.line.now c.read_words.result (c.read_words.ensures ∙ ap answer_to c.of.ensures)

pub returns-clause-only : goal.returns-clause-only
returns-clause-only c = λ head spelled. only c.args.line.now c.read_words.result head (c.read_words.ensures ∙ ap answer_to c.of.ensures) spelled

pub returns-clause-bad_format : goal.returns-clause-bad_format
returns-clause-bad_format c = bad_format c.args.line.now c.read_words.result (c.read_words.ensures ∙ ap answer_to c.of.ensures)
