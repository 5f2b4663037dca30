use Rattle.std.proofs.Common.{sym}
use Rattle.reply_print.proofs.RunLemmas.{number_stands}
use Rattle.reply_print.proofs.statuses.status_fails.Goals as goal

pub returns-in-Number : goal.returns-in-Number
returns-in-Number c = rw c.in-Number.is (sym (number_stands c.in-Number.field-0))
