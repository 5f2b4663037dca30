use Rattle.program_words.proofs.Asking.{asked_where_read, read_where_asked}
use Rattle.program_words.proofs.words.words_ask_for_a_job.Goals as goal

pub returns : goal.returns
returns c = λ words job. (asked_where_read words job, read_where_asked words job)
