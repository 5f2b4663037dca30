-- What is read of the program's words.
use Rattle.std.specs.Prelude.{ℕ, ◌≤◌, ◌<◌, ◌^◌, Option, Some, None, IfSome, Result, Ok, Err}
use Rattle.program_words.specs.declared.job.Job.{Job}
use Rattle.program_words.specs.declared.job.Job.TheVariants as job
use Rattle.program_words.specs.declared.words.BadWords.{BadWords}
use Rattle.program_words.specs.declared.options.OptionName.{OptionName}
use Rattle.program_words.specs.declared.options.OptionName.TheVariants as option
use Rattle.program_words.specs.declared.options.Given.{Given}
use Rattle.program_words.specs.declared.words.Reading.{Reading}
use Rattle.program_words.specs.declared.words.Reading.TheVariants as reading

-- the answer as plain data
abbrev pub plain_answer : Result Job BadWords → Result Job ℕ
plain_answer (Ok job) = Ok job
plain_answer (Err bad) = Err bad.0

-- The value is one that the option may have: a limit of 1 to 4,096 MiB, a share of at most 100 percent, a port of 1 to 65,535,
-- 1 to 4,096 workers, 1 to 2^32 - 1 sessions.
abbrev pub IsValue : OptionName → ℕ → Type 0
IsValue option.Limit n = (1 ≤ n) × (n ≤ 4096)
IsValue option.Sticky n = n ≤ 100
IsValue option.Port n = (1 ≤ n) × (n ≤ 65535)
IsValue option.Workers n = (1 ≤ n) × (n ≤ 4096)
IsValue option.Sessions n = (1 ≤ n) × (n < 2 ^ 32)
IsValue option.Events n = Unit {0}

-- The job is one that can be done.
abbrev pub IsJob : Job → Type 0
IsJob (job.Session limit share) = IsValue option.Limit limit × IsValue option.Sticky share
IsJob (job.Many workers limit share) = IsValue option.Workers workers × IsValue option.Limit limit × IsValue option.Sticky share
IsJob (job.Serve serve) =
    IsValue option.Port serve.port × IsValue option.Workers serve.workers × IsValue option.Limit serve.limit × IsValue option.Sticky serve.share
    × IfSome serve.sessions (IsValue option.Sessions)

-- What follows is for the functions within.

-- What was given are values that the options may have.
pub record AreGiven (given : Given) : Type 0 where
  pub limit : IfSome given.limit (IsValue option.Limit)
  pub share : IfSome given.share (IsValue option.Sticky)
  pub port : IfSome given.port (IsValue option.Port)
  pub workers : IfSome given.workers (IsValue option.Workers)
  pub sessions : IfSome given.sessions (IsValue option.Sessions)

abbrev pub IsReading : Reading → Type 0
IsReading (reading.Options given) = AreGiven given
IsReading (reading.Value name given) = AreGiven given

-- the job where there is one, or the place where a value is missing
abbrev pub job_or : ℕ → Option Job → Result Job ℕ
job_or place None = Err place
job_or place (Some job) = Ok job
