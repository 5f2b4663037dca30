-- What the program's words ask for.
use Rattle.std.specs.Prelude.{◌==◌, ◌&&◌, ℕ, ◌+◌, ◌^◌, nat_lt, if◌then◌else◌, Bool, true, false, not, List, [], ◌∷◌, length, take, drop, slice_index, bytes_eq, codes, Option, Some, None, is_some, Result, Ok, Err}
use Rattle.std.specs.Option.{option_map, option_map_or, option_and_then}
use Rattle.arc_core.specs.Words.{number_below}
use Rattle.program_words.specs.declared.words.Command.{Command}
use Rattle.program_words.specs.declared.words.Command.TheVariants as command
use Rattle.program_words.specs.declared.job.Job.{Job}
use Rattle.program_words.specs.declared.job.Job.TheVariants as job
use Rattle.program_words.specs.declared.options.OptionName.{OptionName}
use Rattle.program_words.specs.declared.options.OptionName.TheVariants as option
use Rattle.program_words.specs.declared.options.Given.{Given}
use Rattle.program_words.specs.declared.words.Reading.{Reading}
use Rattle.program_words.specs.declared.words.Reading.TheVariants as reading

-- a number below a bound, in decimal digits without a leading zero (`0` itself has none)
abbrev pub plain_number : ℕ → List ℕ → Option ℕ
plain_number below word = if nat_lt 1 (length word) && (slice_index word 0 == 48) then None else number_below below word

-- a number that is not 0
abbrev pub at_least_one : Option ℕ → Option ℕ
at_least_one number = option_and_then (λ n. if n == 0 then None else Some n) number

-- The value of an option: a limit of 1 to 4,096 mebibytes, a share of 0 to 100 percent, a port of 1 to 65,535, 1 to 4,096
-- workers, 1 to 2^32 - 1 sessions. `--events` has none.
abbrev pub option_value : OptionName → List ℕ → Option ℕ
option_value option.Limit word = at_least_one (plain_number 4097 word)
option_value option.Sticky word = plain_number 101 word
option_value option.Port word = at_least_one (plain_number 65536 word)
option_value option.Workers word = at_least_one (plain_number 4097 word)
option_value option.Sessions word = at_least_one (plain_number (2 ^ 32) word)
option_value option.Events word = None

-- whether an option has a value
abbrev pub has_value : OptionName → Bool
has_value option.Events = false
has_value other = true

-- how an option is written
abbrev pub option_text : OptionName → List ℕ
option_text option.Limit = codes "--limit"
option_text option.Sticky = codes "--sticky"
option_text option.Port = codes "--port"
option_text option.Workers = codes "--workers"
option_text option.Sessions = codes "--sessions"
option_text option.Events = codes "--events"

-- how it is written in one word with its value, up to that
abbrev pub option_front : OptionName → List ℕ
option_front option.Limit = codes "--limit="
option_front option.Sticky = codes "--sticky="
option_front option.Port = codes "--port="
option_front option.Workers = codes "--workers="
option_front option.Sessions = codes "--sessions="
option_front option.Events = codes "--events="

-- which options a command knows
abbrev pub knows : Command → OptionName → Bool
knows command.Session option.Limit = true
knows command.Session option.Sticky = true
knows command.Session other = false
knows command.Many option.Limit = true
knows command.Many option.Sticky = true
knows command.Many option.Workers = true
knows command.Many other = false
knows command.Serve name = true

-- which command a word names, if any
abbrev pub command_named : List ℕ → Option Command
command_named word =
    if bytes_eq word (codes "session") then Some command.Session
    else if bytes_eq word (codes "many") then Some command.Many
    else if bytes_eq word (codes "serve") then Some command.Serve
    else None

-- which option a word names, if any
abbrev pub option_named : List ℕ → Option OptionName
option_named word =
    if bytes_eq word (codes "--limit") then Some option.Limit
    else if bytes_eq word (codes "--sticky") then Some option.Sticky
    else if bytes_eq word (codes "--port") then Some option.Port
    else if bytes_eq word (codes "--workers") then Some option.Workers
    else if bytes_eq word (codes "--sessions") then Some option.Sessions
    else if bytes_eq word (codes "--events") then Some option.Events
    else None

-- the option that a word `--x=v` begins with, if any
abbrev pub option_in_front : List ℕ → Option OptionName
option_in_front word =
    if bytes_eq (take 8 word) (codes "--limit=") then Some option.Limit
    else if bytes_eq (take 9 word) (codes "--sticky=") then Some option.Sticky
    else if bytes_eq (take 7 word) (codes "--port=") then Some option.Port
    else if bytes_eq (take 10 word) (codes "--workers=") then Some option.Workers
    else if bytes_eq (take 11 word) (codes "--sessions=") then Some option.Sessions
    else None

-- the same, and what stands behind its `=`
abbrev pub option_begun : List ℕ → Option (OptionName × List ℕ)
option_begun word = option_map (λ name. (name, drop (length (option_front name)) word)) (option_in_front word)

-- the value that was given of an option, if any; 1 of one that has none
abbrev pub given_of : OptionName → Given → Option ℕ
given_of option.Limit given = given.limit
given_of option.Sticky given = given.share
given_of option.Port given = given.port
given_of option.Workers given = given.workers
given_of option.Sessions given = given.sessions
given_of option.Events given = if given.events then Some 1 else None

-- what was given, with one option more
abbrev pub with_value : OptionName → ℕ → Given → Given
with_value option.Limit n given = record given { limit = Some n }
with_value option.Sticky n given = record given { share = Some n }
with_value option.Port n given = record given { port = Some n }
with_value option.Workers n given = record given { workers = Some n }
with_value option.Sessions n given = record given { sessions = Some n }
with_value option.Events n given = record given { events = true }

-- nothing was given
abbrev pub none_given : Given
none_given = record { limit = None; share = None; port = None; workers = None; sessions = None; events = false }

-- whether an option may stand behind this command: it knows it, and it was not given before
abbrev pub may_come : Command → Given → OptionName → Bool
may_come command given name = knows command name && not (is_some (given_of name given))

-- how far words are read with the name of an option, whose value follows where it has one
abbrev pub begins_option : Given → OptionName → Reading
begins_option given name = if has_value name then reading.Value name given else reading.Options (with_value name 1 given)

abbrev pub option_read : Command → Given → OptionName → Option Reading
option_read command given name = if may_come command given name then Some (begins_option given name) else None

-- how far they are read with an option and its value in one word
abbrev pub begun_read : Command → Given → OptionName × List ℕ → Option Reading
begun_read command given begun =
    if may_come command given begun.0 then option_map (λ n. reading.Options (with_value begun.0 n given)) (option_value begun.0 begun.1) else None

abbrev pub whole_option_read : Command → Given → List ℕ → Option Reading
whole_option_read command given word = option_and_then (begun_read command given) (option_begun word)

-- how far the words behind a command are read with one word more, or none where that is bad
abbrev pub word_read : Command → Reading → List ℕ → Option Reading
word_read command (reading.Options given) word =
    option_map_or (λ name. option_read command given name) (option_named word) (whole_option_read command given word)
word_read command (reading.Value name given) word = option_map (λ n. reading.Options (with_value name n given)) (option_value name word)

-- the limit of the cache, in mebibytes, or 64; the share of the sticky items, in percent, or 100
abbrev pub limit_of : Given → ℕ
limit_of given = option_map_or (λ n. n) given.limit 64

abbrev pub share_of : Given → ℕ
share_of given = option_map_or (λ n. n) given.share 100

-- what a command does with these options, where none is missing that it needs: `many` needs workers, `serve` a port and workers
abbrev pub job_with : Command → Given → Option Job
job_with command.Session given = Some (job.Session (limit_of given) (share_of given))
job_with command.Many given = option_map (λ workers. job.Many workers (limit_of given) (share_of given)) given.workers
job_with command.Serve given =
    option_and_then (λ port. option_map (λ workers. job.Serve (record {
      port = port;
      workers = workers;
      limit = limit_of given;
      share = share_of given;
      sessions = given.sessions;
      events = given.events;
    })) given.workers) given.port

-- what is done where no word is left; or a value is missing at this place, or an option that is needed
abbrev pub job_at_end : Command → ℕ → Reading → Result Job ℕ
job_at_end command place (reading.Options given) = option_map_or (λ job. Ok job) (job_with command given) (Err place)
job_at_end command place (reading.Value name given) = Err place

-- what the words from this place on ask for, or the place of the first bad one
abbrev pub job_behind : Command → ℕ → Reading → List (List ℕ) → Result Job ℕ
job_behind command place reading [] = job_at_end command place reading
job_behind command place reading (word ∷ words) =
    option_map_or (λ next. job_behind command (place + 1) next words) (word_read command reading word) (Err place)

-- what the program's words ask for, or the place of the first bad one
abbrev pub job_of : List (List ℕ) → Result Job ℕ
job_of [] = Err 0
job_of (word ∷ words) = option_map_or (λ command. job_behind command 1 (reading.Options none_given) words) (command_named word) (Err 0)
