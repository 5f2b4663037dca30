use Rattle.std.proofs.Common.{◌≡◌, ◌+◌, map, string_bytes, drop}
use Rattle.program_words.specs.declared.words.Reading.TheVariants as reading
use Rattle.program_words.specs.Reading.{IsReading}
use Rattle.program_words.specs.Words.{job_behind, none_given}
use Rattle.program_words.proofs.words.Command.read_options.Given as goal

-- the words that are left ask, from this place on, for what all of them ask
abbrev pub invariant-loop-word : goal.invariant-loop-word
invariant-loop-word l =
    record {
      place : l.place ≡ l.word-index + 1;
      good : IsReading l.reading;
      rest : job_behind l.self l.place l.reading (map string_bytes (drop l.word-index l.words)) ≡ job_behind l.self 1 (reading.Options none_given) (map string_bytes l.words);
    }
