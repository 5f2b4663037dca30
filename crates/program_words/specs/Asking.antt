-- What the program's words ask for, in their own terms: options in any order, each at most once, each that has a value in two
-- words or in one.
use Rattle.std.specs.Prelude.{◌≡◌, ◌⊎◌, ℕ, Bool, true, false, List, [], ◌∷◌, ◌++◌, Some, None}
use Rattle.program_words.specs.declared.words.Command.{Command}
use Rattle.program_words.specs.declared.job.Job.{Job}
use Rattle.program_words.specs.declared.options.OptionName.{OptionName}
use Rattle.program_words.specs.declared.options.Given.{Given}
use Rattle.program_words.specs.Words.{command_named, knows, option_text, option_value, has_value, given_of, with_value, none_given, job_with}

-- These words write the option: with a value that stands for n, `--x v` or `--x=v`; or without one, `--x`.
abbrev pub WritesBy : Bool → OptionName → ℕ → List (List ℕ) → Type 0
WritesBy true name n words =
    (value : List ℕ) × (option_value name value ≡ Some n)
    × ((words ≡ option_text name ∷ value ∷ []) ⊎ (words ≡ (option_text name ++ 61 ∷ value) ∷ []))
WritesBy false name n words = (n ≡ 1) × (words ≡ option_text name ∷ [])

abbrev pub WritesOption : OptionName → ℕ → List (List ℕ) → Type 0
WritesOption name = WritesBy (has_value name) name

-- These words write these options, one after another, all of which the command knows, and none of which was given before, and
-- then so much is given.
abbrev pub WritesOptions : Command → Given → List (OptionName × ℕ) → List (List ℕ) → Given → Type 0
WritesOptions command before [] words given = (words ≡ []) × (given ≡ before)
WritesOptions command before (option ∷ options) words given =
    (own : List (List ℕ)) × (more : List (List ℕ)) × (words ≡ own ++ more) × WritesOption option.0 option.1 own
    × (knows command option.0 ≡ true) × (given_of option.0 before ≡ None) × WritesOptions command (with_value option.0 option.1 before) options more given

-- The words ask for this job: the word of a command, and options behind it, with which the command does it.
pub record AsksFor (words : List (List ℕ)) (job : Job) : Type 0 where
  pub command : Command
  pub word : List ℕ
  pub more : List (List ℕ)
  pub options : List (OptionName × ℕ)
  pub given : Given
  pub parts : words ≡ word ∷ more
  pub named : command_named word ≡ Some command
  pub written : WritesOptions command none_given options more given
  pub does : job_with command given ≡ Some job
