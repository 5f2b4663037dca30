-- The program's words are read as a job exactly where they ask for it.
use Rattle.std.proofs.Common.{◌≡◌, ℕ, ◌+◌, Bool, true, false, not, ◌&&◌, List, [], ◌∷◌, ◌++◌, length, take, drop, Option, Some, None, is_some, Ok, Err, bytes_eq, refl, sym, ap, ◌∙◌, inl, inr, subst}
use Rattle.std.specs.Prelude.{codes, if◌then◌else◌}
use Rattle.std.specs.Option.{option_map, option_map_or, option_and_then}
use Rattle.std.proofs.lemmas.List.{take-append-drop}
use Rattle.std.proofs.lemmas.Slice.Eq.{bytes_eq-Decides}
use Rattle.program_words.specs.declared.words.Command.{Command}
use Rattle.program_words.specs.declared.job.Job.{Job}
use Rattle.program_words.specs.declared.options.OptionName.{OptionName}
use Rattle.program_words.specs.declared.options.OptionName.TheVariants as option
use Rattle.program_words.specs.declared.options.Given.{Given}
use Rattle.program_words.specs.declared.words.Reading.{Reading}
use Rattle.program_words.specs.declared.words.Reading.TheVariants as reading
use Rattle.program_words.specs.Words.{job_of, job_behind, job_with, none_given, command_named, knows, may_come, begins_option, word_read, option_read, whole_option_read, option_begun, option_in_front, begun_read, option_named, option_text, option_front, option_value, has_value, given_of, with_value}
use Rattle.program_words.specs.Asking.{WritesBy, WritesOption, WritesOptions, AsksFor}

-- an option's name is read as that option
names_itself : (name : OptionName) → option_named (option_text name) ≡ Some name
names_itself option.Limit = refl
names_itself option.Sticky = refl
names_itself option.Port = refl
names_itself option.Workers = refl
names_itself option.Sessions = refl
names_itself option.Events = refl

-- a word with `=` behind the name is no name, and is split there
is_no_name : (name : OptionName) (value : List ℕ) → option_named (option_text name ++ 61 ∷ value) ≡ None
is_no_name option.Limit value = refl
is_no_name option.Sticky value = refl
is_no_name option.Port value = refl
is_no_name option.Workers value = refl
is_no_name option.Sessions value = refl
is_no_name option.Events value = refl

begins_itself : (name : OptionName) (value : List ℕ) → has_value name ≡ true → option_begun (option_text name ++ 61 ∷ value) ≡ Some (name, value)
begins_itself option.Limit value has = refl
begins_itself option.Sticky value has = refl
begins_itself option.Port value has = refl
begins_itself option.Workers value has = refl
begins_itself option.Sessions value has = refl
begins_itself option.Events value has = absurd cc

-- an option that a value was read of has one
has_what_it_reads : (name : OptionName) (value : List ℕ) (n : ℕ) → option_value name value ≡ Some n → has_value name ≡ true
has_what_it_reads option.Limit value n reads = refl
has_what_it_reads option.Sticky value n reads = refl
has_what_it_reads option.Port value n reads = refl
has_what_it_reads option.Workers value n reads = refl
has_what_it_reads option.Sessions value n reads = refl
has_what_it_reads option.Events value n reads = absurd cc

-- the same text, split before its `=` or behind it
front_is : (name : OptionName) (value : List ℕ) → option_front name ++ value ≡ option_text name ++ 61 ∷ value
front_is option.Limit value = refl
front_is option.Sticky value = refl
front_is option.Port value = refl
front_is option.Workers value = refl
front_is option.Sessions value = refl
front_is option.Events value = refl

same : (xs ys : List ℕ) → bytes_eq xs ys ≡ true → xs ≡ ys
same xs ys = (bytes_eq-Decides xs ys).0

-- a word that names an option is its name
abbrev named_among : List OptionName → List ℕ → Option OptionName
named_among [] word = None
named_among (name ∷ names) word = if bytes_eq word (option_text name) then Some name else named_among names word

is_its_name : (names : List OptionName) (word : List ℕ) (name : OptionName) → named_among names word ≡ Some name → word ≡ option_text name
is_its_name [] word name is = absurd cc
is_its_name (first ∷ names) word name is =
    by_test (bytes_eq word (option_text first)) is (same word (option_text first)) (λ e. is_its_name names word name e)
  where
    by_test : (test : Bool) → (if test then Some first else named_among names word) ≡ Some name → (test ≡ true → word ≡ option_text first)
        → (named_among names word ≡ Some name → word ≡ option_text name) → word ≡ option_text name
    by_test true e is_first later = let same_name : first ≡ name = cc in is_first refl ∙ ap option_text same_name
    by_test false e is_first later = later e

named_by : (word : List ℕ) (name : OptionName) → option_named word ≡ Some name → word ≡ option_text name
named_by = is_its_name (option.Limit ∷ option.Sticky ∷ option.Port ∷ option.Workers ∷ option.Sessions ∷ option.Events ∷ [])

-- a word that begins with an option is its front, and what stands behind
abbrev front_among : List OptionName → List ℕ → Option OptionName
front_among [] word = None
front_among (name ∷ names) word = if bytes_eq (take (length (option_front name)) word) (option_front name) then Some name else front_among names word

has_its_front : (names : List OptionName) (word : List ℕ) (name : OptionName) → front_among names word ≡ Some name → word ≡ option_front name ++ drop (length (option_front name)) word
has_its_front [] word name is = absurd cc
has_its_front (first ∷ names) word name is =
    by_test (bytes_eq (take (length (option_front first)) word) (option_front first)) is (same (take (length (option_front first)) word) (option_front first))
    (λ e. has_its_front names word name e)
  where
    by_test : (test : Bool) → (if test then Some first else front_among names word) ≡ Some name
        → (test ≡ true → take (length (option_front first)) word ≡ option_front first)
        → (front_among names word ≡ Some name → word ≡ option_front name ++ drop (length (option_front name)) word)
        → word ≡ option_front name ++ drop (length (option_front name)) word
    by_test true e is_first later =
        let same_name : first ≡ name = cc in
        sym (take-append-drop (length (option_front first)) word)
        ∙ ap (λ t. t ++ drop (length (option_front first)) word) (is_first refl)
        ∙ ap (λ m. option_front m ++ drop (length (option_front m)) word) same_name
    by_test false e is_first later = later e

in_front_by : (word : List ℕ) (name : OptionName) → option_in_front word ≡ Some name → word ≡ option_front name ++ drop (length (option_front name)) word
in_front_by = has_its_front (option.Limit ∷ option.Sticky ∷ option.Port ∷ option.Workers ∷ option.Sessions ∷ [])

begun_by : (word : List ℕ) (name : OptionName) (value : List ℕ) → option_begun word ≡ Some (name, value) → word ≡ option_text name ++ 61 ∷ value
begun_by word name value is = by_front (option_in_front word) refl is
  where
    split : OptionName → OptionName × List ℕ
    split m = (m, drop (length (option_front m)) word)

    same_pair : (a b : OptionName × List ℕ) → (let x : Option (OptionName × List ℕ) = Some a in x ≡ Some b) → a ≡ b
    same_pair a b e = cc

    by_front : (front : Option OptionName) → option_in_front word ≡ front → option_map split front ≡ Some (name, value) → word ≡ option_text name ++ 61 ∷ value
    by_front None at e = absurd cc
    by_front (Some first) at e =
        let pair = same_pair (split first) (name, value) e in
        let named : first ≡ name = ap (λ p. p.0) pair in
        let behind : drop (length (option_front first)) word ≡ value = ap (λ p. p.1) pair in
        in_front_by word first at ∙ ap (λ v. option_front first ++ v) behind ∙ ap (λ m. option_front m ++ value) named ∙ front_is name value

-- an option that may come is known, and was not given before; and the other way round
came_new : (command : Command) (before : Given) (name : OptionName) → may_come command before name ≡ true → (knows command name ≡ true) × (given_of name before ≡ None)
came_new command before name may = by_both (knows command name) (given_of name before) may
  where
    by_both : (known : Bool) (given : Option ℕ) → (known && not (is_some given)) ≡ true → (known ≡ true) × (given ≡ None)
    by_both false given e = absurd cc
    by_both true None e = (refl, refl)
    by_both true (Some n) e = absurd cc

module _ (command : Command) (before : Given) (name : OptionName) (known : knows command name ≡ true) (new : given_of name before ≡ None) where
  may : may_come command before name ≡ true
  may = ap (λ k. k && not (is_some (given_of name before))) known ∙ ap (λ g. not (is_some g)) new

  reads_name : word_read command (reading.Options before) (option_text name) ≡ Some (begins_option before name)
  reads_name =
      ap (λ o. option_map_or (λ m. option_read command before m) o (whole_option_read command before (option_text name))) (names_itself name)
      ∙ ap (λ t. if t then Some (begins_option before name) else None) may

  reads_both : (n : ℕ) (value : List ℕ) → has_value name ≡ true → option_value name value ≡ Some n
      → word_read command (reading.Options before) (option_text name ++ 61 ∷ value) ≡ Some (reading.Options (with_value name n before))
  reads_both n value has reads =
      ap (λ o. option_map_or (λ m. option_read command before m) o (whole_option_read command before (option_text name ++ 61 ∷ value))) (is_no_name name value)
      ∙ ap (option_and_then (begun_read command before)) (begins_itself name value has)
      ∙ ap (λ t. if t then option_map (λ m. reading.Options (with_value name m before)) (option_value name value) else None) may
      ∙ ap (option_map (λ m. reading.Options (with_value name m before))) reads

begins : (before : Given) (name : OptionName) (has : Bool) → has_value name ≡ has → begins_option before name ≡ (if has then reading.Value name before else reading.Options (with_value name 1 before))
begins before name has is = ap (λ h. if h then reading.Value name before else reading.Options (with_value name 1 before)) is

reads_value : (command : Command) (before : Given) (name : OptionName) (n : ℕ) (value : List ℕ) → option_value name value ≡ Some n
    → word_read command (reading.Value name before) value ≡ Some (reading.Options (with_value name n before))
reads_value command before name n value reads = ap (option_map (λ m. reading.Options (with_value name m before))) reads

module _ (command : Command) (job : Job) where
  abbrev Reads : ℕ → Reading → List (List ℕ) → Type 0
  Reads place from words = job_behind command place from words ≡ Ok job

  -- one word more that is read
  goes_on : (place : ℕ) (from to : Reading) (word : List ℕ) (more : List (List ℕ)) → word_read command from word ≡ Some to → Reads (place + 1) to more → Reads place from (word ∷ more)
  goes_on place from to word more is rest = ap (λ next. option_map_or (λ r. job_behind command (place + 1) r more) next (Err place)) is ∙ rest

  -- an option that is written is read
  reads_option : (place : ℕ) (before : Given) (name : OptionName) (n : ℕ) (own more : List (List ℕ)) (has : Bool) → has_value name ≡ has → WritesBy has name n own
      → knows command name ≡ true → given_of name before ≡ None → ((at : ℕ) → Reads at (reading.Options (with_value name n before)) more) → Reads place (reading.Options before) (own ++ more)
  reads_option place before name n own more true has writes known new rest =
      let value = writes.0 in
      let reads = writes.1 in
      elim writes.2 [
        | inl two ↦
            subst (λ o. Reads place (reading.Options before) (o ++ more)) (sym two)
            (goes_on place (reading.Options before) (reading.Value name before) (option_text name) (value ∷ more) (reads_name command before name known new ∙ ap (λ r. Some r) (begins before name true has))
            (goes_on (place + 1) (reading.Value name before) (reading.Options (with_value name n before)) value more (reads_value command before name n value reads) (rest (place + 1 + 1))))
        | inr one ↦
            subst (λ o. Reads place (reading.Options before) (o ++ more)) (sym one)
            (goes_on place (reading.Options before) (reading.Options (with_value name n before)) (option_text name ++ 61 ∷ value) more (reads_both command before name known new n value has reads) (rest (place + 1)))
      ]
  reads_option place before name n own more false has writes known new rest =
      let to : Reading = reading.Options (with_value name 1 before) in
      subst (λ o. Reads place (reading.Options before) (o ++ more)) (sym writes.1)
      (goes_on place (reading.Options before) to (option_text name) more (reads_name command before name known new ∙ ap (λ r. Some r) (begins before name false has))
      (subst (λ m. Reads (place + 1) (reading.Options (with_value name m before)) more) writes.0 (rest (place + 1))))

  -- options that are written are read
  reads_options : (place : ℕ) (before : Given) (options : List (OptionName × ℕ)) (words : List (List ℕ)) (given : Given) → WritesOptions command before options words given
      → job_with command given ≡ Some job → Reads place (reading.Options before) words
  reads_options place before [] words given written does =
      ap (job_behind command place (reading.Options before)) written.0
      ∙ ap (λ g. option_map_or (λ j. Ok j) (job_with command g) (Err place)) (sym written.1)
      ∙ ap (λ o. option_map_or (λ j. Ok j) o (Err place)) does
  reads_options place before (option ∷ options) words given written does =
      let own = written.0 in
      let more = written.1 in
      subst (λ ws. Reads place (reading.Options before) ws) (sym written.2)
      (reads_option place before option.0 option.1 own more (has_value option.0) refl written.3 written.4 written.5
      (λ at. reads_options at (with_value option.0 option.1 before) options more given written.6 does))

  -- What is read of words is written by them.
  record Written (before : Given) (words : List (List ℕ)) : Type 0 where
    options : List (OptionName × ℕ)
    given : Given
    written : WritesOptions command before options words given
    does : job_with command given ≡ Some job

  -- one option, and others behind it
  option_more : (before : Given) (name : OptionName) (n : ℕ) (own more : List (List ℕ)) → WritesOption name n own → may_come command before name ≡ true
      → Written (with_value name n before) more → Written before (own ++ more)
  option_more before name n own more writes may rest =
      let new = came_new command before name may in
      record {
        options = (name, n) ∷ rest.options;
        given = rest.given;
        written = (own, more, refl, writes, new.0, new.1, rest.written);
        does = rest.does;
      }

  writes_valued : (name : OptionName) (n : ℕ) (own : List (List ℕ)) → has_value name ≡ true → WritesBy true name n own → WritesOption name n own
  writes_valued name n own has writes = subst (λ h. WritesBy h name n own) (sym has) writes

  module _ (place : ℕ) (before : Given) where
    -- the value of an option is read
    value_read : (name : OptionName) (rest : List (List ℕ)) → has_value name ≡ true → may_come command before name ≡ true
        → ((value : List ℕ) (more : List (List ℕ)) → rest ≡ value ∷ more → (given : Given) → Reads (place + 1 + 1) (reading.Options given) more → Written given more)
        → Reads (place + 1) (reading.Value name before) rest → Written before (option_text name ∷ rest)
    value_read name [] has may two is = absurd cc
    value_read name (value ∷ more) has may two is = by_value (option_value name value) refl is
      where
        by_value : (v : Option ℕ) → option_value name value ≡ v
            → option_map_or (λ r. job_behind command (place + 1 + 1) r more) (option_map (λ n. reading.Options (with_value name n before)) v) (Err (place + 1)) ≡ Ok job
            → Written before (option_text name ∷ value ∷ more)
        by_value None e is = absurd cc
        by_value (Some n) e is =
            option_more before name n (option_text name ∷ value ∷ []) more (writes_valued name n (option_text name ∷ value ∷ []) has (value, e, inl refl)) may
            (two value more refl (with_value name n before) is)

    -- an option is read with its value
    both_read : (word : List ℕ) (name : OptionName) (value : List ℕ) (rest : List (List ℕ)) → option_begun word ≡ Some (name, value)
        → ((given : Given) → Reads (place + 1) (reading.Options given) rest → Written given rest)
        → option_map_or (λ r. job_behind command (place + 1) r rest) (begun_read command before (name, value)) (Err place) ≡ Ok job
        → Written before (word ∷ rest)
    both_read word name value rest begun one is = by_new (may_come command before name) (option_value name value) refl refl is
      where
        by_new : (new : Bool) (v : Option ℕ) → may_come command before name ≡ new → option_value name value ≡ v
            → option_map_or (λ r. job_behind command (place + 1) r rest) (if new then option_map (λ n. reading.Options (with_value name n before)) v else None) (Err place) ≡ Ok job
            → Written before (word ∷ rest)
        by_new false v may reads is = absurd cc
        by_new true None may reads is = absurd cc
        by_new true (Some n) may reads is =
            let own = (option_text name ++ 61 ∷ value) ∷ [] in
            subst (λ w. Written before (w ∷ rest)) (sym (begun_by word name value begun))
            (option_more before name n own rest (writes_valued name n own (has_what_it_reads name value n reads) (value, reads, inr refl)) may (one (with_value name n before) is))

    -- an option's name is read, and its value where it has one
    name_read : (name : OptionName) (rest : List (List ℕ)) → may_come command before name ≡ true
        → ((given : Given) → Reads (place + 1) (reading.Options given) rest → Written given rest)
        → ((value : List ℕ) (more : List (List ℕ)) → rest ≡ value ∷ more → (given : Given) → Reads (place + 1 + 1) (reading.Options given) more → Written given more)
        → Reads (place + 1) (begins_option before name) rest → Written before (option_text name ∷ rest)
    name_read name rest may one two is = by_value (has_value name) refl is
      where
        by_value : (has : Bool) → has_value name ≡ has → Reads (place + 1) (if has then reading.Value name before else reading.Options (with_value name 1 before)) rest
            → Written before (option_text name ∷ rest)
        by_value true has is = value_read name rest has may two is
        by_value false has is =
            let own = option_text name ∷ [] in
            option_more before name 1 own rest (subst (λ h. WritesBy h name 1 own) (sym has) (refl, refl)) may (one (with_value name 1 before) is)

    -- one word more is read
    word_more : (word : List ℕ) (rest : List (List ℕ))
        → ((given : Given) → Reads (place + 1) (reading.Options given) rest → Written given rest)
        → ((value : List ℕ) (more : List (List ℕ)) → rest ≡ value ∷ more → (given : Given) → Reads (place + 1 + 1) (reading.Options given) more → Written given more)
        → Reads place (reading.Options before) (word ∷ rest) → Written before (word ∷ rest)
    word_more word rest one two is = by_name (option_named word) refl is
      where
        by_begun : (begun : Option (OptionName × List ℕ)) → option_begun word ≡ begun
            → option_map_or (λ r. job_behind command (place + 1) r rest) (option_and_then (begun_read command before) begun) (Err place) ≡ Ok job
            → Written before (word ∷ rest)
        by_begun None e is = absurd cc
        by_begun (Some begun) e is = both_read word begun.0 begun.1 rest e one is

        by_new : (name : OptionName) (new : Bool) → option_named word ≡ Some name → may_come command before name ≡ new
            → option_map_or (λ r. job_behind command (place + 1) r rest) (if new then Some (begins_option before name) else None) (Err place) ≡ Ok job
            → Written before (word ∷ rest)
        by_new name false e may is = absurd cc
        by_new name true e may is = subst (λ w. Written before (w ∷ rest)) (sym (named_by word name e)) (name_read name rest may one two is)

        by_name : (named : Option OptionName) → option_named word ≡ named
            → option_map_or (λ r. job_behind command (place + 1) r rest) (option_map_or (λ name. option_read command before name) named (whole_option_read command before word)) (Err place) ≡ Ok job
            → Written before (word ∷ rest)
        by_name None e is = by_begun (option_begun word) refl is
        by_name (Some name) e is = by_new name (may_come command before name) e refl is

  tail_same : (value v : List ℕ) (more m : List (List ℕ)) → value ∷ more ≡ v ∷ m → m ≡ more
  tail_same value v more m e = cc

  -- where no word is left the job is that of what was given
  ends : (place : ℕ) (before : Given) → Reads place (reading.Options before) [] → Written before []
  ends place before is = by_job (job_with command before) refl is
    where
      by_job : (end : Option Job) → job_with command before ≡ end → option_map_or (λ j. Ok j) end (Err place) ≡ Ok job → Written before []
      by_job None e is = absurd cc
      by_job (Some found) e is = record {
        options = [];
        given = before;
        written = (refl, refl);
        does = let same_job : found ≡ job = cc in e ∙ ap (λ j. Some j) same_job;
      }

  -- words that are read write options
  writes_options : (place : ℕ) (before : Given) (words : List (List ℕ)) → Reads place (reading.Options before) words → Written before words
  writes_options place before [] is = ends place before is
  writes_options place before (word ∷ []) is =
      word_more place before word [] (λ given. writes_options (place + 1) given []) (λ value more e. absurd cc) is
  writes_options place before (word ∷ value ∷ more) is =
      word_more place before word (value ∷ more) (λ given. writes_options (place + 1) given (value ∷ more))
      (λ v m e given reads.
      let same_tail = tail_same value v more m e in
      subst (λ ws. Written given ws) (sym same_tail) (writes_options (place + 1 + 1) given more (subst (λ ws. Reads (place + 1 + 1) (reading.Options given) ws) same_tail reads)))
      is

pub asked_where_read : (words : List (List ℕ)) (job : Job) → job_of words ≡ Ok job → AsksFor words job
asked_where_read [] job is = absurd cc
asked_where_read (word ∷ more) job is = by_command (command_named word) refl is
  where
    by_command : (named : Option Command) → command_named word ≡ named
        → option_map_or (λ command. job_behind command 1 (reading.Options none_given) more) named (Err 0) ≡ Ok job → AsksFor (word ∷ more) job
    by_command None e is = absurd cc
    by_command (Some command) e is =
        let written = writes_options command job 1 none_given more is in
        record {
          command = command;
          word = word;
          more = more;
          options = written.options;
          given = written.given;
          parts = refl;
          named = e;
          written = written.written;
          does = written.does;
        }

pub read_where_asked : (words : List (List ℕ)) (job : Job) → AsksFor words job → job_of words ≡ Ok job
read_where_asked words job asks =
    ap job_of asks.parts
    ∙ ap (λ named. option_map_or (λ command. job_behind command 1 (reading.Options none_given) asks.more) named (Err 0)) asks.named
    ∙ reads_options asks.command job 1 none_given asks.options asks.more asks.given asks.written asks.does
