-- What was told of a line, and of a unit.
use Rattle.std.proofs.Common.{◌≡◌, ℕ, List, [], ◌∷◌, ◌++◌, append_assoc, Bool, true, false, Option, Some, None, Result, Ok, Err, refl, sym, ap, ◌∙◌, inl, inr, arith, zero, suc}
use Rattle.std.proofs.lemmas.Bool.{cond-false, ne_eqb}
use Rattle.std.proofs.lemmas.List.{append-nil}
use Rattle.std.specs.Prelude.{if◌then◌else◌, not, ◌&&◌}
use Rattle.std.specs.Option.{option_map, option_map_or}
use Rattle.arc_core.specs.declared.outside.Need.{Need}
use Rattle.arc_core.specs.declared.outside.Need.TheVariants as need
use Rattle.arc_core.specs.declared.replies.Reply.{Reply}
use Rattle.arc_core.specs.declared.replies.Word.{Word}
use Rattle.arc_core.specs.declared.replies.Word.TheVariants as word
use Rattle.arc_core.specs.declared.requests.Answer.{Answer}
use Rattle.arc_core.specs.PlainRequest.{PlainRequest}
use Rattle.arc_core.specs.declared.commands.Command.{Command}
use Rattle.arc_core.specs.declared.commands.Command.TheVariants as command
use Rattle.arc_core.specs.declared.coll_commands.CollCommand.{CollCommand}
use Rattle.arc_core.specs.declared.coll_commands.CollCommand.TheVariants as coll_command
use Rattle.arc_core.specs.declared.coll_commands.CollHead.{CollHead}
use Rattle.arc_core.specs.declared.coll_commands.CollHead.TheVariants as coll_head
use Rattle.arc_core.specs.Words.{words, fields_counted, keys_counted}
use Rattle.arc_core.specs.CollectionLines.{IsCollHead, coll_line_needs, coll_line_is_silent, coll_is_quit, coll_answer, coll_head_of, coll_need_of, coll_request_of, element_limit, fields_need}
use Rattle.arc_core.specs.Grammar.{Meets, block_limit, is_quit, is_silent, need_of, request_of}
use Rattle.arc_core.specs.History.{Entry}
use Rattle.arc_core.specs.ReplyText.{reply_text, word_line}
use Rattle.arc_core.specs.Framing.{Whole}
use Rattle.arc_core.specs.Framing as whole
use Rattle.pipe_session.specs.Runs.{broken_answer_of, no_run}
use Rattle.pipe_session.specs.SessionText.{TellsUnit, HasStatus, AnswersItself, IsQuitUnit, belongs, head_is_piped, have_piped_form, is_marked, line_belongs, line_is_marked, may_end_a_run, sent_for, sent_of}
use Rattle.pipe_session.specs.declared.phase.Phase.{Phase}
use Rattle.pipe_session.specs.declared.phase.Phase.TheVariants as phase
use Rattle.arc_core.specs.declared.pipes.PipeStatus.{PipeStatus}
use Rattle.pipe_session.proofs.Facts.{told_as, broken_off_by, executed_one}
use Rattle.pipe_session.specs.Handling.{Stand, ExecutesOne, IsTold, IsToldAlone, BreaksRun, HeadStatus, LineStatus, head_facts, line_facts, unit_facts, word_facts, TellsHead, AnswersLine, QuitsByLine, TellsLine, HasItsBlock, HandlesLine, HandlesUnit, heard}

-- two answers that are one
pub only_ok : {A E : Type 0} (a other : A) → (let x : Result A E = Ok a in x ≡ Ok other) → a ≡ other
only_ok a other e = cc

pub no_head : {A E : Type 0} (fault : E) (other : A) → (let x : Result A E = Err fault in x ≡ Ok other) → ⊥
no_head fault other e = cc

-- what is owed more, where no answer is to be sent and where one is
pub owes_all : (owed owed' answer : List ℕ) (silent : Bool) → silent ≡ false → owed' ≡ owed ++ answer → owed' ≡ owed ++ (if silent then [] else answer)
owes_all owed owed' answer silent heard owes = owes ∙ ap (λ s. owed ++ (if s then [] else answer)) (sym heard)

pub owes_nothing : (owed answer : List ℕ) (silent : Bool) → silent ≡ true → owed ≡ owed ++ (if silent then [] else answer)
owes_nothing owed answer silent still = sym (append-nil owed) ∙ ap (λ s. owed ++ (if s then [] else answer)) (sym still)

module _ {D : Type 0} (answers : D → Entry → D → Type 0) (from to : Stand D) (head : CollHead) (block : List ℕ) (silent : Bool) (same : silent ≡ is_silent (coll_answer head)) where
  owes_heard : (answer : List ℕ) → to.owed ≡ from.owed ++ (if silent then [] else answer) → to.owed ≡ from.owed ++ heard head answer
  owes_heard answer owes = owes ∙ ap (λ s. from.owed ++ (if s then [] else answer)) same

  -- a request was executed at a second of the clock, and its reply was answered
  pub told_request : (request : PlainRequest) (reply : Reply) → Some request ≡ coll_request_of head block
      → ExecutesOne answers from.desk from.coming request reply to.desk to.coming → to.owed ≡ from.owed ++ (if silent then [] else reply_text reply)
      → IsToldAlone answers (TellsHead head block) from to
  told_request request reply is one owes = (
    one.0 ∷ [],
    heard head (reply_text reply),
    inl (one.0, sym is ∙ ap Some (sym one.1), refl, ap (λ r. heard head (reply_text r)) (sym one.2)),
    executed_one answers from to request reply one (heard head (reply_text reply)) (owes_heard (reply_text reply) owes),
  )

  -- and was told behind a run that it broke off
  pub broke_off : (request : PlainRequest) (reply : Reply) → Some request ≡ coll_request_of head block
      → ExecutesOne answers from.desk from.coming request reply to.desk to.coming
      → to.owed ≡ (from.owed ++ broken_answer_of from.run) ++ (if silent then [] else reply_text reply) → to.run ≡ no_run
      → BreaksRun answers (TellsHead head block) from to
  broke_off request reply is one owes none = (
    one.0 ∷ [],
    heard head (reply_text reply),
    inl (one.0, sym is ∙ ap Some (sym one.1), refl, ap (λ r. heard head (reply_text r)) (sym one.2)),
    executed_one answers from to request reply one (broken_answer_of from.run ++ heard head (reply_text reply))
        (owes ∙ append_assoc from.owed (broken_answer_of from.run) (if silent then [] else reply_text reply)
        ∙ ap (λ s. from.owed ++ (broken_answer_of from.run ++ (if s then [] else reply_text reply))) same),
    none,
  )

  -- the block is bad, and was answered so
  pub told_bad_block : None ≡ coll_request_of head block → to.desk ≡ from.desk → to.coming ≡ from.coming → to.owed ≡ from.owed ++ (if silent then [] else word_line word.BadChunk)
      → IsToldAlone answers (TellsHead head block) from to
  told_bad_block is desk coming owes =
      ([], heard head (word_line word.BadChunk), inr (sym is, refl, refl), record { served = desk; seconds = coming; owed = owes_heard (word_line word.BadChunk) owes })

-- The need is a block.
pub record IsSomeBlock (asks : Need) : Type 0 where
  pub len : ℕ
  pub limit : ℕ
  pub is : asks ≡ need.Block len limit

a_block : (len limit : ℕ) → IsSomeBlock (need.Block len limit)
a_block len limit = record { len = len; limit = limit; is = refl }

-- a key-value command that does not end the session has a request with no block, or it asks for one
keys_are_asked : (asked : Command) (answer : Answer) (block : List ℕ) → is_quit asked ≡ false → request_of (record { command = asked; answer = answer }) block ≡ None
    → IsSomeBlock (need_of asked)
keys_are_asked (command.Store verb key flags exptime len) answer block goes none = a_block len block_limit
keys_are_asked (command.Get keys unique) answer block goes none = absurd cc
keys_are_asked (command.GetBlock len number) answer block goes none = a_block len block_limit
keys_are_asked (command.Count up key delta initial) answer block goes none = absurd cc
keys_are_asked (command.Delete key) answer block goes none = absurd cc
keys_are_asked (command.Touch key exptime) answer block goes none = absurd cc
keys_are_asked command.FlushAll answer block goes none = absurd cc
keys_are_asked command.Version answer block goes none = absurd cc
keys_are_asked command.Quit answer block goes none = absurd cc

-- an option that maps to none is none
mapped_none : {A B : Type 0} (f : A → B) (of : Option A) → option_map f of ≡ None → of ≡ None
mapped_none f None e = refl
mapped_none f (Some a) e = cc

-- no words are no fields
no_fields : fields_counted 0 (words []) ≡ Some []
unfolding keys_counted
no_fields = refl

-- where a block is not so many fields, it is asked for
fields_are_asked : (len number : ℕ) (block : List ℕ) → Meets (fields_need len number) block → fields_counted number (words block) ≡ None → IsSomeBlock (fields_need len number)
fields_are_asked len zero block is none =
    let e : Some [] ≡ None = sym no_fields ∙ ap (λ b. fields_counted 0 (words b)) (sym is) ∙ none in
    absurd cc
fields_are_asked len (suc number) block is none =
    record { len = len; limit = block_limit; is = cond-false _ _ _ (ne_eqb (suc number) 0 (λ e. omega (arith, e))) }

-- a command on a collection has a request with no block, or it asks for one
fields_or_block : (asked : CollCommand) (answer : Answer) (block : List ℕ) → Meets (coll_need_of (coll_head.Collection asked answer)) block
    → coll_request_of (coll_head.Collection asked answer) block ≡ None → IsSomeBlock (coll_need_of (coll_head.Collection asked answer))
fields_or_block (coll_command.Create kind key args) answer block is none = absurd cc
fields_or_block (coll_command.ListInsert key index len create) answer block is none = a_block len element_limit
fields_or_block (coll_command.ListDelete key range drop_empty) answer block is none = absurd cc
fields_or_block (coll_command.ListGet key range taking) answer block is none = absurd cc
fields_or_block (coll_command.SetInsert key len create) answer block is none = a_block len element_limit
fields_or_block (coll_command.SetDelete key len drop_empty) answer block is none = a_block len element_limit
fields_or_block (coll_command.SetExist key len) answer block is none = a_block len element_limit
fields_or_block (coll_command.SetGet key count taking) answer block is none = absurd cc
fields_or_block (coll_command.MapInsert key field len create) answer block is none = a_block len element_limit
fields_or_block (coll_command.MapUpdate key field len) answer block is none = a_block len element_limit
fields_or_block (coll_command.MapUpsert key field len create) answer block is none = a_block len element_limit
fields_or_block (coll_command.MapDelete key len number drop_empty) answer block is none =
    fields_are_asked len number block is (mapped_none _ (fields_counted number (words block)) (mapped_none _ _ none))
fields_or_block (coll_command.MapGet key len number taking) answer block is none =
    fields_are_asked len number block is (mapped_none _ (fields_counted number (words block)) (mapped_none _ _ none))

-- where there is no request, a block is asked for: it is not the keys or fields that are named
block_is_asked : (head : CollHead) (block : List ℕ) → coll_is_quit head ≡ false → Meets (coll_need_of head) block → coll_request_of head block ≡ None
    → IsSomeBlock (coll_need_of head)
block_is_asked (coll_head.KeyValue head) block goes is none = keys_are_asked head.command head.answer block goes none
block_is_asked (coll_head.Collection asked answer) block goes is none = fields_or_block asked answer block is none

-- a key-value command that ends the session asks for no block
quit_asks_nothing : (asked : Command) → is_quit asked ≡ true → need_of asked ≡ need.Nothing
quit_asks_nothing command.Quit quits = refl
quit_asks_nothing other quits = cc

-- a head that ends the session asks for no block
nothing_asked_at_quit : (head : CollHead) → coll_is_quit head ≡ true → coll_need_of head ≡ need.Nothing
nothing_asked_at_quit (coll_head.KeyValue head) quits = quit_asks_nothing head.command quits
nothing_asked_at_quit (coll_head.Collection asked answer) quits = absurd cc

-- the line is `quit`
pub quits_by : (line : List ℕ) (head : CollHead) → IsCollHead line head → coll_line_needs line ≡ coll_need_of head → coll_is_quit head ≡ true → QuitsByLine line
quits_by line head is_head needs quits =
    record { is_quit = (head, is_head, quits); asks_nothing = needs ∙ nothing_asked_at_quit head quits }

module _ {D : Type 0} (answers : D → Entry → D → Type 0) (from to : Stand D) (line block : List ℕ) (head : CollHead) (is_head : IsCollHead line head) (read : coll_head_of (words line) ≡ Some head) (needs : coll_line_needs line ≡ coll_need_of head) where
  -- what the head told, the line told
  told_line : Meets (coll_need_of head) block → coll_line_is_silent line ≡ is_silent (coll_answer head) → coll_is_quit head ≡ false
      → IsTold answers (head_facts head block) from to → IsTold answers (line_facts line block) from to
  told_line is_block silent goes told =
      told_as answers (head_facts head block) (line_facts line block) (ap (λ o. option_map_or head_is_piped o (have_piped_form (words line))) read) (ap (λ o. line_belongs o block) read) as_status tells from to told
    where
      as_status : (entries : List Entry) (told : PipeStatus) → HeadStatus head block entries told → LineStatus line block entries told
      as_status entries told (inl is) = inl (is.0, (head, is_head, is_block, is.1), is.2, is.3)
      as_status entries told (inr is) =
          let asked = block_is_asked head block goes is_block is.0 in
          inr (word.BadChunk, inr (asked.len, asked.limit, needs ∙ asked.is, (head, is_head, goes, is_block, is.0), refl), is.1, is.2)

      sent : (answer : List ℕ) → heard head answer ≡ sent_for line answer
      sent answer = ap (λ s. if s then [] else answer) (sym silent)

      tells : (entries : List Entry) (text : List ℕ) → TellsHead head block entries text → TellsLine line block entries text
      tells entries text (inl is) = inl (is.0, (head, is_head, is_block, is.1), is.2, is.3 ∙ sent (reply_text is.0.reply))
      tells entries text (inr is) =
          let asked = block_is_asked head block goes is_block is.0 in
          inr (inl (
            word.BadChunk,
            inr (asked.len, asked.limit, needs ∙ asked.is, (head, is_head, goes, is_block, is.0), refl),
            is.1,
            is.2 ∙ sent (word_line word.BadChunk),
          ))

  -- the line of this head was handled
  pub handles_head : Meets (coll_need_of head) block → coll_line_is_silent line ≡ is_silent (coll_answer head) → coll_is_quit head ≡ false
      → ((other : CollHead) → IsCollHead line other → head ≡ other) → IsTold answers (head_facts head block) from to → HandlesLine answers line block from to phase.Going
  handles_head is_block silent goes only told = (told_line is_block silent goes told, no_quit, (λ long. long))
    where
      no_quit : QuitsByLine line → ⊥
      no_quit quits =
          let other = quits.is_quit in
          let same : coll_is_quit head ≡ true = ap coll_is_quit (only other.0 other.1) ∙ other.2 in
          let e : true ≡ false = sym same ∙ goes in
          cc

-- a head that ends the session is no piped command
quit_is_alone : (head : CollHead) → coll_is_quit head ≡ true → head_is_piped head ≡ false
quit_is_alone (coll_head.KeyValue head) quits = refl
quit_is_alone (coll_head.Collection asked answer) quits = absurd cc

-- the line is `quit`, and broke off the run that was open
pub handles_quit : {D : Type 0} (answers : D → Entry → D → Type 0) (from to : Stand D) (line block : List ℕ) (head : CollHead) → QuitsByLine line → coll_head_of (words line) ≡ Some head → coll_is_quit head ≡ true
    → to.desk ≡ from.desk → to.coming ≡ from.coming → to.owed ≡ from.owed ++ (if from.run.is_open then broken_answer_of from.run else []) → to.run ≡ (if from.run.is_open then no_run else from.run)
    → HandlesLine answers line block from to phase.Quit
handles_quit answers from to line block head quits read ends desk coming owes run =
    let told = broken_off_by answers (line_facts line block) (ap (λ o. option_map_or head_is_piped o (have_piped_form (words line))) read ∙ quit_is_alone head ends)
    (ap (λ o. line_belongs o block) read ∙ ap (λ b. not b && option_map_or may_end_a_run (coll_request_of head block) true) ends)
    from to [] (inr (inr (quits, refl, refl))) desk coming (owes ∙ sym (append-nil _)) run in
    (told.0, quits, told.1)

-- the session answered the line
pub handles_fault : {D : Type 0} (answers : D → Entry → D → Type 0) (from to : Stand D) (line block : List ℕ) (answer : Word) → AnswersLine line block answer → coll_line_is_silent line ≡ false
    → coll_head_of (words line) ≡ None → ((head : CollHead) → IsCollHead line head → ⊥) → IsTold answers (word_facts (have_piped_form (words line)) false answer) from to → HandlesLine answers line block from to phase.Going
handles_fault answers from to line block answer why silent read none told = (
  told_as answers (word_facts (have_piped_form (words line)) false answer) (line_facts line block) (ap (λ o. option_map_or head_is_piped o (have_piped_form (words line))) read)
      (ap (λ o. line_belongs o block) read) (λ entries told is. inr (answer, why, is.0, is.1)) tells from to told,
  (λ (quits : QuitsByLine line). none quits.is_quit.0 quits.is_quit.1),
  (λ long. long),
)
  where
    tells : (entries : List Entry) (text : List ℕ) → (entries ≡ []) × (text ≡ word_line answer) → TellsLine line block entries text
    tells entries text is = inr (inl (answer, why, is.0, is.1 ∙ ap (λ s. if s then [] else word_line answer) (sym silent)))

-- a line's block is one that its head may have
pub block_for : (need : Need) (line block : List ℕ) → coll_line_needs line ≡ need → HasItsBlock line block → Meets need block
block_for need.Nothing line block needs (inl none) = none.1
block_for need.Nothing line block needs (inr one) = absurd (asks_nothing one.0 one.1 (sym one.2 ∙ needs))
  where
    asks_nothing : (n m : ℕ) → need.Block n m ≡ need.Nothing → ⊥
    asks_nothing n m e = cc
block_for (need.Block len limit) line block needs (inl none) = absurd (asks len limit (sym needs ∙ none.0))
  where
    asks : (n m : ℕ) → need.Block n m ≡ need.Nothing → ⊥
    asks n m e = cc
block_for (need.Block len limit) line block needs (inr one) =
    let same : need.Block one.0 one.1 ≡ need.Block len limit = sym one.2 ∙ needs in
    let len_is : one.0 ≡ len = cc in
    let limit_is : one.1 ≡ limit = cc in
    (one.3 ∙ len_is, omega (arith, one.4))

nothing_is_asked : (line : List ℕ) (len limit : ℕ) → coll_line_needs line ≡ need.Nothing → coll_line_needs line ≡ need.Block len limit → ⊥
nothing_is_asked line len limit nothing block = differ (sym nothing ∙ block)
  where
    differ : need.Nothing ≡ need.Block len limit → ⊥
    differ e = cc

-- what a unit without a block told, by its line
pub line_handled : {D : Type 0} (answers : D → Entry → D → Type 0) (from to : Stand D) (text : List ℕ) (behind : Phase) → coll_line_needs text ≡ need.Nothing → HandlesLine answers text [] from to behind → HandlesUnit answers (whole.line text) from to behind
line_handled answers from to text behind nothing is = by_cases behind is
  where
    tells : (entries : List Entry) (said : List ℕ) → TellsLine text [] entries said → TellsUnit (whole.line text) entries said
    tells entries said (inl one) = inl (one.0, one.1, one.2, one.3)
    tells entries said (inr (inl (one))) = elim one.1 [
      | inl why ↦ inr (inl (one.0, why.1, one.2, one.3))
      | inr bad ↦ absurd (nothing_is_asked text bad.0 bad.1 nothing bad.2)
    ]
    tells entries said (inr (inr one)) = inr (inr (one.0.is_quit, one.1, one.2))

    as_status : (entries : List Entry) (said : PipeStatus) → LineStatus text [] entries said → HasStatus (whole.line text) entries said
    as_status entries said (inl one) = inl one
    as_status entries said (inr one) = elim one.1 [
      | inl why ↦ inr (one.0, why.1, one.2, one.3)
      | inr bad ↦ absurd (nothing_is_asked text bad.0 bad.1 nothing bad.2)
    ]

    told : IsTold answers (line_facts text []) from to → IsTold answers (unit_facts (whole.line text)) from to
    told is = told_as answers (line_facts text []) (unit_facts (whole.line text)) refl refl as_status tells from to is

    not_long : whole.line text ≡ whole.line_too_long → ⊥
    not_long e = cc

    by_cases : (behind : Phase) → HandlesLine answers text [] from to behind → HandlesUnit answers (whole.line text) from to behind
    by_cases phase.Going is = (told is.0, (λ quits. is.1 (record { is_quit = quits; asks_nothing = nothing })), not_long)
    by_cases phase.Quit is = (told is.0, is.1.is_quit, is.2)
    by_cases phase.LineTooLong is = absurd is.1
    by_cases phase.Ended is = is
    by_cases phase.Over is = is

-- what a line with its block told
pub block_handled : {D : Type 0} (answers : D → Entry → D → Type 0) (from to : Stand D) (text block : List ℕ) (len limit : ℕ) (behind : Phase) → coll_line_needs text ≡ need.Block len limit
    → HandlesLine answers text block from to behind → HandlesUnit answers (whole.line_with_block text block) from to behind
block_handled answers from to text block len limit behind asks is = by_cases behind is
  where
    tells : (entries : List Entry) (said : List ℕ) → TellsLine text block entries said → TellsUnit (whole.line_with_block text block) entries said
    tells entries said (inl one) = inl (one.0, one.1, one.2, one.3)
    tells entries said (inr (inl (one))) = elim one.1 [
      | inl why ↦ absurd (nothing_is_asked text len limit why.0 asks)
      | inr bad ↦ inr (inl (one.0, (bad.3, bad.4), one.2, one.3))
    ]
    tells entries said (inr (inr one)) = absurd (nothing_is_asked text len limit one.0.asks_nothing asks)

    as_status : (entries : List Entry) (said : PipeStatus) → LineStatus text block entries said → HasStatus (whole.line_with_block text block) entries said
    as_status entries said (inl one) = inl one
    as_status entries said (inr one) = elim one.1 [
      | inl why ↦ absurd (nothing_is_asked text len limit why.0 asks)
      | inr bad ↦ inr (one.0, (bad.3, bad.4), one.2, one.3)
    ]

    told : IsTold answers (line_facts text block) from to → IsTold answers (unit_facts (whole.line_with_block text block)) from to
    told is = told_as answers (line_facts text block) (unit_facts (whole.line_with_block text block)) refl refl as_status tells from to is

    not_long : whole.line_with_block text block ≡ whole.line_too_long → ⊥
    not_long e = cc

    by_cases : (behind : Phase) → HandlesLine answers text block from to behind → HandlesUnit answers (whole.line_with_block text block) from to behind
    by_cases phase.Going is = (told is.0, (λ quits. quits), not_long)
    by_cases phase.Quit is = absurd (nothing_is_asked text len limit is.1.asks_nothing asks)
    by_cases phase.LineTooLong is = absurd is.1
    by_cases phase.Ended is = is
    by_cases phase.Over is = is

-- the session answered a unit behind which it goes on
pub answer_handled : {D : Type 0} (answers : D → Entry → D → Type 0) (from to : Stand D) (unit : Whole) (text : List ℕ) (answer : Word) → AnswersItself unit answer → is_marked unit ≡ line_is_marked text → belongs unit ≡ true
    → sent_of unit (word_line answer) ≡ sent_for text (word_line answer) → (IsQuitUnit unit → ⊥) → (unit ≡ whole.line_too_long → ⊥)
    → IsTold answers (word_facts (line_is_marked text) (coll_line_is_silent text) answer) from to → HandlesUnit answers unit from to phase.Going
answer_handled answers from to unit text answer why marked joins sent no_quit not_long told = (
  told_as answers (word_facts (line_is_marked text) (coll_line_is_silent text) answer) (unit_facts unit) marked joins (λ entries told is. inr (answer, why, is.0, is.1))
      (λ entries said is. inr (inl (answer, why, is.0, is.1 ∙ sym sent))) from to told,
  no_quit,
  not_long,
)

-- the session answered a line that is too long
pub long_handled : {D : Type 0} (answers : D → Entry → D → Type 0) (from to : Stand D) → to.desk ≡ from.desk → to.coming ≡ from.coming
    → to.owed ≡ (from.owed ++ (if from.run.is_open then broken_answer_of from.run else [])) ++ word_line word.LineTooLong → to.run ≡ (if from.run.is_open then no_run else from.run)
    → HandlesUnit answers whole.line_too_long from to phase.LineTooLong
long_handled answers from to desk coming owes run =
    let told = broken_off_by answers (unit_facts whole.line_too_long) refl refl from to (word_line word.LineTooLong) (inr (inl (word.LineTooLong, refl, refl, refl))) desk coming owes run in
    (told.0, refl, told.1)
