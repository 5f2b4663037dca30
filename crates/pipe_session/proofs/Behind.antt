-- Heads in a run of piped commands, and behind one.
use Rattle.std.proofs.Common.{◌≡◌, ℕ, Bool, true, false, List, [], ◌++◌, Option, Some, None, refl, sym, ap, ◌∙◌, inl, inr}
use Rattle.std.proofs.lemmas.List.{append-nil}
use Rattle.std.specs.Prelude.{not, ◌&&◌, ◌||◌}
use Rattle.std.specs.Option.{option_map_or}
use Rattle.arc_core.specs.declared.coll_commands.CollHead.{CollHead}
use Rattle.arc_core.specs.declared.pipes.PipeStatus.{PipeStatus}
use Rattle.arc_core.specs.declared.replies.Word.TheVariants as word
use Rattle.arc_core.specs.CollectionLines.{coll_is_quit, coll_request_of}
use Rattle.arc_core.specs.History.{Entry}
use Rattle.arc_core.specs.PlainRequest.{PlainRequest}
use Rattle.pipe_session.specs.Handling.{Stand, IsTold, GoesOnInRun, EndsRun, BreaksRun, HeadStatus, RequestStatus, WordStatus, TellsHead, head_facts}
use Rattle.pipe_session.specs.Owing.{HasRoom, Owing}
use Rattle.pipe_session.specs.Runs.{Kept, TakesOne, answer_of, no_run}
use Rattle.pipe_session.specs.SessionText.{head_is_piped, line_belongs, may_end_a_run}
use Rattle.pipe_session.proofs.Facts.{takes_as}

-- where a text has room no long one is owed
pub not_long : (long high : Bool) (owing : Owing) → (long || high) ≡ owing.is_full → long ≡ owing.has_long → HasRoom owing → long ≡ false
not_long true high owing full is (inl room) =
    let e : true ≡ false = full ∙ room in
    absurd cc
not_long false high owing full is (inl room) = refl
not_long long high owing full is (inr room) = is ∙ room

module _ (head : CollHead) (block : List ℕ) where
  -- the status of its request, and of its bad block
  pub as_head_status : (request : PlainRequest) → Some request ≡ coll_request_of head block → (entries : List Entry) (told : PipeStatus) → RequestStatus request entries told
      → HeadStatus head block entries told
  as_head_status request is entries told s = inl (s.0, sym is ∙ ap Some (sym s.1), s.2, s.3)

  pub bad_head_status : None ≡ coll_request_of head block → (entries : List Entry) (told : PipeStatus) → WordStatus word.BadChunk entries told → HeadStatus head block entries told
  bad_head_status is entries told s = inr (sym is, s.0, s.1)

  -- whether it belongs to the run in front of it
  pub belongs_by : (request : Option PlainRequest) → coll_is_quit head ≡ false → request ≡ coll_request_of head block → line_belongs (Some head) block ≡ option_map_or may_end_a_run request true
  belongs_by request goes is =
      ap (λ b. not b && option_map_or may_end_a_run (coll_request_of head block) true) goes ∙ ap (λ o. option_map_or may_end_a_run o true) (sym is)

  module _ {D : Type 0} (answers : D → Entry → D → Type 0) (from to : Stand D) where
    -- it went on with its run
    pub goes_on_by : (request : PlainRequest) → Some request ≡ coll_request_of head block → GoesOnInRun answers (RequestStatus request) from to → GoesOnInRun answers (HeadStatus head block) from to
    goes_on_by request is on = (on.0, takes_as (RequestStatus request) (HeadStatus head block) (as_head_status request is) from.run to.run on.0 on.1, on.2)

    pub goes_on_badly : None ≡ coll_request_of head block → TakesOne (WordStatus word.BadChunk) from.run to.run [] → to.desk ≡ from.desk → to.coming ≡ from.coming → to.owed ≡ from.owed
        → GoesOnInRun answers (HeadStatus head block) from to
    goes_on_badly is takes desk coming owed =
        ([], takes_as (WordStatus word.BadChunk) (HeadStatus head block) (bad_head_status is) from.run to.run [] takes, record { served = desk; seconds = coming; owed = owed ∙ sym (append-nil from.owed) })

    -- it ended its run
    pub ended_by : (request : PlainRequest) → Some request ≡ coll_request_of head block → coll_is_quit head ≡ false → head_is_piped head ≡ false → from.run.is_open ≡ true → may_end_a_run request ≡ true
        → EndsRun answers (RequestStatus request) from to → IsTold answers (head_facts head block) from to
    ended_by request is goes alone running may ends =
        inr (
          alone,
          inl (
            running,
            inl (
              belongs_by (Some request) goes is ∙ may,
              (ends.0, ends.1, takes_as (RequestStatus request) (HeadStatus head block) (as_head_status request is) from.run ends.1 ends.0 ends.2, ends.3, ends.4),
            ),
          ),
        )

    pub ended_badly : None ≡ coll_request_of head block → coll_is_quit head ≡ false → head_is_piped head ≡ false → from.run.is_open ≡ true → (kept : Kept) → TakesOne (WordStatus word.BadChunk) from.run kept []
        → to.desk ≡ from.desk → to.coming ≡ from.coming → to.owed ≡ from.owed ++ answer_of kept → to.run ≡ no_run → IsTold answers (head_facts head block) from to
    ended_badly is goes alone running kept takes desk coming owed none =
        inr (
          alone,
          inl (
            running,
            inl (
              belongs_by None goes is,
              ([], kept, takes_as (WordStatus word.BadChunk) (HeadStatus head block) (bad_head_status is) from.run kept [] takes, record { served = desk; seconds = coming; owed = owed }, none),
            ),
          ),
        )

    -- it broke the run off
    pub broken_by_head : (request : PlainRequest) → Some request ≡ coll_request_of head block → coll_is_quit head ≡ false → head_is_piped head ≡ false → from.run.is_open ≡ true → may_end_a_run request ≡ false
        → BreaksRun answers (TellsHead head block) from to → IsTold answers (head_facts head block) from to
    broken_by_head request is goes alone running may breaks = inr (alone, inl (running, inr (belongs_by (Some request) goes is ∙ may, breaks)))
