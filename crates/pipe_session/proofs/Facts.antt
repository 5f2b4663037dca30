-- What was told of one thing, told of another: of a head, of its line, and of its unit.
use Rattle.std.proofs.Common.{◌≡◌, ℕ, Bool, true, false, List, [], ◌∷◌, ◌++◌, refl, sym, ap, ◌∙◌, inl, inr, append_assoc}
use Rattle.std.proofs.lemmas.List.{append-nil}
use Rattle.std.specs.Prelude.{if◌then◌else◌}
use Rattle.arc_core.specs.declared.pipes.PipeStatus.{PipeStatus}
use Rattle.arc_core.specs.declared.replies.Reply.{Reply}
use Rattle.arc_core.specs.History.{Entry}
use Rattle.arc_core.specs.PlainRequest.{PlainRequest}
use Rattle.pipe_session.specs.Runs.{Kept, TakesOne, broken_answer_of, no_run}
use Rattle.pipe_session.specs.Handling.{Stand, Executed, ExecutesOne, Facts, IsTold, IsToldBehindRun}

pub takes_as : (Status Status' : List Entry → PipeStatus → Type 0) → ((entries : List Entry) (told : PipeStatus) → Status entries told → Status' entries told)
    → (kept kept' : Kept) (entries : List Entry) → TakesOne Status kept kept' entries → TakesOne Status' kept kept' entries
takes_as Status Status' since kept kept' entries (inl takes) = inl (takes.0, takes.1, since entries takes.1 takes.2, takes.3)
takes_as Status Status' since kept kept' entries (inr over) = inr over

module _ {D : Type 0} (answers : D → Entry → D → Type 0) (facts facts' : Facts) (marked : facts'.marked ≡ facts.marked) (belongs : facts'.belongs ≡ facts.belongs)
    (as_status : (entries : List Entry) (told : PipeStatus) → facts.Status entries told → facts'.Status entries told)
    (as_told : (entries : List Entry) (text : List ℕ) → facts.Told entries text → facts'.Told entries text) (from to : Stand D) where
  behind_run_as : IsToldBehindRun answers facts from to → IsToldBehindRun answers facts' from to
  behind_run_as (inl ends) = inl (belongs ∙ ends.0, (ends.1.0, ends.1.1, takes_as facts.Status facts'.Status as_status from.run ends.1.1 ends.1.0 ends.1.2, ends.1.3, ends.1.4))
  behind_run_as (inr breaks) = inr (belongs ∙ breaks.0, (breaks.1.0, breaks.1.1, as_told breaks.1.0 breaks.1.1 breaks.1.2, breaks.1.3, breaks.1.4))

  -- what was told by some facts was told by others that follow from them
  pub told_as : IsTold answers facts from to → IsTold answers facts' from to
  told_as (inl goes_on) = inl (marked ∙ goes_on.0, (goes_on.1.0, takes_as facts.Status facts'.Status as_status from.run to.run goes_on.1.0 goes_on.1.1, goes_on.1.2))
  told_as (inr (other)) = elim other.1 [
    | inl behind ↦ inr (marked ∙ other.0, inl (behind.0, behind_run_as behind.1))
    | inr alone ↦ inr (marked ∙ other.0, inr (alone.0, (alone.1.0, alone.1.1, as_told alone.1.0 alone.1.1 alone.1.2, alone.1.3), alone.2))
  ]

-- the run that is open was broken off, where one is, and what followed was told by itself
module _ {D : Type 0} (answers : D → Entry → D → Type 0) (facts : Facts) (unmarked : facts.marked ≡ false) (stays : facts.belongs ≡ false) (from to : Stand D) (text : List ℕ) (told : facts.Told [] text)
    (desk : to.desk ≡ from.desk) (coming : to.coming ≡ from.coming)
    (owes : to.owed ≡ (from.owed ++ (if from.run.is_open then broken_answer_of from.run else [])) ++ text) (run : to.run ≡ (if from.run.is_open then no_run else from.run)) where
  broken_by : (is_open : Bool) → from.run.is_open ≡ is_open → IsTold answers facts from to × (to.run.is_open ≡ false)
  broken_by true is =
      let none : to.run ≡ no_run = run ∙ ap (λ b. if b then no_run else from.run) is in (
        inr (
          unmarked,
          inl (
            is,
            inr (
              stays,
              (
                [],
                text,
                told,
                record {
                  served = desk;
                  seconds = coming;
                  owed = owes ∙ ap (λ b. (from.owed ++ (if b then broken_answer_of from.run else [])) ++ text) is ∙ append_assoc from.owed (broken_answer_of from.run) text;
                },
                none,
              ),
            ),
          ),
        ),
        ap (λ (k : Kept). k.is_open) none,
      )
  broken_by false is =
      let same : to.run ≡ from.run = run ∙ ap (λ b. if b then no_run else from.run) is in (
        inr (
          unmarked,
          inr (
            is,
            (
              [],
              text,
              told,
              record {
                served = desk;
                seconds = coming;
                owed = owes ∙ ap (λ b. (from.owed ++ (if b then broken_answer_of from.run else [])) ++ text) is ∙ ap (λ o. o ++ text) (append-nil from.owed);
              },
            ),
            same,
          ),
        ),
        ap (λ (k : Kept). k.is_open) same ∙ is,
      )

  pub broken_off_by : IsTold answers facts from to × (to.run.is_open ≡ false)
  broken_off_by = broken_by from.run.is_open refl

-- one request was executed: its entry, and what it leaves
module _ {D : Type 0} (answers : D → Entry → D → Type 0) (from to : Stand D) (request : PlainRequest) (reply : Reply)
    (one : ExecutesOne answers from.desk from.coming request reply to.desk to.coming) where
  pub executed_one : (text : List ℕ) → to.owed ≡ from.owed ++ text → Executed answers from to (one.0 ∷ []) text
  executed_one text owes = record { served = (to.desk, one.3, refl); seconds = (to.coming, one.4, refl); owed = owes }

-- nothing was executed
pub executed_none : {D : Type 0} (answers : D → Entry → D → Type 0) (from to : Stand D) (text : List ℕ) → to.desk ≡ from.desk → to.coming ≡ from.coming → to.owed ≡ from.owed ++ text
    → Executed answers from to [] text
executed_none answers from to text desk coming owes = record { served = desk; seconds = coming; owed = owes }

-- nothing more is owed
pub owes_no_more : (owed owed' : List ℕ) → owed' ≡ owed → owed' ≡ owed ++ []
owes_no_more owed owed' same = same ∙ sym (append-nil owed)
