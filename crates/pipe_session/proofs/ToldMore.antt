-- What units tell with one more.
use Rattle.std.proofs.Common.{ℕ, List, [], ◌∷◌, ◌++◌, sym, inl, inr, subst}
use Rattle.std.proofs.lemmas.List.{append-nil}
use Rattle.arc_core.specs.Framing.{Whole}
use Rattle.arc_core.specs.History.{Entry}
use Rattle.pipe_session.specs.Runs.{TellsSoFar, answer_of, broken_answer_of}
use Rattle.pipe_session.specs.Handling.{Stand, Executed, IsTold, unit_facts}
use Rattle.pipe_session.proofs.RunLemmas.{goes_on_in_run, stands_alone, ends_run, breaks_run}

-- A unit has executed these requests more, and this is answered more; the units tell it so far.
pub record ToldMore {D : Type 0} (answers : D → Entry → D → Type 0) (from to : Stand D) (units : List Whole) (unit : Whole) (entries : List Entry) (text : List ℕ) : Type 0 where
  pub own : List Entry
  pub said : List ℕ
  pub executed : Executed answers from to own said
  pub tells : TellsSoFar to.run (units ++ unit ∷ []) (entries ++ own) (text ++ said)

pub told_more : {D : Type 0} (answers : D → Entry → D → Type 0) (from to : Stand D) (units : List Whole) (unit : Whole) (entries : List Entry) (text : List ℕ) → TellsSoFar from.run units entries text
    → IsTold answers (unit_facts unit) from to → ToldMore answers from to units unit entries text
told_more answers from to units unit entries text so (inl on) = record {
  own = on.1.0;
  said = [];
  executed = on.1.2;
  tells = subst (λ t. TellsSoFar to.run (units ++ unit ∷ []) (entries ++ on.1.0) t) (sym (append-nil text)) (goes_on_in_run units unit entries on.1.0 text from.run to.run so on.0 on.1.1);
}
told_more answers from to units unit entries text so (inr other) = elim other.1 [
  | inl behind ↦ elim behind.1 [
    | inl ends ↦ record {
      own = ends.1.0;
      said = answer_of ends.1.1;
      executed = ends.1.3;
      tells = ends_run units unit entries ends.1.0 text from.run ends.1.1 to.run so other.0 behind.0 ends.0 ends.1.2 ends.1.4;
    }
    | inr breaks ↦ record {
      own = breaks.1.0;
      said = broken_answer_of from.run ++ breaks.1.1;
      executed = breaks.1.3;
      tells = breaks_run units unit entries breaks.1.0 text breaks.1.1 from.run to.run so other.0 behind.0 breaks.0 breaks.1.2 breaks.1.4;
    }
  ]
  | inr alone ↦ record {
    own = alone.1.0;
    said = alone.1.1;
    executed = alone.1.3;
    tells = stands_alone units unit entries alone.1.0 text alone.1.1 from.run to.run so other.0 alone.0 alone.1.2 alone.2;
  }
]
