-- How a run ends, by what was read and what was served.
use Rattle.std.proofs.Common.{◌≡◌, ◌∙◌, inl, inr, ℕ, List, [], ◌++◌, length, Option, IfSome, Result, Ok, Err, refl, sym, ap, subst, arith}
use Rattle.std.proofs.lemmas.List.{append-nil, length-append}
use Rattle.arc_core.specs.CacheState.{CacheState}
use Rattle.arc_core.specs.Outside.{Incoming, Outgoing}
use Rattle.pipe_session.specs.Outside.{Outside, outside}
use Rattle.script_runs.specs.declared.run.RunEnd.{RunEnd}
use Rattle.script_runs.specs.declared.run.RunEnd.TheVariants as run_end
use Rattle.script_runs.specs.Reading.{GatheredAll, GatheredTillFault, GatheredTooMany, GatheredSome}
use Rattle.script_runs.specs.Runs.{IsRun, IsComplete}
use Rattle.script_runs.specs.Script.{script_of}
use Rattle.script_runs.specs.Serving.{EndsText}
use Rattle.script_runs.proofs.Outcomes.{left_told}

module _ (opening : CacheState) (workers : ℕ) (before after : Incoming) (out out' : Outgoing) (coming : Option (List ℕ)) where
  -- all was read
  pub whole_ends : (text : List ℕ) (ended : RunEnd) → GatheredAll before after text → EndsText opening workers coming text out out' ended
      → IsRun opening workers (outside before out coming) (outside after out' coming) ended
  whole_ends text run_end.Done all (outcomes, served, sent) = record {
    taken = text;
    took = all.took;
    ends = record {
      read = record { ended = all.ended; no_fault = all.no_fault; few = all.few };
      sessions = served.sessions;
      script = served.script;
      outcomes = outcomes;
      closing = served.closing;
      run = served.run;
      sent = sent;
    };
    same_clock = refl;
  }
  whole_ends text run_end.WriteFault all (outcomes, served, failed) = record {
    taken = text;
    took = all.took;
    ends = record {
      fault = failed.fault;
      same_refusals = failed.same_refusals;
      front = record {
        read = record { ended = all.ended; no_fault = all.no_fault; few = all.few };
        sessions = served.sessions;
        script = served.script;
        outcomes = outcomes;
        closing = served.closing;
        run = served.run;
        sent = failed.sent;
      };
    };
    same_clock = refl;
  }
  whole_ends text (run_end.BadScript offset) all (bad, kept) = record {
    taken = text;
    took = all.took;
    ends = record { read = record { ended = all.ended; no_fault = all.no_fault; few = all.few }; bad = bad; sent = kept };
    same_clock = refl;
  }
  whole_ends text run_end.NoMemory all (inl kept) = record {
    taken = text;
    took = all.took;
    ends = record { few = all.few; no_fault = all.no_fault; same_faults = ap (λ o. o.faults) kept; sent = inl kept };
    same_clock = refl;
  }
  whole_ends text run_end.NoMemory all (inr (outcomes, served, refused)) = record {
    taken = text;
    took = all.took;
    ends = record {
      few = all.few;
      no_fault = all.no_fault;
      same_faults = refused.same_faults;
      sent = inr record {
        read = record { ended = all.ended; no_fault = all.no_fault; few = all.few };
        sessions = served.sessions;
        script = served.script;
        outcomes = outcomes;
        closing = served.closing;
        run = served.run;
        sent = refused.sent;
      };
    };
    same_clock = refl;
  }
  whole_ends text run_end.ReadFault all ends = absurd ends
  whole_ends text run_end.LongInput all ends = absurd ends

module _ (opening : CacheState) (workers : ℕ) (before after : Incoming) (out : Outgoing) (coming : Option (List ℕ)) where
  pub fault_ends : GatheredTillFault before after → IsRun opening workers (outside before out coming) (outside after out coming) run_end.ReadFault
  fault_ends some = record { taken = some.taken; took = some.took; ends = record { fault = some.fault; few = some.few; sent = refl }; same_clock = refl }

  pub long_ends : GatheredTooMany before after → IsRun opening workers (outside before out coming) (outside after out coming) run_end.LongInput
  long_ends some = record { taken = some.taken; took = some.took; ends = record { long = some.long; no_fault = some.no_fault; sent = refl }; same_clock = refl }

  pub short_ends : GatheredSome before after → IsRun opening workers (outside before out coming) (outside after out coming) run_end.NoMemory
  short_ends some =
      record { taken = some.taken; took = some.took; ends = record { few = some.few; no_fault = some.no_fault; same_faults = refl; sent = inl refl }; same_clock = refl }

-- The text was read as a script.
abbrev IsGood : {A E : Type 0} → Result A E → Type 0
IsGood (Ok x) = Unit {0}
IsGood (Err e) = ⊥

not_both : {A E : Type 0} (r : Result A E) (x : A) (e : E) → r ≡ Ok x → r ≡ Err e → ⊥
not_both r x e good bad = subst IsGood (sym good ∙ bad) tt

-- a run is complete
pub completes : (opening : CacheState) (workers : ℕ) (before after : Outside) (ended : RunEnd) → IsRun opening workers before after ended → IsComplete before after ended
completes opening workers before after run_end.Done run script sessions left is few none none' = inl refl
completes opening workers before after run_end.NoMemory run script sessions left is few none none' = inr refl
completes opening workers before after run_end.ReadFault run script sessions left is few none none' = absurd (none run.ends.fault)
completes opening workers before after run_end.WriteFault run script sessions left is few none none' = absurd (none' run.ends.fault)
completes opening workers before after run_end.LongInput run script sessions left is few none none' =
    let rest = left_told script run.taken after.incoming.left (sym left ∙ run.took) in
    absurd (omega (arith, run.ends.long, few, ap length rest.2, length-append run.taken rest.0))
completes opening workers before after (run_end.BadScript offset) run script sessions left is few none none' =
    let rest = left_told script run.taken after.incoming.left (sym left ∙ run.took) in
    let nothing : rest.0 ≡ [] = subst (λ o. IfSome o (λ bytes. bytes ≡ [])) rest.1 run.ends.read.ended in
    let all : script ≡ run.taken = rest.2 ∙ (ap (λ r. run.taken ++ r) nothing ∙ append-nil run.taken) in
    absurd (not_both (script_of script) sessions offset is (ap script_of all ∙ run.ends.bad))
