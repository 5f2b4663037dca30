use Rattle.std.proofs.Common.{refl, inr}
use Rattle.script_runs.specs.declared.run.RunEnd.TheVariants as run_end
use Rattle.arcus_tool.proofs.Running.{never_read, run_from}
use Rattle.arcus_tool.proofs.scripts.many.Goals as goal

pub returns-in-Ok : goal.returns-in-Ok
returns-in-Ok g c = record {
  end = c.run_script.result;
  is_its_status = c.run_status.ensures;
  run = run_from _ _ _ _ _ _ c.in-Ok.ensures c.run_script.ensures.run;
  complete = c.run_script.ensures.complete;
}

pub returns-in-Err : goal.returns-in-Err
returns-in-Err g c = record {
  end = run_end.NoMemory;
  is_its_status = refl;
  run = never_read _ _ _;
  complete = λ script sessions left is few reads writes. inr refl;
}
