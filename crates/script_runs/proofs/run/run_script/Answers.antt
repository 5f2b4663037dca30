use Rattle.script_runs.proofs.Endings.{whole_ends}
use Rattle.script_runs.proofs.run.run_script.Goals as goal

pub returns-in-Whole-clause-run : goal.returns-in-Whole-clause-run
returns-in-Whole-clause-run g c =
    whole_ends (g.E.Executor.state c.args.executor) c.args.workers _ _ _ _ (g.C.Clock.coming c.args.clock.now) c.in-Whole.text.items c.run_text.result c.in-Whole.ensures c.run_text.ensures
