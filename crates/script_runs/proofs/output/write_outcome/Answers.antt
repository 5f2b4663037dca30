use Rattle.std.proofs.Common.{◌∙◌, ◌∷◌, []}
use Rattle.script_runs.proofs.Sending.{no_line, no_bytes, last_piece}
use Rattle.script_runs.proofs.output.write_outcome.Goals as goal

pub returns-in-Err : goal.returns-in-Err
returns-in-Err g c = no_line (Unit {0}) _ _ _ c.args.sent.now (10 ∷ []) (c.as_bytes.ensures.value ∙ c.in-Ok.ensures) _ c.in-Err.fault c.in-Err.ensures

pub returns-in-Err-write_all : goal.returns-in-Err-write_all
returns-in-Err-write_all g c =
    no_bytes (Unit {0}) _ _ _ c.args.sent.now (10 ∷ []) (c.as_bytes.ensures.value ∙ c.in-Ok.ensures) _ _ c.in-Err-write_all.fault c.in_default-write_all.ensures c.in-Err-write_all.ensures

pub returns : goal.returns
returns g c =
    last_piece (Unit {0}) _ _ _ c.args.sent.now (10 ∷ []) (c.as_bytes.ensures.value ∙ c.in-Ok.ensures) _ _ _ _ c.write_all-3.result c.in_default-write_all.ensures c.in_default-write_all-2.ensures
    c.as_slice.ensures c.write_all-3.ensures
