use Rattle.std.proofs.Common.{◌++◌, ◌∙◌, take, arith}
use Rattle.std.proofs.Math.ListN.{length-append, length-take}
use Rattle.script_runs.proofs.Gathering.{took_more}
use Rattle.script_runs.proofs.input.gather.Goals as goal

pub returns-then-count-len : goal.returns-then-count-len
returns-then-count-len g c =
    let came = c.in-Got.ensures in
    let more = take c.in-Got.count c.pull.new.buf in
    record {
      taken = c.loop-count.bytes.items ++ more;
      took = took_more _ more _ _ _ c.loop-count.invariant.took came.bytes;
      no_fault = came.same_faults ∙ c.loop-count.invariant.faults;
      long = simp (length-append, length-take) (omega (arith, came.within, came.some));
    }

pub returns-then-is_err : goal.returns-then-is_err
returns-then-is_err g c =
    let came = c.in-Got.ensures in
    let more = take c.in-Got.count c.pull.new.buf in
    record {
      taken = c.loop-count.bytes.items ++ more;
      took = took_more _ more _ _ _ c.loop-count.invariant.took came.bytes;
      no_fault = came.same_faults ∙ c.loop-count.invariant.faults;
      few = simp (length-append, length-take) (omega (arith, came.within, came.some));
    }
