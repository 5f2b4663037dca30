use Rattle.std.proofs.Common.{◌∙◌, sym, ap, drop, Some}
use Rattle.arc_core.specs.declared.bkeys.Bkey.TheVariants.{Bytes}
use Rattle.bkey_order.proofs.TextLemmas.{bytes_read_back}
use Rattle.bkey_order.proofs.print.print_bkey.Goals as goal

pub returns-in-Bytes-clause-read_back : goal.returns-in-Bytes-clause-read_back
returns-in-Bytes-clause-read_back c =
    bytes_read_back c.bytes.result.now c.print_bytes.new.out (drop c.print_bytes.result c.args.out.now) c.print_bytes.result
    c.print_bytes.ensures.text c.print_bytes.ensures.len c.print_bytes.ensures.read_back ∙ ap (λ bytes. Some (Bytes bytes)) c.bytes.ensures.bytes ∙ ap Some (sym c.in-Bytes.is)
