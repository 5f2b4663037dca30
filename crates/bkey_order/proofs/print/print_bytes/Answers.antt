use Rattle.bkey_order.proofs.TextLemmas.{short_bytes-encoded}
use Rattle.bkey_order.proofs.print.print_bytes.Goals as goal

pub returns-clause-read_back : goal.returns-clause-read_back
returns-clause-read_back c = short_bytes-encoded c.args.bytes.now c.requires (λ k. (c.type_inv.bytes k).fits)
