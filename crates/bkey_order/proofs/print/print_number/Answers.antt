use Rattle.bkey_order.proofs.TextLemmas.{bkey_word-decimal}
use Rattle.bkey_order.proofs.print.print_number.Goals as goal

pub returns-clause-read_back : goal.returns-clause-read_back
returns-clause-read_back c = bkey_word-decimal c.args.number c.ranges.number.fits
