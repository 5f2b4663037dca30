use Rattle.std.proofs.Common.{◌≡◌, length, drop, decimal, arith, ap, length-drop, length-append}
use Rattle.std.proofs.lemmas.Fmt.{length-decimal-le}
use Rattle.reply_print.proofs.line_from_end.LineFromEnd.put_number.Goals as goal

pub write_digits-self-inside-requires : goal.write_digits-self-inside-requires
write_digits-self-inside-requires g c =
    let digits = length-decimal-le 20 c.args.number (omega arith) (omega arith) (omega (arith, c.ranges.number)) in
    let held : length (drop c.self.inside.start c.self.inside.places) ≡ length c.args.self.now = ap length c.self.view_is in
    (omega (arith, digits, held, length-drop c.self.inside.start c.self.inside.places, c.requires, c.self.invariant), omega (arith, c.self.invariant))

pub returns-clause-len : goal.returns-clause-len
returns-clause-len g c =
    let digits = length-decimal-le 20 c.args.number (omega arith) (omega arith) (omega (arith, c.ranges.number)) in
    let held : length (drop c.self.inside.start c.self.inside.places) ≡ length c.args.self.now = ap length c.self.view_is in
    let put = ap length c.write_digits-self-inside.ensures.written in
    omega (arith, digits, held, put, length-append (decimal c.args.number) (drop c.self.inside.start c.self.inside.places))
