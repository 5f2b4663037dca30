-- Numbers and names are distinct, so that what is under one of the name's numbers with its name is its place.
use Rattle.std.proofs.Common.{arith}
use Rattle.byte_account.proofs.NumberLemmas.{absent, is_under}
use Rattle.byte_account.proofs.numbers.find.Goals as goal

pub returns-in-Some-clause-found : goal.returns-in-Some-clause-found
returns-in-Some-clause-found g c =
    is_under (λ named. named.name.items) (λ named. named.place) _ c.args.name.now c.in-Some.named.now c.args.table.now.entries c.len-places.ensures.valid.0 c.requires.apart c.in-Some.ensures.here.0 c.in-Some.ensures.here.1

pub returns-clause-absent : goal.returns-clause-absent
returns-clause-absent g c =
    absent (λ named. named.name.items) (λ named. named.place) c.args.name.now c.args.tries c.args.table.now.entries c.len-places.ensures.valid.0 c.requires (λ k below. c.loop-k.invariant k (omega arith))
