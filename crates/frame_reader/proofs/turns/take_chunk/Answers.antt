use Rattle.std.proofs.Common.{◌≡◌, ◌+◌, length, take, ap, sym, ◌∙◌, arith, length-append}
use Rattle.std.proofs.lemmas.List.{length-take}
use Rattle.frame_reader.proofs.Steps.{block_ends, block_is_bad, front_then}
use Rattle.frame_reader.proofs.turns.take_chunk.Goals as goal

pub returns-then-not-ends_in_cr_lf-clause-stands : goal.returns-then-not-ends_in_cr_lf-clause-stands
returns-then-not-ends_in_cr_lf-clause-stands c = λ needs bytes body stands.
    let part = c.args.kept.now.items in
    let more = take c.min-taken.result c.args.piece.now in
    let long : length part + length more ≡ c.args.len + 2 = omega (arith, length-take c.min-taken.result c.args.piece.now, c.args.kept.now.ok.0, c.append.new.kept.ok.0, ap length c.append.ensures.items, length-append part more) in
    block_is_bad needs body part bytes more c.args.len long (λ e. c.if-not-ends_in_cr_lf.ensures (rw (c.deref.ensures.value, c.append.ensures.items) e)) stands

pub returns-clause-stands : goal.returns-clause-stands
returns-clause-stands c = λ needs bytes body stands.
    let part = c.args.kept.now.items in
    let more = take c.min-taken.result c.args.piece.now in
    let long : length part + length more ≡ c.args.len + 2 = omega (arith, length-take c.min-taken.result c.args.piece.now, c.args.kept.now.ok.0, c.append.new.kept.ok.0, ap length c.append.ensures.items, length-append part more) in
    let split = front_then c.append.new.kept.items c.truncate.new.self.items _ c.args.len c.truncate.ensures.items (rw c.deref.ensures.value at c.if-not-ends_in_cr_lf.ensures) in
    block_ends needs body part bytes more c.truncate.new.self.items c.args.len long (sym c.append.ensures.items ∙ split) stands
