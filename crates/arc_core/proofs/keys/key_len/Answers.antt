use Rattle.std.proofs.Common.{not}
use Rattle.arc_core.specs.Key.{is_key_byte}
use Rattle.arc_core.proofs.WordLemmas.{position-or}
use Rattle.arc_core.proofs.keys.key_len.Goals as goal

pub returns : goal.returns
returns c = let e = position-or (λ b. not (is_key_byte b)) c.args.bytes.now in cc
