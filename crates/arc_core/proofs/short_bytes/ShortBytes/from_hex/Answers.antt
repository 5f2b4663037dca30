use Rattle.std.proofs.Common.{◌∙◌, sym, ap, arith, refl}
use Rattle.std.proofs.lemmas.Grind.{common_steps}
use Rattle.std.specs.Option.{is_some}
use Rattle.arc_core.proofs.HexLemmas.{decoded_in_place}
use Rattle.arc_core.proofs.short_bytes.ShortBytes.from_hex.Goals as goal

pub invariant_of-result : goal.invariant_of-result
invariant_of-result c =
    decoded_in_place c.args.digits.now c.decode_to_slice.new.out _ c.decode_to_slice.result (grind (arith, common_steps)) (omega arith) c.decode_to_slice.ensures.value
    (sym c.ok.ensures.variant ∙ ap is_some c.in_ok-ok.was) refl c.decode_to_slice.auto.out
