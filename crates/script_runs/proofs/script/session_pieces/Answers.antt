use Rattle.std.proofs.Common.{◌∙◌, ◌++◌, ◌∷◌, [], Some, ap, refl, sym, arith}
use Rattle.script_runs.proofs.Scripts.{with_none, read_piece, bad_piece, all_pieces, bytes_last, grown, fresh_is}
use Rattle.script_runs.proofs.script.session_pieces.Goals as goal

pub loop-left-init : goal.loop-left-init
loop-left-init c = ([], c.new-bytes.ensures.items, with_none _)

pub returns-in_default : goal.returns-in_default
returns-in_default c = let so_far = c.loop-left.invariant in (c.loop-left.rest.now, bad_piece _ _ so_far.0 _ (omega arith) c.in_default.ensures so_far.2, refl)

pub loop-left-preserved : goal.loop-left-preserved
loop-left-preserved c =
    let so_far = c.loop-left.invariant in
    let piece = c.in-Some.piece.now in (
      so_far.0 ++ piece ∷ [],
      grown _ _ _ piece (sym c.is_err.ensures.value ∙ c.if-is_err.false) c.extend_from_slice.ensures.items ∙ (ap (λ bytes. bytes ++ piece) so_far.1 ∙ sym (bytes_last so_far.0 piece)),
      read_piece _ _ piece c.in-Some.behind.now so_far.0 _ (omega arith) c.in-Some.ensures so_far.2,
    )

pub returns : goal.returns
returns c =
    let so_far = c.loop-left.invariant in
    (so_far.0, all_pieces _ _ so_far.0 _ (omega arith) so_far.2, fresh_is _ _ _ _ (c.new.ensures.left ∙ ap Some so_far.1) c.new.ensures.sent c.new.ensures.no_refusal)
