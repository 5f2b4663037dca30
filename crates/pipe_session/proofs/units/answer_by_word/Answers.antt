use Rattle.std.proofs.Common.{inl}
use Rattle.pipe_session.proofs.units.answer_by_word.Goals as goal

pub put_word-requires : goal.put_word-requires
put_word-requires g c = record { room = inl c.requires.room }
