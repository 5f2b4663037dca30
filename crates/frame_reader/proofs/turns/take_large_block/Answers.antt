use Rattle.frame_reader.proofs.turns.take_large_block.Goals as goal

pub returns-in-Whole-clause-stands : goal.returns-in-Whole-clause-stands
returns-in-Whole-clause-stands c = λ needs bytes body block stands. rw c.in-Whole.is at c.take_chunk-taken.ensures.stands needs bytes body stands

pub returns-in-Bad-clause-stands : goal.returns-in-Bad-clause-stands
returns-in-Bad-clause-stands c = λ needs bytes body block stands. rw c.in-Bad.is at c.take_chunk-taken.ensures.stands needs bytes body stands
