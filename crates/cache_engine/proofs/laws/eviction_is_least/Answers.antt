use Rattle.cache_engine.proofs.Evictions.{evicts_least, none_makes_room, evicts_nothing, answers, start_stays}
use Rattle.cache_engine.proofs.laws.eviction_is_least.Goals as goal

pub returns-clause-put : goal.returns-clause-put
returns-clause-put c = λ state new key item counter reply answer. evicts_least state key item counter reply new answer

pub returns-clause-refused : goal.returns-clause-refused
returns-clause-refused c = none_makes_room

pub returns-clause-no_more : goal.returns-clause-no_more
returns-clause-no_more c = evicts_nothing

pub returns-clause-answered : goal.returns-clause-answered
returns-clause-answered c = answers

pub returns-clause-out_of_memory : goal.returns-clause-out_of_memory
returns-clause-out_of_memory c = start_stays
