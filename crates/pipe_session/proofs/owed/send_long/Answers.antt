use Rattle.arc_core.specs.ReplyText.{reply_text}
use Rattle.pipe_session.proofs.Owing.{upto_written}
use Rattle.pipe_session.proofs.owed.send_long.Goals as goal

pub returns-in-Again-clause-sends : goal.returns-in-Again-clause-sends
returns-in-Again-clause-sends g c =
    let writes = c.in-Again.ensures.writes in
    rw c.in-Some.is (upto_written _ _ (reply_text c.in-Some.reply) c.args.at.now c.in-Again.upto writes.0, writes.1)

pub returns-in-Failed-clause-sends : goal.returns-in-Failed-clause-sends
returns-in-Failed-clause-sends g c =
    let writes = c.in-Failed.ensures.writes in
    rw c.in-Some.is (upto_written _ _ (reply_text c.in-Some.reply) c.args.at.now c.in-Failed.upto writes.0, writes.1)

pub returns-in-NoMemory-clause-sends : goal.returns-in-NoMemory-clause-sends
returns-in-NoMemory-clause-sends g c =
    let writes = c.in-NoMemory.ensures.writes in
    rw c.in-Some.is (upto_written _ _ (reply_text c.in-Some.reply) c.args.at.now c.in-NoMemory.upto writes.0, writes.1)
