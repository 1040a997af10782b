use Rattle.topic_lists.proofs.pushing.push_usage.Goals as goal

pub returns-in-Some : goal.returns-in-Some
returns-in-Some c = rw c.in-Some.is c.push_need_on.ensures
