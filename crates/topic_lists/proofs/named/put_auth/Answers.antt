use Rattle.topic_lists.proofs.named.put_auth.Goals as goal

pub returns-in-Named : goal.returns-in-Named
returns-in-Named c = rw c.in-Named.is c.put_topic.ensures
