use Rattle.topic_lists.proofs.sought.put_admins_to.Goals as goal

pub returns-in-Named : goal.returns-in-Named
returns-in-Named c = rw c.in-Named.is c.put_topic.ensures
