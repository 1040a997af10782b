use Rattle.topic_keys.proofs.names.put_far_names.Goals as goal

pub returns-in-Column : goal.returns-in-Column
returns-in-Column c = rw (c.in-Column.is, ← c.get.ensures) c.put_topic.ensures

pub returns-in-Held : goal.returns-in-Held
returns-in-Held c = rw (c.in-Held.is, ← c.get-in-Held.ensures) c.put_far_right.ensures

pub returns-in-Grantable : goal.returns-in-Grantable
returns-in-Grantable c = rw (c.in-Grantable.is, ← c.get-in-Grantable.ensures) c.put_far_right-in-Grantable.ensures
