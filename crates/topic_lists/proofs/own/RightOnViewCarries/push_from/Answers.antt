use Rattle.topic_lists.proofs.own.RightOnViewCarries.push_from.Goals as goal

pub returns-in-View : goal.returns-in-View
returns-in-View c = rw (c.in-View.is, ← c.get.ensures) c.push_update.ensures
