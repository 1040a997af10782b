use Rattle.topic_lists.proofs.carried.ByWayCarries.push_from.Goals as goal

pub returns-in-View : goal.returns-in-View
returns-in-View c = rw (c.in-View.is, ← c.get.ensures) c.push_listed.ensures

pub returns-in-Column : goal.returns-in-Column
returns-in-Column c = rw (c.in-Column.is, ← c.get-in-Column.ensures) c.push_usage.ensures

pub returns-in-Routine : goal.returns-in-Routine
returns-in-Routine c = rw (c.in-Routine.is, ← c.get-in-Routine.ensures) c.push_definer.ensures
