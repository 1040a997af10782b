use Rattle.topic_lists.proofs.carried.push_far_right.Goals as goal

pub returns-in-System : goal.returns-in-System
returns-in-System c = rw c.in-System.is c.push_by_object.ensures
