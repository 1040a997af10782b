use Rattle.topic_lists.proofs.own.push_own_right.Goals as goal

pub returns-in-System : goal.returns-in-System
returns-in-System c = rw c.in-System.is c.push_updates.ensures

pub returns-in-Public : goal.returns-in-Public
returns-in-Public c = rw c.in-Public.is c.push_need.ensures

pub returns-in-Named : goal.returns-in-Named
returns-in-Named c = rw c.in-Named.is c.push_need-in-Named.ensures
