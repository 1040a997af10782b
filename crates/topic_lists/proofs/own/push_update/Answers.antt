use Rattle.topic_lists.proofs.own.push_update.Goals as goal

pub returns-in-Insert : goal.returns-in-Insert
returns-in-Insert c = rw (c.in-None.is, c.in-Insert.is) c.push_base.ensures

pub returns-in-Update : goal.returns-in-Update
returns-in-Update c = rw (c.in-None.is, c.in-Update.is) c.push_base-in-Update.ensures

pub returns-in-Delete : goal.returns-in-Delete
returns-in-Delete c = rw (c.in-None.is, c.in-Delete.is) c.push_base-in-Delete.ensures

pub returns-in-Insert-action : goal.returns-in-Insert-action
returns-in-Insert-action c = rw (c.in-Some.is, c.in-Insert-action.is) c.push_behind.ensures

pub returns-in-Update-action : goal.returns-in-Update-action
returns-in-Update-action c = rw (c.in-Some.is, c.in-Update-action.is) c.push_behind-in-Update-action.ensures
