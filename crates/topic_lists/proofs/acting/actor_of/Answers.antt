use Rattle.topic_lists.proofs.acting.actor_of.Goals as goal

pub returns-in-Table : goal.returns-in-Table
returns-in-Table c = rw (c.in-Table.is, ← c.get.ensures) c.owner_in.ensures

pub returns-in-View : goal.returns-in-View
returns-in-View c = rw (c.in-View.is, ← c.get-in-View.ensures) c.owner_in-in-View.ensures

pub returns-in-Column : goal.returns-in-Column
returns-in-Column c = rw (c.in-Column.is, ← c.get-in-Column.ensures) c.owner_in-in-Column.ensures

pub returns-in-Domain : goal.returns-in-Domain
returns-in-Domain c = rw (c.in-Domain.is, ← c.get-in-Domain.ensures) c.owner_in-in-Domain.ensures

pub returns-in-DomainCheck : goal.returns-in-DomainCheck
returns-in-DomainCheck c = rw (c.in-DomainCheck.is, ← c.get-in-DomainCheck.ensures) c.owner_in-in-DomainCheck.ensures

pub returns-in-Key : goal.returns-in-Key
returns-in-Key c = rw (c.in-Key.is, ← c.get-in-Key.ensures) c.owner_in-in-Key.ensures

pub returns-in-Foreign : goal.returns-in-Foreign
returns-in-Foreign c = rw (c.in-Foreign.is, ← c.get-in-Foreign.ensures) c.owner_in-in-Foreign.ensures

pub returns-in-Check : goal.returns-in-Check
returns-in-Check c = rw (c.in-Check.is, ← c.get-in-Check.ensures) c.owner_in-in-Check.ensures

pub returns-in-Assertion : goal.returns-in-Assertion
returns-in-Assertion c = rw (c.in-Assertion.is, ← c.get-in-Assertion.ensures) c.owner_in-in-Assertion.ensures

pub returns-in-Routine : goal.returns-in-Routine
returns-in-Routine c = rw (c.in-Routine.is, ← c.get-in-Routine.ensures) c.owner_in-in-Routine.ensures
