use Rattle.topic_lists.proofs.own.push_own.Goals as goal

pub returns-in-View : goal.returns-in-View
returns-in-View c = rw (c.in-View.is, ← c.get.ensures) c.push_listed.ensures

pub returns-in-Column : goal.returns-in-Column
returns-in-Column c = rw (c.in-Column.is, ← c.get-in-Column.ensures) c.push_usage.ensures

pub returns-in-DomainCheck : goal.returns-in-DomainCheck
returns-in-DomainCheck c = rw (c.in-DomainCheck.is, ← c.get-in-DomainCheck.ensures) c.push_listed-in-DomainCheck.ensures

pub returns-in-Foreign : goal.returns-in-Foreign
returns-in-Foreign c = rw (c.in-Foreign.is, ← c.get-foreign.ensures) c.push_references.ensures

pub returns-in-Check : goal.returns-in-Check
returns-in-Check c = rw (c.in-Check.is, ← c.get-in-Check.ensures) c.push_listed-in-Check.ensures

pub returns-in-Assertion : goal.returns-in-Assertion
returns-in-Assertion c = rw (c.in-Assertion.is, ← c.get-in-Assertion.ensures) c.push_listed-in-Assertion.ensures

pub returns-in-Routine : goal.returns-in-Routine
returns-in-Routine c = rw (c.in-Routine.is, ← c.get-in-Routine.ensures) c.push_listed-in-Routine.ensures

pub returns-in-Held : goal.returns-in-Held
returns-in-Held c = rw (c.in-Held.is, ← c.get-in-Held.ensures) c.push_own_right.ensures

pub returns-in-Grantable : goal.returns-in-Grantable
returns-in-Grantable c = rw (c.in-Grantable.is, ← c.get-in-Grantable.ensures) c.push_own_right-in-Grantable.ensures
