use Rattle.topic_keys.proofs.names.put_optional_domain.Goals as goal

pub returns-in-Some : goal.returns-in-Some
returns-in-Some c = rw c.in-Some.is c.put_domain.ensures
