use Rattle.part_topics.proofs.Found.{stands_alike, rights_alike_in, topics_alike_in}
use Rattle.part_topics.proofs.laws.suspects_in_the_part_depend_alike.Goals as goal

pub returns-clause-stands : goal.returns-clause-stands
returns-clause-stands c = stands_alike

pub returns-clause-rights : goal.returns-clause-rights
returns-clause-rights c = rights_alike_in

pub returns-clause-topics : goal.returns-clause-topics
returns-clause-topics c = topics_alike_in
