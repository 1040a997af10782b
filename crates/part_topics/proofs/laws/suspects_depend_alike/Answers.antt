use Rattle.part_topics.proofs.Found.{topics_of_standing, topics_of_asked}
use Rattle.part_topics.proofs.laws.suspects_depend_alike.Goals as goal

pub returns-clause-standing : goal.returns-clause-standing
returns-clause-standing c = topics_of_standing

pub returns-clause-asked : goal.returns-clause-asked
returns-clause-asked c = topics_of_asked
