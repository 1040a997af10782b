use Rattle.look_up_bound.proofs.TableTopics.{table_asks_few}
use Rattle.look_up_bound.proofs.laws.topics_that_a_table_asks_for_are_few.Goals as goal

pub returns : goal.returns
returns c = table_asks_few
