use Rattle.board_marks.proofs.Spreads.{by_topic, by_under}
use Rattle.board_marks.proofs.laws.marks_spread_over_topics.Goals as goal

pub returns-clause-topic : goal.returns-clause-topic
returns-clause-topic c = by_topic

pub returns-clause-under : goal.returns-clause-under
returns-clause-under c = by_under
