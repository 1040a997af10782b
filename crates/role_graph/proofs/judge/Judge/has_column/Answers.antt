use Rattle.cat_items.specs.Keys.{object_of}
use Rattle.role_graph.proofs.LoopLemmas.{same_has, join}
use Rattle.role_graph.proofs.MeetingLemmas.{column_there}
use Rattle.role_graph.proofs.judge.Judge.has_column.Goals as goal

pub returns : goal.returns
returns c = join c.any_match.ensures (same_has _ _ _ (column_there (object_of c.args.object) c.args.name.now))
