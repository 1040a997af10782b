use Rattle.cat_items.specs.Rights.{Stands}
use Rattle.role_graph.specs.Judges.{counting}
use Rattle.role_graph.proofs.AllLemmas.{AllBelow}
use Rattle.role_graph.proofs.judge.Judge.all_stand.Given as goal

abbrev pub invariant-loop-need : goal.invariant-loop-need
invariant-loop-need l = record { all : AllBelow (Stands (counting l.self)) l.needs l.need-index }
