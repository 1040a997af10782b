use Rattle.cat_items.specs.Rights.{Stands}
use Rattle.added_parts.specs.Extended.{items_of}
use Rattle.role_graph.proofs.AllLemmas.{AllBelow}
use Rattle.added_parts.proofs.extended.Extended.each_stands.Given as goal

abbrev pub invariant-loop-need : goal.invariant-loop-need
invariant-loop-need l = record { all : AllBelow (Stands (items_of l.self)) l.needs l.need-index }
