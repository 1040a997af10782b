use Rattle.cat_items.specs.Reach.{Has}
use Rattle.cat_items.specs.Rights.{IsColumn, path_of}
use Rattle.added_parts.specs.Extended.{items_of}
use Rattle.role_graph.proofs.AllLemmas.{AllBelow}
use Rattle.added_parts.proofs.extended.Extended.has_columns.Given as goal

abbrev pub invariant-loop-name : goal.invariant-loop-name
invariant-loop-name l = record { all : AllBelow (λ name. Has (items_of l.self) (IsColumn (path_of l.table) name)) l.columns l.name-index }
