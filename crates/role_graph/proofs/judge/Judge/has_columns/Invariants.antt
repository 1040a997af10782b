use Rattle.cat_items.specs.Reach.{Has}
use Rattle.cat_items.specs.Rights.{IsColumn, path_of}
use Rattle.role_graph.specs.Judges.{counting}
use Rattle.role_graph.proofs.AllLemmas.{AllBelow}
use Rattle.role_graph.proofs.judge.Judge.has_columns.Given as goal

abbrev pub invariant-loop-name : goal.invariant-loop-name
invariant-loop-name l = record { all : AllBelow (λ name. Has (counting l.self) (IsColumn (path_of l.table) name)) l.columns l.name-index }
