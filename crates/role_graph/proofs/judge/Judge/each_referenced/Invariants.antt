use Rattle.std.proofs.Common.{◌≡◌, false}
use Rattle.cat_items.specs.declared.need.Auth.TheVariants.{Named}
use Rattle.cat_items.specs.Rights.{Met, reference}
use Rattle.role_graph.specs.Judges.{counting}
use Rattle.role_graph.proofs.AllLemmas.{AllBelow}
use Rattle.role_graph.proofs.judge.Judge.each_referenced.Given as goal

abbrev pub invariant-loop-name : goal.invariant-loop-name
invariant-loop-name l = record {
  same : l.self ≡ l.fn.self;
  all : AllBelow (λ name. Met false (counting l.fn.self) (Named l.owner) (reference l.table name)) l.columns l.name-index;
}
