use Rattle.std.proofs.Common.{◌≡◌}
use Rattle.cat_items.specs.declared.need.Auth.TheVariants.{Named}
use Rattle.cat_items.specs.Rights.{Met}
use Rattle.role_graph.specs.Judges.{counting}
use Rattle.role_graph.proofs.AllLemmas.{AllBelow}
use Rattle.role_graph.proofs.judge.Judge.each_met.Given as goal

abbrev pub invariant-loop-need : goal.invariant-loop-need
invariant-loop-need l = record {
  same : l.self ≡ l.fn.self;
  all : AllBelow (Met l.grantable (counting l.fn.self) (Named l.owner)) l.needs l.need-index;
}
