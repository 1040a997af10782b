use Rattle.std.proofs.Common.{ℕ, List, ◌∙◌, arith}
use Rattle.std.specs.List.{Contains}
use Rattle.std.proofs.lemmas.Bool.{false≢true}
use Rattle.cat_items.specs.declared.need.Auth.TheVariants.{Named}
use Rattle.cat_items.specs.Reach.{Reaches}
use Rattle.role_graph.proofs.CycleLemmas.{none_more, none_at_all}
use Rattle.role_graph.proofs.cycle.some_reaches.Goals as goal

pub loop-role-preserved : goal.loop-role-preserved
loop-role-preserved c = record {
  room = c.reaches_some.ensures.room ∙ c.loop-role.invariant.room;
  none = none_more (λ role. (name : List ℕ) × Contains c.args.grantees.now.items name × Reaches c.args.c.now.items (Named role) (Named name)) _ _ _ c.role-item.result c.deref-role-items.ensures.value c.loop-role.invariant.none (omega arith) c.role-item.is (λ some. false≢true (c.if-reaches_some.ensures.answer.1 some));
}

pub returns : goal.returns
returns c = (
  λ e. absurd (false≢true e),
  λ h. absurd (none_at_all (λ role. (name : List ℕ) × Contains c.args.grantees.now.items name × Reaches c.args.c.now.items (Named role) (Named name)) _ _ (omega arith) c.loop-role.invariant.none h.0 h.2 (h.1, h.3, h.4)),
)
