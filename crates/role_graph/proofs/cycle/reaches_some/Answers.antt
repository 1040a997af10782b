use Rattle.std.proofs.Common.{◌∙◌, arith}
use Rattle.std.proofs.lemmas.Bool.{false≢true}
use Rattle.cat_items.specs.declared.need.Auth.TheVariants.{Named}
use Rattle.cat_items.specs.Reach.{Reaches}
use Rattle.role_graph.proofs.CycleLemmas.{none_more, none_at_all}
use Rattle.role_graph.proofs.cycle.reaches_some.Goals as goal

pub loop-name-preserved : goal.loop-name-preserved
loop-name-preserved c = record {
  room = c.reaches_by.ensures.room ∙ c.loop-name.invariant.room;
  none = none_more (λ name. Reaches c.args.c.now.items (Named c.args.role.now) (Named name)) _ _ _ c.name-item.result c.deref-name-items.ensures.value c.loop-name.invariant.none (omega arith) c.name-item.is (λ walk. false≢true (c.if-reaches_by.ensures.answer.1 walk));
}

pub returns-clause-answer : goal.returns-clause-answer
returns-clause-answer c =
    (λ e. absurd (false≢true e), λ h. absurd (none_at_all (λ name. Reaches c.args.c.now.items (Named c.args.role.now) (Named name)) _ _ (omega arith) c.loop-name.invariant.none h.0 h.1 h.2))
