use Rattle.std.proofs.Common.{None, refl, arith}
use Rattle.std.proofs.lemmas.Bool.{false≢true}
use Rattle.role_graph.proofs.LoopLemmas.{some_there, not_there, none_from, none_more, none_there}
use Rattle.edit_rules.specs.Names.{IsConstraint}
use Rattle.edit_rules.proofs.names.is_constraint_of.Goals as goal

pub returns-then-is_constraint_named : goal.returns-then-is_constraint_named
returns-then-is_constraint_named c = (
  λ _. some_there _ _ None _ (IsConstraint c.args.name.now) _ _ c.loop-at.at c.index-items-at.result c.items-items.ensures.items c.objects_of-all.ensures (omega arith) c.loop-at-test.true refl c.index-items-at.is (c.if-is_constraint_named.ensures.0 refl),
  λ _. refl,
)

pub loop-at-init : goal.loop-at-init
loop-at-init c = record { none = none_from c.args.c.now.items None (IsConstraint c.args.name.now) _ }

pub loop-at-preserved : goal.loop-at-preserved
loop-at-preserved c = record {
  none = none_more c.args.c.now.items None (IsConstraint c.args.name.now) _ _ c.loop-at.invariant.none (λ d on is. not_there _ _ (IsConstraint c.args.name.now) c.loop-at.at c.index-items-at.result d c.items-items.ensures.items
      (omega (arith, c.loop-at-test.true, c.objects_of-all.ensures.within)) c.index-items-at.is (λ so. false≢true (c.if-is_constraint_named.ensures.1 so)) is);
}

pub returns : goal.returns
returns c = (λ e. absurd (false≢true e), λ h. absurd (none_there _ None _ (IsConstraint c.args.name.now) _ _ _ c.objects_of-all.ensures c.loop-at-test.false c.loop-at.invariant.none h))
