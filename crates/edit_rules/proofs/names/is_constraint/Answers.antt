use Rattle.std.proofs.Common.{below_more, refl, arith}
use Rattle.std.proofs.lemmas.Bool.{false≢true, both_ways}
use Rattle.edit_rules.proofs.NameLemmas.{no_constraint}
use Rattle.edit_rules.proofs.names.is_constraint.Goals as goal

pub loop-kind-init : goal.loop-kind-init
loop-kind-init c = record { kinds = refl; none = λ k below has. absurd (omega (arith, below)) }

pub loop-kind-preserved : goal.loop-kind-preserved
loop-kind-preserved c = record {
  kinds = c.loop-kind.invariant.kinds;
  none = below_more _ _ c.loop-kind.invariant.none (λ has. both_ways _ c.if-is_constraint_of.false (c.is_constraint_of.ensures.1 has));
}

pub returns-then-is_constraint_of : goal.returns-then-is_constraint_of
returns-then-is_constraint_of c = (λ _. let has = c.is_constraint_of.ensures.0 c.if-is_constraint_of.true in (has.0, has.1, has.2.1), λ _. refl)

pub returns : goal.returns
returns c = (
  λ e. absurd (false≢true e),
  λ h. absurd (no_constraint c.args.c.now.items c.args.name.now (λ k below. c.loop-kind.invariant.none k (omega (arith, below, c.loop-kind-test.false))) h),
)
