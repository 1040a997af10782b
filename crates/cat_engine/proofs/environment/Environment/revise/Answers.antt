use Rattle.std.proofs.Common.{sym, subst, refl, inl}
use Rattle.catalogue_changes.specs.Widths.{IsNarrow}
use Rattle.cat_engine.specs.Contents.{Content}
use Rattle.cat_engine.proofs.Answering.{revised}
use Rattle.cat_engine.proofs.Spending.{session_few, session_idle}
use Rattle.cat_engine.proofs.environment.Environment.revise.Goals as goal

pub returns-in-None-clause-tested : goal.returns-in-None-clause-tested
returns-in-None-clause-tested g c = rw (← c.self.view_is) (inl (sym c.in-None.ensures, refl), refl)

pub returns-in-Some-clause-tested : goal.returns-in-Some-clause-tested
returns-in-Some-clause-tested g c = rw (← c.self.view_is) (revised c.args.limits.now c.args.number _ _ c.in-Some.who.now c.args.statement.now c.revise.result (sym c.in-Some.ensures) refl c.revise.ensures.tested)

pub revise-requires-clause-narrow : goal.revise-requires-clause-narrow
revise-requires-clause-narrow g c = subst (λ (s : Content). IsNarrow s.catalogue c.args.limits.now.columns) (sym c.self.view_is) c.requires.narrow

pub returns-in-Some-clause-idle : goal.returns-in-Some-clause-idle
returns-in-Some-clause-idle g c = rw (← c.self.view_is) (session_idle c.args.number _ c.in-Some.who.now c.args.statement.now c.args.steps.now c.revise.new.steps (sym c.in-Some.ensures) c.revise.ensures.idle)

pub returns-in-Some-clause-few : goal.returns-in-Some-clause-few
returns-in-Some-clause-few g c = rw (← c.self.view_is) (session_few c.args.number _ c.in-Some.who.now c.args.statement.now c.args.steps.now c.revise.new.steps (sym c.in-Some.ensures) c.revise.ensures.few)
