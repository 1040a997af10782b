use Rattle.value_columns.specs.Replaced.{replaced_negation}
use Rattle.value_columns.proofs.Lists.{pushed}
use Rattle.value_columns.proofs.replacing.+replace.Goals as goal

pub lists::replace_negations-loop-one-preserved : goal.lists::replace_negations-loop-one-preserved
lists::replace_negations-loop-one-preserved t c =
    pushed (replaced_negation c.args.by.now) c.args.all.now c.loop-one.one-index c.one-item.result c.loop-one.out _ _ c.loop-one-test.true c.one-item.is c.loop-one.invariant c.in_ok-replace_negation.ensures c.in_ok-push.ensures.ok
