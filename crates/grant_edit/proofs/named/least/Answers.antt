use Rattle.std.proofs.Common.{Some, subst, sym}
use Rattle.std.specs.Option.{option_copied}
use Rattle.std.proofs.lemmas.Bool.{both_ways}
use Rattle.edit_rules.proofs.Lists.{take_next, take_whole}
use Rattle.grant_edit.specs.Named.{IsLeastOf}
use Rattle.grant_edit.proofs.LeastLemmas.{stays, takes}
use Rattle.grant_edit.proofs.named.least.Goals as goal
use Rattle.grant_edit.proofs.named.least.Goals.{then-not-is_behind, else-not-is_behind}

pub loop-need-preserved : goal.loop-need-preserved
loop-need-preserved c =
    let next = take_next c.args.needs.now.items c.deref-need-items.result.now c.loop-need.need-index c.deref-need-items.ensures.value c.need-item.result c.loop-need-test.true c.need-item.is in
    elim c.if-not-is_behind.branch [
      | then-not-is_behind w ↦ rw w.least-is
          (subst (λ l. IsLeastOf l (Some c.need-item.result)) (sym next) (takes _ (option_copied c.loop-need.least) c.need-item.result c.loop-need.invariant (λ behind. both_ways _ w.if-not-is_behind.true (c.is_behind.ensures.1 behind))))
      | else-not-is_behind w ↦ rw w.least-is
          (subst (λ l. IsLeastOf l (option_copied c.loop-need.least)) (sym next) (stays _ (option_copied c.loop-need.least) c.need-item.result c.loop-need.invariant (c.is_behind.ensures.0 w.if-not-is_behind.false)))
    ]

pub returns : goal.returns
returns c = subst (λ l. IsLeastOf l (option_copied c.loop-need.least)) (take_whole c.args.needs.now.items c.deref-need-items.result.now c.loop-need.need-index c.deref-need-items.ensures.value c.loop-need-test.false) c.loop-need.invariant
