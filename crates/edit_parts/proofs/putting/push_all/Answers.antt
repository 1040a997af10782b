use Rattle.std.proofs.Common.{◌∙◌, ◌++◌, ap, arith, subst, sym}
use Rattle.std.specs.List.{Contains}
use Rattle.std.proofs.lemmas.List.{take_all}
use Rattle.topic_keys.specs.Lists.{Gets}
use Rattle.topic_keys.proofs.Adding.{gets_all}
use Rattle.edit_parts.proofs.putting.push_all.Goals as goal

pub returns : goal.returns
returns c =
    let old = c.args.items.now.items in
    let added = c.args.added.now in
    let all = c.loop-x.invariant ∙ ap (λ l. old ++ l) (take_all c.loop-x.x-index added (omega (arith, c.loop-x-test.false))) in
    subst (Gets (Contains added) old) (sym all) (gets_all added old)
