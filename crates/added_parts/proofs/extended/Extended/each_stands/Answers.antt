use Rattle.std.proofs.Common.{sym, subst, refl}
use Rattle.std.proofs.lemmas.Bool.{false≢true}
use Rattle.cat_items.specs.Rights.{Stands}
use Rattle.added_parts.specs.Extended.{items_of}
use Rattle.role_graph.proofs.AllLemmas.{all_more, all_done, of_all}
use Rattle.added_parts.proofs.extended.Extended.each_stands.Goals as goal

pub returns-then-not-stands : goal.returns-then-not-stands
returns-then-not-stands c =
    let P = Stands (items_of c.args.self.now) in
    (λ e. absurd (false≢true e), λ all. c.if-not-stands.ensures.1 (subst P (sym c.into.ensures) (of_all P _ _ _ _ c.as_slice-need-items.ensures c.loop-need-test.true c.need-item.is all)))

pub loop-need-preserved : goal.loop-need-preserved
loop-need-preserved c =
    let P = Stands (items_of c.args.self.now) in
    record { all = all_more P _ _ _ _ c.as_slice-need-items.ensures c.loop-need.invariant.all c.loop-need-test.true c.need-item.is (subst P c.into.ensures (c.if-not-stands.ensures.0 refl)) }

pub returns : goal.returns
returns c =
    let P = Stands (items_of c.args.self.now) in
    (λ _. all_done P _ _ _ c.as_slice-need-items.ensures c.loop-need.invariant.all c.loop-need-test.false, λ _. refl)
