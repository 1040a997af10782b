use Rattle.std.proofs.Common.{None, refl, arith}
use Rattle.std.proofs.lemmas.Bool.{false≢true}
use Rattle.role_graph.proofs.LoopLemmas.{some_there, not_there, none_from, none_more, none_there, has_there}
use Rattle.drop_edit.specs.DroppedObjects.{IsBeside, IsNamedBy}
use Rattle.drop_edit.proofs.ObjectLemmas.{named_beside}
use Rattle.drop_edit.proofs.objects.stands.Goals as goal

pub returns-then-is_named : goal.returns-then-is_named
returns-then-is_named c =
    let P = IsNamedBy c.args.kind c.args.object.now in
    let lies = has_there c.args.c.now.items (IsBeside c.args.kind c.args.object.now) P (named_beside c.args.kind c.args.object.now) in
    (λ _. lies.0 (some_there _ _ None _ P _ _ c.loop-at.at c.index-items-at.result c.items-items.ensures.items c.places_beside-all.ensures (omega arith) c.loop-at-test.true refl c.index-items-at.is (c.if-is_named.ensures.0 refl)), λ _. refl)

pub loop-at-init : goal.loop-at-init
loop-at-init c = record { none = none_from c.args.c.now.items None (IsNamedBy c.args.kind c.args.object.now) _ }

pub loop-at-preserved : goal.loop-at-preserved
loop-at-preserved c =
    let P = IsNamedBy c.args.kind c.args.object.now in
    record {
      none = none_more c.args.c.now.items None P _ _ c.loop-at.invariant.none (λ d on is. not_there _ _ P c.loop-at.at c.index-items-at.result d c.items-items.ensures.items (omega (arith, c.loop-at-test.true, c.places_beside-all.ensures.within)) c.index-items-at.is (λ so. false≢true (c.if-is_named.ensures.1 so)) is);
    }

pub returns : goal.returns
returns c =
    let P = IsNamedBy c.args.kind c.args.object.now in
    let lies = has_there c.args.c.now.items (IsBeside c.args.kind c.args.object.now) P (named_beside c.args.kind c.args.object.now) in
    (λ e. absurd (false≢true e), λ h. absurd (none_there _ None _ P _ _ _ c.places_beside-all.ensures c.loop-at-test.false c.loop-at.invariant.none (lies.1 h)))
