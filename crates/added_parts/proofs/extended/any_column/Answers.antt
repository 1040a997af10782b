use Rattle.std.proofs.Common.{None, refl, arith}
use Rattle.std.proofs.lemmas.Bool.{false≢true}
use Rattle.cat_items.specs.Keys.{object_of}
use Rattle.role_graph.specs.Loops.{IsColumnNamed}
use Rattle.role_graph.proofs.LoopLemmas.{some_there, not_there, none_from, none_more, none_there, same_has}
use Rattle.role_graph.proofs.MeetingLemmas.{column_there}
use Rattle.added_parts.proofs.extended.any_column.Goals as goal

pub returns-then-is_named : goal.returns-then-is_named
returns-then-is_named c =
    let P = IsColumnNamed c.args.name.now in
    let same = same_has c.args.c.now.items _ _ (column_there (object_of c.args.table) c.args.name.now) in
    (λ _. same.0 (some_there _ _ None _ P _ _ c.loop-at.at c.index-items-at.result c.items-items.ensures.items c.places-all.ensures (omega arith) c.loop-at-test.true refl c.index-items-at.is (c.if-is_named.ensures.0 refl)), λ _. refl)

pub loop-at-init : goal.loop-at-init
loop-at-init c = record { none = none_from c.args.c.now.items None (IsColumnNamed c.args.name.now) _ }

pub loop-at-preserved : goal.loop-at-preserved
loop-at-preserved c =
    let P = IsColumnNamed c.args.name.now in
    record {
      none = none_more c.args.c.now.items None P _ _ c.loop-at.invariant.none (λ d on is. not_there _ _ P c.loop-at.at c.index-items-at.result d c.items-items.ensures.items (omega (arith, c.loop-at-test.true, c.places-all.ensures.within)) c.index-items-at.is (λ so. false≢true (c.if-is_named.ensures.1 so)) is);
    }

pub returns : goal.returns
returns c =
    let P = IsColumnNamed c.args.name.now in
    let same = same_has c.args.c.now.items _ _ (column_there (object_of c.args.table) c.args.name.now) in
    (λ e. absurd (false≢true e), λ h. absurd (none_there _ None _ P _ _ _ c.places-all.ensures c.loop-at-test.false c.loop-at.invariant.none (same.1 h)))
