use Rattle.std.proofs.Common.{None, refl, arith}
use Rattle.std.proofs.lemmas.Bool.{false≢true}
use Rattle.cat_items.specs.Rights.{path_of, IsColumn}
use Rattle.cat_items.specs.Shape.{IsColumnOf}
use Rattle.role_graph.proofs.LoopLemmas.{some_there, not_there, none_from, none_more, none_there, has_there}
use Rattle.edit_rules.proofs.NameLemmas.{column_lies}
use Rattle.edit_rules.proofs.names.has_column.Goals as goal

pub returns-then-is_column : goal.returns-then-is_column
returns-then-is_column c =
    let P = IsColumn (path_of c.args.table.now) c.args.name.now in
    let lies = has_there c.args.c.now.items (IsColumnOf c.args.table.now) P (column_lies c.args.table.now c.args.name.now) in
    (λ _. lies.0 (some_there _ _ None _ P _ _ c.loop-at.at c.index-items-at.result c.items-items.ensures.items c.columns_of-all.ensures (omega arith) c.loop-at-test.true refl c.index-items-at.is (c.if-is_column.ensures.0 refl)), λ _. refl)

pub loop-at-init : goal.loop-at-init
loop-at-init c = record { none = none_from c.args.c.now.items None (IsColumn (path_of c.args.table.now) c.args.name.now) _ }

pub loop-at-preserved : goal.loop-at-preserved
loop-at-preserved c =
    let P = IsColumn (path_of c.args.table.now) c.args.name.now in
    record {
      none = none_more c.args.c.now.items None P _ _ c.loop-at.invariant.none (λ d on is. not_there _ _ P c.loop-at.at c.index-items-at.result d c.items-items.ensures.items (omega (arith, c.loop-at-test.true, c.columns_of-all.ensures.within)) c.index-items-at.is (λ so. false≢true (c.if-is_column.ensures.1 so)) is);
    }

pub returns : goal.returns
returns c =
    let P = IsColumn (path_of c.args.table.now) c.args.name.now in
    let lies = has_there c.args.c.now.items (IsColumnOf c.args.table.now) P (column_lies c.args.table.now c.args.name.now) in
    (λ e. absurd (false≢true e), λ h. absurd (none_there _ None _ P _ _ _ c.columns_of-all.ensures c.loop-at-test.false c.loop-at.invariant.none (lies.1 h)))
