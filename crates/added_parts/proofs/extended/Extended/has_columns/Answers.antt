use Rattle.std.proofs.Common.{ℕ, List, sym, subst, refl}
use Rattle.std.proofs.lemmas.Bool.{false≢true}
use Rattle.sql_names.specs.declared.object.Object.{Object}
use Rattle.cat_items.specs.Reach.{Has}
use Rattle.cat_items.specs.Rights.{IsColumn, path_of}
use Rattle.added_parts.specs.Extended.{items_of}
use Rattle.role_graph.proofs.AllLemmas.{all_more, all_done, of_all}
use Rattle.added_parts.proofs.extended.Extended.has_columns.Goals as goal

pub returns-then-not-has_column : goal.returns-then-not-has_column
returns-then-not-has_column c =
    let s = items_of c.args.self.now in
    let P = λ (name : List ℕ). Has s (IsColumn (path_of c.args.table.now) name) in (
      λ e. absurd (false≢true e),
      λ all. c.if-not-has_column.ensures.1 (subst (λ (o : Object). Has s (IsColumn (path_of o) c.name-item.result)) (sym c.into.ensures)
          (of_all P _ _ _ c.name-item.result c.as_slice-name-items.ensures c.loop-name-test.true c.name-item.is all)),
    )

pub loop-name-preserved : goal.loop-name-preserved
loop-name-preserved c =
    let s = items_of c.args.self.now in
    let P = λ (name : List ℕ). Has s (IsColumn (path_of c.args.table.now) name) in
    record {
      all = all_more P _ _ _ c.name-item.result c.as_slice-name-items.ensures c.loop-name.invariant.all c.loop-name-test.true c.name-item.is
          (subst (λ (o : Object). Has s (IsColumn (path_of o) c.name-item.result)) c.into.ensures (c.if-not-has_column.ensures.0 refl));
    }

pub returns : goal.returns
returns c =
    let s = items_of c.args.self.now in
    let P = λ (name : List ℕ). Has s (IsColumn (path_of c.args.table.now) name) in
    (λ _. all_done P _ _ _ c.as_slice-name-items.ensures c.loop-name.invariant.all c.loop-name-test.false, λ _. refl)
