use Rattle.std.proofs.Common.{ap, sym, ◌∙◌, take, take_all}
use Rattle.std.specs.Prelude.{flat_map}
use Rattle.name_scopes.specs.Known.{column_in}
use Rattle.view_deps.specs.ByName.{first_of_two}
use Rattle.view_deps.specs.Described.{columns_in}
use Rattle.view_deps.proofs.Sorts.{in_two, one_more}
use Rattle.view_deps.proofs.by_name.sorts_of.Goals as goal

pub loop-item-preserved : goal.loop-item-preserved
loop-item-preserved c = λ name.
    c.in_ok-put_sort.ensures name
    ∙ (ap (λ found. first_of_two found (column_in name (columns_in c.args.table.now c.item-item.result))) (c.loop-item.invariant name)
    ∙ (sym (in_two name (flat_map (columns_in c.args.table.now) (take c.loop-item.item-index c.columns-item-items.result.now)) (columns_in c.args.table.now c.item-item.result))
    ∙ ap (column_in name) (one_more (columns_in c.args.table.now) c.columns-item-items.result.now c.loop-item.item-index c.item-item.result c.loop-item-test.true (sym c.item-item.is))))

pub returns : goal.returns
returns c = λ name. (rw (take_all c.loop-item.item-index c.columns-item-items.result.now c.loop-item-test.false) at c.loop-item.invariant name) ∙ ap (column_in name) (sym c.columns-item-items.ensures)
