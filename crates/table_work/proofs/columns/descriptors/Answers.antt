use Rattle.std.proofs.Common.{◌≡◌, ◌-◌, take, drop, sym, subst}
use Rattle.std.specs.Prelude.{flat_map}
use Rattle.table_work.specs.Seen.{column_here}
use Rattle.table_work.proofs.RangeMakings.{columns_are}
use Rattle.table_work.proofs.columns.descriptors.Goals as goal

pub returns : goal.returns
returns c =
    subst (λ l. flat_map (column_here c.args.table.now) c.args.c.now.items ≡ flat_map (column_here c.args.table.now) (take (c.columns_of.result.end - c.columns_of.result.start) (drop c.columns_of.result.start l)))
    (sym c.items.ensures.items) (columns_are c.args.table.now c.args.c.now.items _ _ c.columns_of.ensures)
