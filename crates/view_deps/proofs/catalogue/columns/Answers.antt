use Rattle.std.proofs.Common.{◌≡◌, ◌-◌, take, drop, sym, subst}
use Rattle.std.specs.Prelude.{flat_map}
use Rattle.view_deps.specs.Described as spec
use Rattle.view_deps.proofs.Described.{columns_are}
use Rattle.view_deps.proofs.catalogue.columns.Goals as goal

pub returns : goal.returns
returns c =
    subst (λ l. flat_map (spec.columns_in c.args.table.now) c.args.c.now.items ≡ flat_map (spec.columns_in c.args.table.now) (take (c.columns_of.result.end - c.columns_of.result.start) (drop c.columns_of.result.start l)))
    (sym c.items.ensures.items) (columns_are c.args.table.now c.args.c.now.items _ _ c.columns_of.ensures)
