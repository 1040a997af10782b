use Rattle.std.proofs.Common.{◌↔◌, IsTrue, List, subst}
use Rattle.sql_names.specs.declared.object.Object.{Object}
use Rattle.sql_names.specs.declared.sort.Param.{Param}
use Rattle.cat_items.specs.declared.item.Key.{Key}
use Rattle.table_work.specs.Seen.{columns_seen, keys_seen}
use Rattle.table_types.specs.Types.{AreMisfits}
use Rattle.table_types.proofs.types.is_foreign_misfit.Goals as goal

pub returns : goal.returns
returns c =
    let items = c.args.c.now.items in
    let w = c.args.w.now in
    let columns = c.args.columns.now in
    let written = c.args.references.now.columns in
    subst (λ (o : Object). IsTrue c.are_misfits.result ↔ AreMisfits w.columns (columns_seen items w o) (keys_seen items w o) columns written) c.in_ok-target.ensures
    (subst (λ (ks : List Key). IsTrue c.are_misfits.result ↔ AreMisfits w.columns (columns_seen items w c.in_ok-target.target) ks columns written) c.in_ok-keys.ensures
    (subst (λ (os : List Param). IsTrue c.are_misfits.result ↔ AreMisfits w.columns os c.in_ok-keys.keys columns written) c.in_ok-others.ensures c.are_misfits.ensures))
