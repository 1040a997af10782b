use Rattle.std.proofs.Common.{◌≡◌}
use Rattle.cat_items.specs.Rights.{path_of}
use Rattle.cascade_laws.specs.Topics.{column}
use Rattle.topic_keys.specs.Lists.{IsKeyWhere}
use Rattle.topic_keys.proofs.Adding.{each_begin, each_end, each_more}
use Rattle.topic_keys.proofs.NameLaws.{columns_among}
use Rattle.topic_keys.proofs.names.put_columns.Goals as goal

pub loop-name-init : goal.loop-name-init
loop-name-init c = record { put = each_begin (λ name. IsKeyWhere (λ t. t ≡ column (path_of c.args.table.now) name)) c.args.names.now c.args.keys.now.items }

pub loop-name-preserved : goal.loop-name-preserved
loop-name-preserved c = record {
  put = each_more (λ name. IsKeyWhere (λ t. t ≡ column (path_of c.args.table.now) name)) c.args.names.now c.args.keys.now.items c.loop-name.keys.items c.put_column.new.keys.items c.loop-name.name-index c.name-item.result
      (rw c.as_slice-name-items.ensures at c.loop-name-test.true) (rw c.as_slice-name-items.ensures at c.name-item.is) c.loop-name.invariant.put c.in_ok-put_column.ensures;
}

pub returns : goal.returns
returns c =
    columns_among c.args.table.now c.args.names.now c.args.keys.now.items c.loop-name.keys.items
    (each_end (λ name. IsKeyWhere (λ t. t ≡ column (path_of c.args.table.now) name)) c.args.names.now c.args.keys.now.items c.loop-name.keys.items c.loop-name.name-index (rw c.as_slice-name-items.ensures at c.loop-name-test.false) c.loop-name.invariant.put)
