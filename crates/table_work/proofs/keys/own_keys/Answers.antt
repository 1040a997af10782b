use Rattle.std.proofs.Common.{◌++◌, ap, sym, ◌∙◌}
use Rattle.std.specs.Option.{option_to_list}
use Rattle.table_work.specs.Keys.{own_key}
use Rattle.table_work.proofs.KeyLists.{keys_more}
use Rattle.table_work.proofs.keys.own_keys.Goals as goal

pub loop-constraint-preserved : goal.loop-constraint-preserved
loop-constraint-preserved c = record {
  own = c.in_ok-push_key.ensures ∙ ap (λ keys. keys ++ option_to_list (own_key c.args.table.now c.constraint-item.result)) c.loop-constraint.invariant.own
      ∙ sym (keys_more c.args.table.now c.args.named.now c.loop-constraint.constraint-index c.constraint-item.result
      (rw c.as_slice-constraint-items.ensures at c.loop-constraint-test.true) (rw c.as_slice-constraint-items.ensures at c.constraint-item.is));
}
