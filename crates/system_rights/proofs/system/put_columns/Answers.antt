use Rattle.std.proofs.Common.{subst, sym, arith}
use Rattle.cat_items.specs.Shape.{IsColumnOf}
use Rattle.system_rights.specs.Layers.{IsToOwner, IsColumnAction}
use Rattle.system_rights.proofs.Added.{loop_begin, loop_more}
use Rattle.system_rights.proofs.Rows.{columns_end}
use Rattle.system_rights.proofs.system.put_columns.Goals as goal

pub put_column-requires : goal.put_column-requires
put_column-requires c = subst (IsColumnOf c.args.on.now) (sym (rw c.items-items.ensures.items at c.index-items-at.is)) (c.columns_of-all.ensures.inside c.loop-at.at c.index-items-at.result (omega arith) c.loop-at-test.true)

pub loop-at-init : goal.loop-at-init
loop-at-init c = record { added = loop_begin _ c.args.c.now.items _ (λ x. IsToOwner c.args.owner.now (λ need. IsColumnAction c.args.actions.now c.args.on.now need x)) }

pub loop-at-preserved : goal.loop-at-preserved
loop-at-preserved c = record {
  added = loop_more _ c.loop-at.rights.items c.put_column.new.rights.items c.args.c.now.items _ c.loop-at.at (λ x. IsToOwner c.args.owner.now (λ need. IsColumnAction c.args.actions.now c.args.on.now need x)) c.index-items-at.result c.loop-at.invariant.added c.in_ok-put_column.ensures
      (omega arith) (omega (arith, c.loop-at-test.true, c.columns_of-all.ensures.within)) (rw c.items-items.ensures.items at c.index-items-at.is);
}

pub returns : goal.returns
returns c = columns_end _ _ c.args.c.now.items c.args.owner.now c.args.on.now c.args.actions.now _ _ _ c.columns_of-all.ensures (omega arith) c.loop-at.invariant.added
