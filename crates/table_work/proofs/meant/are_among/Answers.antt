use Rattle.std.proofs.Common.{refl, subst, sym}
use Rattle.std.specs.List.{Contains}
use Rattle.std.proofs.lemmas.List.{take_all}
use Rattle.std.proofs.lemmas.List.Elements.{All-contains, All-more, All-same}
use Rattle.table_work.proofs.meant.are_among.Goals as goal

pub loop-name-preserved : goal.loop-name-preserved
loop-name-preserved c = record {
  among = All-more (Contains c.args.others.now) c.args.names.now c.loop-name.name-index c.name-item.result (rw c.as_slice-name-items.ensures at c.loop-name-test.true) c.loop-name.invariant.among
      (subst (Contains c.args.others.now) (rw c.as_slice-name-items.ensures at c.name-item.is) (c.if-not-is_among.ensures.0 refl));
}

pub returns : goal.returns
returns c = (
  λ t name h. All-contains (Contains c.args.others.now) c.args.names.now name
      (All-same (Contains c.args.others.now) c.args.names.now _ (sym (take_all c.loop-name.name-index c.args.names.now (rw c.as_slice-name-items.ensures at c.loop-name-test.false)))
      c.loop-name.invariant.among) h,
  λ h. refl,
)
