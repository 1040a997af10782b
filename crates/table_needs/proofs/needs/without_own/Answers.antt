use Rattle.std.proofs.Common.{[], refl, sym, subst}
use Rattle.std.specs.List.{Any}
use Rattle.std.proofs.Common.{List, take}
use Rattle.cat_items.specs.declared.need.Need.{Need}
use Rattle.table_needs.specs.Needs.{IsAsked}
use Rattle.table_needs.proofs.NeedLemmas.{Gain, from_none, gain_all, gain_begin, gain_more}
use Rattle.table_needs.proofs.needs.without_own.Goals as goal

pub loop-one-init : goal.loop-one-init
loop-one-init c = record { left = subst (λ (l : List Need). Gain [] l (λ need. Any (IsAsked c.args.table.now c.args.parts.now need) (take 0 c.args.needs.now))) (sym c.new-left.ensures) (gain_begin (IsAsked c.args.table.now c.args.parts.now) c.args.needs.now []) }

pub loop-one-preserved : goal.loop-one-preserved
loop-one-preserved c = record {
  left = gain_more (IsAsked c.args.table.now c.args.parts.now) c.args.needs.now [] c.loop-one.left c.push_left.new.left c.loop-one.one-index c.one-item.result
      (rw c.as_slice-one-items.ensures at c.loop-one-test.true) (rw c.as_slice-one-items.ensures at c.one-item.is) c.loop-one.invariant.left c.in_ok-push_left.ensures;
}

pub returns : goal.returns
returns c = from_none [] c.loop-one.left (λ need. Any (IsAsked c.args.table.now c.args.parts.now need) c.args.needs.now) refl
    (gain_all (IsAsked c.args.table.now c.args.parts.now) c.args.needs.now [] c.loop-one.left c.loop-one.one-index (rw c.as_slice-one-items.ensures at c.loop-one-test.false) c.loop-one.invariant.left)
