use Rattle.std.proofs.Common.{refl, subst, sym, inl, inr, List, take}
use Rattle.std.proofs.lemmas.Bool.{false≢true}
use Rattle.std.proofs.lemmas.List.Elements.{Contains-push_cases}
use Rattle.std.specs.List.{Contains}
use Rattle.finite_chains.proofs.Members.{Contains-nil}
use Rattle.cat_items.specs.declared.need.Need.{Need}
use Rattle.edit_rules.proofs.Lists.{take_next, take_whole}
use Rattle.table_changes.specs.DroppedColumns.{IsOfColumn}
use Rattle.table_changes.proofs.columns.DroppedColumn.is_alone.Goals as goal

pub loop-need-init : goal.loop-need-init
loop-need-init c = record { all = λ need h. absurd (Contains-nil need h) }

pub returns-then-not-is_alone_in : goal.returns-then-not-is_alone_in
returns-then-not-is_alone_in c =
    let x = c.need-item.result in
    let here : Contains c.args.needs.now x = subst (λ (l : List Need). Contains l x) c.as_slice-need-items.ensures (c.loop-need.need-index, c.loop-need-test.true, sym c.need-item.is) in
    (λ e. absurd (false≢true e), λ all. absurd (false≢true (c.if-not-is_alone_in.ensures.1 (all x here))))

pub loop-need-preserved : goal.loop-need-preserved
loop-need-preserved c =
    let xs = c.args.needs.now in
    let i = c.loop-need.need-index in
    let x = c.need-item.result in
    let next = take_next xs c.as_slice-need-items.result.now i c.as_slice-need-items.ensures x c.loop-need-test.true c.need-item.is in
    record {
      all = λ need h. elim (Contains-push_cases (take i xs) x need (subst (λ (l : List Need). Contains l need) next h)) [
        | inl was ↦ c.loop-need.invariant.all need was
        | inr e ↦ subst (IsOfColumn c.args.self.now.table.now c.args.self.now.name.now) e (c.if-not-is_alone_in.ensures.0 refl)
      ];
    }

pub returns : goal.returns
returns c =
    let xs = c.args.needs.now in (
      λ e need h.
          c.loop-need.invariant.all need (subst (λ (l : List Need). Contains l need) (sym (take_whole xs c.as_slice-need-items.result.now c.loop-need.need-index c.as_slice-need-items.ensures c.loop-need-test.false)) h),
      λ all. refl,
    )
