use Rattle.std.proofs.Common.{◌≡◌, ◌+◌, ◌∙◌, length, arith, ap, subst, sym}
use Rattle.std.proofs.lemmas.Option.{get_or_from_slice_get}
use Rattle.cat_items.specs.declared.item.Item.TheVariants as item
use Rattle.object_edits.specs.CreatedViews.{column_of}
use Rattle.object_edits.specs.ViewSteps.{IsColumnAmong}
use Rattle.object_edits.proofs.AddedColumns.{Grows, columns_all, columns_more, places_before}
use Rattle.object_edits.proofs.made.put_columns.Goals as goal

pub put_column-requires : goal.put_column-requires
put_column-requires c x h =
    rw c.loop-at.invariant.place
    (places_before c.args.view.now c.as_slice-names.result.now c.as_slice-sorts.result.now c.loop-at.at (omega (arith, c.loop-at-test.true)) c.args.added.now.items c.loop-at.added.items c.loop-at.invariant.members c.requires.new x h)

pub loop-at-preserved : goal.loop-at-preserved
loop-at-preserved c =
    let view = c.args.view.now in
    let names = c.as_slice-names.result.now in
    let sorts = c.as_slice-sorts.result.now in
    let mid = c.loop-at.added.items in
    let new = c.put_column.new.added.items in
    let count : length names ≡ length sorts = ap length c.as_slice-names.ensures ∙ c.requires.count ∙ sym (ap length c.as_slice-sorts.ensures) in
    let placed : Grows mid new (λ x. x ≡ item.Column (column_of view c.index-names-at.result c.sort_at-sort.result (c.loop-at.at + 1))) =
    subst (λ k. Grows mid new (λ x. x ≡ item.Column (column_of view c.index-names-at.result c.sort_at-sort.result (k + 1)))) c.loop-at.invariant.place c.in_ok-put_column.ensures in
    record {
      place = omega (arith, c.loop-at.invariant.place);
      members = columns_more view names sorts c.loop-at.at c.index-names-at.result c.sort_at-sort.result c.loop-at-test.true c.index-names-at.is (omega (arith, c.loop-at-test.true, count)) (sym (get_or_from_slice_get sorts c.loop-at.at c.sort_at-sort.result c.sort_at-sort.result c.sort_at-sort.ensures)) c.args.added.now.items mid new
          c.loop-at.invariant.members placed;
    }

pub returns : goal.returns
returns c =
    subst (λ l. Grows c.args.added.now.items c.loop-at.added.items (IsColumnAmong c.args.view.now l c.args.sorts.now)) c.as_slice-names.ensures
    (subst (λ l. Grows c.args.added.now.items c.loop-at.added.items (IsColumnAmong c.args.view.now c.as_slice-names.result.now l)) c.as_slice-sorts.ensures
    (columns_all c.args.view.now c.as_slice-names.result.now c.as_slice-sorts.result.now c.loop-at.at c.loop-at-test.false (ap length c.as_slice-names.ensures ∙ c.requires.count ∙ sym (ap length c.as_slice-sorts.ensures)) c.args.added.now.items
    c.loop-at.added.items c.loop-at.invariant.members))

pub sort_at-sort-requires : goal.sort_at-sort-requires
sort_at-sort-requires c = omega (arith, c.loop-at-test.true, ap length c.as_slice-names.ensures, c.requires.count, ap length c.as_slice-sorts.ensures)
