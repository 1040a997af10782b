use Rattle.std.proofs.Common.{◌≡◌, ◌-◌, Some, refl, sym}
use Rattle.std.specs.List.{slice_get}
use Rattle.std.proofs.lemmas.Result.{on_ok_weaker}
use Rattle.cat_items.specs.declared.item.Item.TheVariants as item
use Rattle.cat_items.specs.Relevant.{IsBaseNeed}
use Rattle.topic_keys.proofs.Adding.{gets_alike}
use Rattle.topic_lists.specs.Needs.{IsNeedBehind}
use Rattle.topic_lists.proofs.NeedLaws.{behind_this}
use Rattle.topic_lists.proofs.own.ColumnBehindCarries.push_from.Goals as goal

pub returns-in-Some : goal.returns-in-Some
returns-in-Some c =
    let v = c.args.self.now.view.now in
    let action = c.args.self.now.action in
    let name = c.args.self.now.name.now in
    let column = c.get-column.result.now in
    let other = c.in-Some.name.now in
    let at : slice_get v.base_columns (column.place - 1) ≡ Some other = rw c.saturating_sub-at.ensures at (sym c.in-Some.ensures.value) in
    rw (c.in-Column.is, ← c.get-column.ensures)
    (on_ok_weaker c.push_base.result
    (gets_alike (IsBaseNeed action v.base (Some other)) (IsNeedBehind v action name (item.Column column)) c.args.needs.now.items c.push_base.new.needs.items (behind_this v action name other column (c.if-not-same.ensures.0 refl) at))
    c.push_base.ensures)
