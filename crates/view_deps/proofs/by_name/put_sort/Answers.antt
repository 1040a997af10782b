use Rattle.std.proofs.Common.{◌≡◌, false, is_some, sym, ◌∙◌}
use Rattle.view_deps.specs.ByName as spec
use Rattle.view_deps.proofs.Joined.{joined-new}
use Rattle.view_deps.proofs.by_name.put_sort.Goals as goal

pub returns-in_ok-insert-in-Column : goal.returns-in_ok-insert-in-Column
returns-in_ok-insert-in-Column c =
    let same : c.get.result.now ≡ c.get-column.result.now = c.get.ensures ∙ sym c.get-column.ensures in
    let absent : is_some (spec.sort_at c.args.sorts.now c.get-column.result.now.name) ≡ false = (let e = c.contains_key.ensures in let h = c.if-not-contains_key.true in cc) in
    rw (c.in-Column.is, ← c.get.ensures, ← c.same_object.ensures, c.if-same_object.true, same)
    (joined-new (spec.sort_at c.args.sorts.now) (spec.sort_at c.insert.new.self) c.get-column.result.now.name c.get-column.result.now.sort absent
    (rw c.in_ok-copy-in-Column.ensures at c.in_ok-insert-in-Column.ensures.updates.0))
