use Rattle.std.proofs.Common.{ℕ, ◌+◌, ◌++◌, List, map, ap, ◌∙◌}
use Rattle.std.proofs.lemmas.Result.{on_ok_weaker}
use Rattle.cat_items.specs.declared.item.Column.{Column}
use Rattle.cat_items.specs.declared.item.Item.TheVariants as item
use Rattle.table_parts.specs.Parts.{columns_of}
use Rattle.table_work.specs.Columns.{columns_from}
use Rattle.table_additions.proofs.added.push_new.Goals as goal

pub returns : goal.returns
returns c =
    let all = c.args.parts.now in
    on_ok_weaker c.push_columns.result
    (λ is. is ∙ ap (λ (l : List Column). c.args.all.now ++ map item.Column l) (c.in_ok-columns.ensures ∙ ap (λ (n : ℕ). columns_from c.args.c.now.items c.args.who.now c.args.table.now all (n + 1) (columns_of all)) c.last_place-last.ensures))
    c.push_columns.ensures
