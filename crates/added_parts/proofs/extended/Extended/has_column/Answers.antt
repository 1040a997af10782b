use Rattle.std.proofs.lemmas.Bool.{both_ways}
use Rattle.cat_items.specs.Keys.{object_of}
use Rattle.cat_items.specs.Rights.{path_of, IsColumn}
use Rattle.added_parts.proofs.Extending.{has_in_second}
use Rattle.added_parts.proofs.extended.Extended.has_column.Goals as goal

pub returns-else-any_column : goal.returns-else-any_column
returns-else-any_column c =
    has_in_second c.args.self.now.old.now.items c.args.self.now.added.now.items (IsColumn (path_of (object_of c.args.table)) c.args.name.now) c.any_column-else-any_column.result
    (λ old. both_ways _ c.if-any_column.false (c.any_column.ensures.1 old)) c.any_column-else-any_column.ensures
