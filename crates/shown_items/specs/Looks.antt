-- Descriptors as they are shown where it is known whether their schema is owned.
use Rattle.std.specs.Prelude.{ℕ, Bool, cond, Option, Some, None, is_some}
use Rattle.cat_items.specs.declared.item.Column.{Column}
use Rattle.cat_items.specs.declared.item.Domain.{Domain}
use Rattle.cat_items.specs.declared.item.Routine.{Routine}
use Rattle.cat_items.specs.declared.item.View.{View}
use Rattle.schema_tables.specs.Shown.{ShownView, ShownColumn, ShownDomain, ShownRoutine}

abbrev pub where_owned : {X : Type 0} → Bool → Option X → Option X
where_owned owned whole = cond owned whole None

abbrev pub view_look : View → Bool → ShownView
view_look x owned = record { view = x.view; query = where_owned owned (Some x.query); plain = is_some x.base }

abbrev pub column_look : Column → ℕ → Bool → ShownColumn
column_look x position owned = record { table = x.table; name = x.name; position = position; default = where_owned owned x.default; not_null = x.not_null; sort = x.sort; domain = x.domain }

abbrev pub domain_look : Domain → Bool → ShownDomain
domain_look x owned = record { domain = x.domain; sort = x.sort; default = where_owned owned x.default }

abbrev pub routine_look : Routine → Bool → ShownRoutine
routine_look x owned = record { routine = x.routine; params = x.params; returns = x.returns; body = where_owned owned (Some x.body) }
