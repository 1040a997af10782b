-- DROP DOMAIN and DROP SCHEMA: their refusals, what they take, and what they put in its place (SQL:2003 part 2, 11.2 and 11.30).
use Rattle.std.specs.Prelude.{List, [], ◌∷◌}
use Rattle.std.specs.List.{Contains}
use Rattle.sql_names.specs.NameBytes.{NameBytes}
use Rattle.sql_names.specs.declared.column.ObjectName.{ObjectName}
use Rattle.sql_names.specs.declared.object.Object.{Object}
use Rattle.sql_tree.specs.declared.statement.DropKind.TheVariants as kind
use Rattle.cat_items.specs.declared.edit.Edit.{Edit}
use Rattle.cat_items.specs.declared.edit.Refusal.{Refusal}
use Rattle.cat_items.specs.declared.edit.Who.{Who}
use Rattle.cat_items.specs.declared.item.Check.{Check}
use Rattle.cat_items.specs.declared.item.Column.{Column}
use Rattle.cat_items.specs.declared.item.Item.{Item}
use Rattle.cat_items.specs.declared.item.Item.TheVariants as item
use Rattle.cat_items.specs.Rights.{IsSchema}
use Rattle.edit_rules.specs.Chosen.{AreAll, AreChosen}
use Rattle.edit_rules.specs.Names.{object_in, unknown_schema}
use Rattle.edit_rules.specs.Owners.{not_owner}
use Rattle.drop_edit.specs.DroppedObjects.{GoesWith, drop_object_refusals}
use Rattle.domain_drop.specs.CheckCopies.{AreCopies, IsDomainCheck, pairs_of}
use Rattle.domain_drop.specs.FreedColumns.{FreedByDomain, FreedBySchema, IsFreed, IsFreedFrom}

-- a freed column, or one of these checks
abbrev pub IsPutBack : List Item → (Column → Type 0) → List Check → Item → Type 0
IsPutBack c Frees copies (item.Column x) = (old : Column) × Contains c (item.Column old) × Frees old × IsFreedFrom c old x
IsPutBack c Frees copies (item.Check x) = Contains copies x
IsPutBack c Frees copies x = ⊥

-- such columns are freed: they are changed, and are put back with copies of their domains' checks
pub record IsFreeing (c : List Item) (Frees : Column → Type 0) (edit : Edit) : Type 0 where
  pub checks : List Item
  pub are_checks : AreChosen c IsDomainCheck checks
  pub copies : List Check
  pub are_copies : AreCopies c [] (pairs_of edit.changed checks) copies
  pub changed : AreChosen c (IsFreed Frees) edit.changed
  pub added : AreAll (IsPutBack c Frees copies) edit.added

-- ---- DROP DOMAIN

-- no domain has the name, or the session doesn't act for the owner of its schema
abbrev pub drop_domain_refusals : List Item → Who → ObjectName → List (Refusal → Type 0)
drop_domain_refusals c who name = drop_object_refusals c who kind.Domain name

-- the domain goes with its checks and the privileges on it, and the columns that are based on it are freed
abbrev pub IsDomainDrop : List Item → Object → Edit → Type 0
IsDomainDrop c domain edit = AreChosen c (GoesWith kind.Domain domain) edit.target × IsFreeing c (FreedByDomain domain) edit

-- the same of the statement: a name without a schema is one of the session's schema
abbrev pub IsDomainDropOf : List Item → Who → ObjectName → Edit → Type 0
IsDomainDropOf c who name edit = IsDomainDrop c (object_in who.schema name) edit

-- ---- DROP SCHEMA

-- no schema has the name, or the session doesn't act for its owner
abbrev pub drop_schema_refusals : List Item → Who → NameBytes → List (Refusal → Type 0)
drop_schema_refusals c who schema = unknown_schema c schema ∷ not_owner c who schema ∷ []

-- the schema itself goes, and the columns of tables of other schemas that are based on its domains are freed
abbrev pub IsSchemaDrop : List Item → NameBytes → Edit → Type 0
IsSchemaDrop c schema edit = AreChosen c (IsSchema schema) edit.target × IsFreeing c (FreedBySchema schema) edit
