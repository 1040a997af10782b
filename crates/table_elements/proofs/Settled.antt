-- Each test of a name has one refusal at most.
use Rattle.std.proofs.Common.{List, sym, ◌∙◌}
use Rattle.sql_names.specs.NameBytes.{NameBytes}
use Rattle.sql_names.specs.declared.object.Object.{Object}
use Rattle.sql_tree.specs.declared.table.ColumnType.{ColumnType}
use Rattle.sql_tree.specs.declared.table.ColumnType.TheVariants as bases
use Rattle.sql_tree.specs.declared.table.TableConstraintKind.{TableConstraintKind}
use Rattle.sql_tree.specs.declared.table.TableConstraintKind.TheVariants as kinds
use Rattle.cat_items.specs.declared.edit.Who.{Who}
use Rattle.cat_items.specs.declared.item.Item.{Item}
use Rattle.edit_rules.proofs.FirstLaws.{AreSettled, settled_append, settled_each, settled_map}
use Rattle.statement_steps.proofs.Settled.{unresolved_settled}
use Rattle.table_parts.specs.declared.parts.Part.{Part}
use Rattle.table_parts.specs.declared.parts.Part.TheVariants as parts
use Rattle.table_names.specs.Given.{target_of}
use Rattle.table_work.specs.declared.work.Work.{Work}
use Rattle.table_elements.specs.Conditions.{outcome_of}
use Rattle.table_elements.specs.Names.{unknown_column, unknown_columns, unknown_in_base, unknown_in_kind, unknown_in_part, unknown_in_parts, unknown_in_references}

module _ (c : List Item) (who : Who) (w : Work) where
  columns_settled : (table : Object) (names : List NameBytes) → AreSettled (unknown_columns c w table names)
  columns_settled table names = settled_map (unknown_column c w table) (λ n a b p q. p.1 ∙ sym q.1) names

  kind_settled : (kind : TableConstraintKind) → AreSettled (unknown_in_kind c who w kind)
  kind_settled (kinds.PrimaryKey columns) = columns_settled w.table columns
  kind_settled (kinds.Unique columns) = columns_settled w.table columns
  kind_settled (kinds.ForeignKey columns references) =
      settled_append (unknown_columns c w w.table columns) (unknown_in_references c who w references) (columns_settled w.table columns)
      ((λ a b p q. p.1.1 ∙ sym q.1.1), columns_settled (target_of who references) references.columns)
  kind_settled (kinds.Check condition) = (unresolved_settled (outcome_of c who w condition), tt)

  base_settled : (base : ColumnType) → AreSettled (unknown_in_base c who base)
  base_settled (bases.Type sort) = tt
  base_settled (bases.Domain name) = ((λ a b p q. p.1 ∙ sym q.1), tt)

  part_settled : (part : Part) → AreSettled (unknown_in_part c who w part)
  part_settled (parts.Column d) = base_settled d.sort
  part_settled (parts.Constraint k) = kind_settled k.kind

  pub names_settled : (all : List Part) → AreSettled (unknown_in_parts c who w all)
  names_settled all = settled_each (unknown_in_part c who w) part_settled all
