-- What the grammar gives of what ALTER TABLE adds: types, defaults and conditions are of their forms, and no list of columns is empty.
use Rattle.std.proofs.Common.{◌<◌, ℕ, false, List, [], ◌∷◌, length, All, arith}
use Rattle.std.proofs.lemmas.List.Elements.{All-nil, All-cons, All-contains}
use Rattle.std.specs.List.{Contains, flat_map}
use Rattle.sql_tree.specs.declared.expr.Expr.{Expr}
use Rattle.sql_tree.specs.declared.statement.AlterTable.{AlterTable}
use Rattle.sql_tree.specs.declared.statement.AlterTableAction.{AlterTableAction}
use Rattle.sql_tree.specs.declared.statement.AlterTableAction.TheVariants as actions
use Rattle.sql_tree.specs.declared.statement.Statement.TheVariants as statements
use Rattle.sql_tree.specs.declared.table.ColumnConstraint.{ColumnConstraint}
use Rattle.sql_tree.specs.declared.table.ColumnDefinition.{ColumnDefinition}
use Rattle.sql_tree.specs.declared.table.ColumnOption.{ColumnOption}
use Rattle.sql_tree.specs.declared.table.ColumnType.{ColumnType}
use Rattle.sql_tree.specs.declared.table.TableConstraint.{TableConstraint}
use Rattle.sql_tree.specs.declared.table.TableConstraintKind.{TableConstraintKind}
use Rattle.sql_tree.specs.declared.table.TableConstraintKind.TheVariants as kinds
use Rattle.sql_words.specs.WordForms.{AreWords}
use Rattle.sql_words.specs.declared.word.Word.{Word}
use Rattle.sql_phrases.specs.NameRules.{SpellsIdentifiers}
use Rattle.sql_phrases.specs.Shapes.{one, more, Repeated, no_more, again}
use Rattle.sql_definitions.specs.CheckRules.{SpellsCheck, check}
use Rattle.sql_definitions.specs.TableRules as tables
use Rattle.sql_definitions.proofs.DefinitionDepths.{peak_default}
use Rattle.sql_grammar.specs.AlterRules.{SpellsAlterTableAction, add_column, add_constraint, set_default, drop_default, drop_column, drop_constraint}
use Rattle.sql_grammar.specs.StatementRules.{SpellsStatement, alter_table}
use Rattle.cat_items.specs.Pieces.{AreFormed, AreResolved, IsResolved, default_pieces, expr_pieces}
use Rattle.table_parts.specs.declared.parts.Part.{Part}
use Rattle.table_parts.specs.declared.parts.Part.TheVariants as parts
use Rattle.table_parts.specs.Columns.{default_in}
use Rattle.table_parts.specs.Forms.{HasProperSort}
use Rattle.table_parts.specs.Parts.{column_parts, option_parts, own_kind}
use Rattle.statement_forms.specs.Written.{IsWritten}
use Rattle.statement_forms.proofs.DefaultForms.{default-form}
use Rattle.statement_forms.proofs.FormedTrees.{formed_expr}
use Rattle.statement_forms.proofs.KeptWords.{kept, kept_constraint, kept_identifier, kept_marked, kept_name, kept_object, kept_token, kept_type}
use Rattle.statement_forms.proofs.TypeForms.{type-form}

-- a list of columns has one, a condition has texts, numbers and types of their forms
abbrev pub IsWrittenKind : TableConstraintKind → Type 0
IsWrittenKind (kinds.PrimaryKey columns) = 0 < length columns
IsWrittenKind (kinds.Unique columns) = 0 < length columns
IsWrittenKind (kinds.ForeignKey columns references) = 0 < length columns
IsWrittenKind (kinds.Check condition) = AreFormed (expr_pieces condition)

abbrev HasDefault : List ColumnOption → Type 0
HasDefault os = AreResolved (default_pieces (default_in os))

abbrev pub IsWrittenPart : Part → Type 0
IsWrittenPart (parts.Column d) = HasProperSort d.sort × AreResolved (default_pieces (default_in d.options))
IsWrittenPart (parts.Constraint k) = IsWrittenKind k.kind

some_names : {ns : List (List ℕ)} {ws rest : List Word} → SpellsIdentifiers ns ws rest → 0 < length ns
some_names (one n) = omega arith
some_names (more n t s) = omega arith

some_columns : {ns : List (List ℕ)} {ws rest : List Word} → tables.SpellsColumnList ns ws rest → 0 < length ns
some_columns (tables.column_list l s r) = some_names s

module _ {m : ℕ} where
  check-form : {e : Expr} {ws rest : List Word} → SpellsCheck false m e ws rest → AreWords ws → AreFormed (expr_pieces e)
  check-form {e} (check t l x r) are = formed_expr false m e _ _ (kept_token l (kept_token t are)) x

  sort-form : {t : ColumnType} {ws rest : List Word} → tables.SpellsColumnType m t ws rest → HasProperSort t
  sort-form (tables.of_type t) = type-form t
  sort-form (tables.of_domain o) = tt

  own-form : (column : List ℕ) {c : ColumnConstraint} {ws rest : List Word} → tables.SpellsColumnConstraint m c ws rest → AreWords ws → IsWrittenKind (own_kind column c)
  own-form column (tables.primary_key t u) are = omega arith
  own-form column (tables.unique t) are = omega arith
  own-form column (tables.refers r) are = omega arith
  own-form column (tables.column_check c) are = check-form c are

  kind-form : {c : TableConstraintKind} {ws rest : List Word} → tables.SpellsTableConstraintKind m c ws rest → AreWords ws → IsWrittenKind c
  kind-form (tables.primary_key_of t u ns) are = some_columns ns
  kind-form (tables.unique_of t ns) are = some_columns ns
  kind-form (tables.foreign_key_of t u ns r) are = some_columns ns
  kind-form (tables.check_of c) are = check-form c are

  -- the default that is found is the first that is written
  default-is : {os : List ColumnOption} {ws rest : List Word} → Repeated (tables.SpellsColumnOption m) os ws rest → AreWords ws → HasDefault os
  default-is no_more are = All-nil IsResolved
  default-is (again (tables.default_option t d) os) are = default-form d (kept_token t are)
  default-is (again (tables.not_null t u) os) are = default-is os (kept_token u (kept_token t are))
  default-is (again (tables.constraint n c) os) are = default-is os (kept_constraint c (kept_name n are))

  options-form : (column : List ℕ) {os : List ColumnOption} {ws rest : List Word} → Repeated (tables.SpellsColumnOption m) os ws rest → AreWords ws → All IsWrittenPart (flat_map (option_parts column) os)
  options-form column no_more are = All-nil IsWrittenPart
  options-form column (again (tables.default_option t d) os) are = options-form column os (kept (peak_default d) (kept_token t are))
  options-form column (again (tables.not_null t u) os) are = options-form column os (kept_token u (kept_token t are))
  options-form column (again {xs = others} (tables.constraint {n = n} {c = c} s x) os) are =
      All-cons IsWrittenPart (parts.Constraint (record { name = n; kind = own_kind column c })) (flat_map (option_parts column) others) (own-form column x (kept_name s are))
      (options-form column os (kept_constraint x (kept_name s are)))

  column-form : {c : ColumnDefinition} {ws rest : List Word} → tables.SpellsColumnDefinition m c ws rest → AreWords ws → All IsWrittenPart (column_parts c)
  column-form (tables.column_definition {n = n} {t = t} {os = os} i s o one_default) are =
      let behind : AreWords _ = kept_type s (kept_identifier i are) in
      All-cons IsWrittenPart (parts.Column (record { column = n; sort = t; options = os })) (flat_map (option_parts n) os) (sort-form s, default-is o behind) (options-form n o behind)

  constraint-form : {c : TableConstraint} {ws rest : List Word} → tables.SpellsTableConstraint m c ws rest → AreWords ws → IsWrittenKind c.kind
  constraint-form (tables.table_constraint n c) are = kind-form c (kept_name n are)

-- ---- the statement

-- what an action adds
abbrev pub IsWrittenAction : AlterTableAction → Type 0
IsWrittenAction (actions.AddColumn d) = All IsWrittenPart (column_parts d)
IsWrittenAction (actions.AddConstraint k) = All IsWrittenPart (parts.Constraint k ∷ [])
IsWrittenAction action = Unit {0}

action-form : {most : ℕ} {a : AlterTableAction} {ws rest : List Word} → SpellsAlterTableAction most a ws rest → AreWords ws → IsWrittenAction a
action-form (add_column t m s) are = column-form s (kept_marked m (kept_token t are))
action-form (add_constraint {c = k} t s) are = All-cons IsWrittenPart (parts.Constraint k) [] (constraint-form s (kept_token t are)) (All-nil IsWrittenPart)
action-form (set_default t n u v d) are = tt
action-form (drop_default t n u v) are = tt
action-form (drop_column t n how) are = tt
action-form (drop_constraint t u n how) are = tt

statement-form : {most : ℕ} {s : AlterTable} {ws rest : List Word} → SpellsStatement most (statements.AlterTable s) ws rest → AreWords ws → IsWrittenAction s.action
statement-form (alter_table {action = action} t u o a) are = action-form a (kept_object o (kept_token u (kept_token t are)))

pub written_action : (s : AlterTable) → IsWritten (statements.AlterTable s) → IsWrittenAction s.action
written_action s written = statement-form written.2 written.1

pub written_part : (all : List Part) → All IsWrittenPart all → (part : Part) → Contains all part → IsWrittenPart part
written_part all each part h = All-contains IsWrittenPart all part each h
