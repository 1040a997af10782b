-- Reading tables.
use Rattle.std.specs.Prelude.{ℕ, Bool, true, false, List, Some, None, if◌then◌else◌}
use Rattle.sql_names.specs.NameBytes.{NameBytes}
use Rattle.sql_tree.specs.declared.table.ColumnConstraint.{ColumnConstraint}
use Rattle.sql_tree.specs.declared.table.ColumnConstraint.TheVariants as constraints
use Rattle.sql_tree.specs.declared.table.ColumnDefinition.{ColumnDefinition}
use Rattle.sql_tree.specs.declared.table.ColumnOption.{ColumnOption}
use Rattle.sql_tree.specs.declared.table.ColumnOption.TheVariants as options
use Rattle.sql_tree.specs.declared.table.ColumnType.{ColumnType}
use Rattle.sql_tree.specs.declared.table.ColumnType.TheVariants as bases
use Rattle.sql_tree.specs.declared.table.Matching.{Matching}
use Rattle.sql_tree.specs.declared.table.Matching.TheVariants as matchings
use Rattle.sql_tree.specs.declared.table.References.{References}
use Rattle.sql_tree.specs.declared.table.Rule.{Rule}
use Rattle.sql_tree.specs.declared.table.Rule.TheVariants as rules
use Rattle.sql_tree.specs.declared.table.TableConstraint.{TableConstraint}
use Rattle.sql_tree.specs.declared.table.TableConstraintKind.{TableConstraintKind}
use Rattle.sql_tree.specs.declared.table.TableConstraintKind.TheVariants as kinds
use Rattle.sql_tree.specs.declared.table.TableElement.{TableElement}
use Rattle.sql_tree.specs.declared.table.TableElement.TheVariants as elements
use Rattle.sql_spelling.specs.declared.kind.Kind.{Kind}
use Rattle.sql_spelling.specs.declared.kind.Kind.TheVariants as k
use Rattle.sql_phrases.specs.Reading.{peek}
use Rattle.sql_phrases.specs.Parsers.{Parser, ◌>>=◌, ◌>>◌, ◌<$>◌, pure, refuse, skip, eat, expect, separated, repeated}
use Rattle.sql_phrases.specs.NameParsers.{identifier, identifiers, object_name, sees_name}
use Rattle.sql_phrases.specs.NameParsers as names
use Rattle.sql_phrases.specs.TypeParsers.{sql_type}
use Rattle.sql_phrases.specs.TypeParsers as types
use Rattle.sql_definitions.specs.CheckParsers.{check, constraint_name}
use Rattle.sql_definitions.specs.TableRules.{has_one_default}

-- after SET
unfoldable pub set_rule : Parser Rule
set_rule = do
  is_null ← eat k.Null
  if is_null then pure rules.SetNull else (expect k.Default >> pure rules.SetDefault)

abbrev pub rule_by : Kind → Parser Rule
rule_by k.Cascade = skip >> pure rules.Cascade
rule_by k.Set = skip >> set_rule
rule_by k.Restrict = skip >> pure rules.Restrict
rule_by k.No = skip >> (expect k.Action >> pure rules.NoAction)
rule_by _ = refuse

unfoldable pub rule : Parser Rule
rule = λ ws. rule_by (peek ws) ws

-- [ON word rule], and NO ACTION where it is left out
unfoldable pub rule_on : Kind → Parser Rule
rule_on what = do
  is_said ← eat k.On
  if is_said then (expect what >> rule) else pure rules.NoAction

-- the rules of DELETE and of UPDATE, after ON
unfoldable pub rules_after_on : Parser (Rule × Rule)
rules_after_on = do
  is_delete ← eat k.Delete
  if is_delete then (do
    d ← rule
    u ← rule_on k.Update
    pure (d, u)) else (do
      expect k.Update
      u ← rule
      d ← rule_on k.Delete
      pure (d, u))

unfoldable pub both_rules : Parser (Rule × Rule)
both_rules = do
  is_said ← eat k.On
  if is_said then rules_after_on else pure (rules.NoAction, rules.NoAction)

abbrev pub matching_by : Kind → Parser Matching
matching_by k.Simple = skip >> pure matchings.Simple
matching_by k.Full = skip >> pure matchings.Full
matching_by k.Partial = skip >> pure matchings.Partial
matching_by _ = refuse

-- after MATCH
unfoldable pub matching_said : Parser Matching
matching_said = λ ws. matching_by (peek ws) ws

unfoldable pub matching : Parser Matching
matching = do
  is_said ← eat k.Match
  if is_said then matching_said else pure matchings.Simple

unfoldable pub references : Parser References
references = do
  expect k.References
  t ← object_name
  cs ← names.columns
  m ← matching
  both ← both_rules
  pure (record { table = t; columns = cs; matching = m; on_delete = both.0; on_update = both.1 })

abbrev pub column_constraint_by : ℕ → Kind → Parser ColumnConstraint
column_constraint_by m k.Unique = skip >> pure constraints.Unique
column_constraint_by m k.Primary = skip >> (expect k.Key >> pure constraints.PrimaryKey)
column_constraint_by m k.Check = constraints.Check <$> check false m
column_constraint_by m _ = constraints.References <$> references

unfoldable pub column_constraint : ℕ → Parser ColumnConstraint
column_constraint m = λ ws. column_constraint_by m (peek ws) ws

unfoldable pub column_option : ℕ → Parser ColumnOption
column_option m = do
  is_default ← eat k.Default
  if is_default then options.Default <$> types.default else (do
    is_not ← eat k.Not
    if is_not then (expect k.Null >> pure options.NotNull) else (do
      n ← constraint_name
      options.Constraint n <$> column_constraint m))

-- the words with which an option begins
abbrev pub begins_option : Kind → Bool
begins_option k.Default = true
begins_option k.Not = true
begins_option k.Constraint = true
begins_option k.Primary = true
begins_option k.Unique = true
begins_option k.References = true
begins_option k.Check = true
begins_option _ = false

unfoldable pub column_options : ℕ → Parser (List ColumnOption)
column_options m = repeated begins_option (column_option m)

unfoldable pub column_type : ℕ → Parser ColumnType
column_type m = λ ws. if sees_name ws then (bases.Domain <$> object_name) ws else (bases.Type <$> sql_type m) ws

unfoldable pub fitting_options : NameBytes → ColumnType → List ColumnOption → Parser ColumnDefinition
fitting_options n t os = λ ws. if has_one_default os then Some (record { column = n; sort = t; options = os }, ws) else None

unfoldable pub column_definition : ℕ → Parser ColumnDefinition
column_definition m = do
  n ← identifier
  t ← column_type m
  os ← column_options m
  fitting_options n t os

unfoldable pub column_list : Parser (List NameBytes)
column_list = do
  expect k.LeftParen
  ns ← identifiers
  expect k.RightParen
  pure ns

abbrev pub table_constraint_by : ℕ → Kind → Parser TableConstraintKind
table_constraint_by m k.Primary = skip >> (expect k.Key >> kinds.PrimaryKey <$> column_list)
table_constraint_by m k.Unique = skip >> kinds.Unique <$> column_list
table_constraint_by m k.Foreign = skip >> (do
  expect k.Key
  ns ← column_list
  kinds.ForeignKey ns <$> references)
table_constraint_by m k.Check = kinds.Check <$> check false m
table_constraint_by m _ = refuse

unfoldable pub table_constraint_kind : ℕ → Parser TableConstraintKind
table_constraint_kind m = λ ws. table_constraint_by m (peek ws) ws

unfoldable pub table_constraint : ℕ → Parser TableConstraint
table_constraint m = do
  n ← constraint_name
  c ← table_constraint_kind m
  pure (record { name = n; kind = c })

unfoldable pub table_element : ℕ → Parser TableElement
table_element m = λ ws. if sees_name ws then (elements.Column <$> column_definition m) ws else (elements.Constraint <$> table_constraint m) ws

unfoldable pub table_elements : ℕ → Parser (List TableElement)
table_elements m = do
  expect k.LeftParen
  es ← separated k.Comma (table_element m)
  expect k.RightParen
  pure es
