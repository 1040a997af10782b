-- Reading ALTER TABLE and ALTER DOMAIN.
use Rattle.std.specs.Prelude.{if◌then◌else◌}
use Rattle.sql_names.specs.NameBytes.{NameBytes}
use Rattle.sql_names.specs.declared.sort.Default.{Default}
use Rattle.sql_tree.specs.declared.statement.AlterDomainAction.{AlterDomainAction}
use Rattle.sql_tree.specs.declared.statement.AlterDomainAction.TheVariants as domains
use Rattle.sql_tree.specs.declared.statement.AlterTableAction.{AlterTableAction}
use Rattle.sql_tree.specs.declared.statement.AlterTableAction.TheVariants as tables
use Rattle.sql_spelling.specs.declared.kind.Kind.TheVariants as k
use Rattle.sql_phrases.specs.Parsers.{Parser, ◌>>=◌, ◌>>◌, ◌<$>◌, pure, eat, expect}
use Rattle.sql_phrases.specs.NameParsers.{identifier, sees_name}
use Rattle.sql_grammar.specs.RightsParsers.{behaviour}
use Rattle.sql_phrases.specs.TypeParsers as types
use Rattle.sql_definitions.specs.CheckParsers.{domain_check}
use Rattle.sql_definitions.specs.TableParsers.{column_definition, table_constraint}

unfoldable pub column_name : Parser NameBytes
column_name = do
  _ ← eat k.Column
  identifier

-- after SET
unfoldable pub new_default : Parser Default
new_default = expect k.Default >> types.default

-- after ALTER TABLE obj ALTER
unfoldable pub alter_column : Parser AlterTableAction
alter_column = do
  c ← column_name
  is_set ← eat k.Set
  if is_set then tables.SetDefault c <$> new_default else (do
    expect k.Drop
    expect k.Default
    pure (tables.DropDefault c))

-- after ALTER TABLE obj DROP
unfoldable pub drop_part : Parser AlterTableAction
drop_part = do
  is_constraint ← eat k.Constraint
  if is_constraint then (do
    c ← identifier
    how ← behaviour
    pure (tables.DropConstraint c how)) else (do
      c ← column_name
      how ← behaviour
      pure (tables.DropColumn c how))

-- after ALTER TABLE obj ADD, where COLUMN doesn't stand
unfoldable pub add_other : Parser AlterTableAction
add_other = λ ws. if sees_name ws then (tables.AddColumn <$> column_definition 64) ws else (tables.AddConstraint <$> table_constraint 64) ws

-- after ALTER TABLE obj ADD
unfoldable pub add_part : Parser AlterTableAction
add_part = do
  is_column ← eat k.Column
  if is_column then tables.AddColumn <$> column_definition 64 else add_other

-- after ALTER TABLE obj, where ADD doesn't stand
unfoldable pub alter_or_drop : Parser AlterTableAction
alter_or_drop = do
  is_alter ← eat k.Alter
  if is_alter then alter_column else (expect k.Drop >> drop_part)

unfoldable pub alter_table_action : Parser AlterTableAction
alter_table_action = do
  is_add ← eat k.Add
  if is_add then add_part else alter_or_drop

-- after ALTER DOMAIN obj DROP
unfoldable pub drop_domain_part : Parser AlterDomainAction
drop_domain_part = do
  is_default ← eat k.Default
  if is_default then pure domains.DropDefault else (expect k.Constraint >> domains.DropConstraint <$> identifier)

-- after ALTER DOMAIN obj, where SET doesn't stand
unfoldable pub add_or_drop : Parser AlterDomainAction
add_or_drop = do
  is_add ← eat k.Add
  if is_add then domains.AddCheck <$> domain_check else (expect k.Drop >> drop_domain_part)

unfoldable pub alter_domain_action : Parser AlterDomainAction
alter_domain_action = do
  is_set ← eat k.Set
  if is_set then domains.SetDefault <$> new_default else add_or_drop
