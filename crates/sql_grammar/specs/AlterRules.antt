-- ALTER TABLE and ALTER DOMAIN.
use Rattle.std.specs.Prelude.{ℕ, Bool, List}
use Rattle.sql_names.specs.NameBytes.{NameBytes}
use Rattle.sql_names.specs.declared.sort.Default.{Default}
use Rattle.sql_tree.specs.declared.statement.AlterDomainAction.{AlterDomainAction}
use Rattle.sql_tree.specs.declared.statement.AlterDomainAction.TheVariants as domains
use Rattle.sql_tree.specs.declared.statement.AlterTableAction.{AlterTableAction}
use Rattle.sql_tree.specs.declared.statement.AlterTableAction.TheVariants as tables
use Rattle.sql_tree.specs.declared.statement.Behaviour.{Behaviour}
use Rattle.sql_tree.specs.declared.table.ColumnDefinition.{ColumnDefinition}
use Rattle.sql_tree.specs.declared.table.DomainCheck.{DomainCheck}
use Rattle.sql_tree.specs.declared.table.TableConstraint.{TableConstraint}
use Rattle.sql_spelling.specs.declared.kind.Kind.TheVariants as k
use Rattle.sql_words.specs.declared.word.Word.{Word}
use Rattle.sql_phrases.specs.Shapes.{Token, Marked}
use Rattle.sql_phrases.specs.NameRules.{SpellsIdentifier}
use Rattle.sql_grammar.specs.RightsRules.{SpellsBehaviour}
use Rattle.sql_phrases.specs.TypeRules.{SpellsDefault}
use Rattle.sql_definitions.specs.CheckRules.{SpellsDomainCheck}
use Rattle.sql_definitions.specs.TableRules.{SpellsColumnDefinition, SpellsTableConstraint}

-- [COLUMN] name
pub data SpellsColumnName : NameBytes → List Word → List Word → Type 0 where
  column_name : {c : NameBytes} {marked : Bool} {ws a rest : List Word} → Marked k.Column marked ws a → SpellsIdentifier c a rest → SpellsColumnName c ws rest

-- after ALTER TABLE obj, with at most this many brackets open at one word
pub data SpellsAlterTableAction (most : ℕ) : AlterTableAction → List Word → List Word → Type 0 where
  -- ADD [COLUMN] coldef | ADD tcon
  add_column : {c : ColumnDefinition} {marked : Bool} {ws a b rest : List Word} → Token k.Add ws a → Marked k.Column marked a b → SpellsColumnDefinition most c b rest
      → SpellsAlterTableAction most (tables.AddColumn c) ws rest
  add_constraint : {c : TableConstraint} {ws a rest : List Word} → Token k.Add ws a → SpellsTableConstraint most c a rest → SpellsAlterTableAction most (tables.AddConstraint c) ws rest
  -- ALTER [COLUMN] name (SET DEFAULT default | DROP DEFAULT)
  set_default : {c : NameBytes} {d : Default} {ws a b e f rest : List Word} → Token k.Alter ws a → SpellsColumnName c a b → Token k.Set b e → Token k.Default e f → SpellsDefault d f rest
      → SpellsAlterTableAction most (tables.SetDefault c d) ws rest
  drop_default : {c : NameBytes} {ws a b e rest : List Word} → Token k.Alter ws a → SpellsColumnName c a b → Token k.Drop b e → Token k.Default e rest → SpellsAlterTableAction most (tables.DropDefault c) ws rest
  -- DROP [COLUMN] name [beh]
  drop_column : {c : NameBytes} {how : Behaviour} {ws a b rest : List Word} → Token k.Drop ws a → SpellsColumnName c a b → SpellsBehaviour how b rest → SpellsAlterTableAction most (tables.DropColumn c how) ws rest
  -- DROP CONSTRAINT name [beh]
  drop_constraint : {c : NameBytes} {how : Behaviour} {ws a b e rest : List Word} → Token k.Drop ws a → Token k.Constraint a b → SpellsIdentifier c b e → SpellsBehaviour how e rest
      → SpellsAlterTableAction most (tables.DropConstraint c how) ws rest

-- after ALTER DOMAIN obj, with at most this many brackets open at one word
pub data SpellsAlterDomainAction (most : ℕ) : AlterDomainAction → List Word → List Word → Type 0 where
  -- SET DEFAULT default | DROP DEFAULT | ADD dcheck | DROP CONSTRAINT name
  set_domain_default : {d : Default} {ws a b rest : List Word} → Token k.Set ws a → Token k.Default a b → SpellsDefault d b rest → SpellsAlterDomainAction most (domains.SetDefault d) ws rest
  drop_domain_default : {ws a rest : List Word} → Token k.Drop ws a → Token k.Default a rest → SpellsAlterDomainAction most domains.DropDefault ws rest
  add_domain_check : {c : DomainCheck} {ws a rest : List Word} → Token k.Add ws a → SpellsDomainCheck most c a rest → SpellsAlterDomainAction most (domains.AddCheck c) ws rest
  drop_domain_constraint : {c : NameBytes} {ws a b rest : List Word} → Token k.Drop ws a → Token k.Constraint a b → SpellsIdentifier c b rest → SpellsAlterDomainAction most (domains.DropConstraint c) ws rest
