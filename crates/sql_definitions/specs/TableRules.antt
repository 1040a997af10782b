-- Tables: columns and constraints. Of each rule that may open brackets, m says how many of them may be open at once.
use Rattle.std.specs.Prelude.{◌≡◌, ℕ, Bool, true, false, ◌&&◌, not, List, [], ◌∷◌, Option}
use Rattle.sql_names.specs.NameBytes.{NameBytes}
use Rattle.sql_names.specs.declared.column.ObjectName.{ObjectName}
use Rattle.sql_tree.specs.declared.expr.Expr.{Expr}
use Rattle.sql_names.specs.declared.sort.Default.{Default}
use Rattle.sql_names.specs.declared.sort.SqlType.{SqlType}
use Rattle.sql_tree.specs.declared.table.ColumnConstraint.{ColumnConstraint}
use Rattle.sql_tree.specs.declared.table.ColumnConstraint.TheVariants as constraints
use Rattle.sql_tree.specs.declared.table.ColumnDefinition.{ColumnDefinition}
use Rattle.sql_tree.specs.declared.table.ColumnOption.{ColumnOption}
use Rattle.sql_tree.specs.declared.table.ColumnOption.TheVariants as options
use Rattle.sql_tree.specs.declared.table.ColumnType.{ColumnType}
use Rattle.sql_tree.specs.declared.table.ColumnType.TheVariants as bases
use Rattle.sql_tree.specs.declared.table.Matching.{Matching}
use Rattle.sql_tree.specs.declared.table.Matching.TheVariants as matchings
use Rattle.sql_tree.specs.declared.table.References.{References}
use Rattle.sql_tree.specs.declared.table.Rule.{Rule}
use Rattle.sql_tree.specs.declared.table.Rule.TheVariants as rules
use Rattle.sql_tree.specs.declared.table.TableConstraint.{TableConstraint}
use Rattle.sql_tree.specs.declared.table.TableConstraintKind.{TableConstraintKind}
use Rattle.sql_tree.specs.declared.table.TableConstraintKind.TheVariants as kinds
use Rattle.sql_tree.specs.declared.table.TableElement.{TableElement}
use Rattle.sql_tree.specs.declared.table.TableElement.TheVariants as elements
use Rattle.sql_spelling.specs.declared.kind.Kind.TheVariants as k
use Rattle.sql_words.specs.declared.word.Word.{Word}
use Rattle.sql_phrases.specs.Shapes.{Token, Separated, Repeated, Optional}
use Rattle.sql_phrases.specs.NameRules.{SpellsIdentifier, SpellsObjectName, SpellsIdentifiers, SpellsColumns}
use Rattle.sql_phrases.specs.TypeRules.{SpellsType, SpellsDefault}
use Rattle.sql_definitions.specs.CheckRules.{SpellsCheck}

-- rule := CASCADE | SET NULL | SET DEFAULT | RESTRICT | NO ACTION
pub data SpellsRule : Rule → List Word → List Word → Type 0 where
  cascade : {ws rest : List Word} → Token k.Cascade ws rest → SpellsRule rules.Cascade ws rest
  set_null : {ws a rest : List Word} → Token k.Set ws a → Token k.Null a rest → SpellsRule rules.SetNull ws rest
  set_default : {ws a rest : List Word} → Token k.Set ws a → Token k.Default a rest → SpellsRule rules.SetDefault ws rest
  restrict : {ws rest : List Word} → Token k.Restrict ws rest → SpellsRule rules.Restrict ws rest
  no_action : {ws a rest : List Word} → Token k.No ws a → Token k.Action a rest → SpellsRule rules.NoAction ws rest

-- {ON (DELETE | UPDATE) rule}, each at most once: the rules of both, and NO ACTION for one that is left out
pub data SpellsRules : Rule → Rule → List Word → List Word → Type 0 where
  no_rules : {ws : List Word} → SpellsRules rules.NoAction rules.NoAction ws ws
  on_delete : {d : Rule} {ws a b rest : List Word} → Token k.On ws a → Token k.Delete a b → SpellsRule d b rest → SpellsRules d rules.NoAction ws rest
  on_update : {u : Rule} {ws a b rest : List Word} → Token k.On ws a → Token k.Update a b → SpellsRule u b rest → SpellsRules rules.NoAction u ws rest
  on_delete_update : {d u : Rule} {ws a b c e f rest : List Word} → Token k.On ws a → Token k.Delete a b → SpellsRule d b c → Token k.On c e → Token k.Update e f → SpellsRule u f rest → SpellsRules d u ws rest
  on_update_delete : {d u : Rule} {ws a b c e f rest : List Word} → Token k.On ws a → Token k.Update a b → SpellsRule u b c → Token k.On c e → Token k.Delete e f → SpellsRule d f rest → SpellsRules d u ws rest

-- [MATCH (SIMPLE | FULL | PARTIAL)], and SIMPLE where it is left out
pub data SpellsMatching : Matching → List Word → List Word → Type 0 where
  no_match : {ws : List Word} → SpellsMatching matchings.Simple ws ws
  simple : {ws a rest : List Word} → Token k.Match ws a → Token k.Simple a rest → SpellsMatching matchings.Simple ws rest
  full : {ws a rest : List Word} → Token k.Match ws a → Token k.Full a rest → SpellsMatching matchings.Full ws rest
  partial : {ws a rest : List Word} → Token k.Match ws a → Token k.Partial a rest → SpellsMatching matchings.Partial ws rest

-- refs := REFERENCES obj ['(' name,.. ')'] [MATCH (SIMPLE | FULL | PARTIAL)] {ON (DELETE | UPDATE) rule}
pub data SpellsReferences : References → List Word → List Word → Type 0 where
  references : {t : ObjectName} {cs : List NameBytes} {m : Matching} {d u : Rule} {ws a b c e rest : List Word} → Token k.References ws a → SpellsObjectName t a b → SpellsColumns cs b c
      → SpellsMatching m c e → SpellsRules d u e rest
      → SpellsReferences (record { table = t; columns = cs; matching = m; on_delete = d; on_update = u }) ws rest

-- ccon := PRIMARY KEY | UNIQUE | refs | CHECK '(' expr ')'
pub data SpellsColumnConstraint (m : ℕ) : ColumnConstraint → List Word → List Word → Type 0 where
  primary_key : {ws a rest : List Word} → Token k.Primary ws a → Token k.Key a rest → SpellsColumnConstraint m constraints.PrimaryKey ws rest
  unique : {ws rest : List Word} → Token k.Unique ws rest → SpellsColumnConstraint m constraints.Unique ws rest
  refers : {r : References} {ws rest : List Word} → SpellsReferences r ws rest → SpellsColumnConstraint m (constraints.References r) ws rest
  column_check : {e : Expr} {ws rest : List Word} → SpellsCheck false m e ws rest → SpellsColumnConstraint m (constraints.Check e) ws rest

-- DEFAULT default | NOT NULL | [CONSTRAINT name] ccon
pub data SpellsColumnOption (m : ℕ) : ColumnOption → List Word → List Word → Type 0 where
  default_option : {d : Default} {ws a rest : List Word} → Token k.Default ws a → SpellsDefault d a rest → SpellsColumnOption m (options.Default d) ws rest
  not_null : {ws a rest : List Word} → Token k.Not ws a → Token k.Null a rest → SpellsColumnOption m options.NotNull ws rest
  constraint : {n : Option NameBytes} {c : ColumnConstraint} {ws a rest : List Word} → Optional k.Constraint SpellsIdentifier n ws a → SpellsColumnConstraint m c a rest
      → SpellsColumnOption m (options.Constraint n c) ws rest

abbrev pub is_default : ColumnOption → Bool
is_default (options.Default d) = true
is_default _ = false

abbrev pub has_no_default : List ColumnOption → Bool
has_no_default [] = true
has_no_default (o ∷ os) = not (is_default o) && has_no_default os

-- at most one of the options is a DEFAULT
abbrev pub has_one_default : List ColumnOption → Bool
has_one_default [] = true
has_one_default (options.Default d ∷ os) = has_no_default os
has_one_default (_ ∷ os) = has_one_default os

module _ (m : ℕ) where
  -- type | obj
  pub data SpellsColumnType : ColumnType → List Word → List Word → Type 0 where
    of_type : {t : SqlType} {ws rest : List Word} → SpellsType m t ws rest → SpellsColumnType (bases.Type t) ws rest
    of_domain : {d : ObjectName} {ws rest : List Word} → SpellsObjectName d ws rest → SpellsColumnType (bases.Domain d) ws rest

  -- coldef := name (type | obj) {DEFAULT default | NOT NULL | [CONSTRAINT name] ccon}, with at most one DEFAULT
  pub data SpellsColumnDefinition : ColumnDefinition → List Word → List Word → Type 0 where
    column_definition : {n : NameBytes} {t : ColumnType} {os : List ColumnOption} {ws a b rest : List Word} → SpellsIdentifier n ws a → SpellsColumnType t a b → Repeated (SpellsColumnOption m) os b rest
        → has_one_default os ≡ true → SpellsColumnDefinition (record { column = n; sort = t; options = os }) ws rest

-- '(' name,.. ')'
pub data SpellsColumnList : List NameBytes → List Word → List Word → Type 0 where
  column_list : {ns : List NameBytes} {ws a b rest : List Word} → Token k.LeftParen ws a → SpellsIdentifiers ns a b → Token k.RightParen b rest → SpellsColumnList ns ws rest

-- (PRIMARY KEY | UNIQUE) '(' name,.. ')' | FOREIGN KEY '(' name,.. ')' refs | CHECK '(' expr ')'
pub data SpellsTableConstraintKind (m : ℕ) : TableConstraintKind → List Word → List Word → Type 0 where
  primary_key_of : {ns : List NameBytes} {ws a b rest : List Word} → Token k.Primary ws a → Token k.Key a b → SpellsColumnList ns b rest → SpellsTableConstraintKind m (kinds.PrimaryKey ns) ws rest
  unique_of : {ns : List NameBytes} {ws a rest : List Word} → Token k.Unique ws a → SpellsColumnList ns a rest → SpellsTableConstraintKind m (kinds.Unique ns) ws rest
  foreign_key_of : {ns : List NameBytes} {r : References} {ws a b c rest : List Word} → Token k.Foreign ws a → Token k.Key a b → SpellsColumnList ns b c → SpellsReferences r c rest
      → SpellsTableConstraintKind m (kinds.ForeignKey ns r) ws rest
  check_of : {e : Expr} {ws rest : List Word} → SpellsCheck false m e ws rest → SpellsTableConstraintKind m (kinds.Check e) ws rest

-- tcon := [CONSTRAINT name] and what the constraint says
pub data SpellsTableConstraint (m : ℕ) : TableConstraint → List Word → List Word → Type 0 where
  table_constraint : {n : Option NameBytes} {c : TableConstraintKind} {ws a rest : List Word} → Optional k.Constraint SpellsIdentifier n ws a → SpellsTableConstraintKind m c a rest
      → SpellsTableConstraint m (record { name = n; kind = c }) ws rest

-- coldef | tcon
pub data SpellsTableElement (m : ℕ) : TableElement → List Word → List Word → Type 0 where
  column : {c : ColumnDefinition} {ws rest : List Word} → SpellsColumnDefinition m c ws rest → SpellsTableElement m (elements.Column c) ws rest
  table_constraint_element : {c : TableConstraint} {ws rest : List Word} → SpellsTableConstraint m c ws rest → SpellsTableElement m (elements.Constraint c) ws rest

-- '(' (coldef | tcon),.. ')', inside which m brackets may be open
pub data SpellsTableElements (m : ℕ) : List TableElement → List Word → List Word → Type 0 where
  table_elements : {es : List TableElement} {ws a b rest : List Word} → Token k.LeftParen ws a → Separated k.Comma (SpellsTableElement m) es a b → Token k.RightParen b rest
      → SpellsTableElements m es ws rest
