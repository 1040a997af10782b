-- A table that the words of a text create has its forms.
use Rattle.std.proofs.Common.{◌<◌, ℕ, List, [], ◌∷◌, length, All, arith}
use Rattle.std.proofs.lemmas.List.Elements.{All-nil, All-cons, All-append, All-contains}
use Rattle.std.specs.List.{flat_map}
use Rattle.sql_tree.specs.declared.statement.CreateTable.{CreateTable}
use Rattle.sql_tree.specs.declared.statement.Statement.TheVariants as statements
use Rattle.sql_tree.specs.declared.table.ColumnConstraint.{ColumnConstraint}
use Rattle.sql_tree.specs.declared.table.ColumnConstraint.TheVariants as own
use Rattle.sql_tree.specs.declared.table.ColumnDefinition.{ColumnDefinition}
use Rattle.sql_tree.specs.declared.table.ColumnOption.{ColumnOption}
use Rattle.sql_tree.specs.declared.table.ColumnOption.TheVariants as options
use Rattle.sql_tree.specs.declared.table.ColumnType.{ColumnType}
use Rattle.sql_tree.specs.declared.table.TableConstraint.{TableConstraint}
use Rattle.sql_tree.specs.declared.table.TableConstraintKind.{TableConstraintKind}
use Rattle.sql_tree.specs.declared.table.TableElement.{TableElement}
use Rattle.sql_words.specs.WordForms.{AreWords}
use Rattle.sql_spelling.specs.declared.kind.Kind.TheVariants as k
use Rattle.sql_words.specs.declared.word.Word.{Word}
use Rattle.sql_phrases.specs.NameRules.{SpellsIdentifiers}
use Rattle.sql_phrases.specs.Shapes.{Separated, one, more, Repeated, no_more, again}
use Rattle.sql_definitions.specs.TableRules as tables
use Rattle.sql_grammar.specs.StatementRules.{SpellsStatement, create_table}
use Rattle.cat_items.specs.Pieces.{AreResolved, IsResolved, default_pieces}
use Rattle.table_parts.specs.declared.parts.Part.TheVariants as parts
use Rattle.table_parts.specs.Columns.{default_in}
use Rattle.table_parts.specs.Forms.{HasProperSort, HasProperColumns, IsProperPart, HasTableForms}
use Rattle.table_parts.specs.Parts.{own_kind, option_parts, column_parts, element_parts, parts_in}
use Rattle.statement_forms.specs.Written.{IsWritten}
use Rattle.statement_forms.proofs.KeptWords.{kept_token, kept_identifier, kept_name, kept_object, kept_type, kept_constraint, kept_element}
use Rattle.statement_forms.proofs.TypeForms.{type-form}
use Rattle.statement_forms.proofs.DefaultForms.{default-form}

-- a list of names has one
some_names : {ns : List (List ℕ)} {ws rest : List Word} → SpellsIdentifiers ns ws rest → 0 < length ns
some_names (one n) = omega arith
some_names (more n t s) = omega arith

some_columns : {ns : List (List ℕ)} {ws rest : List Word} → tables.SpellsColumnList ns ws rest → 0 < length ns
some_columns (tables.column_list l s r) = some_names s

-- the constraint of one column has that column
own-form : (column : List ℕ) (c : ColumnConstraint) → HasProperColumns (own_kind column c)
own-form column own.PrimaryKey = omega arith
own-form column own.Unique = omega arith
own-form column (own.References r) = omega arith
own-form column (own.Check e) = tt

option-form : (column : List ℕ) (o : ColumnOption) → All IsProperPart (option_parts column o)
option-form column (options.Constraint n c) = All-cons IsProperPart (parts.Constraint (record { name = n; kind = own_kind column c })) [] (own-form column c) (All-nil IsProperPart)
option-form column (options.Default d) = All-nil IsProperPart
option-form column options.NotNull = All-nil IsProperPart

options-form : (column : List ℕ) (os : List ColumnOption) → All IsProperPart (flat_map (option_parts column) os)
options-form column [] = All-nil IsProperPart
options-form column (o ∷ os) = All-append IsProperPart (option_parts column o) (flat_map (option_parts column) os) (option-form column o) (options-form column os)

module _ {m : ℕ} where
  sort-form : {t : ColumnType} {ws rest : List Word} → tables.SpellsColumnType m t ws rest → HasProperSort t
  sort-form (tables.of_type t) = type-form t
  sort-form (tables.of_domain o) = tt

  kind-form : {c : TableConstraintKind} {ws rest : List Word} → tables.SpellsTableConstraintKind m c ws rest → HasProperColumns c
  kind-form (tables.primary_key_of t u ns) = some_columns ns
  kind-form (tables.unique_of t ns) = some_columns ns
  kind-form (tables.foreign_key_of t u ns r) = some_columns ns
  kind-form (tables.check_of c) = tt

  -- the default that is found is the first that is written
  defaults-form : {os : List ColumnOption} {ws rest : List Word} → Repeated (tables.SpellsColumnOption m) os ws rest → AreWords ws → AreResolved (default_pieces (default_in os))
  defaults-form no_more are = All-nil IsResolved
  defaults-form (again (tables.default_option t d) os) are = default-form d (kept_token t are)
  defaults-form (again (tables.not_null t u) os) are = defaults-form os (kept_token u (kept_token t are))
  defaults-form (again (tables.constraint n c) os) are = defaults-form os (kept_constraint c (kept_name n are))

  column-form : {c : ColumnDefinition} {ws rest : List Word} → tables.SpellsColumnDefinition m c ws rest → AreWords ws → All IsProperPart (column_parts c)
  column-form (tables.column_definition {n = n} {t = t} {os = os} i s o one_default) are =
      All-cons IsProperPart (parts.Column (record { column = n; sort = t; options = os })) (flat_map (option_parts n) os)
      (sort-form s, defaults-form o (kept_type s (kept_identifier i are))) (options-form n os)

  constraint-form : {c : TableConstraint} {ws rest : List Word} → tables.SpellsTableConstraint m c ws rest → IsProperPart (parts.Constraint c)
  constraint-form (tables.table_constraint n c) = kind-form c

  element-form : {e : TableElement} {ws rest : List Word} → tables.SpellsTableElement m e ws rest → AreWords ws → All IsProperPart (element_parts e)
  element-form (tables.column c) are = column-form c are
  element-form (tables.table_constraint_element {c = c} i) are = All-cons IsProperPart (parts.Constraint c) [] (constraint-form i) (All-nil IsProperPart)

  elements-form : {es : List TableElement} {ws rest : List Word} → Separated k.Comma (tables.SpellsTableElement m) es ws rest → AreWords ws → All IsProperPart (parts_in es)
  elements-form (one {x = e} i) are = All-append IsProperPart (element_parts e) [] (element-form i are) (All-nil IsProperPart)
  elements-form (more {x = e} {xs = es} i t s) are =
      All-append IsProperPart (element_parts e) (parts_in es) (element-form i are) (elements-form s (kept_token t (kept_element i are)))

  list-form : {es : List TableElement} {ws rest : List Word} → tables.SpellsTableElements m es ws rest → AreWords ws → All IsProperPart (parts_in es)
  list-form (tables.table_elements l s r) are = elements-form s (kept_token l are)

statement-form : {most : ℕ} {s : CreateTable} {ws rest : List Word} → SpellsStatement most (statements.CreateTable s) ws rest → AreWords ws → All IsProperPart (parts_in s.elements)
statement-form (create_table t u o es) are = list-form es (kept_object o (kept_token u (kept_token t are)))

pub table_forms : (s : CreateTable) → IsWritten (statements.CreateTable s) → HasTableForms s.elements
table_forms s written part among = All-contains IsProperPart (parts_in s.elements) part (statement-form written.2 written.1) among
