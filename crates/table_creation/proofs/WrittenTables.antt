-- Conditions of the checks that the words of CREATE TABLE spell are formed.
use Rattle.std.proofs.Common.{ℕ, false, List, [], All}
use Rattle.std.proofs.lemmas.List.Elements.{All-nil, All-cons, All-append, All-contains}
use Rattle.std.specs.List.{Contains, flat_map}
use Rattle.sql_tree.specs.declared.expr.Expr.{Expr}
use Rattle.sql_tree.specs.declared.statement.CreateTable.{CreateTable}
use Rattle.sql_tree.specs.declared.statement.Statement.TheVariants as statements
use Rattle.sql_tree.specs.declared.table.ColumnConstraint.{ColumnConstraint}
use Rattle.sql_tree.specs.declared.table.ColumnDefinition.{ColumnDefinition}
use Rattle.sql_tree.specs.declared.table.ColumnOption.{ColumnOption}
use Rattle.sql_tree.specs.declared.table.TableConstraint.{TableConstraint}
use Rattle.sql_tree.specs.declared.table.TableConstraintKind.{TableConstraintKind}
use Rattle.sql_tree.specs.declared.table.TableConstraintKind.TheVariants as kinds
use Rattle.sql_tree.specs.declared.table.TableElement.{TableElement}
use Rattle.sql_words.specs.WordForms.{AreWords}
use Rattle.sql_spelling.specs.declared.kind.Kind.TheVariants as k
use Rattle.sql_words.specs.declared.word.Word.{Word}
use Rattle.sql_phrases.specs.Shapes.{Separated, one, more, Repeated, no_more, again}
use Rattle.sql_definitions.specs.CheckRules.{SpellsCheck, check}
use Rattle.sql_definitions.specs.TableRules as tables
use Rattle.sql_definitions.proofs.DefinitionDepths.{peak_default}
use Rattle.sql_grammar.specs.StatementRules.{SpellsStatement, create_table}
use Rattle.cat_items.specs.Pieces.{AreFormed, expr_pieces}
use Rattle.table_parts.specs.declared.parts.Part.{Part}
use Rattle.table_parts.specs.declared.parts.Part.TheVariants as parts
use Rattle.table_parts.specs.Parts.{own_kind, option_parts, column_parts, element_parts, parts_in}
use Rattle.statement_forms.specs.Written.{IsWritten}
use Rattle.statement_forms.proofs.FormedTrees.{formed_expr}
use Rattle.statement_forms.proofs.KeptWords.{kept, kept_token, kept_identifier, kept_name, kept_object, kept_type, kept_constraint, kept_element}

-- the condition of a check has texts, numbers and types of their forms
abbrev pub IsFormedKind : TableConstraintKind → Type 0
IsFormedKind (kinds.Check condition) = AreFormed (expr_pieces condition)
IsFormedKind kind = Unit {0}

abbrev pub IsFormedPart : Part → Type 0
IsFormedPart (parts.Column d) = Unit {0}
IsFormedPart (parts.Constraint k) = IsFormedKind k.kind

module _ {m : ℕ} where
  check-form : {e : Expr} {ws rest : List Word} → SpellsCheck false m e ws rest → AreWords ws → AreFormed (expr_pieces e)
  check-form {e} (check t l x r) are = formed_expr false m e _ _ (kept_token l (kept_token t are)) x

  own-form : (column : List ℕ) {c : ColumnConstraint} {ws rest : List Word} → tables.SpellsColumnConstraint m c ws rest → AreWords ws → IsFormedKind (own_kind column c)
  own-form column (tables.primary_key t u) are = tt
  own-form column (tables.unique t) are = tt
  own-form column (tables.refers r) are = tt
  own-form column (tables.column_check c) are = check-form c are

  options-form : (column : List ℕ) {os : List ColumnOption} {ws rest : List Word} → Repeated (tables.SpellsColumnOption m) os ws rest → AreWords ws → All IsFormedPart (flat_map (option_parts column) os)
  options-form column no_more are = All-nil IsFormedPart
  options-form column (again (tables.default_option t d) os) are = options-form column os (kept (peak_default d) (kept_token t are))
  options-form column (again (tables.not_null t u) os) are = options-form column os (kept_token u (kept_token t are))
  options-form column (again {xs = others} (tables.constraint {n = n} {c = c} s x) os) are =
      All-cons IsFormedPart (parts.Constraint (record { name = n; kind = own_kind column c })) (flat_map (option_parts column) others) (own-form column x (kept_name s are))
      (options-form column os (kept_constraint x (kept_name s are)))

  kind-form : {c : TableConstraintKind} {ws rest : List Word} → tables.SpellsTableConstraintKind m c ws rest → AreWords ws → IsFormedKind c
  kind-form (tables.primary_key_of t u ns) are = tt
  kind-form (tables.unique_of t ns) are = tt
  kind-form (tables.foreign_key_of t u ns r) are = tt
  kind-form (tables.check_of c) are = check-form c are

  pub column-form : {c : ColumnDefinition} {ws rest : List Word} → tables.SpellsColumnDefinition m c ws rest → AreWords ws → All IsFormedPart (column_parts c)
  column-form (tables.column_definition {n = n} {t = t} {os = os} i s o one_default) are =
      All-cons IsFormedPart (parts.Column (record { column = n; sort = t; options = os })) (flat_map (option_parts n) os) tt (options-form n o (kept_type s (kept_identifier i are)))

  pub constraint-form : {c : TableConstraint} {ws rest : List Word} → tables.SpellsTableConstraint m c ws rest → AreWords ws → IsFormedPart (parts.Constraint c)
  constraint-form (tables.table_constraint n c) are = kind-form c (kept_name n are)

  element-form : {e : TableElement} {ws rest : List Word} → tables.SpellsTableElement m e ws rest → AreWords ws → All IsFormedPart (element_parts e)
  element-form (tables.column c) are = column-form c are
  element-form (tables.table_constraint_element {c = c} i) are = All-cons IsFormedPart (parts.Constraint c) [] (constraint-form i are) (All-nil IsFormedPart)

  elements-form : {es : List TableElement} {ws rest : List Word} → Separated k.Comma (tables.SpellsTableElement m) es ws rest → AreWords ws → All IsFormedPart (parts_in es)
  elements-form (one {x = e} i) are = All-append IsFormedPart (element_parts e) [] (element-form i are) (All-nil IsFormedPart)
  elements-form (more {x = e} {xs = es} i t s) are =
      All-append IsFormedPart (element_parts e) (parts_in es) (element-form i are) (elements-form s (kept_token t (kept_element i are)))

  list-form : {es : List TableElement} {ws rest : List Word} → tables.SpellsTableElements m es ws rest → AreWords ws → All IsFormedPart (parts_in es)
  list-form (tables.table_elements l s r) are = elements-form s (kept_token l are)

statement-form : {most : ℕ} {s : CreateTable} {ws rest : List Word} → SpellsStatement most (statements.CreateTable s) ws rest → AreWords ws → All IsFormedPart (parts_in s.elements)
statement-form (create_table t u o es) are = list-form es (kept_object o (kept_token u (kept_token t are)))

pub formed_parts : (s : CreateTable) → IsWritten (statements.CreateTable s) → (part : Part) → Contains (parts_in s.elements) part → IsFormedPart part
formed_parts s written part among = All-contains IsFormedPart (parts_in s.elements) part (statement-form written.2 written.1) among
