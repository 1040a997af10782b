-- The words behind a phrase are words of the text as well.
use Rattle.std.proofs.Common.{ℕ, suc, ◌<◌, ◌≤◌, Bool, false, List, [], ◌∷◌, ◌++◌, Option, subst, arith}
use Rattle.sql_names.specs.declared.column.ObjectName.{ObjectName}
use Rattle.sql_tree.specs.declared.expr.Expr.{Expr}
use Rattle.sql_tree.specs.declared.table.ColumnConstraint.{ColumnConstraint}
use Rattle.sql_tree.specs.declared.table.ColumnType.{ColumnType}
use Rattle.sql_tree.specs.declared.table.Matching.{Matching}
use Rattle.sql_tree.specs.declared.table.References.{References}
use Rattle.sql_tree.specs.declared.table.Rule.{Rule}
use Rattle.sql_tree.specs.declared.table.TableElement.{TableElement}
use Rattle.sql_words.specs.WordForms.{AreWords}
use Rattle.sql_spelling.specs.declared.kind.Kind.{Kind}
use Rattle.sql_spelling.specs.declared.kind.Kind.TheVariants as k
use Rattle.sql_words.specs.declared.word.Word.{Word}
use Rattle.sql_phrases.specs.Shapes.{Token, token, Optional, left_out, said, Marked, absent, present}
use Rattle.sql_phrases.specs.NameRules.{SpellsIdentifier, SpellsObjectName, SpellsColumns}
use Rattle.sql_expressions.proofs.Depths.{Peak, peak_identifier}
use Rattle.sql_expressions.proofs.DepthProofs.{peak_object_name, deep_type}
use Rattle.sql_definitions.specs.CheckRules.{SpellsCheck}
use Rattle.sql_definitions.specs.TableRules as tables
use Rattle.sql_definitions.proofs.DefinitionDepths.{deep_columns, deep_check, deep_column_definition, deep_table_constraint}

behind : (front rest : List Word) → AreWords (front ++ rest) → AreWords rest
behind [] rest are = are
behind (w ∷ front) rest are = behind front rest are.1

-- behind words in front
pub kept : {c : ℕ} {ws rest : List Word} → Peak c ws rest → AreWords ws → AreWords rest
kept {rest = rest} p are = behind p.front rest (subst AreWords p.splits are)

pub kept_token : {by : Kind} {ws rest : List Word} → Token by ws rest → AreWords ws → AreWords rest
kept_token (token h) are = are.1

pub kept_marked : {by : Kind} {is_said : Bool} {ws rest : List Word} → Marked by is_said ws rest → AreWords ws → AreWords rest
kept_marked absent are = are
kept_marked (present t) are = kept_token t are

kept_two : {first second : Kind} {ws a rest : List Word} → Token first ws a → Token second a rest → AreWords ws → AreWords rest
kept_two t u are = kept_token u (kept_token t are)

pub kept_identifier : {n : List ℕ} {ws rest : List Word} → SpellsIdentifier n ws rest → AreWords ws → AreWords rest
kept_identifier i are = kept (peak_identifier i) are

pub kept_name : {n : Option (List ℕ)} {ws rest : List Word} → Optional k.Constraint SpellsIdentifier n ws rest → AreWords ws → AreWords rest
kept_name left_out are = are
kept_name (said t i) are = kept_identifier i (kept_token t are)

pub kept_object : {o : ObjectName} {ws rest : List Word} → SpellsObjectName o ws rest → AreWords ws → AreWords rest
kept_object o are = kept (peak_object_name o) are

-- ---- columns

pub kept_type : {m : ℕ} {t : ColumnType} {ws rest : List Word} → tables.SpellsColumnType m t ws rest → AreWords ws → AreWords rest
kept_type (tables.of_type t) are = kept (deep_type t).peak are
kept_type (tables.of_domain o) are = kept_object o are

kept_rule : {r : Rule} {ws rest : List Word} → tables.SpellsRule r ws rest → AreWords ws → AreWords rest
kept_rule (tables.cascade t) are = kept_token t are
kept_rule (tables.set_null t u) are = kept_two t u are
kept_rule (tables.set_default t u) are = kept_two t u are
kept_rule (tables.restrict t) are = kept_token t are
kept_rule (tables.no_action t u) are = kept_two t u are

kept_rules : {d u : Rule} {ws rest : List Word} → tables.SpellsRules d u ws rest → AreWords ws → AreWords rest
kept_rules tables.no_rules are = are
kept_rules (tables.on_delete o t r) are = kept_rule r (kept_two o t are)
kept_rules (tables.on_update o t r) are = kept_rule r (kept_two o t are)
kept_rules (tables.on_delete_update o t r p u s) are = kept_rule s (kept_two p u (kept_rule r (kept_two o t are)))
kept_rules (tables.on_update_delete o t r p u s) are = kept_rule s (kept_two p u (kept_rule r (kept_two o t are)))

kept_matching : {m : Matching} {ws rest : List Word} → tables.SpellsMatching m ws rest → AreWords ws → AreWords rest
kept_matching tables.no_match are = are
kept_matching (tables.simple t u) are = kept_two t u are
kept_matching (tables.full t u) are = kept_two t u are
kept_matching (tables.partial t u) are = kept_two t u are

kept_columns : {cs : List (List ℕ)} {ws rest : List Word} → SpellsColumns cs ws rest → AreWords ws → AreWords rest
kept_columns cs are = let lt : 0 < 1 = omega arith in kept (deep_columns lt cs).peak are

kept_references : {r : References} {ws rest : List Word} → tables.SpellsReferences r ws rest → AreWords ws → AreWords rest
kept_references (tables.references t o cs m u) are = kept_rules u (kept_matching m (kept_columns cs (kept_object o (kept_token t are))))

module _ {m : ℕ} where
  le : m ≤ suc m
  le = omega arith

  lt : 0 < suc m
  lt = omega arith

  kept_check : {e : Expr} {ws rest : List Word} → SpellsCheck false m e ws rest → AreWords ws → AreWords rest
  kept_check {e} {ws} {rest} c are = kept (deep_check le lt false e ws rest c).peak are

  pub kept_constraint : {c : ColumnConstraint} {ws rest : List Word} → tables.SpellsColumnConstraint m c ws rest → AreWords ws → AreWords rest
  kept_constraint (tables.primary_key t u) are = kept_two t u are
  kept_constraint (tables.unique t) are = kept_token t are
  kept_constraint (tables.refers r) are = kept_references r are
  kept_constraint (tables.column_check c) are = kept_check c are

  pub kept_element : {e : TableElement} {ws rest : List Word} → tables.SpellsTableElement m e ws rest → AreWords ws → AreWords rest
  kept_element (tables.column c) are = kept (deep_column_definition le lt c).peak are
  kept_element (tables.table_constraint_element c) are = kept (deep_table_constraint le lt c).peak are
