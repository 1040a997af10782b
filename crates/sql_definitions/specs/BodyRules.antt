-- What procedures do.
use Rattle.std.specs.Prelude.{ℕ, ◌-◌, false, List, [], ◌∷◌, Option}
use Rattle.sql_names.specs.NameBytes.{NameBytes}
use Rattle.sql_tree.specs.declared.body.Act.{Act}
use Rattle.sql_tree.specs.declared.body.Act.TheVariants as acts
use Rattle.sql_tree.specs.declared.body.AssignedValue.{AssignedValue}
use Rattle.sql_tree.specs.declared.body.AssignedValue.TheVariants as values
use Rattle.sql_tree.specs.declared.body.Assignment.{Assignment}
use Rattle.sql_tree.specs.declared.body.InsertSource.{InsertSource}
use Rattle.sql_tree.specs.declared.body.InsertSource.TheVariants as sources
use Rattle.sql_names.specs.declared.column.ObjectName.{ObjectName}
use Rattle.sql_tree.specs.declared.expr.Expr.{Expr}
use Rattle.sql_tree.specs.declared.expr.Query.{Query}
use Rattle.sql_spelling.specs.declared.kind.Kind.TheVariants as k
use Rattle.sql_words.specs.declared.word.Word.{Word}
use Rattle.sql_phrases.specs.Shapes.{Token, Separated, Repeated, Optional}
use Rattle.sql_phrases.specs.NameRules.{SpellsIdentifier, SpellsObjectName, SpellsColumns}
use Rattle.sql_expressions.specs.ExpressionRules.{SpellsExprWithin, SpellsQueryWithin}

-- expr | NULL | DEFAULT, with fewer than m brackets open
pub data SpellsAssignedValue (m : ℕ) : AssignedValue → List Word → List Word → Type 0 where
  null_value : {ws rest : List Word} → Token k.Null ws rest → SpellsAssignedValue m values.Null ws rest
  default_value : {ws rest : List Word} → Token k.Default ws rest → SpellsAssignedValue m values.Default ws rest
  expr_value : {e : Expr} {ws rest : List Word} → SpellsExprWithin false m e ws rest → SpellsAssignedValue m (values.Expr e) ws rest

-- at most this many brackets may be open at one word, of which BEGIN is one
module _ (most : ℕ) where
  -- name = (expr | NULL | DEFAULT)
  pub data SpellsAssignment : Assignment → List Word → List Word → Type 0 where
    assignment : {c : NameBytes} {v : AssignedValue} {ws a b rest : List Word} → SpellsIdentifier c ws a → Token k.Equals a b → SpellsAssignedValue most v b rest
        → SpellsAssignment (record { column = c; value = v }) ws rest

  -- VALUES '(' (expr | NULL | DEFAULT),.. ')' | query
  pub data SpellsInsertSource : InsertSource → List Word → List Word → Type 0 where
    values_source : {vs : List AssignedValue} {ws a b c rest : List Word} → Token k.Values ws a → Token k.LeftParen a b → Separated k.Comma (SpellsAssignedValue (most - 1)) vs b c → Token k.RightParen c rest
        → SpellsInsertSource (sources.Values vs) ws rest
    query_source : {q : Query} {ws rest : List Word} → SpellsQueryWithin false most q ws rest → SpellsInsertSource (sources.Query q) ws rest

  -- '(' [expr,..] ')'
  pub data SpellsArguments : List Expr → List Word → List Word → Type 0 where
    no_arguments : {ws a rest : List Word} → Token k.LeftParen ws a → Token k.RightParen a rest → SpellsArguments [] ws rest
    arguments : {es : List Expr} {ws a b rest : List Word} → Token k.LeftParen ws a → Separated k.Comma (SpellsExprWithin false (most - 1)) es a b → Token k.RightParen b rest → SpellsArguments es ws rest

  pub data SpellsAct : Act → List Word → List Word → Type 0 where
    -- INSERT INTO obj ['(' name,.. ')'] (VALUES '(' (expr | NULL | DEFAULT),.. ')' | query)
    insert : {t : ObjectName} {cs : List NameBytes} {s : InsertSource} {ws a b c d rest : List Word} → Token k.Insert ws a → Token k.Into a b → SpellsObjectName t b c → SpellsColumns cs c d
        → SpellsInsertSource s d rest → SpellsAct (acts.Insert t cs s) ws rest
    -- UPDATE obj SET (name = (expr | NULL | DEFAULT)),.. [WHERE expr]
    update : {t : ObjectName} {xs : List Assignment} {filter : Option Expr} {ws a b c d rest : List Word} → Token k.Update ws a → SpellsObjectName t a b → Token k.Set b c
        → Separated k.Comma SpellsAssignment xs c d → Optional k.Where (SpellsExprWithin false most) filter d rest → SpellsAct (acts.Update t xs filter) ws rest
    -- DELETE FROM obj [WHERE expr]
    delete : {t : ObjectName} {filter : Option Expr} {ws a b c rest : List Word} → Token k.Delete ws a → Token k.From a b → SpellsObjectName t b c
        → Optional k.Where (SpellsExprWithin false most) filter c rest → SpellsAct (acts.Delete t filter) ws rest
    -- CALL obj '(' [expr,..] ')'
    call : {r : ObjectName} {es : List Expr} {ws a b rest : List Word} → Token k.Call ws a → SpellsObjectName r a b → SpellsArguments es b rest → SpellsAct (acts.Call r es) ws rest

  -- act ';'
  pub data SpellsEndedAct : Act → List Word → List Word → Type 0 where
    ended : {x : Act} {ws a rest : List Word} → SpellsAct x ws a → Token k.Semicolon a rest → SpellsEndedAct x ws rest

  -- act ';' {act ';'}
  pub data SpellsActs : List Act → List Word → List Word → Type 0 where
    acts_in_order : {x : Act} {xs : List Act} {ws rest : List Word} → Repeated SpellsEndedAct (x ∷ xs) ws rest → SpellsActs (x ∷ xs) ws rest
