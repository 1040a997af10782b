-- Queries. Each rule relates what is spelled, the words that begin with it, and the words after it.
use Rattle.std.specs.Prelude.{Bool, true, false, List, [], Option, Some, None}
use Rattle.sql_names.specs.NameBytes.{NameBytes}
use Rattle.sql_names.specs.declared.column.ObjectName.{ObjectName}
use Rattle.sql_names.specs.declared.column.Reference.{Reference}
use Rattle.sql_names.specs.declared.column.Reference.TheVariants as references
use Rattle.sql_names.specs.declared.column.TableReference.{TableReference}
use Rattle.sql_tree.specs.declared.expr.Chain.{Chain, roll-Chain}
use Rattle.sql_tree.specs.declared.expr.Expr.{Expr}
use Rattle.sql_tree.specs.declared.expr.Further.{Further, roll-Further}
use Rattle.sql_tree.specs.declared.expr.Join.{Join}
use Rattle.sql_tree.specs.declared.expr.Join.TheVariants as joins
use Rattle.sql_tree.specs.declared.expr.Query.{Query, roll-Query}
use Rattle.sql_tree.specs.declared.expr.Select.{Select, roll-Select}
use Rattle.sql_tree.specs.declared.expr.SelectItem.{SelectItem}
use Rattle.sql_tree.specs.declared.expr.SelectItem.TheVariants as items
use Rattle.sql_tree.specs.declared.expr.SelectList.{SelectList}
use Rattle.sql_tree.specs.declared.expr.SelectList.TheVariants as lists
use Rattle.sql_tree.specs.declared.expr.SetOperator.{SetOperator}
use Rattle.sql_tree.specs.declared.expr.SetOperator.TheVariants as operators
use Rattle.sql_spelling.specs.declared.kind.Kind.TheVariants as k
use Rattle.sql_words.specs.declared.word.Word.{Word}
use Rattle.sql_phrases.specs.NameRules.{SpellsIdentifier, SpellsObjectName}
use Rattle.sql_phrases.specs.Shapes.{Spelled, Token, Separated, Repeated, Optional, Marked}

-- ref := name | name . name
pub data SpellsReference : Reference → List Word → List Word → Type 0 where
  unqualified : {n : NameBytes} {ws rest : List Word} → SpellsIdentifier n ws rest → SpellsReference (references.Unqualified n) ws rest
  qualified : {q n : NameBytes} {ws a b rest : List Word} → SpellsIdentifier q ws a → Token k.Period a b → SpellsIdentifier n b rest → SpellsReference (references.Qualified q n) ws rest

-- [[AS] name]
pub data SpellsAlias : Option NameBytes → List Word → List Word → Type 0 where
  no_alias : {ws : List Word} → SpellsAlias None ws ws
  alias : {as_said : Bool} {n : NameBytes} {ws a rest : List Word} → Marked k.As as_said ws a → SpellsIdentifier n a rest → SpellsAlias (Some n) ws rest

-- tab := obj [[AS] name]
pub data SpellsTableReference : TableReference → List Word → List Word → Type 0 where
  table_reference : {t : ObjectName} {n : Option NameBytes} {ws a rest : List Word} → SpellsObjectName t ws a → SpellsAlias n a rest
      → SpellsTableReference (record { table = t; correlation = n }) ws rest

-- [DISTINCT | ALL], and whether DISTINCT stands there
pub data SpellsQuantifier : Bool → List Word → List Word → Type 0 where
  no_quantifier : {ws : List Word} → SpellsQuantifier false ws ws
  all : {ws rest : List Word} → Token k.All ws rest → SpellsQuantifier false ws rest
  distinct : {ws rest : List Word} → Token k.Distinct ws rest → SpellsQuantifier true ws rest

-- UNION | EXCEPT
pub data SpellsSetOperator : SetOperator → List Word → List Word → Type 0 where
  union : {ws rest : List Word} → Token k.Union ws rest → SpellsSetOperator operators.Union ws rest
  except : {ws rest : List Word} → Token k.Except ws rest → SpellsSetOperator operators.Except ws rest

-- [GROUP BY ref,..]
pub data SpellsGrouping : List Reference → List Word → List Word → Type 0 where
  no_grouping : {ws : List Word} → SpellsGrouping [] ws ws
  group_by : {rs : List Reference} {ws a b rest : List Word} → Token k.Group ws a → Token k.By a b → Separated k.Comma SpellsReference rs b rest → SpellsGrouping rs ws rest

-- `Whole` relates the expressions of these queries
module _ (Whole : Spelled Expr) where
  -- item := expr [[AS] name] | name . '*'
  pub data SpellsSelectItem : SelectItem → List Word → List Word → Type 0 where
    expr_item : {e : Expr} {n : Option NameBytes} {ws a rest : List Word} → Whole e ws a → SpellsAlias n a rest → SpellsSelectItem (items.Expr e n) ws rest
    qualified_star : {q : NameBytes} {ws a b rest : List Word} → SpellsIdentifier q ws a → Token k.Period a b → Token k.Asterisk b rest → SpellsSelectItem (items.QualifiedStar q) ws rest

  -- '*' | item,..
  pub data SpellsSelectList : SelectList → List Word → List Word → Type 0 where
    star : {ws rest : List Word} → Token k.Asterisk ws rest → SpellsSelectList lists.Star ws rest
    listed : {xs : List SelectItem} {ws rest : List Word} → Separated k.Comma SpellsSelectItem xs ws rest → SpellsSelectList (lists.Listed xs) ws rest

  -- [INNER] JOIN tab ON expr | CROSS JOIN tab
  pub data SpellsJoin : Join → List Word → List Word → Type 0 where
    inner_join : {inner_said : Bool} {t : TableReference} {e : Expr} {ws a b c d rest : List Word} → Marked k.Inner inner_said ws a → Token k.Join a b → SpellsTableReference t b c
        → Token k.On c d → Whole e d rest → SpellsJoin (joins.Inner t e) ws rest
    cross_join : {t : TableReference} {ws a b rest : List Word} → Token k.Cross ws a → Token k.Join a b → SpellsTableReference t b rest → SpellsJoin (joins.Cross t) ws rest

  -- chain := tab {[INNER] JOIN tab ON expr | CROSS JOIN tab}
  pub data SpellsChain : Chain → List Word → List Word → Type 0 where
    chain : {t : TableReference} {js : List Join} {ws a rest : List Word} → SpellsTableReference t ws a → Repeated SpellsJoin js a rest
        → SpellsChain (roll-Chain (record { first = t; joins = js })) ws rest

  -- select := SELECT [DISTINCT | ALL] ('*' | item,..) FROM chain,.. [WHERE expr] [GROUP BY ref,..]
  pub data SpellsSelect : Select → List Word → List Word → Type 0 where
    select : {d : Bool} {l : SelectList} {cs : List Chain} {w : Option Expr} {rs : List Reference} {ws a b c e f g rest : List Word} → Token k.Select ws a → SpellsQuantifier d a b
        → SpellsSelectList l b c → Token k.From c e → Separated k.Comma SpellsChain cs e f → Optional k.Where Whole w f g → SpellsGrouping rs g rest
        → SpellsSelect (roll-Select (record { distinct = d; list = l; from = cs; filter = w; group_by = rs })) ws rest

  -- (UNION | EXCEPT) [ALL] select
  pub data SpellsFurther : Further → List Word → List Word → Type 0 where
    further : {o : SetOperator} {all_said : Bool} {s : Select} {ws a b rest : List Word} → SpellsSetOperator o ws a → Marked k.All all_said a b → SpellsSelect s b rest
        → SpellsFurther (roll-Further (record { by = o; all = all_said; select = s })) ws rest

  -- query := select {(UNION | EXCEPT) [ALL] select}, from left to right
  pub data SpellsQuery : Query → List Word → List Word → Type 0 where
    query : {s : Select} {fs : List Further} {ws a rest : List Word} → SpellsSelect s ws a → Repeated SpellsFurther fs a rest
        → SpellsQuery (roll-Query (record { first = s; others = fs })) ws rest
