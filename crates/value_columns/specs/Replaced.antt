-- A condition of a domain as one of a column: the column stands in each place of VALUE, and nothing else is changed (SQL:2003 part 2, 11.30).
use Rattle.sql_names.specs.NameBytes.{NameBytes}
use Rattle.sql_names.specs.declared.object.Object.{Object}
use Rattle.sql_names.specs.declared.column.Reference.{Reference}
use Rattle.sql_names.specs.declared.column.Reference.TheVariants as references
use Rattle.sql_tree.specs.declared.expr.Join.{Join, fold-Join, roll-Join}
use Rattle.sql_tree.specs.declared.expr.Operand.{Operand, fold-Operand, roll-Operand}
use Rattle.sql_tree.specs.declared.expr.SelectItem.{SelectItem, fold-SelectItem, roll-SelectItem}
use Rattle.sql_tree.specs.declared.expr.SelectList.{SelectList, fold-SelectList, roll-SelectList}
use Rattle.sql_tree.specs.declared.expr.Tail.{Tail, fold-Tail, roll-Tail}
use Rattle.sql_tree.specs.declared.expr.Added.{Added, fold-Added, roll-Added}
use Rattle.sql_tree.specs.declared.expr.Arm.{Arm, fold-Arm, roll-Arm}
use Rattle.sql_tree.specs.declared.expr.Chain.{Chain, fold-Chain, roll-Chain}
use Rattle.sql_tree.specs.declared.expr.Conjunction.{Conjunction, fold-Conjunction, roll-Conjunction}
use Rattle.sql_tree.specs.declared.expr.Expr.{Expr, fold-Expr, roll-Expr}
use Rattle.sql_tree.specs.declared.expr.Factor.{Factor, fold-Factor, roll-Factor}
use Rattle.sql_tree.specs.declared.expr.Further.{Further, fold-Further, roll-Further}
use Rattle.sql_tree.specs.declared.expr.Multiplied.{Multiplied, fold-Multiplied, roll-Multiplied}
use Rattle.sql_tree.specs.declared.expr.Negation.{Negation, fold-Negation, roll-Negation}
use Rattle.sql_tree.specs.declared.expr.Predicate.{Predicate, fold-Predicate, roll-Predicate}
use Rattle.sql_tree.specs.declared.expr.Query.{Query, fold-Query, roll-Query}
use Rattle.sql_tree.specs.declared.expr.Select.{Select, fold-Select, roll-Select}
use Rattle.sql_tree.specs.declared.expr.Sum.{Sum, fold-Sum, roll-Sum}
use Rattle.sql_tree.specs.declared.expr.Term.{Term, fold-Term, roll-Term}
use Rattle.sql_tree.specs.declared.expr.Operand.TheVariants as operands
use Rattle.sql_tree.specs.declared.expr.Join.TheOpen.{Operand-F}

module _ (by : Reference) where
  abbrev pub operand_step : Operand-F Join Operand SelectItem SelectList Tail Added Arm Chain Conjunction Expr Factor Further Multiplied Negation Predicate Query Select Sum Term → Operand
  operand_step Operand-F.Value = operands.Reference by
  operand_step operand = roll-Operand operand

  -- each part of a tree with this reference in each place of VALUE
  abbrev pub replaced_join : Join → Join
  replaced_join = fold-Join Join Operand SelectItem SelectList Tail Added Arm Chain Conjunction Expr Factor Further Multiplied Negation Predicate Query Select Sum Term roll-Join operand_step roll-SelectItem roll-SelectList roll-Tail roll-Added roll-Arm roll-Chain roll-Conjunction roll-Expr roll-Factor roll-Further roll-Multiplied roll-Negation roll-Predicate roll-Query roll-Select roll-Sum roll-Term

  abbrev pub replaced_operand : Operand → Operand
  replaced_operand = fold-Operand Join Operand SelectItem SelectList Tail Added Arm Chain Conjunction Expr Factor Further Multiplied Negation Predicate Query Select Sum Term roll-Join operand_step roll-SelectItem roll-SelectList roll-Tail roll-Added roll-Arm roll-Chain roll-Conjunction roll-Expr roll-Factor roll-Further roll-Multiplied roll-Negation roll-Predicate roll-Query roll-Select roll-Sum roll-Term

  abbrev pub replaced_select_item : SelectItem → SelectItem
  replaced_select_item = fold-SelectItem Join Operand SelectItem SelectList Tail Added Arm Chain Conjunction Expr Factor Further Multiplied Negation Predicate Query Select Sum Term roll-Join operand_step roll-SelectItem roll-SelectList roll-Tail roll-Added roll-Arm roll-Chain roll-Conjunction roll-Expr roll-Factor roll-Further roll-Multiplied roll-Negation roll-Predicate roll-Query roll-Select roll-Sum roll-Term

  abbrev pub replaced_select_list : SelectList → SelectList
  replaced_select_list = fold-SelectList Join Operand SelectItem SelectList Tail Added Arm Chain Conjunction Expr Factor Further Multiplied Negation Predicate Query Select Sum Term roll-Join operand_step roll-SelectItem roll-SelectList roll-Tail roll-Added roll-Arm roll-Chain roll-Conjunction roll-Expr roll-Factor roll-Further roll-Multiplied roll-Negation roll-Predicate roll-Query roll-Select roll-Sum roll-Term

  abbrev pub replaced_tail : Tail → Tail
  replaced_tail = fold-Tail Join Operand SelectItem SelectList Tail Added Arm Chain Conjunction Expr Factor Further Multiplied Negation Predicate Query Select Sum Term roll-Join operand_step roll-SelectItem roll-SelectList roll-Tail roll-Added roll-Arm roll-Chain roll-Conjunction roll-Expr roll-Factor roll-Further roll-Multiplied roll-Negation roll-Predicate roll-Query roll-Select roll-Sum roll-Term

  abbrev pub replaced_added : Added → Added
  replaced_added = fold-Added Join Operand SelectItem SelectList Tail Added Arm Chain Conjunction Expr Factor Further Multiplied Negation Predicate Query Select Sum Term roll-Join operand_step roll-SelectItem roll-SelectList roll-Tail roll-Added roll-Arm roll-Chain roll-Conjunction roll-Expr roll-Factor roll-Further roll-Multiplied roll-Negation roll-Predicate roll-Query roll-Select roll-Sum roll-Term

  abbrev pub replaced_arm : Arm → Arm
  replaced_arm = fold-Arm Join Operand SelectItem SelectList Tail Added Arm Chain Conjunction Expr Factor Further Multiplied Negation Predicate Query Select Sum Term roll-Join operand_step roll-SelectItem roll-SelectList roll-Tail roll-Added roll-Arm roll-Chain roll-Conjunction roll-Expr roll-Factor roll-Further roll-Multiplied roll-Negation roll-Predicate roll-Query roll-Select roll-Sum roll-Term

  abbrev pub replaced_chain : Chain → Chain
  replaced_chain = fold-Chain Join Operand SelectItem SelectList Tail Added Arm Chain Conjunction Expr Factor Further Multiplied Negation Predicate Query Select Sum Term roll-Join operand_step roll-SelectItem roll-SelectList roll-Tail roll-Added roll-Arm roll-Chain roll-Conjunction roll-Expr roll-Factor roll-Further roll-Multiplied roll-Negation roll-Predicate roll-Query roll-Select roll-Sum roll-Term

  abbrev pub replaced_conjunction : Conjunction → Conjunction
  replaced_conjunction = fold-Conjunction Join Operand SelectItem SelectList Tail Added Arm Chain Conjunction Expr Factor Further Multiplied Negation Predicate Query Select Sum Term roll-Join operand_step roll-SelectItem roll-SelectList roll-Tail roll-Added roll-Arm roll-Chain roll-Conjunction roll-Expr roll-Factor roll-Further roll-Multiplied roll-Negation roll-Predicate roll-Query roll-Select roll-Sum roll-Term

  abbrev pub replaced_expr : Expr → Expr
  replaced_expr = fold-Expr Join Operand SelectItem SelectList Tail Added Arm Chain Conjunction Expr Factor Further Multiplied Negation Predicate Query Select Sum Term roll-Join operand_step roll-SelectItem roll-SelectList roll-Tail roll-Added roll-Arm roll-Chain roll-Conjunction roll-Expr roll-Factor roll-Further roll-Multiplied roll-Negation roll-Predicate roll-Query roll-Select roll-Sum roll-Term

  abbrev pub replaced_factor : Factor → Factor
  replaced_factor = fold-Factor Join Operand SelectItem SelectList Tail Added Arm Chain Conjunction Expr Factor Further Multiplied Negation Predicate Query Select Sum Term roll-Join operand_step roll-SelectItem roll-SelectList roll-Tail roll-Added roll-Arm roll-Chain roll-Conjunction roll-Expr roll-Factor roll-Further roll-Multiplied roll-Negation roll-Predicate roll-Query roll-Select roll-Sum roll-Term

  abbrev pub replaced_further : Further → Further
  replaced_further = fold-Further Join Operand SelectItem SelectList Tail Added Arm Chain Conjunction Expr Factor Further Multiplied Negation Predicate Query Select Sum Term roll-Join operand_step roll-SelectItem roll-SelectList roll-Tail roll-Added roll-Arm roll-Chain roll-Conjunction roll-Expr roll-Factor roll-Further roll-Multiplied roll-Negation roll-Predicate roll-Query roll-Select roll-Sum roll-Term

  abbrev pub replaced_multiplied : Multiplied → Multiplied
  replaced_multiplied = fold-Multiplied Join Operand SelectItem SelectList Tail Added Arm Chain Conjunction Expr Factor Further Multiplied Negation Predicate Query Select Sum Term roll-Join operand_step roll-SelectItem roll-SelectList roll-Tail roll-Added roll-Arm roll-Chain roll-Conjunction roll-Expr roll-Factor roll-Further roll-Multiplied roll-Negation roll-Predicate roll-Query roll-Select roll-Sum roll-Term

  abbrev pub replaced_negation : Negation → Negation
  replaced_negation = fold-Negation Join Operand SelectItem SelectList Tail Added Arm Chain Conjunction Expr Factor Further Multiplied Negation Predicate Query Select Sum Term roll-Join operand_step roll-SelectItem roll-SelectList roll-Tail roll-Added roll-Arm roll-Chain roll-Conjunction roll-Expr roll-Factor roll-Further roll-Multiplied roll-Negation roll-Predicate roll-Query roll-Select roll-Sum roll-Term

  abbrev pub replaced_predicate : Predicate → Predicate
  replaced_predicate = fold-Predicate Join Operand SelectItem SelectList Tail Added Arm Chain Conjunction Expr Factor Further Multiplied Negation Predicate Query Select Sum Term roll-Join operand_step roll-SelectItem roll-SelectList roll-Tail roll-Added roll-Arm roll-Chain roll-Conjunction roll-Expr roll-Factor roll-Further roll-Multiplied roll-Negation roll-Predicate roll-Query roll-Select roll-Sum roll-Term

  abbrev pub replaced_query : Query → Query
  replaced_query = fold-Query Join Operand SelectItem SelectList Tail Added Arm Chain Conjunction Expr Factor Further Multiplied Negation Predicate Query Select Sum Term roll-Join operand_step roll-SelectItem roll-SelectList roll-Tail roll-Added roll-Arm roll-Chain roll-Conjunction roll-Expr roll-Factor roll-Further roll-Multiplied roll-Negation roll-Predicate roll-Query roll-Select roll-Sum roll-Term

  abbrev pub replaced_select : Select → Select
  replaced_select = fold-Select Join Operand SelectItem SelectList Tail Added Arm Chain Conjunction Expr Factor Further Multiplied Negation Predicate Query Select Sum Term roll-Join operand_step roll-SelectItem roll-SelectList roll-Tail roll-Added roll-Arm roll-Chain roll-Conjunction roll-Expr roll-Factor roll-Further roll-Multiplied roll-Negation roll-Predicate roll-Query roll-Select roll-Sum roll-Term

  abbrev pub replaced_sum : Sum → Sum
  replaced_sum = fold-Sum Join Operand SelectItem SelectList Tail Added Arm Chain Conjunction Expr Factor Further Multiplied Negation Predicate Query Select Sum Term roll-Join operand_step roll-SelectItem roll-SelectList roll-Tail roll-Added roll-Arm roll-Chain roll-Conjunction roll-Expr roll-Factor roll-Further roll-Multiplied roll-Negation roll-Predicate roll-Query roll-Select roll-Sum roll-Term

  abbrev pub replaced_term : Term → Term
  replaced_term = fold-Term Join Operand SelectItem SelectList Tail Added Arm Chain Conjunction Expr Factor Further Multiplied Negation Predicate Query Select Sum Term roll-Join operand_step roll-SelectItem roll-SelectList roll-Tail roll-Added roll-Arm roll-Chain roll-Conjunction roll-Expr roll-Factor roll-Further roll-Multiplied roll-Negation roll-Predicate roll-Query roll-Select roll-Sum roll-Term

-- the condition of a domain as one of this column of a table
abbrev pub with_column : Object → NameBytes → Expr → Expr
with_column table column expr = replaced_expr (references.Own table column) expr
