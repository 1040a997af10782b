-- A tree that is a struct is given by its parts.
use Rattle.std.proofs.Common.{◌≡◌, ◌∙◌, sym, ap}
use Rattle.sql_tree.specs.declared.expr.Conjunction.{Conjunction}
use Rattle.sql_tree.specs.declared.expr.Expr.{Expr}
use Rattle.sql_tree.specs.declared.expr.Query.{Query}
use Rattle.sql_tree.specs.declared.expr.Select.{Select}
use Rattle.sql_tree.specs.declared.expr.Sum.{Sum}
use Rattle.sql_tree.specs.declared.expr.Term.{Term}
use Rattle.sql_tree.specs.declared.expr.Join.TheViews.{out-Expr, roll-Expr, roll-out-Expr, out-Conjunction, roll-Conjunction, roll-out-Conjunction, out-Query, roll-Query, roll-out-Query, out-Select, roll-Select, roll-out-Select, out-Sum, roll-Sum, roll-out-Sum, out-Term, roll-Term, roll-out-Term}

pub expr_parts : (a b : Expr) → (out-Expr a).any ≡ (out-Expr b).any → a ≡ b
expr_parts a b e = sym (roll-out-Expr a) ∙ ap roll-Expr (λ i. record { any = e i }) ∙ roll-out-Expr b

pub conjunction_parts : (a b : Conjunction) → (out-Conjunction a).every ≡ (out-Conjunction b).every → a ≡ b
conjunction_parts a b e = sym (roll-out-Conjunction a) ∙ ap roll-Conjunction (λ i. record { every = e i }) ∙ roll-out-Conjunction b

pub query_parts : (a b : Query) → (out-Query a).first ≡ (out-Query b).first → (out-Query a).others ≡ (out-Query b).others → a ≡ b
query_parts a b e f = sym (roll-out-Query a) ∙ ap roll-Query (λ i. record { first = e i; others = f i }) ∙ roll-out-Query b

pub sum_parts : (a b : Sum) → (out-Sum a).first ≡ (out-Sum b).first → (out-Sum a).others ≡ (out-Sum b).others → a ≡ b
sum_parts a b e f = sym (roll-out-Sum a) ∙ ap roll-Sum (λ i. record { first = e i; others = f i }) ∙ roll-out-Sum b

pub term_parts : (a b : Term) → (out-Term a).first ≡ (out-Term b).first → (out-Term a).others ≡ (out-Term b).others → a ≡ b
term_parts a b e f = sym (roll-out-Term a) ∙ ap roll-Term (λ i. record { first = e i; others = f i }) ∙ roll-out-Term b

pub select_parts : (a b : Select) → (out-Select a).distinct ≡ (out-Select b).distinct → (out-Select a).list ≡ (out-Select b).list → (out-Select a).from ≡ (out-Select b).from → (out-Select a).filter ≡ (out-Select b).filter → (out-Select a).group_by ≡ (out-Select b).group_by → a ≡ b
select_parts a b d l f w g = sym (roll-out-Select a) ∙ ap roll-Select (λ i. record { distinct = d i; list = l i; from = f i; filter = w i; group_by = g i }) ∙ roll-out-Select b
