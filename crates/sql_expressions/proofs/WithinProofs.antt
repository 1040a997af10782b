-- Expressions and queries within a number of open brackets: what is read is spelled so, and what is spelled so is read.
use Rattle.std.proofs.Common.{◌≡◌, ℕ, zero, suc, ◌<◌, Bool, true, List, [], None, refl, sym, ◌∙◌}
use Rattle.std.proofs.lemmas.Option.{some_pair_parts}
use Rattle.sql_tree.specs.declared.expr.Expr.{Expr}
use Rattle.sql_tree.specs.declared.expr.Query.{Query}
use Rattle.sql_words.specs.declared.word.Word.{Word}
use Rattle.sql_spelling.specs.declared.kind.Kind.TheVariants as k
use Rattle.sql_phrases.specs.Reading.{peek}
use Rattle.sql_phrases.specs.Shapes.{Spelled}
use Rattle.sql_phrases.specs.Parsers.{Parser}
use Rattle.sql_expressions.specs.QueryParsers.{sees_qualified_star}
use Rattle.sql_expressions.specs.ExpressionRules.{SpellsExprWithin, SpellsQueryWithin}
use Rattle.sql_expressions.specs.ExpressionParsers.{expr_within, query_within}
use Rattle.sql_expressions.specs.Laws.{ReadsOnlySpelled, ReadsAllSpelled, IsUnambiguous}
use Rattle.sql_phrases.proofs.Lists.{gives_none, Parses}
use Rattle.sql_expressions.proofs.Binding.{binds, opens}
use Rattle.sql_expressions.proofs.QueryProofs.{query_parses, query_begins}
use Rattle.sql_expressions.proofs.ExpressionProofs.{expr_parses, expr_begins, expr_none}

-- what the rules ask of the parser of expressions in brackets
record Reading (whole : Parser Expr) (Whole : Spelled Expr) : Type 0 where
  parses : Parses binds whole Whole 7
  begun : (e : Expr) (ws rest : List Word) → Whole e ws rest → 0 < opens (peek ws)
  never_star : (ws : List Word) → sees_qualified_star ws ≡ true → whole ws ≡ None

reading : (value : Bool) (n : ℕ) → Reading (expr_within value n) (SpellsExprWithin value n)
unfolding expr_within SpellsExprWithin
reading value zero = record {
  parses = record { sound = λ ws. gives_none; complete = λ e ws rest r s. absurd r; shorter = λ e ws rest r. absurd r };
  begun = λ e ws rest r. absurd r;
  never_star = λ ws h. refl;
}
reading value (suc n) =
    let r = reading value n in
    record {
      parses = expr_parses (expr_within value n) (SpellsExprWithin value n) r.parses r.begun r.never_star value n;
      begun = expr_begins (expr_within value n) (SpellsExprWithin value n) r.parses r.begun r.never_star value n;
      never_star = expr_none (expr_within value n) (SpellsExprWithin value n) r.parses r.begun r.never_star value n;
    }

-- an expression ends before a word that doesn't go on as tightly as OR
pub expr_within_parses : (value : Bool) (n : ℕ) → Parses binds (expr_within value n) (SpellsExprWithin value n) 7
expr_within_parses value n = (reading value n).parses

pub expr_within_begins : (value : Bool) (n : ℕ) (e : Expr) (ws rest : List Word) → SpellsExprWithin value n e ws rest → 0 < opens (peek ws)
expr_within_begins value n = (reading value n).begun

-- a query ends before a word that doesn't go on as tightly as UNION
pub query_within_parses : (value : Bool) (n : ℕ) → Parses binds (query_within value n) (SpellsQueryWithin value n) 1
unfolding query_within SpellsQueryWithin
query_within_parses value zero = record { sound = λ ws. gives_none; complete = λ q ws rest r s. absurd r; shorter = λ q ws rest r. absurd r }
query_within_parses value (suc n) = let r = reading value (suc n) in query_parses (expr_within value (suc n)) (SpellsExprWithin value (suc n)) r.parses r.begun r.never_star

pub query_within_begins : (value : Bool) (n : ℕ) (q : Query) (ws rest : List Word) → SpellsQueryWithin value n q ws rest → peek ws ≡ k.Select
unfolding SpellsQueryWithin
query_within_begins value zero q ws rest r = absurd r
query_within_begins value (suc n) q ws rest r =
    let o = reading value (suc n) in query_begins (expr_within value (suc n)) (SpellsExprWithin value (suc n)) o.parses o.begun o.never_star r

-- ---- what is read to the end of the words

module _ {A : Type 0} {p : Parser A} {R : Spelled A} {b : ℕ} (c : Parses binds p R b) (some : 0 < b) where
  pub only_spelled : ReadsOnlySpelled p R
  only_spelled ws rest x h = (c.sound ws).given x rest h

  pub all_spelled : ReadsAllSpelled p R
  all_spelled ws x r = c.complete x ws [] r (record { below = some })

  pub unambiguous : IsUnambiguous R
  unambiguous ws x y r s = (some_pair_parts x y [] [] (sym (all_spelled ws x r) ∙ all_spelled ws y s)).0
