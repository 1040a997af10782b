-- A function value that reads the expressions in brackets.
use Rattle.std.specs.Prelude.{ℕ, Bool, List, Result}
use Rattle.std.specs.declared.alloc.Global.{Global}
use denote.Ref.{MutBor}
use Rattle.sql_words.specs.declared.word.Word.{Word}
use Rattle.sql_tree.specs.declared.expr.Expr.{Expr}
use Rattle.sql_phrases.specs.declared.error.GrammarError.{GrammarError}
use Rattle.sql_phrases.specs.Parsers.{Reads}
use Rattle.sql_expressions.specs.ExpressionParsers.{expr_within}

pub record Nests (value : Bool) (depth : ℕ) (pre : Global → MutBor (List Word) → ℕ → Bool → Type 0)
    (post : Global → MutBor (List Word) → ℕ → Bool → Result Expr GrammarError → MutBor (List Word) → Type 0) : Type 0 where
  pub callable : (alloc : Global) (old : MutBor (List Word)) → pre alloc old depth value
  pub reads : (alloc : Global) (old new : MutBor (List Word)) (r : Result Expr GrammarError) → post alloc old depth value r new
      → Reads (expr_within value depth old.now) r new.now
