-- Conditions of constraints and domains.
use Rattle.std.specs.Prelude.{ℕ, Bool, true, List, Option}
use Rattle.sql_names.specs.NameBytes.{NameBytes}
use Rattle.sql_tree.specs.declared.expr.Expr.{Expr}
use Rattle.sql_tree.specs.declared.table.DomainCheck.{DomainCheck}
use Rattle.sql_spelling.specs.declared.kind.Kind.TheVariants as k
use Rattle.sql_words.specs.declared.word.Word.{Word}
use Rattle.sql_phrases.specs.Shapes.{Token, Optional}
use Rattle.sql_phrases.specs.NameRules.{SpellsIdentifier}
use Rattle.sql_expressions.specs.ExpressionRules.{SpellsExprWithin}

-- CHECK '(' expr ')', with VALUE where it may stand, and at most m brackets open at one word
pub data SpellsCheck (value : Bool) (m : ℕ) : Expr → List Word → List Word → Type 0 where
  check : {e : Expr} {ws a b c rest : List Word} → Token k.Check ws a → Token k.LeftParen a b → SpellsExprWithin value m e b c → Token k.RightParen c rest → SpellsCheck value m e ws rest

-- dcheck := [CONSTRAINT name] CHECK '(' expr ')', with at most m brackets open
pub data SpellsDomainCheck (m : ℕ) : DomainCheck → List Word → List Word → Type 0 where
  domain_check : {n : Option NameBytes} {e : Expr} {ws a rest : List Word} → Optional k.Constraint SpellsIdentifier n ws a → SpellsCheck true m e a rest
      → SpellsDomainCheck m (record { name = n; condition = e }) ws rest
