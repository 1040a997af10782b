use Rattle.std.proofs.Common.{◌≡◌, ◌∙◌, arith}
use Rattle.sql_phrases.specs.declared.error.GrammarError.TheVariants.{Syntax}
use Rattle.sql_grammar.proofs.StatementProofs.{found, only, never_read, at_end, not_at_end}
use Rattle.sql_grammar.proofs.statements.statement.Goals as goal

pub returns-in-Err-clause-syntax : goal.returns-in-Err-clause-syntax
returns-in-Err-clause-syntax c is x g = let same : c.in-Err.error ≡ Syntax = cc in never_read c.read.new.words c.in-Err.error (c.new-left.ensures ∙ c.as_slice.ensures.value) c.in-Err.ensures same x g

pub returns-then-len-ne0-clause-syntax : goal.returns-then-len-ne0-clause-syntax
returns-then-len-ne0-clause-syntax c is x g = not_at_end (c.new-left.ensures ∙ c.as_slice.ensures.value) c.in-Ok.ensures (λ z. absurd (omega (arith, c.len.ensures, z))) x g

pub returns-clause-found : goal.returns-clause-found
returns-clause-found c = found _ _ (at_end (c.new-left.ensures ∙ c.as_slice.ensures.value) c.in-Ok.ensures (omega (arith, c.len.ensures)))

pub returns-clause-only : goal.returns-clause-only
returns-clause-only c other g = only _ other _ g (found _ _ (at_end (c.new-left.ensures ∙ c.as_slice.ensures.value) c.in-Ok.ensures (omega (arith, c.len.ensures))))
