use Rattle.std.proofs.Common.{◌∙◌, sym}
use Rattle.std.proofs.lemmas.List.{take_rest}
use Rattle.sql_words.proofs.Gaps.{gap-simple, gap-bracketed, gap-minus, gap-solidus, gap-space, gap-none}
use Rattle.sql_words.proofs.tokens.gap.Goals as goal

pub returns-then-is_space-clause-count : goal.returns-then-is_space-clause-count
returns-then-is_space-clause-count c = sym (gap-space _ c.requires (sym c.is_space.ensures ∙ c.if-is_space.true))

pub returns-then-next-eq45-clause-count : goal.returns-then-next-eq45-clause-count
returns-then-next-eq45-clause-count c = (rw take_rest at c.simple_comment_len.ensures.value) ∙ sym (gap-simple _ c.if-first-eq45.true (sym c.byte_at-next.ensures.value ∙ c.if-next-eq45.true))

pub returns-else-next-eq45-clause-count : goal.returns-else-next-eq45-clause-count
returns-else-next-eq45-clause-count c = sym (gap-minus _ c.if-first-eq45.true (λ e. c.if-next-eq45.false (c.byte_at-next.ensures.value ∙ e)))

pub returns-then-next-eq42-clause-count : goal.returns-then-next-eq42-clause-count
returns-then-next-eq42-clause-count c = (rw take_rest at c.bracketed_comment_len.ensures.value) ∙ sym (gap-bracketed _ c.if-first-eq47.true (sym c.byte_at-next.ensures.value ∙ c.if-next-eq42.true))

pub returns-else-next-eq42-clause-count : goal.returns-else-next-eq42-clause-count
returns-else-next-eq42-clause-count c = sym (gap-solidus _ c.if-first-eq47.true (λ e. c.if-next-eq42.false (c.byte_at-next.ensures.value ∙ e)))

pub returns-else-first-eq47-clause-count : goal.returns-else-first-eq47-clause-count
returns-else-first-eq47-clause-count c = sym (gap-none _ c.requires (sym c.is_space.ensures ∙ c.if-is_space.false) c.if-first-eq45.false c.if-first-eq47.false)
