use Rattle.table_changes.proofs.columns.DroppedColumn.is_named_alone.Goals as goal

pub returns-then-is_referred : goal.returns-then-is_referred
returns-then-is_referred c = (λ e. (c.is_referred.ensures.0 c.if-is_referred.true, c.is_alone.ensures.0 e), λ p. c.is_alone.ensures.1 p.1)
