use Rattle.table_changes.proofs.columns.DroppedColumn.is_in_check.Goals as goal

pub returns-then-same : goal.returns-then-same
returns-then-same c = (λ e. (c.same.ensures.0 c.if-same.true, c.is_named_alone.ensures.0 e), λ p. c.is_named_alone.ensures.1 p.1)
