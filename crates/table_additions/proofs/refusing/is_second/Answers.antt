use Rattle.table_additions.proofs.refusing.is_second.Goals as goal

pub returns-then-has_primary : goal.returns-then-has_primary
returns-then-has_primary c = (λ e. (c.has_primary.ensures.0 c.if-has_primary.true, c.has_primary-then-has_primary.ensures.0 e), λ p. c.has_primary-then-has_primary.ensures.1 p.1)
