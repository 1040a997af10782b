use Rattle.std.proofs.Common.{sym, ◌∙◌}
use Rattle.catalogue_changes.proofs.Keys.{less_when, not_both, not_before_itself}
use Rattle.catalogue_changes.proofs.effects.least.Goals as goal

pub returns-then-is_lt-clause-first : goal.returns-then-is_lt-clause-first
returns-then-is_lt-clause-first c =
    let less = less_when c.compare_items.result (sym c.is_lt.ensures ∙ c.if-is_lt.true) in
    λ e. not_both c.args.a.now c.args.b.now e (sym c.compare_items.ensures ∙ less)

pub returns-then-is_lt-clause-second : goal.returns-then-is_lt-clause-second
returns-then-is_lt-clause-second c = not_before_itself c.args.b.now

pub returns-else-is_lt-clause-first : goal.returns-else-is_lt-clause-first
returns-else-is_lt-clause-first c = not_before_itself c.args.a.now
