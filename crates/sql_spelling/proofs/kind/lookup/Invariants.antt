use Rattle.std.proofs.Common.{◌≡◌, length, map}
use Rattle.sql_spelling.specs.Kinds.{lookup}
use Rattle.sql_spelling.proofs.kind.lookup.Given as goal

abbrev pub invariant-loop-table : goal.invariant-loop-table
invariant-loop-table l = lookup (map (λ entry. (entry.0.now, entry.1)) l.table) l.text ≡ lookup (map (λ entry. (entry.0.now, entry.1)) l.initial.table) l.text

abbrev pub decreases-loop-table : goal.decreases-loop-table
decreases-loop-table l = length l.table
