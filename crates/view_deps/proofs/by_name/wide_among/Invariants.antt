use Rattle.std.proofs.Common.{All}
use Rattle.view_deps.specs.ByName as spec
use Rattle.view_deps.proofs.by_name.wide_among.Given as goal

abbrev pub invariant-loop-table : goal.invariant-loop-table
invariant-loop-table l = All (spec.IsWide l.c.items) l.all
