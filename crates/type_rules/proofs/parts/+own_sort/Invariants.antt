use Rattle.std.proofs.Common.{length}
use Rattle.type_rules.proofs.parts.+own_sort.Given as goal

abbrev pub decreases-own_sort : goal.decreases-own_sort
decreases-own_sort l = length l.names.now
